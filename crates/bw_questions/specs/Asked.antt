-- The questions of files, one after another: what each holds, and whether the check accepts it; and the work that is left.
use Rattle.std.specs.Prelude.{◌≡◌, ◌≢◌, ◌≤◌, ℕ, Bool, true, false, List, [], ◌++◌, length, Option, None, Some, Ok, Err, codes, IsUtf8}
use Rattle.std.specs.Str.Lines.{lines}
use Rattle.bw_check.specs.Accepts.{Accepts, IsCheckFault}
use Rattle.bw_check.specs.declared.fault.CheckFault.{CheckFault}
use Rattle.bw_check.specs.declared.fault.CheckFault.TheVariants as checks
use Rattle.bw_format.specs.FormatFile.{Gives}
use Rattle.bw_format.specs.declared.file.FormatFault.{FormatFault}
use Rattle.bw_format.specs.declared.file.FormatFault.TheVariants as faults
use Rattle.bw_format.specs.declared.format.Format.{Format}
use Rattle.bw_lang.specs.Document.Forest.{Forest}
use Rattle.bw_lang.specs.Service.Reads.{Reads}
use Rattle.bw_lang.specs.declared.declaration.Draft.{Draft}
use Rattle.bw_lang.specs.declared.service.Service.{Service}
use Rattle.bw_lights.specs.Lights.{AreLights}
use Rattle.bw_make.specs.Made.{made}
use Rattle.bw_model.specs.Sessions.{World}
use Rattle.bw_out.specs.Told.{Disk}
use Rattle.bw_read.specs.Pages.{IsPage}
use Rattle.bw_schema.specs.Reads.{IsSchemaRefused}
use Rattle.bw_schema.specs.Reads.{Reads as ReadsSchema}
use Rattle.bw_schema.specs.Validity.{Valid as IsValid}
use Rattle.bw_schema.specs.declared.default_schema.TheConstants.{BUILT_IN}
use Rattle.bw_schema.specs.declared.fault.SchemaFault.{SchemaFault}
use Rattle.bw_schema.specs.declared.fault.SchemaFault.TheVariants as schemas
use Rattle.bw_schema.specs.declared.schema.Schema.{Schema}
use Rattle.bw_syntax.specs.Refusals.{IsServiceRefused}
use Rattle.bw_syntax.specs.declared.fault.SyntaxFault.{SyntaxFault}
use Rattle.bw_syntax.specs.declared.fault.SyntaxFault.TheVariants as reading
use Rattle.bw_types.specs.Faults.{IsWellTyped, first_fault}
use Rattle.bw_types.specs.declared.fault.TypeFault.{TypeFault}
use Rattle.bw_valid.specs.Breaches.{breach}
use Rattle.bw_valid.specs.declared.breach.Breach.{Breach}
use Rattle.bw_questions.specs.Behind.{Shown, shown_file, AreShown, behind_syntax, behind_type, blamed_in, behind_fault}
use Rattle.bw_command.specs.Commands.{command_of}
use Rattle.bw_questions.specs.Explaining.{IsExplanation}
use Rattle.bw_questions.specs.FaultLines.{check_text, page_names}
use Rattle.bw_questions.specs.Lines.{syntax_line, type_line, no_file_line, no_page_line, breach_line, schema_line, format_line, no_texts_line}
use Rattle.bw_questions.specs.Making.{made_text}
use Rattle.bw_questions.specs.Questions.{Question, ◌>>=◌, found, line}
use Rattle.bw_command.specs.declared.command.Command.{Command}
use Rattle.bw_command.specs.declared.command.Judging.{Judging}
use Rattle.bw_questions.specs.declared.lighting.TheConstants.{MAX_TEXTS_BYTES}
use Rattle.bw_command.specs.declared.status.Status.TheVariants.{Usage, NoFile, ServiceRefused, SchemaRefused, PageRefused, FormatsRefused}

-- what is printed where the words are refused
abbrev pub usage_line : List ℕ
usage_line = line (codes "usage: bigwig check SERVICE | replay SERVICE REQUESTS | serve SERVICE | valid PAGE | make N | light FORMATS TEXTS | freeze SERVICE REQUESTS | visit SERVICE SCRIPT")

-- which command do the words give?
abbrev pub command : List (List ℕ) → Question Command
command words = record {
  gives = λ c. command_of words ≡ Some c;
  says = λ said. (command_of words ≡ None) × (said ≡ record { status = Usage; text = usage_line });
}

-- is there a file of this name, and which are its bytes?
abbrev pub file : Disk → List ℕ → Question (List ℕ)
file disk name = record {
  gives = λ content. disk name ≡ Some content;
  says = λ said. (disk name ≡ None) × (said ≡ record { status = NoFile; text = line (no_file_line name) });
}

-- which service does the content read as? Where it is refused, it is shown so.
abbrev pub read : Option Shown → List ℕ → Question Service
read how content = record {
  gives = λ tree. Reads content tree;
  says = λ said. (fault : SyntaxFault) × IsServiceRefused content fault × (fault ≢ reading.Memory)
      × (said ≡ record { status = ServiceRefused; text = line (syntax_line fault) ++ behind_syntax how fault });
}

-- is it well typed?
abbrev pub typed : Option Shown → Service → Question Service
typed how tree = record {
  gives = λ same. (same ≡ tree) × IsWellTyped tree;
  says = λ said. (fault : TypeFault) × (first_fault tree ≡ Some fault) × (drafts : List Draft) × AreShown how drafts
      × (said ≡ record { status = ServiceRefused; text = line (type_line fault) ++ behind_type how drafts (blamed_in tree) fault });
}

-- the service of a text
abbrev pub service_text : Option Shown → List ℕ → Question Service
service_text how content = read how content >>= typed how

-- the service of a file
abbrev pub service_file : Option Shown → Disk → List ℕ → Question Service
service_file how disk name = file disk name >>= read how >>= typed how

-- which schema does the content read as?
abbrev pub rules : List ℕ → Question Schema
rules content = record {
  gives = λ schema. ReadsSchema content schema.root schema.elements;
  says = λ said. (fault : SchemaFault) × IsSchemaRefused content fault × (fault ≢ schemas.Memory)
      × (said ≡ record { status = SchemaRefused; text = line (schema_line fault) });
}

-- the schema of the built-in text
abbrev pub built_in : Question Schema
built_in = rules BUILT_IN.now

-- the schema of a file, or the built-in one where none is named
abbrev pub schema : Disk → Option (List ℕ) → Question Schema
schema disk None = built_in
schema disk (Some name) = file disk name >>= rules

-- which formats does the content read as?
abbrev pub formats_in : List ℕ → Question (List Format)
formats_in content = record {
  gives = λ formats. Gives content (Ok formats);
  says = λ said. (fault : FormatFault) × Gives content (Err fault) × (fault ≢ faults.Memory)
      × (said ≡ record { status = FormatsRefused; text = line (format_line fault) });
}

-- the formats of a file
abbrev pub formats_file : Disk → List ℕ → Question (List Format)
formats_file disk name = file disk name >>= formats_in

-- the same, or none where no file is named
abbrev pub formats : Disk → Option (List ℕ) → Question (List Format)
formats disk None = found []
formats disk (Some name) = formats_file disk name

-- a service, a schema by which it is accepted, and the formats of its fields
pub record Ruled : Type 0 where
  pub service : Service
  pub schema : Schema
  pub formats : List Format

-- does the check accept the service by the schema?
abbrev pub checked : Option Shown → Service → Schema → List Format → Question Ruled
checked how tree by formats = record {
  gives = λ ruled. (ruled ≡ record { service = tree; schema = by; formats = formats }) × Accepts tree by;
  says = λ said. (fault : CheckFault) × IsCheckFault tree by fault × (fault ≢ checks.Memory) × (drafts : List Draft) × AreShown how drafts
      × (said ≡ record { status = ServiceRefused; text = check_text how (behind_fault how drafts) (page_names tree) fault });
}

-- the formats that are named, and then the check
abbrev pub checked_with : Option Shown → Disk → Option (List ℕ) → Service → Schema → Question Ruled
checked_with how disk form tree by = formats disk form >>= checked how tree by

-- the schema that is named, the formats, and then the check
abbrev pub checked_by : Option Shown → Disk → Option (List ℕ) → Option (List ℕ) → Service → Question Ruled
checked_by how disk named form tree = schema disk named >>= checked_with how disk form tree

-- the service of a file, where it is accepted: the file is read before the schema. It is shown where that is asked for.
abbrev pub accepted_file : Disk → List ℕ → Judging → Option (List ℕ) → Question Ruled
accepted_file disk name judging form =
    service_file (shown_file judging.source disk name) disk name
    >>= checked_by (shown_file judging.source disk name) disk judging.schema form

-- What is done with a journal: at most so many links are served at a port beside it, where it may be begun anew if it has more bytes
-- than these; or at most so many requests of a stream are answered beside it; or what waits in the world that it brings about is saved.
pub data Task : Type 0 where
  to_serve : (port most : ℕ) (rotate : Option ℕ) → Task
  to_answer : (stream : List ℕ) (most : ℕ) → Task
  to_save : Task

-- a script: the name of the session that is visited, and the lines of answers
pub record Script : Type 0 where
  pub name : List ℕ
  pub lines : List ℕ

-- What is left to do where every question went well: to print; to answer a stream of at most so many requests, from a world on;
-- to serve at most so many links at a port; to do a task with a journal that has this content, of the service with this
-- text; to save what waits behind a stream of at most so many requests; or to visit by a script.
pub data Work : Type 0 where
  prints : List ℕ → Work
  replays : Ruled → World → List ℕ → ℕ → Work
  serves : Ruled → World → ℕ → ℕ → Work
  keeps : Ruled → (text content : List ℕ) → Task → Work
  freezes : Ruled → World → (text stream : List ℕ) → ℕ → Work
  visits : Ruled → Script → Work

-- a service that is accepted, and no more is asked for
abbrev pub accepted : Ruled → Question Work
accepted ruled = found (prints (line (codes "accepted")))

-- does the check accept the service by the schema? Where it doesn't, what explains that is said behind its lines.
abbrev pub examined : Option Shown → Service → Schema → Question Work
examined how tree by = record {
  gives = λ work. Accepts tree by × (work ≡ prints (line (codes "accepted")));
  says = λ said. (fault : CheckFault) × IsCheckFault tree by fault × (fault ≢ checks.Memory) × (drafts : List Draft) × AreShown how drafts
      × (more : List ℕ) × IsExplanation tree by fault more
      × (said ≡ record { status = ServiceRefused; text = check_text how (behind_fault how drafts) (page_names tree) fault ++ more });
}

-- the schema that is named, and then that check
abbrev pub examined_by : Option Shown → Disk → Option (List ℕ) → Service → Question Work
examined_by how disk named tree = schema disk named >>= examined how tree

-- the same of the service of a file, which is read before the schema
abbrev pub examined_file : Disk → List ℕ → Judging → Question Work
examined_file disk name judging =
    service_file (shown_file judging.source disk name) disk name
    >>= examined_by (shown_file judging.source disk name) disk judging.schema

-- the service of a file, where it is accepted, and no more is asked for; or, with true, what explains why it isn't
abbrev pub check_work : Disk → List ℕ → Judging → Bool → Question Work
check_work disk name judging false = accepted_file disk name judging None >>= accepted
check_work disk name judging true = examined_file disk name judging

-- the service of a text, without formats, where it is accepted by the built-in schema
abbrev pub accepted_text : List ℕ → Question Ruled
accepted_text text = service_text None text >>= (λ tree. built_in >>= (λ by. checked None tree by []))

-- its turns, and what is printed of them
abbrev pub turned : ℕ → Ruled → Question Work
turned count ruled = found (prints (made_text count ruled.service))

-- the made service of so many pages, where it is accepted, and its turns
abbrev pub made_work : ℕ → Question Work
made_work count = accepted_text (made count) >>= turned count

-- which page is the content?
abbrev pub page : List ℕ → Question Forest
page content = record {
  gives = λ tree. IsPage content tree;
  says = λ said. ((tree : Forest) → IsPage content tree → ⊥) × (said ≡ record { status = PageRefused; text = line no_page_line });
}

-- the page of a file
abbrev pub page_file : Disk → List ℕ → Question Forest
page_file disk name = file disk name >>= page

-- is the page valid by the schema?
abbrev pub judged : Forest → Schema → Question Work
judged tree schema = record {
  gives = λ work. IsValid schema tree × (work ≡ prints (line (codes "valid")));
  says = λ said. (first : Breach) × (breach schema tree ≡ Some first) × (said ≡ record { status = PageRefused; text = line (breach_line first) });
}

-- the schema, and then validity
abbrev pub ruled : Disk → Option (List ℕ) → Forest → Question Work
ruled disk named tree = schema disk named >>= judged tree

-- the page of a file, and then the schema and validity
abbrev pub valid_work : Disk → List ℕ → Option (List ℕ) → Question Work
valid_work disk name named = page_file disk name >>= ruled disk named

-- the content is texts: UTF-8, and not too long
pub record AreTexts (content : List ℕ) : Type 0 where
  pub utf8 : IsUtf8 content
  pub short : length content ≤ MAX_TEXTS_BYTES

-- which lights have the lines of the content?
abbrev pub lit : List Format → List ℕ → Question Work
lit formats content = record {
  gives = λ work. (printed : List ℕ) × AreTexts content × AreLights formats (lines content) printed × (work ≡ prints printed);
  says = λ said. (AreTexts content → ⊥) × (said ≡ record { status = FormatsRefused; text = line no_texts_line });
}

-- the lights of a file
abbrev pub lit_file : Disk → List ℕ → List Format → Question Work
lit_file disk name formats = file disk name >>= lit formats

-- the formats, and then the texts
abbrev pub lights : Disk → List ℕ → List ℕ → Question Work
lights disk form texts = formats_file disk form >>= lit_file disk texts
