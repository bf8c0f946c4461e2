-- What is shown behind the line of a refusal, where the text of the service is shown.
use Rattle.std.specs.Prelude.{◌≡◌, ⊤, ℕ, ◌+◌, Bool, true, false, List, [], take, Option, None, Some, IfSome, is_some, option_map}
use Rattle.bw_blame.specs.Blames.{first_blamed}
use Rattle.bw_blame.specs.declared.site.Blamed.{Blamed}
use Rattle.bw_diagnose.specs.Aims.{IsAim}
use Rattle.bw_diagnose.specs.Blocks.{syntax_block, type_block, aimed_block, fault_block, marked_block, points_block, facts_block}
use Rattle.bw_diagnose.specs.Known.{AreDrafts}
use Rattle.bw_diagnose.specs.declared.aim.Aim.{Aim}
use Rattle.bw_excerpt.specs.declared.excerpt.Paper.{Paper}
use Rattle.bw_faults.specs.declared.fault.Fault.{Fault}
use Rattle.bw_lang.specs.Service.Order.{declarations_of}
use Rattle.bw_lang.specs.declared.declaration.Draft.{Draft}
use Rattle.bw_lang.specs.declared.limits.TheConstants.{MAX_FILE_BYTES}
use Rattle.bw_lang.specs.declared.service.Service.{Service}
use Rattle.bw_out.specs.Told.{Disk}
use Rattle.bw_syntax.specs.Told.{IsTold}
use Rattle.bw_syntax.specs.declared.fault.SyntaxFault.{SyntaxFault}
use Rattle.bw_syntax.specs.declared.told.Told.{Told}
use Rattle.bw_types.specs.declared.fault.TypeFault.{TypeFault}
use Rattle.bw_questions.specs.declared.seen.Aimed.{Aimed}
use Rattle.bw_questions.specs.declared.seen.Seen.{Seen}
use Rattle.bw_questions.specs.declared.seen.Sight.{Sight}

-- a file whose text is shown: its name, and what it has
pub record Shown : Type 0 where
  pub name : List ℕ
  pub text : List ℕ

-- what a file has, where there is one
abbrev pub content_of : Option (List ℕ) → List ℕ
content_of None = []
content_of (Some content) = content

-- the file is shown where that is asked for
abbrev pub shown_if : Bool → List ℕ → List ℕ → Option Shown
shown_if true name text = Some (record { name = name; text = text })
shown_if false name text = None

abbrev pub shown_file : Bool → Disk → List ℕ → Option Shown
shown_file source disk name = shown_if source name (content_of (disk name))

-- as the code holds it
abbrev pub shown_paper : Paper → Shown
shown_paper p = record { name = p.name.now; text = p.text.now }

abbrev pub shown_of : Option Seen → Option Shown
shown_of = option_map (λ s. record { name = s.name.now; text = s.told.text.now })

abbrev pub shown_in : Option Sight → Option Shown
shown_in = option_map (λ s. record { name = s.seen.name.now; text = s.seen.told.text.now })

abbrev pub shown_by : Option Aimed → Option Shown
shown_by = option_map (λ a. record { name = a.seen.name.now; text = a.seen.told.text.now })

-- its tokens are kept where it is shown
abbrev pub told_if : Bool → Told → Option Told
told_if true told = Some told
told_if false told = None

pub record AreKept (source : Bool) (text : List ℕ) (told : Option Told) : Type 0 where
  pub asked : is_some told ≡ source
  pub told_of : IfSome told (IsTold text)

-- where the text is shown, it is written for these declarations
abbrev pub AreShown : Option Shown → List Draft → Type 0
AreShown None drafts = ⊤
AreShown (Some shown) drafts = AreDrafts shown.text drafts

-- behind the line of a text that is read as no service: of its front, which tells what all of it is
abbrev pub behind_syntax : Option Shown → SyntaxFault → List ℕ
behind_syntax None fault = []
behind_syntax (Some shown) fault = syntax_block shown.name (take (MAX_FILE_BYTES + 1) shown.text) fault

-- what the first test of a service that fails is about
abbrev pub blamed_in : Service → Option Blamed
blamed_in tree = first_blamed tree [] 0 (declarations_of tree)

-- behind that of a service that isn't well typed, whose first test that fails is about this
abbrev pub behind_type : Option Shown → List Draft → Option Blamed → TypeFault → List ℕ
behind_type None drafts blamed fault = []
behind_type (Some shown) drafts blamed fault = type_block shown.name shown.text drafts blamed fault

-- the same, where this is known of that test
abbrev pub behind_aim : Option Aimed → TypeFault → List ℕ
behind_aim None fault = []
behind_aim (Some a) fault = aimed_block a.seen.name.now a.seen.told.text.now a.aim fault

-- the text is written for some declarations, by which this is known of the first test of the service that fails
abbrev pub IsAimAt : List ℕ → Service → Aim → Type 0
IsAimAt text tree aim = (drafts : List Draft) × AreDrafts text drafts × IsAim text drafts (blamed_in tree) aim

-- it is known where the text is shown
pub record IsAimed (how : Option Shown) (tree : Service) (aimed : Option Aimed) : Type 0 where
  pub shown : shown_by aimed ≡ how
  pub aims : IfSome aimed (λ a. IsAimAt a.seen.told.text.now tree a.aim)

-- and behind those of a service that isn't accepted
abbrev pub behind_fault : Option Shown → List Draft → Fault → List ℕ
behind_fault None drafts fault = []
behind_fault (Some shown) drafts fault = fault_block shown.name shown.text drafts fault

-- the same, where the statements and templates of the service are known to stand there
abbrev pub behind_marks : Option Sight → Fault → List ℕ
behind_marks None fault = []
behind_marks (Some s) fault = marked_block s.seen.name.now s.seen.told.text.now s.marks fault

-- the text is written for some declarations, and what is shown of each fault is what is shown by them
abbrev pub AreMarked : Option Shown → Option Sight → Type 0
AreMarked how sight = (drafts : List Draft) × AreShown how drafts × ((fault : Fault) → behind_marks sight fault ≡ behind_fault how drafts fault)

abbrev pub behind_points : Option Shown → List ℕ
behind_points None = []
behind_points (Some shown) = points_block shown.name shown.text

abbrev pub behind_facts : Option Shown → List ℕ
behind_facts None = []
behind_facts (Some shown) = facts_block shown.name shown.text
