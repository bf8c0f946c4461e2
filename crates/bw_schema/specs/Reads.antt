-- Which text reads as which schema, and why a text is refused.
use Rattle.std.specs.Prelude.{◌≡◌, ◌≤◌, ◌<◌, ℕ, true, false, List, [], ◌∷◌, length, map, codes, Some, None}
use Rattle.std.specs.List.{list_all}
use Rattle.std.specs.Str.{IsUtf8}
use Rattle.std.specs.Str.Parse.{digits_value}
use Rattle.bw_lang.specs.declared.pieces.NameClass.TheVariants as class
use Rattle.bw_schema.specs.Forms.{is_name, is_number, is_line, is_headed, is_read, spell_line}
use Rattle.bw_schema.specs.Marks.{repeated, unknown}
use Rattle.bw_schema.specs.RulesOf.{rules_of}
use Rattle.bw_schema.specs.Words.{said}
use Rattle.bw_schema.specs.declared.fault.SchemaFault.{SchemaFault}
use Rattle.bw_schema.specs.declared.fault.SchemaFault.TheVariants as fault
use Rattle.bw_schema.specs.declared.lines.Line.{Line}
use Rattle.bw_schema.specs.declared.rules.Rule.{Rule}
use Rattle.bw_schema.specs.declared.reading.TheConstants.{MAX_SCHEMA_BYTES}

-- a text of at most 1,048,576 bytes
abbrev pub IsShort : List ℕ → Type 0
IsShort bytes = length bytes ≤ MAX_SCHEMA_BYTES

-- UTF-8 whose first line is `schema` and a number
pub record HasVersion (bytes : List ℕ) (version : ℕ) : Type 0 where
  pub utf8 : IsUtf8 bytes
  pub number : List ℕ
  pub is_number : is_number number ≡ true
  pub value : digits_value 10 number ≡ version
  pub behind : List (List (List ℕ))
  pub says : said bytes ≡ (codes "schema" ∷ number ∷ []) ∷ behind

-- a text of a version that is read, with a root and these lines behind it
pub record IsText (bytes root : List ℕ) (lines : List Line) : Type 0 where
  pub version : ℕ
  pub has_version : HasVersion bytes version
  pub read : is_read version ≡ true
  pub behind : has_version.behind ≡ (codes "root" ∷ root ∷ []) ∷ map spell_line lines
  pub root_tag : is_name class.Tag root ≡ true
  pub formed : list_all (is_line version) lines ≡ true
  pub headed : is_headed lines ≡ true

-- the text reads as the schema of this root and these rules
pub record Reads (bytes root : List ℕ) (rules : List Rule) : Type 0 where
  pub lines : List Line
  pub short : IsShort bytes
  pub text : IsText bytes root lines
  pub once : repeated lines ≡ None
  pub known : unknown root lines ≡ None
  pub give : rules ≡ rules_of lines

-- some text reads as the schema
abbrev pub IsReadable : List ℕ → List Rule → Type 0
IsReadable root rules = (bytes : List ℕ) × Reads bytes root rules

-- ---- refusals

-- there is no version, or one that is read, and no text behind it
pub record IsMalformed (bytes : List ℕ) : Type 0 where
  pub short : IsShort bytes
  pub version : (version : ℕ) → HasVersion bytes version → is_read version ≡ true
  pub text : (root : List ℕ) (lines : List Line) → IsText bytes root lines → ⊥

-- a version that isn't read
pub record HasOtherVersion (bytes : List ℕ) (version : ℕ) : Type 0 where
  pub short : IsShort bytes
  pub has_version : HasVersion bytes version
  pub other : is_read version ≡ false

-- this is declared twice, and is the first in the order of lines
pub record Repeats (bytes name : List ℕ) : Type 0 where
  pub short : IsShort bytes
  pub root : List ℕ
  pub lines : List Line
  pub text : IsText bytes root lines
  pub twice : repeated lines ≡ Some name

-- nothing is declared twice; this is used and not declared, and is the first in the order of lines
pub record Misses (bytes name : List ℕ) : Type 0 where
  pub short : IsShort bytes
  pub root : List ℕ
  pub lines : List Line
  pub text : IsText bytes root lines
  pub once : repeated lines ≡ None
  pub missing : unknown root lines ≡ Some name

-- why a text isn't read
abbrev pub IsSchemaRefused : List ℕ → SchemaFault → Type 0
IsSchemaRefused bytes fault.Malformed = IsMalformed bytes
IsSchemaRefused bytes (fault.Version version) = HasOtherVersion bytes version
IsSchemaRefused bytes (fault.Repeated name) = Repeats bytes name
IsSchemaRefused bytes (fault.Unknown name) = Misses bytes name
IsSchemaRefused bytes fault.TooLong = MAX_SCHEMA_BYTES < length bytes
IsSchemaRefused bytes fault.Memory = Unit {0}
