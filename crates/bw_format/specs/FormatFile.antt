-- How a file of formats is read.
use Rattle.std.specs.Prelude.{
  ◌≡◌,
  ◌≢◌,
  ◌⊎◌,
  ℕ,
  ◌+◌,
  ◌-◌,
  ◌<◌,
  ◌≤◌,
  List,
  [],
  ◌∷◌,
  ◌++◌,
  ◌==◌,
  ◌&&◌,
  length,
  slice_index,
  take,
  cond,
  nat_lt,
  chars,
  IsUtf8,
  None,
  Ok,
  Err,
}
use Rattle.std.specs.declared.result.Result.{Result}
use Rattle.bw_format.specs.declared.file.FormatFault.{FormatFault}
use Rattle.bw_format.specs.declared.file.FormatFault.TheVariants as fault
use Rattle.bw_format.specs.declared.format.Format.{Format}
use Rattle.bw_format.specs.declared.line.Line.{Line}
use Rattle.bw_format.specs.declared.line.Line.TheVariants as line
use Rattle.bw_format.specs.Formats.{pattern_of}
use Rattle.bw_format.specs.Spelling.{Spells}
use Rattle.bw_format.specs.declared.limits.TheConstants.{MAX_FORMATS_BYTES, MAX_FORMATS, MAX_PATTERN_CHARS}

-- a CR at the end of a line is dropped
abbrev pub without_cr : List ℕ → List ℕ
without_cr line = cond (nat_lt 0 (length line) && (slice_index line (length line - 1) == 13)) (take (length line - 1) line) line

-- the lines behind what is read of one; LF ends a line
abbrev pub lines_from : List ℕ → List ℕ → List (List ℕ)
lines_from line [] = line ∷ []
lines_from line (b ∷ bytes) = cond (b == 10) (without_cr line ∷ lines_from [] bytes) (lines_from (line ++ b ∷ []) bytes)

abbrev pub lines : List ℕ → List (List ℕ)
lines bytes = lines_from [] bytes

-- an empty line, and one that begins with `#`, whatever its bytes are
abbrev pub IsSkipped : List ℕ → Type 0
IsSkipped line = (line ≡ []) ⊎ ((rest : List ℕ) × (line ≡ 35 ∷ rest))

abbrev pub HasNoSpace : List ℕ → Type 0
HasNoSpace field = (i : ℕ) → i < length field → slice_index field i ≢ 32

-- a field's name that isn't empty, and a pattern of at most 256 characters
abbrev pub AreParts : List ℕ → List ℕ → Format → Type 0
AreParts field rest f = (f.field ≡ field) × (field ≢ []) × (length (chars rest) ≤ MAX_PATTERN_CHARS) × Spells (chars rest) f.pattern

-- these, with the first space between them
abbrev pub IsFormat : List ℕ → Format → Type 0
IsFormat line f =
    IsUtf8 line × (IsSkipped line → ⊥)
    × ((field : List ℕ) × (rest : List ℕ) × (line ≡ field ++ 32 ∷ rest) × HasNoSpace field × AreParts field rest f)

abbrev pub IsMalformed : List ℕ → Type 0
IsMalformed line = (IsSkipped line → ⊥) × ((f : Format) → IsFormat line f → ⊥)

-- what is on a line
abbrev pub IsLine : List ℕ → Line → Type 0
IsLine bytes line.Skipped = IsSkipped bytes
IsLine bytes (line.Format f) = IsFormat bytes f
IsLine bytes line.Malformed = IsMalformed bytes

-- From the line of this number on, with these formats in front of it, these lines give this. A line that is malformed and
-- the 129th format are Malformed; a format more for a field is Repeated.
pub data Reads : ℕ → List Format → List (List ℕ) → Result (List Format) FormatFault → Type 0 where
  end : (n : ℕ) (formats : List Format) → Reads n formats [] (Ok formats)
  skipped : (n : ℕ) (formats : List Format) (line : List ℕ) (lines : List (List ℕ)) (r : Result (List Format) FormatFault)
      → IsSkipped line → Reads (n + 1) formats lines r → Reads n formats (line ∷ lines) r
  format : (n : ℕ) (formats : List Format) (line : List ℕ) (f : Format) (lines : List (List ℕ)) (r : Result (List Format) FormatFault)
      → IsFormat line f → length formats < MAX_FORMATS → pattern_of formats f.field ≡ None
      → Reads (n + 1) (formats ++ f ∷ []) lines r → Reads n formats (line ∷ lines) r
  malformed : (n : ℕ) (formats : List Format) (line : List ℕ) (lines : List (List ℕ))
      → IsMalformed line → Reads n formats (line ∷ lines) (Err (fault.Malformed n))
  too_many : (n : ℕ) (formats : List Format) (line : List ℕ) (f : Format) (lines : List (List ℕ))
      → IsFormat line f → MAX_FORMATS ≤ length formats → Reads n formats (line ∷ lines) (Err (fault.Malformed n))
  repeated : (n : ℕ) (formats : List Format) (line : List ℕ) (f : Format) (lines : List (List ℕ))
      → IsFormat line f → length formats < MAX_FORMATS → pattern_of formats f.field ≢ None → Reads n formats (line ∷ lines) (Err (fault.Repeated n))

-- what the file gives
abbrev pub Gives : List ℕ → Result (List Format) FormatFault → Type 0
Gives bytes r = ((MAX_FORMATS_BYTES < length bytes) × (r ≡ Err fault.TooLong)) ⊎ ((length bytes ≤ MAX_FORMATS_BYTES) × Reads 1 [] (lines bytes) r)
