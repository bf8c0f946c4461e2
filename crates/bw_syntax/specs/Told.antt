-- The tokens of the bytes of a file.
use Rattle.std.specs.Prelude.{◌≡◌, ◌≤◌, ◌<◌, ℕ, List, length, ⊤}
use Rattle.bw_lang.specs.Service.Reads.{lexemes}
use Rattle.bw_lang.specs.Text.Cuts.{AreTokens}
use Rattle.bw_lang.specs.declared.limits.TheConstants.{MAX_FILE_BYTES}
use Rattle.bw_lex.specs.Refusals.{IsTextRefused as IsUntokened}
use Rattle.bw_syntax.specs.declared.fault.SyntaxFault.{SyntaxFault}
use Rattle.bw_syntax.specs.declared.fault.SyntaxFault.TheVariants as faults
use Rattle.bw_syntax.specs.declared.told.Told.{Told}

-- the bytes are a text within the limit of files, which has these tokens, and they say this
pub record IsTold (bytes : List ℕ) (told : Told) : Type 0 where
  pub short : length bytes ≤ MAX_FILE_BYTES
  pub cut : AreTokens bytes told.tokens
  pub says : told.lexemes.items ≡ lexemes bytes told.tokens

-- the bytes have no tokens
abbrev pub IsUntold : List ℕ → SyntaxFault → Type 0
IsUntold bytes faults.TooLong = MAX_FILE_BYTES < length bytes
IsUntold bytes (faults.Lex fault) = (length bytes ≤ MAX_FILE_BYTES) × IsUntokened bytes fault
IsUntold bytes faults.Memory = ⊤
IsUntold bytes fault = ⊥
