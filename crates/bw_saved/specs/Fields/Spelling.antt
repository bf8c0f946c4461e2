-- Numbers, texts and lists of texts as bytes, and which may stand in a file.
use Rattle.std.specs.Prelude.{ℕ, ℤ, ◌<◌, ◌≤◌, ◌^◌, List, ◌++◌, length}
use Rattle.std.specs.List.{flat_map, AllByRecursion}
use Rattle.std.specs.Int.{w64, w32, to_be_bytes, cast_unsigned}
use Rattle.std.specs.Str.{IsUtf8}
use Rattle.bw_lang.specs.declared.limits.TheConstants.{MAX_STRING_BYTES}

-- an integer of 64 bits: eight bytes in two's complement
abbrev pub integer : ℤ → List ℕ
integer n = to_be_bytes w64 (cast_unsigned w64 n)

-- four bytes of length, and so many bytes
abbrev pub text : List ℕ → List ℕ
text s = to_be_bytes w32 (length s) ++ s

-- four bytes of count, and so many texts
abbrev pub strings : List (List ℕ) → List ℕ
strings ss = to_be_bytes w32 (length ss) ++ flat_map text ss

-- what may stand as a text: at most 16,384 bytes of UTF-8
pub record IsText (s : List ℕ) : Type 0 where
  pub short : length s ≤ MAX_STRING_BYTES
  pub utf8 : IsUtf8 s

-- and as a list of texts, whose number fits its four bytes
pub record AreTexts (ss : List (List ℕ)) : Type 0 where
  pub few : length ss < 2 ^ 32
  pub each : AllByRecursion IsText ss
