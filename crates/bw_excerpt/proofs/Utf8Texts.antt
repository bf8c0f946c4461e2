-- What of a text can be shown.
use Rattle.std.proofs.Common.{◌≡◌, ℕ, List, Bool, true, false, map, refl}
use Rattle.std.specs.Str.{IsUtf8, is_utf8}
use Rattle.std.proofs.lemmas.Str.{IsUtf8-from_is_utf8, is_utf8-from_IsUtf8}
use Rattle.bw_excerpt.specs.Excerpts.{readable, plain}

pub readable_whole : (text : List ℕ) → IsUtf8 text → readable text ≡ text
readable_whole text h = let e = is_utf8-from_IsUtf8 text h in rw e refl

pub readable_plain : (text : List ℕ) → (IsUtf8 text → ⊥) → readable text ≡ map plain text
readable_plain text isnt = by_test (is_utf8 text) refl
  where
    by_test : (b : Bool) → is_utf8 text ≡ b → readable text ≡ map plain text
    by_test true e = absurd (isnt (IsUtf8-from_is_utf8 text e))
    by_test false e = rw e refl
