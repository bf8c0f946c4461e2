-- Runs of bytes that pass a test.
use Rattle.std.proofs.Common.{◌≡◌, ℕ, suc, ◌<◌, Bool, true, false, List, [], ◌∷◌, take, Some, None, refl, arith}
use Rattle.std.specs.Prelude.{if◌then◌else◌, IsUtf8}
use Rattle.std.proofs.lemmas.Str.{IsUtf8-from_ascii, is_utf8-from_IsUtf8, IsUtf8-from_is_utf8}
use Rattle.std.proofs.lemmas.Str.Ascii.{IsAscii-nil, IsAscii-cons}
use Rattle.std.specs.Str.{IsAscii, is_utf8}
use Rattle.std.proofs.lemmas.Bool.Decides.{nat_tests}
use Rattle.bw_lang.specs.declared.pieces.NameClass.{NameClass}
use Rattle.bw_lang.specs.declared.pieces.NameClass.TheVariants as class
use Rattle.bw_tmpl.specs.Steps.Reading.{leading, checked}
use Rattle.bw_lang.specs.Template.MarkupNames.{later_of}

pub later_below : (k : NameClass) (c : ℕ) → later_of k c ≡ true → c < 128
later_below class.Tag c h = grind (arith, nat_tests)
later_below class.Attr c h = grind (arith, nat_tests)
later_below class.Word c h = grind (arith, nat_tests)

leading_ascii_one : (p : ℕ → Bool) (b : ℕ) (bs : List ℕ) (v : Bool) → ((c : ℕ) → p c ≡ true → c < 128) → p b ≡ v → IsAscii (take (leading p bs) bs)
    → IsAscii (take (if v then suc (leading p bs) else 0) (b ∷ bs))
leading_ascii_one p b bs true h e ih = IsAscii-cons b (take (leading p bs) bs) (h b e) ih
leading_ascii_one p b bs false h e ih = IsAscii-nil

leading_ascii : (p : ℕ → Bool) (bs : List ℕ) → ((c : ℕ) → p c ≡ true → c < 128) → IsAscii (take (leading p bs) bs)
leading_ascii p [] h = IsAscii-nil
leading_ascii p (b ∷ bs) h = leading_ascii_one p b bs (p b) h refl (leading_ascii p bs h)

pub name_utf8 : (k : NameClass) (bs : List ℕ) → IsUtf8 (take (leading (later_of k) bs) bs)
name_utf8 k bs = IsUtf8-from_ascii _ (leading_ascii (later_of k) bs (later_below k))

pub checked_ok : (t : List ℕ) → IsUtf8 t → checked t ≡ Some t
checked_ok t u = rw (is_utf8-from_IsUtf8 t u) refl

checked_when : (t : List ℕ) (v : Bool) → is_utf8 t ≡ v → (IsUtf8 t → ⊥) → (if v then Some t else None) ≡ None
checked_when t true e refutes = absurd (refutes (IsUtf8-from_is_utf8 t e))
checked_when t false e refutes = refl

pub checked_none : (t : List ℕ) → (IsUtf8 t → ⊥) → checked t ≡ None
checked_none t refutes = checked_when t (is_utf8 t) refl refutes
