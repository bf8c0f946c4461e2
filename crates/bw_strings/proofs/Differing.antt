-- No two literals are equal.
use Rattle.std.proofs.Common.{◌≡◌, ℕ, zero, suc, ◌+◌, ◌<◌, Bool, true, false, if◌then◌else◌, cond, List, [], ◌∷◌, ◌++◌, length, refl, sym, ap, ◌∙◌, inl}
use Rattle.std.proofs.Common.{inr, arith}
use Rattle.std.specs.Prelude.{not}
use Rattle.std.specs.List.{list_any}
use Rattle.std.proofs.lemmas.Bool.{cases_lt, or_parts}
use Rattle.std.proofs.lemmas.Cmp.{nat_list_eq_equiv}
use Rattle.std.proofs.lemmas.List.{length-append}
use Rattle.bw_lang.specs.Table.Names.{same, name_number, with_name, with_names}
use Rattle.bw_lang.proofs.TableLaws.{numbers_stay}
use Rattle.bw_strings.specs.Asking.{text_of}
use Rattle.bw_strings.specs.Laws.{LiteralsDiffer}

-- each name of a table has its place as its number
abbrev HavePlaces : List (List ℕ) → Type 0
HavePlaces names = (n : ℕ) → n < length names → name_number names (text_of names n) ≡ n

text_before : (names : List (List ℕ)) (w : List ℕ) (n : ℕ) → n < length names → text_of (names ++ w ∷ []) n ≡ text_of names n
text_before [] w n h = absurd (omega arith)
text_before (m ∷ names) w zero h = refl
text_before (m ∷ names) w (suc n) h = text_before names w n (omega arith)

text_last : (names : List (List ℕ)) (w : List ℕ) → text_of (names ++ w ∷ []) (length names) ≡ w
text_last [] w = refl
text_last (m ∷ names) w = text_last names w

number_last : (names : List (List ℕ)) (w : List ℕ) → list_any (same w) names ≡ false → name_number (names ++ w ∷ []) w ≡ length names
number_last [] w h = ap (λ b. cond (not b) 1 0) (nat_list_eq_equiv.refl w)
number_last (m ∷ names) w h =
    let p = or_parts (same w m) (list_any (same w) names) h in
    ap (λ b. cond (not b) (1 + name_number (names ++ w ∷ []) w) 0) p.0 ∙ ap (λ k. 1 + k) (number_last names w p.1) ∙ omega arith

differ_more : (names : List (List ℕ)) (w : List ℕ) → HavePlaces names → HavePlaces (with_name names w)
differ_more names w ih = by_test (list_any (same w) names) refl
  where
    by_test : (b : Bool) → list_any (same w) names ≡ b → HavePlaces (if b then names else names ++ w ∷ [])
    by_test true e = ih
    by_test false e = λ n h. elim (cases_lt n (length names)) [
      | inl before ↦
          ap (name_number (names ++ w ∷ [])) (text_before names w n before)
          ∙ numbers_stay names (names ++ w ∷ []) (text_of names n) (record { more = w ∷ []; is = refl }) (let k = ih n before in omega arith)
          ∙ ih n before
      | inr last ↦
          let at : n ≡ length names = omega (arith, length-append names (w ∷ [])) in
          ap (λ k. name_number (names ++ w ∷ []) (text_of (names ++ w ∷ []) k)) at ∙ ap (name_number (names ++ w ∷ [])) (text_last names w)
          ∙ number_last names w e ∙ sym at
    ]

differ_from : (names strings : List (List ℕ)) → HavePlaces names → HavePlaces (with_names names strings)
differ_from names [] d = d
differ_from names (w ∷ strings) d = differ_from (with_name names w) strings (differ_more names w d)

pub differ : LiteralsDiffer
differ strings = differ_from [] strings (λ n h. absurd (omega arith))
