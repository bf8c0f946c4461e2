-- A fault that stands at a place is the one that is found there.
use Rattle.std.proofs.Common.{◌≡◌, ◌≢◌, ℕ, suc, ◌+◌, ◌≤◌, ◌^◌, Bool, true, false, List, [], ◌∷◌, ◌++◌, length, take, drop, refl, sym, ap, ◌∙◌, arith}
use Rattle.std.proofs.Common.{inl, inr, codes, nat_eq, if◌then◌else◌}
use Rattle.std.specs.List.{prefix_len, starts_with}
use Rattle.std.proofs.lemmas.Bool.Decides.{nat_tests}
use Rattle.std.proofs.lemmas.List.{append-nil, length-append, take_at, take-take}
use Rattle.bw_lang.specs.declared.token.TokenKind.TheVariants as kinds
use Rattle.bw_lex.specs.declared.pieces.FaultKind.TheVariants as faults
use Rattle.bw_lex.specs.declared.pieces.Piece.{Piece}
use Rattle.bw_lex.specs.declared.pieces.Piece.TheVariants as pieces
use Rattle.bw_lex.specs.declared.pieces.StringByte.TheVariants as inside
use Rattle.bw_lang.specs.Text.Bytes.{is_digit, is_word_byte, is_on_line, is_sign, is_pair}
use Rattle.bw_lang.specs.Text.TokenForms.{IsTokenPiece, IsNumber, SpellsText, HasNoEnd}
use Rattle.bw_lang.specs.Text.TokenForms.{value}
use Rattle.bw_lex.specs.Pieces.{string_byte, string_at, string, template, sign, piece}
use Rattle.bw_lex.specs.Refusals.{EndsNoEscape, BeginsNothing}
use Rattle.bw_lex.proofs.Branches.{Branch, blank, word, digits, quoted, comment, markup, other, branch, starts}
use Rattle.bw_lex.proofs.Digits.{value-take-le, number_is_too_big}
use Rattle.bw_lex.proofs.Fronts.{piece-string, piece-template, piece-number}
use Rattle.bw_lex.proofs.Passes.{all_nil, all_cons, all_head, reaches, true_or_false}
use Rattle.bw_lex.proofs.Spelled.{SpellsText-append, over_text}
use Rattle.bw_lex.proofs.Templates.{none_in_nil, no_end_behind}

-- a string up to a place in front of its end
string-over : (bad : Bool) (text inner rest : List ℕ) → SpellsText text inner []
    → piece bad (34 ∷ (inner ++ rest)) ≡ string bad false text (1 + length inner) rest
string-over bad text inner rest h =
    let over = over_text bad text (inner ++ rest) rest [] 1 (SpellsText-append text inner [] rest h) in
    piece-string bad (inner ++ rest) ∙ over.2 ∙ ap (λ m. string bad false text m rest) (omega (arith, over.1, length-append inner rest))

pub string-cut : (bad : Bool) (text inner : List ℕ) → SpellsText text inner []
    → piece bad (34 ∷ inner) ≡ (if bad then pieces.Fault faults.BadByte (1 + length inner) else pieces.Fault faults.OpenString 0)
string-cut bad text inner h = ap (λ l. piece bad (34 ∷ l)) (sym (append-nil inner)) ∙ string-over bad text inner [] h

pub string-broken : (bad : Bool) (text inner rest : List ℕ) → SpellsText text inner []
    → piece bad (34 ∷ (inner ++ 10 ∷ rest)) ≡ pieces.Fault faults.OpenString 0
string-broken bad text inner rest h = string-over bad text inner (10 ∷ rest) h

no-escape : (bad : Bool) (text : List ℕ) (n : ℕ) (rest : List ℕ) → EndsNoEscape rest → string bad true text (n + 1) rest ≡ pieces.Fault faults.BadByte n
no-escape bad text n [] h = ap (pieces.Fault faults.BadByte) (omega arith)
no-escape bad text n (b ∷ bs) h =
    let e : string_byte true b ≡ inside.NoEscape = grind (arith, nat_tests, h.0, h.1, h.2) in
    ap (λ s. string_at s text (n + 1) (λ c. string bad false (text ++ c ∷ []) (n + 1 + 1) bs) (string bad true text (n + 1 + 1) bs)) e
    ∙ ap (pieces.Fault faults.BadByte) (omega arith)

pub string-no-escape : (bad : Bool) (text inner rest : List ℕ) → SpellsText text inner [] → EndsNoEscape rest
    → piece bad (34 ∷ (inner ++ 92 ∷ rest)) ≡ pieces.Fault faults.BadByte (1 + length inner)
string-no-escape bad text inner rest h g = string-over bad text inner (92 ∷ rest) h ∙ no-escape bad text (1 + length inner) rest g

-- a template whose end isn't there
template-cut : (bad : Bool) (n : ℕ) (inner : List ℕ) → HasNoEnd inner
    → template bad n inner ≡ (if bad then pieces.Fault faults.BadByte (n + length inner) else pieces.Fault faults.OpenTemplate 0)
template-cut bad n [] h = ap (λ m. if bad then pieces.Fault faults.BadByte m else pieces.Fault faults.OpenTemplate 0) (omega arith)
template-cut bad n (b ∷ bs) h =
    let there : starts_with nat_eq (b ∷ bs) (codes "</html>") ≡ false = elim (true_or_false (starts_with nat_eq (b ∷ bs) (codes "</html>"))) [
      | inl e ↦ absurd (h [] (drop 7 (b ∷ bs)) (starts (b ∷ bs) (codes "</html>") e))
      | inr e ↦ e
    ] in
    ap (λ t. if t then pieces.Token kinds.Template (n + 7) else template bad (n + 1) bs) there
    ∙ template-cut bad (n + 1) bs (no_end_behind b bs h)
    ∙ ap (λ m. if bad then pieces.Fault faults.BadByte m else pieces.Fault faults.OpenTemplate 0) (omega arith)

pub markup-cut : (bad : Bool) (inner : List ℕ) → HasNoEnd inner
    → piece bad (codes "<html>" ++ inner) ≡ (if bad then pieces.Fault faults.BadByte (6 + length inner) else pieces.Fault faults.OpenTemplate 0)
markup-cut bad inner h = piece-template bad inner ∙ template-cut bad 6 inner h

-- a number with a front that is too big
pub number-too-big : (bad : Bool) (v : ℕ) (own rest : List ℕ) → IsNumber v own → 2 ^ 63 ≤ v → piece bad (own ++ rest) ≡ pieces.Fault faults.NumberTooBig 0
number-too-big bad v [] rest h g = absurd (h.0 refl)
number-too-big bad v (b ∷ bs) rest h g =
    let bytes = b ∷ (bs ++ rest) in
    let n = prefix_len is_digit bytes in
    let own : take (suc (length bs)) (take n bytes) ≡ b ∷ bs =
    take-take (suc (length bs)) n bytes (reaches is_digit (b ∷ bs) rest h.1) ∙ take_at (b ∷ bs) rest (suc (length bs)) refl in
    let most = value-take-le (take n bytes) (suc (length bs)) in
    piece-number bad b (bs ++ rest) (all_head is_digit b bs h.1)
    ∙ number_is_too_big bytes (omega (arith, most, ap value own, h.2, g))

-- a byte at which no piece begins
nothing-there : (b : ℕ) (bs : List ℕ) → BeginsNothing (b ∷ bs) → IsTokenPiece (b ∷ []) → ⊥
nothing-there b bs h p = let e = h (b ∷ []) bs refl p in cc

no-sign : (b : ℕ) (bs : List ℕ) → BeginsNothing (b ∷ bs) → sign (b ∷ bs) ≡ pieces.Fault faults.BadByte 0
unfolding sign
no-sign b [] h = elim (true_or_false (is_sign b)) [
  | inl e ↦ absurd (nothing-there b [] h (inr (inl (kinds.Sign, e))))
  | inr e ↦ ap (λ t. if t then pieces.Token kinds.Sign 1 else pieces.Fault faults.BadByte 0) e
]
no-sign a (b ∷ bs) h = elim (true_or_false (is_pair a b)) [
  | inl e ↦ (let n = h (a ∷ b ∷ []) bs refl (inr (inl (kinds.Sign, e))) in absurd (cc))
  | inr e ↦ elim (true_or_false (is_sign a)) [
    | inl f ↦ absurd (nothing-there a (b ∷ bs) h (inr (inl (kinds.Sign, f))))
    | inr f ↦ (λ i. if e i then pieces.Token kinds.Sign 2 else if f i then pieces.Token kinds.Sign 1 else pieces.Fault faults.BadByte 0)
  ]
]

stray : (bad : Bool) (b : ℕ) (bs : List ℕ) (p : Piece) → b ≢ 34 → BeginsNothing (b ∷ bs) → Branch bad b bs p → p ≡ pieces.Fault faults.BadByte 0
stray bad b bs p q h (blank e) = absurd (nothing-there b bs h (inl (inl (b, refl, e))))
stray bad b bs p q h (word e) = absurd (nothing-there b bs h (inr (inl (kinds.Word, (e, all_nil is_word_byte)))))
stray bad b bs p q h (digits e) =
    absurd (nothing-there b bs h (inr (inl (
      kinds.Number (value (b ∷ [])),
      ((λ n. let m : b ∷ [] ≡ [] = n in cc), all_cons is_digit b [] e (all_nil is_digit), refl),
    ))))
stray bad b bs p q h (quoted e) = absurd (q e)
stray bad b bs p q h (comment e) = let n = h (codes "//") (drop 2 (b ∷ bs)) e (inl (inr ([], refl, all_nil is_on_line))) in absurd (cc)
stray bad b bs p q h (markup e) = let n = h (codes "<html>") (drop 6 (b ∷ bs)) e (inr (inr ([], refl, none_in_nil))) in absurd (cc)
stray bad b bs p q h (other h1 h2 h3 h4 h5 h6) = no-sign b bs h

pub stray-byte : (bad : Bool) (b : ℕ) (bs : List ℕ) → b ≢ 34 → BeginsNothing (b ∷ bs) → piece bad (b ∷ bs) ≡ pieces.Fault faults.BadByte 0
stray-byte bad b bs q h = stray bad b bs (piece bad (b ∷ bs)) q h (branch bad b bs)
