-- Which piece stands at the front, by its first bytes.
use Rattle.std.proofs.Common.{◌≡◌, ℕ, Bool, true, false, List, [], ◌∷◌, ◌++◌, length, drop, refl, codes, nat_eq, ◌==◌, if◌then◌else◌}
use Rattle.std.specs.List.{prefix_len, starts_with}
use Rattle.std.proofs.lemmas.Slice.Eq.{starts_is}
use Rattle.std.proofs.lemmas.Bool.{eqb-true}
use Rattle.std.proofs.lemmas.Bool.Decides.{Decides-eqb}
use Rattle.bw_lang.specs.declared.token.TokenKind.TheVariants as kinds
use Rattle.bw_lex.specs.declared.pieces.Piece.{Piece}
use Rattle.bw_lex.specs.declared.pieces.Piece.TheVariants as pieces
use Rattle.bw_lang.specs.Text.Bytes.{is_blank, is_letter, is_digit, is_word_byte, is_on_line}
use Rattle.bw_lex.specs.Pieces.{number, string, template, sign, piece}

-- a test for a front is true exactly where the front is there
pub starts : (s p : List ℕ) → starts_with nat_eq s p ≡ true → s ≡ p ++ drop (length p) s
starts s p h = (starts_is Decides-eqb s p (starts_with nat_eq s p) refl).0 h

pub starts_there : (s p rest : List ℕ) → s ≡ p ++ rest → starts_with nat_eq s p ≡ true
starts_there s p rest h = (starts_is Decides-eqb s p (starts_with nat_eq s p) refl).1 rest h

-- the piece that the bytes b ∷ bs begin with
pub data Branch (bad : Bool) (b : ℕ) (bs : List ℕ) : Piece → Type 0 where
  blank : is_blank b ≡ true → Branch bad b bs (pieces.Gap 1)
  word : is_letter b ≡ true → Branch bad b bs (pieces.Token kinds.Word (prefix_len is_word_byte (b ∷ bs)))
  digits : is_digit b ≡ true → Branch bad b bs (number (b ∷ bs))
  quoted : b ≡ 34 → Branch bad b bs (string bad false [] 1 bs)
  comment : b ∷ bs ≡ codes "//" ++ drop 2 (b ∷ bs) → Branch bad b bs (pieces.Gap (prefix_len is_on_line (b ∷ bs)))
  markup : b ∷ bs ≡ codes "<html>" ++ drop 6 (b ∷ bs) → Branch bad b bs (template bad 6 (drop 6 (b ∷ bs)))
  other : is_blank b ≡ false → is_letter b ≡ false → is_digit b ≡ false → (b == 34) ≡ false → starts_with nat_eq (b ∷ bs) (codes "//") ≡ false
      → starts_with nat_eq (b ∷ bs) (codes "<html>") ≡ false → Branch bad b bs (sign (b ∷ bs))

pub if_branch : {X : Type 0} (P : X → Type 0) (c : Bool) (x y : X) → (c ≡ true → P x) → (c ≡ false → P y) → P (if c then x else y)
if_branch P true x y f g = f refl
if_branch P false x y f g = g refl

pub branch : (bad : Bool) (b : ℕ) (bs : List ℕ) → Branch bad b bs (piece bad (b ∷ bs))
unfolding piece
branch bad b bs =
    let P : Piece → Type 0 = Branch bad b bs in
    if_branch P (is_blank b) _ _ (λ h. blank h) (λ h1.
    if_branch P (is_letter b) _ _ (λ h. word h) (λ h2.
    if_branch P (is_digit b) _ _ (λ h. digits h) (λ h3.
    if_branch P (b == 34) _ _ (λ h. quoted (eqb-true b 34 h)) (λ h4.
    if_branch P (starts_with nat_eq (b ∷ bs) (codes "//")) _ _ (λ h. comment (starts (b ∷ bs) (codes "//") h)) (λ h5.
    if_branch P (starts_with nat_eq (b ∷ bs) (codes "<html>")) _ _ (λ h. markup (starts (b ∷ bs) (codes "<html>") h)) (λ h6.
    other h1 h2 h3 h4 h5 h6))))))
