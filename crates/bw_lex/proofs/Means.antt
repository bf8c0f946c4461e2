-- Each piece that is found has its form.
use Rattle.std.proofs.Common.{◌≡◌, ℕ, suc, ◌+◌, ◌-◌, ◌≤◌, Bool, true, false, List, [], ◌∷◌, ◌++◌, length, take, drop, refl, sym, ap, ◌∙◌, subst}
use Rattle.std.proofs.Common.{arith, inl, inr, codes, nat_eq, nat_le, ◌||◌}
use Rattle.std.specs.List.{prefix_len, starts_with, AllPass}
use Rattle.std.proofs.lemmas.Bool.{leb-true}
use Rattle.std.proofs.lemmas.List.{take_at, append_assoc, length-append}
use Rattle.bw_lang.specs.declared.token.TokenKind.{TokenKind}
use Rattle.bw_lex.specs.declared.pieces.Piece.{Piece}
use Rattle.bw_lex.specs.declared.pieces.Piece.TheVariants as pieces
use Rattle.bw_lex.specs.declared.pieces.StringByte.{StringByte}
use Rattle.bw_lex.specs.declared.pieces.StringByte.TheVariants as inside
use Rattle.bw_lang.specs.Text.Bytes.{is_letter, is_digit, is_word_byte, is_on_line, is_sign, is_pair}
use Rattle.bw_lang.specs.Text.TokenForms.{HasForm, IsHeld, IsGap, IsWord}
use Rattle.bw_lang.specs.Text.TokenForms.{value}
use Rattle.bw_lex.specs.Pieces.{number, string_at, string_byte, string, template, sign, piece}
use Rattle.bw_lex.proofs.Branches.{Branch, blank, word, digits, quoted, comment, markup, other, branch, if_branch}
use Rattle.bw_lex.proofs.Ends.{some}
use Rattle.bw_lex.proofs.Passes.{passing, all_tail, take_first}
use Rattle.bw_lex.proofs.Spelled.{Found, string-found}
use Rattle.bw_lex.proofs.Templates.{Ended, template-found}

-- the bytes that it takes have its form
abbrev pub Means : Piece → List ℕ → Type 0
Means (pieces.Gap n) bytes = IsGap (take n bytes)
Means (pieces.Token kind n) bytes = HasForm kind (take n bytes) × IsHeld kind
Means (pieces.Fault kind n) bytes = Unit {0}

word-means : (b : ℕ) (bs : List ℕ) → is_letter b ≡ true → 1 ≤ prefix_len is_word_byte (b ∷ bs) → IsWord (take (prefix_len is_word_byte (b ∷ bs)) (b ∷ bs))
word-means b bs h some =
    let n = prefix_len is_word_byte (b ∷ bs) in
    let e = take_first n b bs some in
    subst IsWord (sym e) (h, all_tail is_word_byte b (take (n - 1) bs) (subst (AllPass is_word_byte) e (passing is_word_byte (b ∷ bs) n refl)))

number-means : (b : ℕ) (bs : List ℕ) → is_digit b ≡ true → Means (number (b ∷ bs)) (b ∷ bs)
number-means b bs h =
    let n = prefix_len is_digit (b ∷ bs) in
    let own = take n (b ∷ bs) in
    if_branch (λ p. Means p (b ∷ bs)) (nat_le (value own) 9_223_372_036_854_775_807) _ _
    (λ g. let most : value own ≤ 9_223_372_036_854_775_807 = leb-true _ _ g in (
      (
        (λ e. let q : b ∷ take (n - 1) bs ≡ [] = sym (take_first n b bs (some is_digit b bs h).0) ∙ e in absurd (cc)),
        passing is_digit (b ∷ bs) n refl,
        refl,
      ),
      omega (arith, most),
    ))
    (λ g. tt)

comment-means : (bs : List ℕ) → IsGap (take (prefix_len is_on_line (codes "//" ++ bs)) (codes "//" ++ bs))
comment-means bs =
    let n = prefix_len is_on_line bs in
    inr (take n bs, ap (λ m. take m (codes "//" ++ bs)) (let e : 1 + (1 + n) ≡ suc (suc n) = omega arith in e), passing is_on_line bs n refl)

-- strings and templates are no gaps
abbrev NoGap : Piece → Type 0
NoGap (pieces.Gap n) = ⊥
NoGap (pieces.Token kind n) = Unit {0}
NoGap (pieces.Fault kind n) = Unit {0}

string_at-no-gap : (s : StringByte) (text : List ℕ) (n : ℕ) (stands : ℕ → Piece) (escapes : Piece) → ((c : ℕ) → NoGap (stands c)) → NoGap escapes
    → NoGap (string_at s text n stands escapes)
string_at-no-gap (inside.Stands c) text n stands escapes f e = f c
string_at-no-gap inside.Escapes text n stands escapes f e = e
string_at-no-gap inside.Closes text n stands escapes f e = tt
string_at-no-gap inside.BreaksLine text n stands escapes f e = tt
string_at-no-gap inside.NoEscape text n stands escapes f e = tt

string-no-gap : (bad escaped : Bool) (text : List ℕ) (n : ℕ) (bs : List ℕ) → NoGap (string bad escaped text n bs)
string-no-gap bad true text n [] = tt
string-no-gap true false text n [] = tt
string-no-gap false false text n [] = tt
string-no-gap bad escaped text n (b ∷ bs) =
    string_at-no-gap (string_byte escaped b) text n _ _ (λ c. string-no-gap bad false (text ++ c ∷ []) (n + 1) bs) (string-no-gap bad true text (n + 1) bs)

template-no-gap : (bad : Bool) (n : ℕ) (bs : List ℕ) → NoGap (template bad n bs)
template-no-gap true n [] = tt
template-no-gap false n [] = tt
template-no-gap bad n (b ∷ bs) = if_branch NoGap (starts_with nat_eq (b ∷ bs) (codes "</html>")) _ _ (λ e. tt) (λ e. template-no-gap bad (n + 1) bs)

string-token : (bs : List ℕ) (kind : TokenKind) (n : ℕ) → Found false [] 1 bs kind n → HasForm kind (take n (34 ∷ bs)) × IsHeld kind
string-token bs kind n f =
    let own : take n (34 ∷ bs) ≡ 34 ∷ f.inner = (λ i. take (f.len i) (34 ∷ f.front i)) ∙ take_at (34 ∷ f.inner) f.rest (1 + length f.inner) (omega arith) in
    subst (λ k. HasForm k (take n (34 ∷ bs)) × IsHeld k) (sym f.is) ((f.inner, own, f.spelled), tt)

string-means : (bad : Bool) (bs : List ℕ) (p : Piece) → string bad false [] 1 bs ≡ p → Means p (34 ∷ bs)
string-means bad bs (pieces.Gap n) e = absurd (subst NoGap e (string-no-gap bad false [] 1 bs))
string-means bad bs (pieces.Token kind n) e = string-token bs kind n (string-found bad false [] 1 bs kind n e)
string-means bad bs (pieces.Fault kind n) e = tt

template-token : (bs : List ℕ) (kind : TokenKind) (n : ℕ) → Ended 6 bs kind n → HasForm kind (take n (codes "<html>" ++ bs)) × IsHeld kind
template-token bs kind n f =
    let whole = codes "<html>" ++ (f.inner ++ codes "</html>") in
    let front : codes "<html>" ++ bs ≡ whole ++ f.rest = ap (λ l. codes "<html>" ++ l) (f.front ∙ sym (append_assoc f.inner (codes "</html>") f.rest)) in
    let own : take n (codes "<html>" ++ bs) ≡ whole =
    (λ i. take n (front i)) ∙ take_at whole f.rest n (omega (arith, f.len, length-append f.inner (codes "</html>"))) in
    subst (λ k. HasForm k (take n (codes "<html>" ++ bs)) × IsHeld k) (sym f.is) ((f.inner, own, f.none), tt)

template-means : (bad : Bool) (bs : List ℕ) (p : Piece) → template bad 6 bs ≡ p → Means p (codes "<html>" ++ bs)
template-means bad bs (pieces.Gap n) e = absurd (subst NoGap e (template-no-gap bad 6 bs))
template-means bad bs (pieces.Token kind n) e = template-token bs kind n (template-found bad 6 bs kind n e)
template-means bad bs (pieces.Fault kind n) e = tt

sign-means : (bs : List ℕ) → Means (sign bs) bs
unfolding sign
sign-means [] = tt
sign-means (a ∷ []) = if_branch (λ p. Means p (a ∷ [])) (is_sign a) _ _ (λ h. (h, tt)) (λ h. tt)
sign-means (a ∷ b ∷ bs) =
    let P : Piece → Type 0 = λ p. Means p (a ∷ b ∷ bs) in
    if_branch P (is_pair a b) _ _ (λ h. (h, tt)) (λ g. if_branch P (is_sign a) _ _ (λ h. (h, tt)) (λ h. tt))

branch-means : (bad : Bool) (b : ℕ) (bs : List ℕ) (p : Piece) → Branch bad b bs p → Means p (b ∷ bs)
branch-means bad b bs p (blank h) = inl (b, refl, h)
branch-means bad b bs p (word h) = (word-means b bs h (some is_word_byte b bs (ap (λ t. t || is_digit b) h)).0, tt)
branch-means bad b bs p (digits h) = number-means b bs h
branch-means bad b bs p (quoted h) = subst (λ c. Means (string bad false [] 1 bs) (c ∷ bs)) (sym h) (string-means bad bs (string bad false [] 1 bs) refl)
branch-means bad b bs p (comment h) = subst (λ l. IsGap (take (prefix_len is_on_line l) l)) (sym h) (comment-means (drop 2 (b ∷ bs)))
branch-means bad b bs p (markup h) =
    subst (Means (template bad 6 (drop 6 (b ∷ bs)))) (sym h) (template-means bad (drop 6 (b ∷ bs)) (template bad 6 (drop 6 (b ∷ bs))) refl)
branch-means bad b bs p (other h1 h2 h3 h4 h5 h6) = sign-means (b ∷ bs)

here : (bad : Bool) (bs : List ℕ) → Means (piece bad bs) bs
unfolding piece
here bad [] = tt
here bad (b ∷ bs) = branch-means bad b bs (piece bad (b ∷ bs)) (branch bad b bs)

pub piece-means : (bad : Bool) (bs : List ℕ) (p : Piece) → piece bad bs ≡ p → Means p bs
piece-means bad bs p e = subst (λ p. Means p bs) e (here bad bs)
