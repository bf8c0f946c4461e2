-- The longest piece is the one that is found.
use Rattle.std.proofs.Common.{◌≡◌, ℕ, suc, ◌<◌, ◌^◌, Bool, true, List, [], ◌∷◌, ◌++◌, length, take, drop, refl, sym, ap, ◌∙◌, subst, arith, inl, inr}
use Rattle.std.proofs.Common.{codes, ◌==◌, ◌||◌, if◌then◌else◌}
use Rattle.std.specs.List.{prefix_len, AllPass}
use Rattle.std.proofs.lemmas.List.{append_assoc, length-append, take_at}
use Rattle.bw_lang.specs.declared.token.TokenKind.{TokenKind}
use Rattle.bw_lang.specs.declared.token.TokenKind.TheVariants as kinds
use Rattle.bw_lex.specs.declared.pieces.Piece.{Piece}
use Rattle.bw_lex.specs.declared.pieces.Piece.TheVariants as pieces
use Rattle.bw_lex.specs.declared.pieces.FaultKind.TheVariants as faults
use Rattle.bw_lang.specs.Text.Bytes.{is_digit, is_word_byte, is_on_line, is_sign, is_pair}
use Rattle.bw_lang.specs.Text.Cuts.{IsLongest}
use Rattle.bw_lang.specs.Text.TokenForms.{HasForm, IsHeld, IsGap, IsTokenPiece}
use Rattle.bw_lang.specs.Text.TokenForms.{value}
use Rattle.bw_lex.specs.Pieces.{sign, piece}
use Rattle.bw_lex.proofs.Branches.{Branch, blank, word, digits, quoted, comment, markup, other, branch}
use Rattle.bw_lex.proofs.Digits.{number_fits}
use Rattle.bw_lex.proofs.Fronts.{piece-blank, piece-word, piece-number, piece-string, piece-comment, piece-template, piece-pair, sign_alone}
use Rattle.bw_lex.proofs.Passes.{next, all_head, all_tail, all_nil, all_cons, all_push, true_or_false}
use Rattle.bw_lex.proofs.Spelled.{string-whole}
use Rattle.bw_lex.proofs.Templates.{template-whole, none_in_nil}

cons_is_more : (c : ℕ) (cs : List ℕ) → c ∷ cs ≡ [] → ⊥
cons_is_more c cs e = cc

-- a front of which each byte passes, and which would do so with one more, ends where the test fails
counted : (p : ℕ → Bool) (own rest : List ℕ) → AllPass p own → IsLongest own rest
    → ((c : ℕ) → AllPass p (own ++ c ∷ []) → IsTokenPiece (own ++ c ∷ [])) → prefix_len p (own ++ rest) ≡ length own
counted p own rest all longest form = elim (next p own rest all) [
  | inl e ↦ e
  | inr h ↦ absurd (cons_is_more h.0 [] (longest (h.0 ∷ []) h.1 h.2 (form h.0 (all_push p own h.0 all h.3))))
]

pub gap-exact : (bad : Bool) (own rest : List ℕ) → IsGap own → IsLongest own rest → piece bad (own ++ rest) ≡ pieces.Gap (length own)
gap-exact bad own rest (inl h) longest =
    ap (λ l. piece bad (l ++ rest)) h.1 ∙ piece-blank bad h.0 rest h.2 ∙ ap (λ l. pieces.Gap (length l)) (sym h.1)
gap-exact bad own rest (inr h) longest =
    let all : AllPass is_on_line own = subst (AllPass is_on_line) (sym h.1) (all_cons is_on_line 47 (47 ∷ h.0) refl (all_cons is_on_line 47 h.0 refl h.2)) in
    ap (λ l. piece bad (l ++ rest)) h.1 ∙ piece-comment bad (h.0 ++ rest) ∙ ap (λ l. pieces.Gap (prefix_len is_on_line (l ++ rest))) (sym h.1)
    ∙ ap pieces.Gap (counted is_on_line own rest all longest (λ c every.
    let more = subst (AllPass is_on_line) (ap (λ l. l ++ c ∷ []) h.1) every in
    inl (inr (h.0 ++ c ∷ [], ap (λ l. l ++ c ∷ []) h.1, all_tail is_on_line 47 (h.0 ++ c ∷ []) (all_tail is_on_line 47 (47 ∷ (h.0 ++ c ∷ [])) more)))))

word-exact : (bad : Bool) (b : ℕ) (bs rest : List ℕ) → HasForm kinds.Word (b ∷ bs) → IsLongest (b ∷ bs) rest
    → piece bad (b ∷ (bs ++ rest)) ≡ pieces.Token kinds.Word (suc (length bs))
word-exact bad b bs rest h longest =
    let all = all_cons is_word_byte b bs (ap (λ t. t || is_digit b) h.0) h.1 in
    piece-word bad b (bs ++ rest) h.0
    ∙ ap (pieces.Token kinds.Word) (counted is_word_byte (b ∷ bs) rest all longest
    (λ c every. inr (inl (kinds.Word, (h.0, all_tail is_word_byte b (bs ++ c ∷ []) every)))))

number-exact : (bad : Bool) (v b : ℕ) (bs rest : List ℕ) → HasForm (kinds.Number v) (b ∷ bs) → v < 2 ^ 63 → IsLongest (b ∷ bs) rest
    → piece bad (b ∷ (bs ++ rest)) ≡ pieces.Token (kinds.Number v) (suc (length bs))
number-exact bad v b bs rest h below longest =
    let count =
    counted is_digit (b ∷ bs) rest h.1 longest (λ c every. inr (inl (kinds.Number (value (b ∷ (bs ++ c ∷ []))), ((λ e. cons_is_more _ _ e), every, refl)))) in
    let own : take (prefix_len is_digit (b ∷ (bs ++ rest))) (b ∷ (bs ++ rest)) ≡ b ∷ bs = take_at (b ∷ bs) rest _ (sym count) in
    piece-number bad b (bs ++ rest) (all_head is_digit b bs h.1)
    ∙ number_fits (b ∷ (bs ++ rest)) v (sym h.2 ∙ ap value (sym own)) (omega (arith, below))
    ∙ ap (pieces.Token (kinds.Number v)) count

template-exact : (bad : Bool) (own rest : List ℕ) → HasForm kinds.Template own → piece bad (own ++ rest) ≡ pieces.Token kinds.Template (length own)
template-exact bad own rest h =
    let split = ap (λ l. codes "<html>" ++ l) (append_assoc h.0 (codes "</html>") rest) in
    ap (λ l. piece bad (l ++ rest)) h.1 ∙ ap (piece bad) split ∙ piece-template bad (h.0 ++ (codes "</html>" ++ rest)) ∙ template-whole bad 6 h.0 rest h.2
    ∙ ap (pieces.Token kinds.Template) (omega (arith, ap length h.1, length-append h.0 (codes "</html>")))

one-sign : (a : ℕ) (rest : List ℕ) → is_sign a ≡ true → IsLongest (a ∷ []) rest → sign (a ∷ rest) ≡ pieces.Token kinds.Sign 1
unfolding sign
one-sign a [] h longest = ap (λ t. if t then pieces.Token kinds.Sign 1 else pieces.Fault faults.BadByte 0) h
one-sign a (b ∷ bs) h longest = elim (true_or_false (is_pair a b)) [
  | inl e ↦ absurd (cons_is_more b [] (longest (b ∷ []) bs refl (inr (inl (kinds.Sign, e)))))
  | inr e ↦ (λ i. if e i then pieces.Token kinds.Sign 2 else if h i then pieces.Token kinds.Sign 1 else pieces.Fault faults.BadByte 0)
]

-- a sign of one byte: no comment, no template and no sign of two begins there
sign-exact : (bad : Bool) (a : ℕ) (rest : List ℕ) (p : Piece) → is_sign a ≡ true → IsLongest (a ∷ []) rest → Branch bad a rest p → p ≡ pieces.Token kinds.Sign 1
sign-exact bad a rest p h longest (blank e) = let k = sign_alone a h in absurd (cc)
sign-exact bad a rest p h longest (word e) = let k = sign_alone a h in absurd (cc)
sign-exact bad a rest p h longest (digits e) = let k = sign_alone a h in absurd (cc)
sign-exact bad a rest p h longest (quoted e) =
    let k = sign_alone a h in
    let quote : (a == 34) ≡ true = ap (λ c. c == 34) e in
    absurd (cc)
sign-exact bad a rest p h longest (comment e) =
    let first : a ≡ 47 = cc in
    let others : rest ≡ (47 ∷ []) ++ drop 2 (a ∷ rest) = cc in
    absurd (cons_is_more 47 [] (longest (47 ∷ []) (drop 2 (a ∷ rest)) others (inl (inr ([], ap (λ c. c ∷ 47 ∷ []) first, all_nil is_on_line)))))
sign-exact bad a rest p h longest (markup e) =
    let first : a ≡ 60 = cc in
    let others : rest ≡ codes "html>" ++ drop 6 (a ∷ rest) = cc in
    absurd (cons_is_more 104 (codes "tml>") (longest (codes "html>") (drop 6 (a ∷ rest)) others
    (inr (inr ([], ap (λ c. c ∷ codes "html>") first, none_in_nil)))))
sign-exact bad a rest p h longest (other h1 h2 h3 h4 h5 h6) = one-sign a rest h longest

pub token-exact : (bad : Bool) (kind : TokenKind) (own rest : List ℕ) → HasForm kind own → IsHeld kind → IsLongest own rest
    → piece bad (own ++ rest) ≡ pieces.Token kind (length own)
token-exact bad kinds.Word [] rest h held longest = absurd h
token-exact bad kinds.Word (b ∷ bs) rest h held longest = word-exact bad b bs rest h longest
token-exact bad (kinds.Number v) [] rest h held longest = absurd (h.0 refl)
token-exact bad (kinds.Number v) (b ∷ bs) rest h held longest = number-exact bad v b bs rest h held longest
token-exact bad (kinds.Str text) own rest h held longest =
    ap (λ l. piece bad (l ++ rest)) h.1 ∙ piece-string bad (h.0 ++ rest) ∙ string-whole bad text h.0 rest h.2
    ∙ ap (λ l. pieces.Token (kinds.Str text) (length l)) (sym h.1)
token-exact bad kinds.Template own rest h held longest = template-exact bad own rest h
token-exact bad kinds.Sign [] rest h held longest = absurd h
token-exact bad kinds.Sign (a ∷ []) rest h held longest = sign-exact bad a rest (piece bad (a ∷ rest)) h longest (branch bad a rest)
token-exact bad kinds.Sign (a ∷ b ∷ []) rest h held longest = piece-pair bad a b rest h
token-exact bad kinds.Sign (a ∷ b ∷ c ∷ bs) rest h held longest = absurd h
