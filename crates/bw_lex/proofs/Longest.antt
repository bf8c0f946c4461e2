-- The piece that is found is the longest.
use Rattle.std.proofs.Common.{◌≡◌, ℕ, suc, ◌≤◌, Bool, List, [], ◌∷◌, ◌++◌, length, take, drop, refl, sym, ap, ◌∙◌, subst, arith, inl, inr, codes, nat_le, ◌||◌}
use Rattle.std.specs.List.{prefix_len}
use Rattle.std.proofs.lemmas.List.{append_assoc, length-append, length-take-le, take-append-drop, nil_from_length}
use Rattle.bw_lang.specs.declared.token.TokenKind.{TokenKind}
use Rattle.bw_lang.specs.declared.token.TokenKind.TheVariants as kinds
use Rattle.bw_lex.specs.declared.pieces.Piece.{Piece}
use Rattle.bw_lex.specs.declared.pieces.Piece.TheVariants as pieces
use Rattle.bw_lang.specs.Text.Bytes.{is_digit, is_word_byte, is_on_line}
use Rattle.bw_lang.specs.Text.Cuts.{IsLongest}
use Rattle.bw_lang.specs.Text.TokenForms.{HasForm, IsGap, IsTokenPiece, IsTemplateToken, BeginsTemplate}
use Rattle.bw_lang.specs.Text.TokenForms.{value}
use Rattle.bw_lex.specs.Pieces.{piece}
use Rattle.bw_lex.specs.Tokens.{piece_len}
use Rattle.bw_lex.proofs.Branches.{if_branch}
use Rattle.bw_lex.proofs.Ends.{Ends, piece-ends}
use Rattle.bw_lex.proofs.Fronts.{piece-word, piece-number, piece-string, piece-comment, piece-template, piece-pair}
use Rattle.bw_lex.proofs.Passes.{reaches, all_head, all_cons}
use Rattle.bw_lex.proofs.Spelled.{string-whole}
use Rattle.bw_lex.proofs.Templates.{Reaches, template-whole, template-begun}

-- a piece has a byte
one : (p : Piece) (most : ℕ) → Ends p most → Reaches 1 p
one (pieces.Gap n) most h = h.0
one (pieces.Token kind n) most h = h.0
one (pieces.Fault kind n) most h = tt

gap-reached : (bad : Bool) (own rest : List ℕ) → IsGap own → Reaches (length own) (piece bad (own ++ rest))
gap-reached bad own rest (inl h) =
    subst (λ l. Reaches (length l) (piece bad (l ++ rest))) (sym h.1) (one (piece bad (h.0 ∷ rest)) _ (piece-ends bad (h.0 ∷ rest)))
gap-reached bad own rest (inr h) =
    let all = all_cons is_on_line 47 (47 ∷ h.0) refl (all_cons is_on_line 47 h.0 refl h.2) in
    subst (λ l. Reaches (length l) (piece bad (l ++ rest))) (sym h.1)
    (subst (Reaches (length (codes "//" ++ h.0))) (sym (piece-comment bad (h.0 ++ rest))) (reaches is_on_line (codes "//" ++ h.0) rest all))

template-reached : (bad : Bool) (own rest : List ℕ) → IsTemplateToken own → Reaches (length own) (piece bad (own ++ rest))
template-reached bad own rest h =
    let split = ap (λ l. codes "<html>" ++ l) (append_assoc h.0 (codes "</html>") rest) in
    let is =
    ap (λ l. piece bad (l ++ rest)) h.1 ∙ ap (piece bad) split ∙ piece-template bad (h.0 ++ (codes "</html>" ++ rest)) ∙ template-whole bad 6 h.0 rest h.2 in
    subst (Reaches (length own)) (sym is) (omega (arith, ap length h.1, length-append h.0 (codes "</html>")))

token-reached : (bad : Bool) (kind : TokenKind) (own rest : List ℕ) → HasForm kind own → Reaches (length own) (piece bad (own ++ rest))
token-reached bad kinds.Word [] rest h = absurd h
token-reached bad kinds.Word (b ∷ bs) rest h =
    subst (Reaches (suc (length bs))) (sym (piece-word bad b (bs ++ rest) h.0))
    (reaches is_word_byte (b ∷ bs) rest (all_cons is_word_byte b bs (ap (λ t. t || is_digit b) h.0) h.1))
token-reached bad (kinds.Number v) [] rest h = absurd (h.0 refl)
token-reached bad (kinds.Number v) (b ∷ bs) rest h =
    subst (Reaches (suc (length bs))) (sym (piece-number bad b (bs ++ rest) (all_head is_digit b bs h.1)))
    (if_branch (Reaches (suc (length bs))) (nat_le (value (take (prefix_len is_digit (b ∷ (bs ++ rest))) (b ∷ (bs ++ rest))))
    9_223_372_036_854_775_807) _ _ (λ g. reaches is_digit (b ∷ bs) rest h.1) (λ g. tt))
token-reached bad (kinds.Str text) own rest h =
    let is = ap (λ l. piece bad (l ++ rest)) h.1 ∙ piece-string bad (h.0 ++ rest) ∙ string-whole bad text h.0 rest h.2 in
    subst (Reaches (length own)) (sym is) (omega (arith, ap length h.1))
token-reached bad kinds.Template own rest h = template-reached bad own rest h
token-reached bad kinds.Sign [] rest h = absurd h
token-reached bad kinds.Sign (a ∷ []) rest h = one (piece bad (a ∷ rest)) _ (piece-ends bad (a ∷ rest))
token-reached bad kinds.Sign (a ∷ b ∷ []) rest h = subst (Reaches 2) (sym (piece-pair bad a b rest h)) (omega arith)
token-reached bad kinds.Sign (a ∷ b ∷ c ∷ bs) rest h = absurd h

begun-reached : (bad : Bool) (own rest : List ℕ) → BeginsTemplate own → Reaches (length own) (piece bad (own ++ rest))
begun-reached bad own rest h =
    subst (λ l. Reaches (length l) (piece bad (l ++ rest))) (sym h.1)
    (subst (Reaches (length (codes "<html>" ++ h.0))) (sym (piece-template bad (h.0 ++ rest)))
    (template-begun bad 6 (length (codes "<html>" ++ h.0)) h.0 rest h.2 (omega arith)))

-- whatever stands at the front, no less is taken
reached : (bad : Bool) (own rest : List ℕ) → IsTokenPiece own → Reaches (length own) (piece bad (own ++ rest))
reached bad own rest (inl h) = gap-reached bad own rest h
reached bad own rest (inr (inl h)) = token-reached bad h.0 own rest h.1
reached bad own rest (inr (inr h)) = begun-reached bad own rest h

within : (p : Piece) (n least : ℕ) → piece_len p ≡ n → 1 ≤ n → Reaches least p → least ≤ n
within (pieces.Gap m) n least e some h = omega (arith, h, e)
within (pieces.Token kind m) n least e some h = omega (arith, h, e)
within (pieces.Fault kind m) n least e some h = absurd (omega (arith, e))

-- so what is taken is the longest
pub longest : (bad : Bool) (bytes : List ℕ) (n : ℕ) → piece_len (piece bad bytes) ≡ n → 1 ≤ n → n ≤ length bytes → IsLongest (take n bytes) (drop n bytes)
longest bad bytes n e some most more less split h =
    let whole : (take n bytes ++ more) ++ less ≡ bytes =
    append_assoc (take n bytes) more less ∙ ap (λ l. take n bytes ++ l) (sym split) ∙ take-append-drop n bytes in
    let far =
    within (piece bad bytes) n (length (take n bytes ++ more)) e some
    (subst (λ l. Reaches (length (take n bytes ++ more)) (piece bad l)) whole (reached bad (take n bytes ++ more) less h)) in
    nil_from_length more (omega (arith, far, length-append (take n bytes) more, length-take-le n bytes most))
