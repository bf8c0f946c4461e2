-- Each token of a text stands in it, in its form.
use Rattle.std.proofs.Common.{◌≡◌, ℕ, zero, suc, ◌+◌, ◌-◌, ◌<◌, ◌≤◌, List, [], ◌∷◌, ◌++◌, length, take, drop, refl, sym, ap, ◌∙◌, subst, arith, All, inl, inr}
use Rattle.std.specs.List.{slice_range}
use Rattle.std.specs.Str.{IsUtf8}
use Rattle.std.proofs.lemmas.List.{append_assoc, append-nil, length-append, take_at, drop_at}
use Rattle.bw_lang.specs.declared.token.Token.{Token}
use Rattle.bw_lang.specs.declared.token.TokenKind.{TokenKind}
use Rattle.bw_lang.specs.declared.token.TokenKind.TheVariants as kinds
use Rattle.bw_lang.specs.Text.Cuts.{Cuts, AreTokens, HasText, StandsIn}
use Rattle.bw_lang.specs.Text.Cuts as cuts
use Rattle.bw_lang.specs.Text.TokenForms.{HasForm, IsHeld, StandsFor, SpellsText}
use Rattle.bw_lex.proofs.Spelled.{SpellsText-append}
use Rattle.bw_lex.proofs.Utf8.{front, behind, joined}

pub form_has_bytes : (kind : TokenKind) (own : List ℕ) → HasForm kind own → 1 ≤ length own
form_has_bytes kinds.Word [] h = absurd h
form_has_bytes kinds.Word (b ∷ bs) h = omega arith
form_has_bytes (kinds.Number v) [] h = absurd (h.0 refl)
form_has_bytes (kinds.Number v) (b ∷ bs) h = omega arith
form_has_bytes (kinds.Str text) own h = omega (arith, ap length h.1)
form_has_bytes kinds.Template own h = omega (arith, ap length h.1)
form_has_bytes kinds.Sign [] h = absurd h
form_has_bytes kinds.Sign (a ∷ bs) h = omega arith

-- what bytes of UTF-8 stand for is UTF-8
byte-text : (c : ℕ) (bytes rest text : List ℕ) → StandsFor c bytes rest → IsUtf8 (text ++ bytes) → IsUtf8 ((text ++ c ∷ []) ++ rest)
byte-text c bytes rest text (inl h) u = subst IsUtf8 (ap (λ l. text ++ l) h.0 ∙ sym (append_assoc text (c ∷ []) rest)) u
byte-text c bytes rest text (inr (inl h)) u =
    let small : c < 128 = elim h.1 [ inl q ↦ omega (arith, q) | inr q ↦ omega (arith, q) ] in
    joined text rest 92 c c (omega arith) small small (subst (λ l. IsUtf8 (text ++ l)) h.0 u)
byte-text c bytes rest text (inr (inr h)) u =
    joined text rest 92 110 c (omega arith) (omega arith) (omega (arith, h.1)) (subst (λ l. IsUtf8 (text ++ l)) h.0 u)

spelled-text : (more bytes rest text : List ℕ) → SpellsText more bytes rest → IsUtf8 (text ++ bytes) → IsUtf8 ((text ++ more) ++ rest)
spelled-text [] bytes rest text h u = subst IsUtf8 (ap (λ l. text ++ l) h ∙ ap (λ t. t ++ rest) (sym (append-nil text))) u
spelled-text (c ∷ more) bytes rest text h u =
    subst (λ t. IsUtf8 (t ++ rest)) (append_assoc text (c ∷ []) more) (spelled-text more h.0 rest (text ++ c ∷ []) h.2 (byte-text c bytes h.0 text h.1 u))

has_text : (before own rest : List ℕ) (kind : TokenKind) → HasForm kind own → IsUtf8 (before ++ (own ++ rest)) → HasText kind
has_text before own rest kinds.Word h u = tt
has_text before own rest (kinds.Number v) h u = tt
has_text before own rest (kinds.Str text) h u =
    let quoted = subst (λ l. IsUtf8 (before ++ (l ++ rest))) h.1 u in
    let inner = behind before (h.0 ++ rest) 34 (omega arith) quoted in
    front text rest 34 (omega arith) (spelled-text text (h.0 ++ rest) (34 ∷ rest) [] (SpellsText-append text h.0 (34 ∷ []) rest h.2) inner)
has_text before own rest kinds.Template h u = tt
has_text before own rest kinds.Sign h u = tt

-- each token stands in the bytes that are cut
at_place : (front own rest bytes : List ℕ) (kind : TokenKind) (at : ℕ) → bytes ≡ front ++ (own ++ rest) → at ≡ length front → HasForm kind own
    → IsHeld kind → IsUtf8 bytes → StandsIn bytes (record { what = kind; start = at; end = at + length own })
at_place front own rest bytes kind at e l form held u =
    let some = form_has_bytes kind own form in
    let slice : slice_range bytes at (at + length own) ≡ own =
    (λ i. take (at + length own - at) (drop at (e i)))
    ∙ (λ i. take (let k : at + length own - at ≡ length own = omega arith in k i) (drop_at front (own ++ rest) at (sym l) i))
    ∙ take_at own rest (length own) refl in
    record {
      some = omega (arith, some);
      inside = omega (arith, ap length e, length-append front (own ++ rest), length-append own rest, l);
      form = subst (HasForm kind) (sym slice) form;
      held = held;
      text = has_text front own rest kind form (subst IsUtf8 e u);
    }

within : (front bytes text : List ℕ) (at : ℕ) (tokens : List Token) → text ≡ front ++ bytes → at ≡ length front → Cuts at bytes tokens → IsUtf8 text
    → All (StandsIn text) tokens
within front bytes text at tokens e l (cuts.nothing n) u k d h = absurd (omega (arith, h))
within front bytes text at tokens e l (cuts.gap n own rest ts form long others) u k d h =
    within (front ++ own) rest text (n + length own) ts (e ∙ sym (append_assoc front own rest)) (omega (arith, l, length-append front own)) others u k d h
within front bytes text at tokens e l (cuts.token n kind own rest ts form held long others) u zero d h = at_place front own rest text kind n e l form held u
within front bytes text at tokens e l (cuts.token n kind own rest ts form held long others) u (suc k) d h =
    within (front ++ own) rest text (n + length own) ts (e ∙ sym (append_assoc front own rest)) (omega (arith, l, length-append front own))
    others u k d (omega (arith, h))

pub all-within : (bytes : List ℕ) (tokens : List Token) → AreTokens bytes tokens → All (StandsIn bytes) tokens
all-within bytes tokens h = within [] bytes bytes 0 tokens refl refl h.1 h.0
