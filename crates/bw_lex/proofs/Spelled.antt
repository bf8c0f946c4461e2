-- Strings, and the texts that they stand for.
use Rattle.std.proofs.Common.{◌≡◌, ℕ, suc, ◌+◌, Bool, true, false, List, [], ◌∷◌, ◌++◌, length, refl, sym, ap, ◌∙◌, subst, arith, inl, inr}
use Rattle.std.proofs.lemmas.List.{append_assoc, append-nil, length-append}
use Rattle.std.proofs.lemmas.Bool.Decides.{nat_tests}
use Rattle.bw_lang.specs.declared.token.TokenKind.{TokenKind}
use Rattle.bw_lang.specs.declared.token.TokenKind.TheVariants as kinds
use Rattle.bw_lex.specs.declared.pieces.Piece.TheVariants as pieces
use Rattle.bw_lex.specs.declared.pieces.StringByte.{StringByte}
use Rattle.bw_lex.specs.declared.pieces.StringByte.TheVariants as inside
use Rattle.bw_lang.specs.Text.TokenForms.{StandsFor, SpellsText}
use Rattle.bw_lex.specs.Pieces.{string_byte, string_at, string}
use Rattle.bw_lex.proofs.Strings.{stands_plain, stands_escaped, escapes_is, closes_is}

StandsFor-append : (c : ℕ) (bytes rest more : List ℕ) → StandsFor c bytes rest → StandsFor c (bytes ++ more) (rest ++ more)
StandsFor-append c bytes rest more (inl h) = inl (ap (λ l. l ++ more) h.0, h.1, h.2, h.3)
StandsFor-append c bytes rest more (inr (inl h)) = inr (inl (ap (λ l. l ++ more) h.0, h.1))
StandsFor-append c bytes rest more (inr (inr h)) = inr (inr (ap (λ l. l ++ more) h.0, h.1))

pub SpellsText-append : (text bytes rest more : List ℕ) → SpellsText text bytes rest → SpellsText text (bytes ++ more) (rest ++ more)
SpellsText-append [] bytes rest more h = ap (λ l. l ++ more) h
SpellsText-append (c ∷ text) bytes rest more h = (h.0 ++ more, StandsFor-append c bytes h.0 more h.1, SpellsText-append text h.0 rest more h.2)

-- The scan of a string goes over the bytes that stand for a byte of its text,
over_byte : (bad : Bool) (c : ℕ) (bytes rest text : List ℕ) (n : ℕ) → StandsFor c bytes rest
    → (m : ℕ) × (m + length rest ≡ n + length bytes) × (string bad false text n bytes ≡ string bad false (text ++ c ∷ []) m rest)
over_byte bad c bytes rest text n (inl h) =
    let stands : string_byte false c ≡ inside.Stands c = grind (arith, nat_tests, h.1, h.2, h.3) in (
      n + 1,
      omega (arith, ap length h.0),
      ap (string bad false text n) h.0
          ∙ ap (λ s. string_at s text n (λ c. string bad false (text ++ c ∷ []) (n + 1) rest) (string bad true text (n + 1) rest)) stands,
    )
over_byte bad c bytes rest text n (inr (inl h)) =
    let stands : string_byte true c ≡ inside.Stands c = grind (arith, nat_tests, h.1) in (
      n + 1 + 1,
      omega (arith, ap length h.0),
      ap (string bad false text n) h.0
          ∙ ap (λ s. string_at s text (n + 1) (λ c. string bad false (text ++ c ∷ []) (n + 1 + 1) rest) (string bad true text (n + 1 + 1) rest)) stands,
    )
over_byte bad c bytes rest text n (inr (inr h)) =
    (n + 1 + 1, omega (arith, ap length h.0), ap (string bad false text n) h.0 ∙ ap (λ c. string bad false (text ++ c ∷ []) (n + 1 + 1) rest) (sym h.1))

-- and over those that stand for a text
pub over_text : (bad : Bool) (more bytes rest text : List ℕ) (n : ℕ) → SpellsText more bytes rest
    → (m : ℕ) × (m + length rest ≡ n + length bytes) × (string bad false text n bytes ≡ string bad false (text ++ more) m rest)
over_text bad [] bytes rest text n h =
    (n, omega (arith, ap length h), ap (string bad false text n) h ∙ ap (λ t. string bad false t n rest) (sym (append-nil text)))
over_text bad (c ∷ more) bytes rest text n h =
    let first = over_byte bad c bytes h.0 text n h.1 in
    let others = over_text bad more h.0 rest (text ++ c ∷ []) first.0 h.2 in
    (others.0, omega (arith, first.1, others.1), first.2 ∙ others.2 ∙ ap (λ t. string bad false t others.0 rest) (append_assoc text (c ∷ []) more))

-- a string is read to its end
pub string-whole : (bad : Bool) (text inner rest : List ℕ) → SpellsText text inner (34 ∷ [])
    → string bad false [] 1 (inner ++ rest) ≡ pieces.Token (kinds.Str text) (suc (length inner))
string-whole bad text inner rest h =
    let over = over_text bad text (inner ++ rest) (34 ∷ rest) [] 1 (SpellsText-append text inner (34 ∷ []) rest h) in
    over.2 ∙ ap (pieces.Token (kinds.Str text)) (omega (arith, over.1, length-append inner rest))

abbrev pub behind : Bool → List ℕ → List ℕ
behind true bytes = 92 ∷ bytes
behind false bytes = bytes

-- what a string that is found is; escaped: a backslash stands in front of the bytes
pub record Found (escaped : Bool) (text : List ℕ) (n : ℕ) (bytes : List ℕ) (kind : TokenKind) (end : ℕ) : Type 0 where
  pub more : List ℕ
  pub inner : List ℕ
  pub rest : List ℕ
  pub is : kind ≡ kinds.Str (text ++ more)
  pub front : bytes ≡ inner ++ rest
  pub len : end ≡ n + length inner
  pub spelled : SpellsText more (behind escaped inner) (34 ∷ [])

pub stood : (escaped : Bool) (b c : ℕ) (inner : List ℕ) → string_byte escaped b ≡ inside.Stands c → StandsFor c (behind escaped (b ∷ inner)) inner
stood true b c inner e = elim (stands_escaped b c e) [
  | inl h ↦ inr (inl (ap (λ d. 92 ∷ d ∷ inner) (sym h.0), (elim h.1 [ inl q ↦ inl (h.0 ∙ q) | inr q ↦ inr (h.0 ∙ q) ])))
  | inr h ↦ inr (inr (ap (λ d. 92 ∷ d ∷ inner) h.0, h.1))
]
stood false b c inner e =
    let h = stands_plain b c e in
    inl (ap (λ d. d ∷ inner) (sym h.0), (λ q. h.1.0 (sym h.0 ∙ q)), (λ q. h.1.1 (sym h.0 ∙ q)), (λ q. h.1.2 (sym h.0 ∙ q)))

found_none : (escaped bad : Bool) (text : List ℕ) (n : ℕ) (kind : TokenKind) (end : ℕ) → string bad escaped text n [] ≡ pieces.Token kind end → ⊥
found_none true bad text n kind end e = cc
found_none false true text n kind end e = cc
found_none false false text n kind end e = cc

found_at : (s : StringByte) (escaped bad : Bool) (text : List ℕ) (n b : ℕ) (bytes : List ℕ) (kind : TokenKind) (end : ℕ) → string_byte escaped b ≡ s →
    ((c : ℕ) → string bad false (text ++ c ∷ []) (n + 1) bytes ≡ pieces.Token kind end → Found false (text ++ c ∷ []) (n + 1) bytes kind end) →
    (string bad true text (n + 1) bytes ≡ pieces.Token kind end → Found true text (n + 1) bytes kind end) →
    string_at s text n (λ c. string bad false (text ++ c ∷ []) (n + 1) bytes) (string bad true text (n + 1) bytes) ≡ pieces.Token kind end
    → Found escaped text n (b ∷ bytes) kind end
found_at (inside.Stands c) escaped bad text n b bytes kind end q stands escapes e =
    let f = stands c e in
    record {
      more = c ∷ f.more;
      inner = b ∷ f.inner;
      rest = f.rest;
      is = f.is ∙ ap (λ t. kinds.Str t) (append_assoc text (c ∷ []) f.more);
      front = ap (λ l. b ∷ l) f.front;
      len = omega (arith, f.len);
      spelled = (f.inner, stood escaped b c f.inner q, f.spelled);
    }
found_at inside.Escapes escaped bad text n b bytes kind end q stands escapes e =
    let f = escapes e in
    let h = escapes_is escaped b q in
    record {
      more = f.more;
      inner = b ∷ f.inner;
      rest = f.rest;
      is = f.is;
      front = ap (λ l. b ∷ l) f.front;
      len = omega (arith, f.len);
      spelled =
          subst (λ x. SpellsText f.more (behind x (b ∷ f.inner)) (34 ∷ [])) (sym h.0)
          (subst (λ d. SpellsText f.more (d ∷ f.inner) (34 ∷ [])) (sym h.1) f.spelled);
    }
found_at inside.Closes escaped bad text n b bytes kind end q stands escapes e =
    let h = closes_is escaped b q in
    let is : kind ≡ kinds.Str text = cc in
    let len : end ≡ n + 1 = cc in
    record {
      more = [];
      inner = b ∷ [];
      rest = bytes;
      is = is ∙ ap (λ t. kinds.Str t) (sym (append-nil text));
      front = refl;
      len = omega (arith, len);
      spelled = subst (λ x. behind x (b ∷ []) ≡ 34 ∷ []) (sym h.0) (ap (λ d. d ∷ []) h.1);
    }
found_at inside.BreaksLine escaped bad text n b bytes kind end q stands escapes e = absurd (cc)
found_at inside.NoEscape escaped bad text n b bytes kind end q stands escapes e = absurd (cc)

pub string-found : (bad escaped : Bool) (text : List ℕ) (n : ℕ) (bytes : List ℕ) (kind : TokenKind) (end : ℕ)
    → string bad escaped text n bytes ≡ pieces.Token kind end → Found escaped text n bytes kind end
string-found bad escaped text n [] kind end e = absurd (found_none escaped bad text n kind end e)
string-found bad escaped text n (b ∷ bytes) kind end e =
    found_at (string_byte escaped b) escaped bad text n b bytes kind end refl
    (λ c. string-found bad false (text ++ c ∷ []) (n + 1) bytes kind end) (string-found bad true text (n + 1) bytes kind end) e
