-- A text is cut into the tokens that the scan finds, and in no other way.
use Rattle.std.proofs.Common.{Bool, ◌≡◌, ℕ, zero, suc, ◌+◌, ◌-◌, ◌≤◌, true, false, List, [], ◌∷◌, ◌++◌, length, take, drop, refl, sym, ap, ◌∙◌, subst}
use Rattle.std.proofs.Common.{arith, Result, Ok, Err, All, ◌⊎◌, inl, inr, IfOk, IfErr}
use Rattle.std.specs.Str.{IsUtf8, is_utf8}
use Rattle.std.specs.Str.Lossy.{utf8_valid_len, valid_len_up_to}
use Rattle.std.proofs.lemmas.Bool.{cases_lt, lt-ltb}
use Rattle.std.proofs.lemmas.Str.{IsUtf8-nil, IsUtf8-from_is_utf8}
use Rattle.std.proofs.lemmas.List.{length-append, length-drop, length-take-le, take-append-drop, take_all, drop_at}
use Rattle.bw_lang.specs.declared.token.Token.{Token}
use Rattle.bw_lang.specs.declared.token.TokenKind.{TokenKind}
use Rattle.bw_lex.specs.declared.LexFault.TheVariants as faults
use Rattle.bw_lex.specs.declared.pieces.Piece.{Piece}
use Rattle.bw_lex.specs.declared.pieces.Piece.TheVariants as pieces
use Rattle.bw_lang.specs.Text.Cuts.{IsLongest, Cuts, AreTokens, StandsIn}
use Rattle.bw_lex.specs.Laws.{IsCutOnce, IsReadExactly}
use Rattle.bw_lang.specs.Text.Cuts as cuts
use Rattle.bw_lang.specs.Text.TokenForms.{HasForm, IsHeld, IsGap}
use Rattle.bw_lex.specs.Pieces.{piece}
use Rattle.bw_lex.specs.Tokens.{scan, onto, with_rest, piece_len, Reading, tokens_of}
use Rattle.bw_lex.proofs.Branches.{if_branch}
use Rattle.bw_lex.proofs.Ends.{Ends, piece-ends}
use Rattle.bw_lex.proofs.Exact.{gap-exact, token-exact}
use Rattle.bw_lex.proofs.Longest.{longest}
use Rattle.bw_lex.proofs.Means.{piece-means}
use Rattle.bw_lex.proofs.Within.{form_has_bytes, all-within}
use Rattle.bw_lex.proofs.Passing.{scan-piece, scan-fault, whole}

-- a reading with a token in front is of tokens with that token in front
record Behind (token : Token) (rest : Reading) (tokens : List Token) : Type 0 where
  pub others : List Token
  pub read : rest ≡ Ok others
  pub is : tokens ≡ token ∷ others

behind : (token : Token) (rest : Reading) (tokens : List Token) → onto (token ∷ []) rest ≡ Ok tokens → Behind token rest tokens
behind token (Ok others) tokens e = let is : token ∷ others ≡ tokens = cc in record { others = others; read = refl; is = sym is }
behind token (Err fault) tokens e = absurd (cc)

-- the parts that a piece cuts bytes into
gap-cut : (at n : ℕ) (bytes : List ℕ) (tokens : List Token) → piece false bytes ≡ pieces.Gap n → 1 ≤ n → n ≤ length bytes
    → Cuts (at + n) (drop n bytes) tokens → Cuts at bytes tokens
gap-cut at n bytes tokens e some most rest =
    let own = take n bytes in
    let len : length own ≡ n = length-take-le n bytes most in
    let long = longest false bytes n (ap piece_len e) some most in
    subst (λ l. Cuts at l tokens) (take-append-drop n bytes)
    (cuts.gap at own (drop n bytes) tokens (piece-means false bytes (pieces.Gap n) e) long (subst (λ m. Cuts (at + m) (drop n bytes) tokens) (sym len) rest))

token-cut : (at n : ℕ) (kind : TokenKind) (bytes : List ℕ) (tokens : List Token) → piece false bytes ≡ pieces.Token kind n → 1 ≤ n → n ≤ length bytes
    → Cuts (at + n) (drop n bytes) tokens → Cuts at bytes (record { what = kind; start = at; end = at + n } ∷ tokens)
token-cut at n kind bytes tokens e some most rest =
    let own = take n bytes in
    let len : length own ≡ n = length-take-le n bytes most in
    let long = longest false bytes n (ap piece_len e) some most in
    let means : HasForm kind own × IsHeld kind = piece-means false bytes (pieces.Token kind n) e in
    subst (λ l. Cuts at l (record { what = kind; start = at; end = at + n } ∷ tokens)) (take-append-drop n bytes)
    (subst (λ m. Cuts at (own ++ drop n bytes) (record { what = kind; start = at; end = at + m } ∷ tokens)) len
    (cuts.token at kind own (drop n bytes) tokens means.0 means.1 long (subst (λ m. Cuts (at + m) (drop n bytes) tokens) (sym len) rest)))

-- the scan's tokens cut the bytes
step : (p : Piece) (at : ℕ) (b : ℕ) (bs : List ℕ) (tokens : List Token) → piece false (b ∷ bs) ≡ p → Ends p (length (b ∷ bs))
    → scan false 0 at (b ∷ bs) ≡ Ok tokens →
    ((at n : ℕ) (tokens : List Token) → 1 ≤ n → scan false 0 at (drop n (b ∷ bs)) ≡ Ok tokens → Cuts at (drop n (b ∷ bs)) tokens) → Cuts at (b ∷ bs) tokens
step (pieces.Gap n) at b bs tokens e ends read rest =
    gap-cut at n (b ∷ bs) tokens e ends.0 ends.1
    (rest (at + n) n tokens ends.0 (sym (scan-piece false at n (b ∷ bs) (pieces.Gap n) e refl ends.0 ends.1) ∙ read))
step (pieces.Token kind n) at b bs tokens e ends read rest =
    let f =
    behind (record { what = kind; start = at; end = at + n }) (scan false 0 (at + n) (drop n (b ∷ bs))) tokens
    (sym (scan-piece false at n (b ∷ bs) (pieces.Token kind n) e refl ends.0 ends.1) ∙ read) in
    subst (Cuts at (b ∷ bs)) (sym f.is) (token-cut at n kind (b ∷ bs) f.others e ends.0 ends.1 (rest (at + n) n f.others ends.0 f.read))
step (pieces.Fault kind n) at b bs tokens e ends read rest =
    let fault = sym (scan-fault false at n (b ∷ bs) kind e (omega arith)) ∙ read in
    absurd (cc)

cut : (most at : ℕ) (bytes : List ℕ) (tokens : List Token) → length bytes ≤ most → scan false 0 at bytes ≡ Ok tokens → Cuts at bytes tokens
unfolding scan
cut most at [] tokens h e = let none : [] ≡ tokens = cc in subst (Cuts at []) none (cuts.nothing at)
cut zero at (b ∷ bs) tokens h e = absurd (omega (arith, h))
cut (suc most) at (b ∷ bs) tokens h e =
    step (piece false (b ∷ bs)) at b bs tokens refl (piece-ends false (b ∷ bs)) e
    (λ at n tokens some read. cut most at (drop n (b ∷ bs)) tokens (omega (arith, h, some, length-drop n (b ∷ bs))) read)

-- a piece that stands at the front is scanned as it is cut
pub gap_has_bytes : (own : List ℕ) → IsGap own → 1 ≤ length own
gap_has_bytes own (inl h) = omega (arith, ap length h.1)
gap_has_bytes own (inr h) = omega (arith, ap length h.1)

pub scanned : (bad : Bool) (at : ℕ) (own rest : List ℕ) (p : Piece) → piece bad (own ++ rest) ≡ p → piece_len p ≡ length own → 1 ≤ length own
    → scan bad 0 at (own ++ rest) ≡ with_rest at p (scan bad 0 (at + length own) rest)
scanned bad at own rest p e l some =
    scan-piece bad at (length own) (own ++ rest) p e l some (omega (arith, length-append own rest))
    ∙ ap (λ r. with_rest at p (scan bad 0 (at + length own) r)) (drop_at own rest (length own) refl)

read : (at : ℕ) (bytes : List ℕ) (tokens : List Token) → Cuts at bytes tokens → scan false 0 at bytes ≡ Ok tokens
unfolding scan
read at bytes tokens (cuts.nothing n) = refl
read at bytes tokens (cuts.gap n own rest ts form long others) =
    scanned false n own rest (pieces.Gap (length own)) (gap-exact false own rest form long) refl (gap_has_bytes own form)
    ∙ read (n + length own) rest ts others
read at bytes tokens (cuts.token n kind own rest ts form held long others) =
    scanned false n own rest (pieces.Token kind (length own)) (token-exact false kind own rest form held long) refl (form_has_bytes kind own form)
    ∙ ap (onto (record { what = kind; start = n; end = n + length own } ∷ [])) (read (n + length own) rest ts others)

pub read-cuts : (bytes : List ℕ) (tokens : List Token) → AreTokens bytes tokens → tokens_of bytes ≡ Ok tokens
read-cuts bytes tokens h = whole bytes h.0 ∙ read 0 bytes tokens h.1

pub cut_once : IsCutOnce
cut_once bytes tokens others h g =
    let e = sym (read-cuts bytes tokens h) ∙ read-cuts bytes others g in
    cc

-- nothing is read where a bad byte follows
none_read : (p : Piece) (at : ℕ) (rest : Reading) (tokens : List Token) → ((tokens : List Token) → rest ≡ Ok tokens → ⊥) → with_rest at p rest ≡ Ok tokens → ⊥
none_read (pieces.Gap n) at rest tokens h e = h tokens e
none_read (pieces.Token kind n) at rest tokens h e = let f = behind (record { what = kind; start = at; end = at + n }) rest tokens e in h f.others f.read
none_read (pieces.Fault kind n) at rest tokens h e = cc

pub bad-reads-nothing : (inner at : ℕ) (bytes : List ℕ) (tokens : List Token) → scan true inner at bytes ≡ Ok tokens → ⊥
unfolding scan
bad-reads-nothing inner at [] tokens e = cc
bad-reads-nothing (suc inner) at (b ∷ bs) tokens e = bad-reads-nothing inner (at + 1) bs tokens e
bad-reads-nothing zero at (b ∷ bs) tokens e =
    none_read (piece true (b ∷ bs)) at (scan true (piece_len (piece true (b ∷ bs)) - 1) (at + 1) bs) tokens
    (bad-reads-nothing (piece_len (piece true (b ∷ bs)) - 1) (at + 1) bs) e

-- the front that is counted as UTF-8 is UTF-8
pub front_is_text : (bs : List ℕ) (n : ℕ) → IsUtf8 (take (valid_len_up_to bs n) bs)
front_is_text bs zero = IsUtf8-nil
front_is_text bs (suc n) =
    if_branch (λ m. IsUtf8 (take m bs)) (is_utf8 (take (suc n) bs)) _ _ (λ h. IsUtf8-from_is_utf8 (take (suc n) bs) h) (λ h. front_is_text bs n)

pub is_text : (bytes : List ℕ) → length bytes ≤ utf8_valid_len bytes → IsUtf8 bytes
unfolding utf8_valid_len
is_text bytes h = subst IsUtf8 (take_all (utf8_valid_len bytes) bytes h) (front_is_text bytes (length bytes))

pub tokens-found : (bytes : List ℕ) (tokens : List Token) → tokens_of bytes ≡ Ok tokens → AreTokens bytes tokens
tokens-found bytes tokens e = elim (cases_lt (utf8_valid_len bytes) (length bytes)) [
  | inl h ↦
      absurd (bad-reads-nothing 0 0 (take (utf8_valid_len bytes) bytes) tokens
      (ap (λ bad. scan bad 0 0 (take (utf8_valid_len bytes) bytes)) (sym (lt-ltb _ _ h)) ∙ e))
  | inr h ↦
      let text = is_text bytes h in
      (text, cut (length bytes) 0 bytes tokens (omega arith) (sym (whole bytes text) ∙ e))
]

pub read_exactly : IsReadExactly
read_exactly bytes tokens = (read-cuts bytes tokens, tokens-found bytes tokens)

-- what that says of an answer
pub if_tokens : {X : Type 0} (answer : Result (List Token) X) (bytes : List ℕ) → IfOk answer (λ tokens. tokens_of bytes ≡ Ok tokens)
    → IfOk answer (λ tokens. AreTokens bytes tokens)
if_tokens (Ok tokens) bytes h = tokens-found bytes tokens h
if_tokens (Err fault) bytes h = h

pub if_within : {X : Type 0} (answer : Result (List Token) X) (bytes : List ℕ) → IfOk answer (λ tokens. tokens_of bytes ≡ Ok tokens)
    → IfOk answer (λ tokens. All (StandsIn bytes) tokens)
if_within (Ok tokens) bytes h = all-within bytes tokens (tokens-found bytes tokens h)
if_within (Err fault) bytes h = h

pub if_only : (answer : Reading) (bytes : List ℕ) → IfOk answer (λ tokens. tokens_of bytes ≡ Ok tokens)
    → IfErr answer (λ fault. (fault ≡ faults.Memory) ⊎ (tokens_of bytes ≡ Err fault)) → (tokens : List Token) → AreTokens bytes tokens
    → (answer ≡ Err faults.Memory) ⊎ (answer ≡ Ok tokens)
if_only (Ok found) bytes h g tokens are = let e = read-cuts bytes tokens are in inr (sym h ∙ e)
if_only (Err fault) bytes h (inl g) tokens are = inl (ap (λ f. Err f) g)
if_only (Err fault) bytes h (inr g) tokens are = let e = read-cuts bytes tokens are in absurd (cc)
