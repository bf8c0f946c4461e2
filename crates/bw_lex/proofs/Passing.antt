-- What the rest reads as behind a piece.
use Rattle.std.proofs.Common.{◌≡◌, ℕ, zero, suc, ◌+◌, ◌-◌, ◌<◌, ◌≤◌, Bool, true, false, List, [], ◌∷◌, ◌++◌, length, take, drop, refl, sym, ap, ◌∙◌}
use Rattle.std.proofs.Common.{subst, arith, Ok, Err, nat_lt}
use Rattle.std.specs.Str.{IsUtf8}
use Rattle.std.specs.Str.Lossy.{utf8_valid_len}
use Rattle.std.proofs.lemmas.List.{length-drop, drop-drop, take_rest, take_all, append_assoc, append-nil}
use Rattle.std.proofs.lemmas.Str.{utf8_valid_len-IsUtf8}
use Rattle.std.proofs.lemmas.Bool.{le-ltb, lt-ltb}
use Rattle.bw_lang.specs.declared.token.Token.{Token}
use Rattle.bw_lex.specs.declared.LexFault.TheVariants as faults
use Rattle.bw_lex.specs.declared.pieces.FaultKind.{FaultKind}
use Rattle.bw_lex.specs.declared.pieces.Piece.{Piece}
use Rattle.bw_lex.specs.declared.pieces.Piece.TheVariants as pieces
use Rattle.bw_lex.specs.Pieces.{piece}
use Rattle.bw_lex.proofs.Ends.{Ends, piece-ends}
use Rattle.bw_lex.specs.Tokens.{scan, with_rest, piece_len, fault_at, onto, Reading, tokens_of}

-- the bytes that belong to a piece are passed over
pub pass : (bad : Bool) (k at : ℕ) (bs : List ℕ) → k ≤ length bs → scan bad k at bs ≡ scan bad 0 (at + k) (drop k bs)
unfolding scan
pass bad zero at bs h = ap (λ n. scan bad 0 n bs) (omega arith)
pass bad (suc k) at [] h = absurd (omega arith)
pass bad (suc k) at (b ∷ bs) h = pass bad k (at + 1) bs (omega arith) ∙ ap (λ n. scan bad 0 n (drop k bs)) (omega arith)

-- a piece, and what stands behind it
pub scan-piece : (bad : Bool) (at n : ℕ) (bs : List ℕ) (p : Piece) → piece bad bs ≡ p → piece_len p ≡ n → 1 ≤ n → n ≤ length bs
    → scan bad 0 at bs ≡ with_rest at p (scan bad 0 (at + n) (drop n bs))
unfolding scan
scan-piece bad at n [] p e l some within = absurd (omega arith)
scan-piece bad at zero (b ∷ bs) p e l some within = absurd (omega arith)
scan-piece bad at (suc n) (b ∷ bs) p e l some within =
    ap (λ q. with_rest at q (scan bad (piece_len q - 1) (at + 1) bs)) e
    ∙ ap (λ m. with_rest at p (scan bad m (at + 1) bs)) (omega (arith, l))
    ∙ ap (with_rest at p) (pass bad n (at + 1) bs (omega arith) ∙ ap (λ m. scan bad 0 m (drop n bs)) (omega arith))

pub scan-fault : (bad : Bool) (at n : ℕ) (bs : List ℕ) (k : FaultKind) → piece bad bs ≡ pieces.Fault k n → 0 < length bs
    → scan bad 0 at bs ≡ Err (fault_at k (at + n))
unfolding scan
scan-fault bad at n [] k e some = absurd (omega arith)
scan-fault bad at n (b ∷ bs) k e some = ap (λ q. with_rest at q (scan bad (piece_len q - 1) (at + 1) bs)) e

pub onto-onto : (ts us : List Token) (r : Reading) → onto ts (onto us r) ≡ onto (ts ++ us) r
onto-onto ts us (Ok vs) = ap (λ l. Ok l) (sym (append_assoc ts us vs))
onto-onto ts us (Err e) = refl

pub end_bad : (at : ℕ) (ts : List Token) → onto ts (scan true 0 at []) ≡ Err (faults.BadByte at)
unfolding scan
end_bad at ts = refl

pub end_good : (at : ℕ) (ts : List Token) → onto ts (scan false 0 at []) ≡ Ok ts
unfolding scan
end_good at ts = ap (λ l. Ok l) (append-nil ts)

-- the bytes from a place on, as the code cuts them off
abbrev pub from : ℕ → List ℕ → List ℕ
from at bs = take (length bs - at) (drop at bs)

from_len : (at : ℕ) (bs : List ℕ) → length (from at bs) ≡ length bs - at
from_len at bs = ap length (take_rest bs at) ∙ length-drop at bs

-- a piece at a place ends within the bytes,
pub ends_there : (bad : Bool) (at : ℕ) (bs : List ℕ) (p q : Piece) → p ≡ piece bad (from at bs) → p ≡ q → Ends q (length bs - at)
ends_there bad at bs p q e f =
    subst (Ends q) (from_len at bs) (subst (λ q. Ends q (length (from at bs))) (sym e ∙ f) (piece-ends bad (from at bs)))

-- and then the scan goes on behind it, or ends with its fault
pub goes_on : (bad : Bool) (at n : ℕ) (bs : List ℕ) (p q : Piece) → p ≡ piece bad (from at bs) → p ≡ q → piece_len q ≡ n → 1 ≤ n → n ≤ length bs - at
    → scan bad 0 at (drop at bs) ≡ with_rest at q (scan bad 0 (at + n) (drop (at + n) bs))
goes_on bad at n bs p q e f l some most =
    scan-piece bad at n (drop at bs) q (ap (piece bad) (sym (take_rest bs at)) ∙ sym e ∙ f) l some (omega (arith, length-drop at bs))
    ∙ ap (λ l. with_rest at q (scan bad 0 (at + n) l)) (drop-drop n at bs)

pub stops : (bad : Bool) (at n : ℕ) (bs : List ℕ) (p : Piece) (k : FaultKind) → at < length bs → p ≡ piece bad (from at bs) → p ≡ pieces.Fault k n
    → scan bad 0 at (drop at bs) ≡ Err (fault_at k (at + n))
stops bad at n bs p k h e f =
    scan-fault bad at n (drop at bs) k (ap (piece bad) (sym (take_rest bs at)) ∙ sym e ∙ f) (omega (arith, length-drop at bs))

-- a text that is UTF-8 to its end
pub whole : (bs : List ℕ) → IsUtf8 bs → tokens_of bs ≡ scan false 0 0 bs
whole bs u =
    let e = utf8_valid_len-IsUtf8 bs u in
    (λ i. scan (nat_lt (e i) (length bs)) 0 0 (take (e i) bs))
    ∙ (λ i. scan (le-ltb (length bs) (length bs) (omega arith) i) 0 0 (take_all (length bs) bs (omega arith) i))

-- one that is cut off at a bad byte
pub cut_off : (bs : List ℕ) (n : ℕ) → n ≡ utf8_valid_len bs → n < length bs → scan true 0 0 (take n bs) ≡ tokens_of bs
cut_off bs n e h =
    (λ i. scan (sym (lt-ltb n (length bs) h) i) 0 0 (take n bs)) ∙ ap (λ m. scan (nat_lt m (length bs)) 0 0 (take m bs)) e
