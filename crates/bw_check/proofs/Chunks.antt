-- The faults of pieces that are judged by chunks.
use Rattle.std.proofs.Common.{◌≡◌, ℕ, ◌+◌, ◌*◌, ◌/◌, ◌%◌, ◌<◌, ◌≤◌, List, [], ◌∷◌, ◌++◌, length, get_or, take, min, sym, ap, ◌∙◌, subst, arith}
use Rattle.std.proofs.Common.{add-zero, get_or-append-add, length-append}
use Rattle.std.proofs.Math.Nat.{zero-mul}
use Rattle.std.proofs.Math.Seq.{take-add}
use Rattle.std.proofs.lemmas.Grind.{div_ceil_times}
use Rattle.std.specs.Fork.{IsChunk}
use Rattle.std.specs.List.{All}
use Rattle.bw_faults.specs.declared.fault.Fault.{Fault}
use Rattle.bw_faults.specs.Lists.{Lists}
use Rattle.bw_faults.specs.Order.{fault_cmp}
use Rattle.bw_solve.specs.Sets.{merge}
use Rattle.bw_check.proofs.Some.{OfOne, of_both, of_none, of_all}

-- what holds of all elements holds of those of a chunk
pub all_of_chunk : (P : ℕ → Type 0) (xs : List ℕ) (size start : ℕ) (ys : List ℕ) → IsChunk xs size start ys → All P xs → All P ys
all_of_chunk P xs size start ys c all =
    λ k d lt. subst P (sym (c.elements k d lt)) (all (start + k) d (let b = c.in_bounds in omega (arith, b, lt)))

-- a loop over a list stands at x
pub in_turn : {X : Type 0} (xs : List X) (x : X) (rest all : List X) → all ≡ xs ++ x ∷ rest → (d : X) → (length xs < length all)
    × (get_or all (length xs) d ≡ x)
in_turn xs x rest all e d =
    let whole = ap length e in let parts = length-append xs (x ∷ rest) in (
      omega (arith, whole, parts),
      ap (λ l. get_or l (length xs) d) e ∙ ap (λ k. get_or (xs ++ x ∷ rest) k d) (sym (add-zero (length xs))) ∙ get_or-append-add xs (x ∷ rest) 0 d,
    )

-- of no chunk
pub of_no_chunk : (P : ℕ → Fault → Type 0) (ps : List ℕ) (size : ℕ) (l : List Fault) → l ≡ [] → Lists (OfOne P (take (0 * size) ps)) l
of_no_chunk P ps size l e = subst (λ k. Lists (OfOne P (take k ps)) l) (sym (zero-mul size)) (of_none P l e)

one_more : (n size : ℕ) → (n + 1) * size ≡ n * size + size
one_more n size = grind arith

-- of one chunk more
pub of_chunk : (P : ℕ → Fault → Type 0) (ps : List ℕ) (size n m : ℕ) (part : List ℕ) (a b l : List Fault) → m ≡ n + 1 → IsChunk ps size (n * size) part
    → l ≡ merge fault_cmp a b → Lists (OfOne P (take (n * size) ps)) a → Lists (OfOne P part) b → Lists (OfOne P (take (m * size) ps)) l
of_chunk P ps size n m part a b l e c j g h =
    let next : take (m * size) ps ≡ take (n * size) ps ++ part =
    ap (λ k. take (k * size) ps) e ∙ ap (λ k. take k ps) (one_more n size) ∙ take-add (n * size) size ps
    ∙ ap (λ ys. take (n * size) ps ++ ys) (sym c.value) in
    of_both P (take (n * size) ps) part (take (m * size) ps) a b l next j g h

-- of all chunks
pub of_chunks : (P : ℕ → Fault → Type 0) (ps : List ℕ) (size n : ℕ) (l : List Fault) → 0 < size → n ≡ length ps / size + min 1 (length ps % size)
    → Lists (OfOne P (take (n * size) ps)) l → Lists (OfOne P ps) l
of_chunks P ps size n l some e h =
    of_all P ps (n * size) l (subst (λ k. length ps ≤ k * size) (sym e) (div_ceil_times (length ps) size some).0) h
