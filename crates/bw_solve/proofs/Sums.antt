-- Sums over cells when one of them changes.
use Rattle.std.proofs.Common.{◌≡◌, ℕ, min, zero, suc, ◌+◌, ◌-◌, ◌*◌, ◌<◌, ◌≤◌, ◌≢◌, refl, inl, inr, arith}
use Rattle.std.proofs.lemmas.Bool.{cases_eq}
use Rattle.std.proofs.Math.Nat.{mul-le-mul_left}
use Rattle.bw_solve.specs.System.{added}

pub added_le : (a b : ℕ → ℕ) (k : ℕ) → ((d : ℕ) → d < k → a d ≤ b d) → added a k ≤ added b k
added_le a b zero h = omega arith
added_le a b (suc k) h = omega (arith, added_le a b k (λ d l. h d (omega arith)), h k (omega arith))

pub added_at : (a : ℕ → ℕ) (k at : ℕ) → at < k → a at ≤ added a k
added_at a zero at h = absurd (omega arith)
added_at a (suc k) at h = elim (cases_eq at k) [
  | inl same ↦ rw same (omega arith)
  | inr other ↦ omega (arith, added_at a k at (omega arith))
]

pub added_same : (a b : ℕ → ℕ) (k : ℕ) → ((d : ℕ) → d < k → a d ≡ b d) → added a k ≡ added b k
added_same a b zero h = refl
added_same a b (suc k) h = omega (arith, added_same a b k (λ d l. h d (omega arith)), h k (omega arith))

pub added_move : (a b : ℕ → ℕ) (k at : ℕ) → at < k → ((d : ℕ) → d ≢ at → a d ≡ b d) → added a k + b at ≡ added b k + a at
added_move a b zero at h others = absurd (omega arith)
added_move a b (suc k) at h others = elim (cases_eq at k) [
  | inl same ↦ rw same (omega (arith, added_same a b k (λ d l. others d (omega arith))))
  | inr other ↦ omega (arith, added_move a b k at (omega arith) others, others k (omega arith))
]

-- the work left falls where a gap closes, although the cells to look at become more
pub work_falls : (gaps less most pending more : ℕ) → less < gaps → more < pending + most → less * most + more < gaps * most + pending
work_falls gaps less most pending more h m = omega (arith, mul-le-mul_left most (let q : less + 1 ≤ gaps = omega arith in q))

pub added_more : (a : ℕ → ℕ) (k n : ℕ) → k ≤ n → added a k ≤ added a n
added_more a k zero h = rw (let e : k ≡ 0 = omega arith in e) (omega arith)
added_more a k (suc n) h = elim (cases_eq k (suc n)) [
  | inl same ↦ rw same (omega arith)
  | inr other ↦ omega (arith, added_more a k n (omega arith))
]

pub added_next : (a : ℕ → ℕ) (k n : ℕ) → k < n → added a k + a k ≤ added a n
added_next a k n h = added_more a (suc k) n (omega arith)

-- the counted total after a change, where sizes are counted up to a greatest number
pub moved_le : (total mf mg sv so rv ro limit top : ℕ) → total ≡ mf → mg + so ≡ mf + sv → rv ≡ min sv top → ro ≡ min so top → so ≤ sv → so ≤ mf
    → total ≤ limit → limit < top → total + (rv - ro) ≤ mg
moved_le total mf mg sv so rv ro limit top a b d e h k l m = omega arith

pub moved_total : (total mf mg sv so rv ro limit top : ℕ) → total ≡ mf → mg + so ≡ mf + sv → rv ≡ min sv top → ro ≡ min so top → so ≤ sv → so ≤ mf
    → total ≤ limit → limit < top → total + (rv - ro) ≤ limit → total + (rv - ro) ≡ mg
moved_total total mf mg sv so rv ro limit top a b d e h k l m n = omega arith

pub min_grows : (a b x y top : ℕ) → x ≡ min a top → y ≡ min b top → a ≤ b → x ≤ y
min_grows a b x y top p q h = omega arith
