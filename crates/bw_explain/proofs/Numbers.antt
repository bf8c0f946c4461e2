-- Sums of sizes.
use Rattle.std.proofs.Common.{◌≡◌, ◌⊎◌, inl, inr, ℕ, ◌+◌, ◌<◌, ◌≤◌, min, Bool, true, false, refl, arith}
use Rattle.std.proofs.lemmas.Bool.{false≢true}
use Rattle.bw_explain.specs.declared.sizes.TheConstants.{MAX_SIZE, PAST}
use Rattle.bw_explain.specs.Sizes.{plus, capped, if_so}

split : (a : ℕ) → (a ≤ PAST) ⊎ (PAST < a)
split a = grind arith

plus_small : (a b : ℕ) → a ≤ PAST → b ≤ PAST → plus a b ≡ min (a + b) PAST
plus_small a b h k = omega arith

pub plus-capped : (a b : ℕ) → plus (capped a) (capped b) ≡ capped (a + b)
plus-capped a b = omega arith

pub plus_up : (a b c d : ℕ) → a ≤ c → b ≤ d → plus a b ≤ plus c d
plus_up a b c d h k = omega arith

pub plus_exact : (a b : ℕ) → plus a b ≤ MAX_SIZE → plus a b ≡ a + b
plus_exact a b h = omega arith

pub left_of : (a b c : ℕ) → MAX_SIZE ≤ c → plus a b ≤ c → c ≤ PAST → a ≤ c
left_of a b c k h l = omega arith

pub right_of : (a b c : ℕ) → MAX_SIZE ≤ c → plus a b ≤ c → c ≤ PAST → b ≤ c
right_of a b c k h l = omega arith

pub min_left : (a b : ℕ) → min a b ≤ a
min_left a b = omega arith

pub min_right : (a b : ℕ) → min a b ≤ b
min_right a b = omega arith

pub trans : (a b c : ℕ) → a ≤ b → b ≤ c → a ≤ c
trans a b c h k = omega arith

pub same_le : (a : ℕ) → a ≤ a
same_le a = omega arith

pub weaker : (v p b s : ℕ) → v ≤ p → min p b ≤ s → min v b ≤ s
weaker v p b s h k = omega arith

pub bound : (v b s : ℕ) → v ≤ s → min v b ≤ s
bound v b s h = omega arith

pub least_is : (a b : ℕ) → (min a b ≡ a) ⊎ (min a b ≡ b)
least_is a b = elim (order a b) [ inl h ↦ inl (omega arith) | inr h ↦ inr (omega arith) ]
  where
    order : (a b : ℕ) → (a ≤ b) ⊎ (b ≤ a)
    order a b = grind arith

pub if_true : (b : Bool) (v : ℕ) → b ≡ true → if_so b v ≡ v
if_true true v h = refl
if_true false v h = absurd (false≢true h)

pub if_there : (b : Bool) (v : ℕ) → if_so b v ≤ PAST → (b ≡ true) × (if_so b v ≡ v)
if_there true v h = (refl, refl)
if_there false v h = absurd (omega arith)

-- with a bound, which a sum keeps
pub bounded_sum : (p q b s t : ℕ) → min p b ≤ capped s → min q b ≤ capped t → min (plus p q) b ≤ capped (s + t)
bounded_sum p q b s t h k = elim (split p) [
  | inr pb ↦ let c : b ≤ capped s = omega arith in omega arith
  | inl ps ↦ elim (split q) [
    | inr qb ↦ let c : b ≤ capped t = omega arith in omega arith
    | inl qs ↦ bounded (plus p q) p q b s t (plus_small p q ps qs) h k
  ]
]
  where
    bounded : (x p q b s t : ℕ) → x ≡ min (p + q) PAST → min p b ≤ capped s → min q b ≤ capped t → min x b ≤ capped (s + t)
    bounded x p q b s t e h k = omega arith

pub high_sum : (v r e d x : ℕ) → capped e ≤ v → capped d ≤ r → x ≡ e + d → capped x ≤ plus v r
high_sum v r e d x h k q = let c = plus_up (capped e) (capped d) v r h k in let e = plus-capped e d in omega (arith, c, e, q)

-- the size of an element by those of its attributes and items
pub own_low : (own v len j : ℕ) → own ≤ capped len → v ≤ capped j → plus (plus 1 own) v ≤ capped (1 + len + j)
own_low own v len j h k =
    let a = plus_up (plus 1 own) v (plus (capped 1) (capped len)) (capped j) (plus_up 1 own (capped 1) (capped len) (omega arith) h) k in
    let e = plus-capped 1 len in
    let f = plus-capped (1 + len) j in
    joined (plus (plus 1 own) v) (plus (capped 1) (capped len)) (capped (1 + len)) (capped j) (capped (1 + len + j)) a e f
  where
    joined : (w p q j s : ℕ) → w ≤ plus p j → p ≡ q → plus q j ≡ s → w ≤ s
    joined w p q j s a e f = rw (← f, ← e) a

pub own_high : (own v len j : ℕ) → capped len ≤ own → capped j ≤ v → capped (1 + len + j) ≤ plus (plus 1 own) v
own_high own v len j h k = high_sum (plus 1 own) v (1 + len) j (1 + len + j) (high_sum 1 own 1 len (1 + len) (omega arith) h refl) k refl

pub own_exact : (own v len j : ℕ) → plus (plus 1 own) v ≤ MAX_SIZE → own ≡ capped len → j ≤ v → 1 + len + j ≤ plus (plus 1 own) v
own_exact own v len j h e k =
    let a = plus_exact (plus 1 own) v h in
    let b = left_of (plus 1 own) v MAX_SIZE (omega arith) h (omega arith) in
    let c = plus_exact 1 own b in
    sized (plus (plus 1 own) v) (plus 1 own) own v len j a c b e k
  where
    sized : (w p own v len j : ℕ) → w ≡ p + v → p ≡ 1 + own → p ≤ MAX_SIZE → own ≡ capped len → j ≤ v → 1 + len + j ≤ w
    sized w p own v len j a c b e k = omega arith
