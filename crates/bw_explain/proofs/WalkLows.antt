-- The least sizes of a walk are below those of all such documents.
use Rattle.std.proofs.Common.{◌≡◌, ◌⊎◌, inl, inr, ℕ, ◌+◌, ◌-◌, ◌≤◌, ◌==◌, min, Bool, true, false, ◌&&◌, List, length, refl, sym, subst, arith}
use Rattle.std.proofs.lemmas.Bool.{and_from, or_left, or_right, eq-eqb}
use Rattle.bw_lang.specs.declared.items.Attr.{Attr}
use Rattle.bw_lang.specs.Document.Forest.{Forest}
use Rattle.bw_lang.specs.Document.Documents.{append, elements}
use Rattle.bw_shape.specs.Nodes.Templates.{template_at}
use Rattle.bw_sum.specs.Graph.{Graph}
use Rattle.bw_sum.specs.Unfolding.{FillsAttrs, Fills}
use Rattle.bw_explain.specs.declared.reach.Reach.{Reach}
use Rattle.bw_explain.specs.Ways.{way_of, ways_at, graph}
use Rattle.bw_explain.specs.Sizes.{size, capped, plus, if_so, is_said, is_loose, attrs_least}
use Rattle.bw_explain.specs.Walks.{Aim, takes, is_spot, is_wordy, Runs, nothing, both, words, left, said, led, beside, inside, here, known_at, Walk}
use Rattle.bw_explain.specs.Walks.{plain_walk, from, at, after, text_cost, says_wordy, gap_cost, deep_cost, element_cost, walk}
use Rattle.bw_explain.proofs.Numbers.{min_left, min_right, trans, same_le, weaker, bound, if_true, bounded_sum, own_low}
use Rattle.bw_explain.proofs.Filling.{size-append, said_low, wordy_low, led_low, attrs_low}
use Rattle.bw_explain.proofs.Runs.{stay_takes, takes_up, takes_rises, rises}
use Rattle.bw_explain.proofs.WalkLaws.{walk-append, then_low, from_at, element_top, element_deep}

if_low : (b : Bool) (v s : ℕ) → b ≡ true → v ≤ s → if_so b v ≤ s
if_low b v s h l = let e = if_true b v h in omega (arith, e, l)

more_none : (v s : ℕ) → v ≤ capped s → v ≤ capped (s + 0)
more_none v s h = omega arith

bound_none : (v b s : ℕ) → min v b ≤ capped s → min v b ≤ capped (s + 0)
bound_none v b s h = omega arith

known_bound : (k b v s : ℕ) → b ≤ v → min v b ≤ capped (0 + s) → min k b ≤ capped s
known_bound k b v s h q = omega arith

none_before : (v b s : ℕ) → min v b ≤ capped (0 + s) → min v b ≤ capped s
none_before v b s h = omega arith

pub begin_low : (v b : ℕ) → v ≡ 0 → min v b ≤ capped 0
begin_low v b e = omega arith

module _ (templates : List Forest) (u : Walk) (X Y : ℕ) (most : Y ≤ 2) (zero_at : u.aim.deep ≡ true → X ≡ 0) where
  abbrev T : ℕ → Forest
  T n = template_at templates n

  abbrev G : Graph
  G = graph u.nodes

  abbrev A : Aim
  A = u.aim

  module _ (B : ℕ)
      (plain_low : u.aim.deep ≡ false → (n : ℕ) (t d : Forest) → Fills T G n t d → (walk (plain_walk u.nodes u.plain) n 0 (from 0) t).start ≤ capped (size d))
      (cost_low : (b : List Attr) (j : Forest) → FillsAttrs G A.template A.attrs b → Fills T G A.template A.inner j → A.good b j ≡ true
      → u.cost ≤ capped (1 + length b + size j))
      (known_low : (x y m : ℕ) → X ≤ x → x ≤ y → y ≤ Y → ((d : Forest) → Runs T G A m 0 x (T m) y d → known_at u.known x y m ≤ capped (size d))
      ⊎ (B ≤ at (walk u m 0 (from x) (T m)) y)) where
    item_low : (r : Reach) (f : ℕ → ℕ → ℕ) (x y s t : ℕ) → x ≤ y → y ≤ Y → min (at r x) B ≤ capped s → min (f x y) B ≤ capped t
        → min (at (after r f) y) B ≤ capped (s + t)
    item_low r f x y s t h k p q = weaker (at (after r f) y) (plus (at r x) (f x y)) B (capped (s + t)) (then_low r f x y h (trans y Y 2 k most))
        (bounded_sum (at r x) (f x y) B s t p q)

    pub runs_low : {n k x y : ℕ} {t d : Forest} → Runs T G A n k x t y d → X ≤ x → y ≤ Y → (r : Reach) (s : ℕ) → min (at r x) B ≤ capped s
        → min (at (walk u n k r t) y) B ≤ capped (s + size d)
    runs_low (nothing {x = x}) lo hi r s h = bound_none (at r x) B s h
    runs_low {n = n} {k = k} (both {y = y} {p = p} {t = t} {d = d} {e = e} a b) lo hi r s h =
        let za = rises T G A a in
        let zb = rises T G A b in
        let c = size-append d e in
        subst (λ v. min (at v y) B ≤ capped (s + size (append d e))) (sym (walk-append u n k r p t))
        (subst (λ w. min (at (walk u n (k + elements p) (walk u n k r p) t) y) B ≤ capped w)
        (let q : s + size d + size e ≡ s + size (append d e) = omega (arith, c) in q)
        (runs_low b (omega (arith, lo, za)) hi (walk u n k r p) (s + size d) (runs_low a lo (omega (arith, hi, zb)) r s h)))
    runs_low (words {x = x} {y = y} {s = w} h) lo hi r s k = item_low r (text_cost A w) x y s 1 (takes_rises x y _ _ h) hi k
        (bound _ B 1 (if_low (takes x y true (is_wordy A w)) 1 1 h (same_le 1)))
    runs_low {n = n} (left {x = x} {g = g} l) lo hi r s k =
        let w = way_of (ways_at u.nodes n) g in
        item_low r (gap_cost u w) x x s 1 (same_le x) hi k (bound (gap_cost u w x x) B 1 (trans _ _ 1 (min_left _ _)
        (if_low (takes x x (is_loose w) (says_wordy A w)) 1 1 (stay_takes x _ _ (or_left w.is_open _ l)) (same_le 1))))
    runs_low {n = n} (said {x = x} {y = y} {g = g} {s = c} l h) lo hi r s k =
        let w = way_of (ways_at u.nodes n) g in
        item_low r (gap_cost u w) x y s 1 (takes_rises x y _ _ h) hi k (bound (gap_cost u w x y) B 1 (trans _ _ 1 (min_left _ _)
        (if_low (takes x y (is_loose w) (says_wordy A w)) 1 1
        (takes_up x y _ _ _ _ (λ e. or_right w.is_open (is_said w) (said_low w c l)) (λ e. wordy_low A w c l e) h) (same_le 1))))
    runs_low {n = n} (led {x = x} {y = y} {g = g} {m = m} {e = e} l q) lo hi r s k =
        let w = way_of (ways_at u.nodes n) g in
        let c = known_at u.known x y m in
        let z = rises T G A q in
        let v : min c B ≤ capped (size e) = elim (known_low x y m lo z hi) [
          | inl p ↦ bound c B (capped (size e)) (p e q)
          | inr b ↦ known_bound c B (at (walk u m 0 (from x) (T m)) y) (size e) b
              (runs_low q lo hi (from x) 0 (begin_low (at (from x) x) B (from_at x (omega (arith, z, hi, most)))))
        ] in
        item_low r (gap_cost u w) x y s (size e) z hi k
        (weaker (gap_cost u w x y) c B (capped (size e)) (trans _ _ c (min_right _ _) (led_low (known_at u.known x y) w.led m l)) v)
    runs_low {n = n} {k = k} (beside {x = x} {y = y} {tag = tag} {a = a} {b = b} {i = i} {j = j} o h q f) lo hi r s p =
        let own = attrs_least (ways_at u.nodes n) a in
        let inner = walk u n (k + 1) (from 0) i in
        let v = (walk (plain_walk u.nodes u.plain) n 0 (from 0) i).start in
        let F = element_cost A n (k + 1) tag (plus 1 own) inner u.cost v in
        item_low r F x y s (1 + length b + size j + 0) (takes_rises x y _ _ h) hi p
        (bound (F x y) B (capped (1 + length b + size j + 0)) (more_none (F x y) (1 + length b + size j)
        (subst (λ z. z ≤ capped (1 + length b + size j)) (sym (element_top A n (k + 1) tag (plus 1 own) inner u.cost v x y o))
        (if_low (takes x y (A.stays tag) (A.next x tag)) (plus (plus 1 own) v) (capped (1 + length b + size j)) h
        (own_low own v (length b) (size j) (let e = attrs_low u.nodes q in omega (arith, e)) (plain_low o n i j f))))))
    runs_low {n = n} {k = k} (inside {x = x} {z = z} {tag = tag} {a = a} {b = b} {i = i} {j = j} o q f) lo hi r s p =
        let own = attrs_least (ways_at u.nodes n) a in
        let inner = walk u n (k + 1) (from 0) i in
        let v = (walk (plain_walk u.nodes u.plain) n 0 (from 0) i).start in
        let F = element_cost A n (k + 1) tag (plus 1 own) inner u.cost v in
        let e : (x + z) - x ≡ z = omega arith in
        let zero_is = zero_at o in
        let h = runs_low f (omega (arith, zero_is)) (omega (arith, hi)) (from 0) 0 (begin_low (at (from 0) 0) B refl) in
        item_low r F x (x + z) s (1 + length b + size j + 0) (omega arith) hi p
        (bound_none (F x (x + z)) B (1 + length b + size j)
        (subst (λ y. min y B ≤ capped (1 + length b + size j)) (sym (element_deep A n (k + 1) tag (plus 1 own) inner u.cost v x (x + z) o))
        (weaker (deep_cost A n (k + 1) (plus 1 own) inner u.cost x (x + z)) (plus (plus 1 own) (at inner z)) B (capped (1 + length b + size j))
        (trans _ (plus (plus 1 own) (at inner ((x + z) - x))) _ (min_left _ _)
        (subst (λ y. plus (plus 1 own) (at inner ((x + z) - x)) ≤ plus (plus 1 own) (at inner y))
        e (same_le _)))
        (bounded_sum (plus 1 own) (at inner z) B (1 + length b) (size j)
        (bound (plus 1 own) B (capped (1 + length b)) (let g = attrs_low u.nodes q in omega (arith, g))) (none_before (at inner z) B (size j) h)))))
    runs_low {n = n} {k = k} (here {x = x} {tag = tag} {a = a} {b = b} {i = i} {j = j} o c q f g) lo hi r s p =
        let own = attrs_least (ways_at u.nodes n) a in
        let inner = walk u n (k + 1) (from 0) i in
        let v = (walk (plain_walk u.nodes u.plain) n 0 (from 0) i).start in
        let F = element_cost A n (k + 1) tag (plus 1 own) inner u.cost v in
        item_low r F x (x + 1) s (1 + length b + size j + 0) (omega arith) hi p
        (bound (F x (x + 1)) B (capped (1 + length b + size j + 0)) (more_none (F x (x + 1)) (1 + length b + size j)
        (subst (λ y. y ≤ capped (1 + length b + size j)) (sym (element_deep A n (k + 1) tag (plus 1 own) inner u.cost v x (x + 1) o))
        (trans _ (if_so (((x + 1) == (x + 1)) && is_spot A n (k + 1)) u.cost) _ (min_right _ _)
        (if_low (((x + 1) == (x + 1)) && is_spot A n (k + 1)) u.cost (capped (1 + length b + size j))
        (and_from ((x + 1) == (x + 1)) (is_spot A n (k + 1)) (eq-eqb (x + 1) (x + 1) refl) c) (cost_low b j q f g))))))

    -- of a whole template
    pub walk_low : (n : ℕ) (d : Forest) → X ≤ Y → Runs T G A n 0 X (T n) Y d → min (at (walk u n 0 (from X) (T n)) Y) B ≤ capped (size d)
    walk_low n d h q = none_before (at (walk u n 0 (from X) (T n)) Y) B (size d)
        (runs_low q (same_le X) (same_le Y) (from X) 0 (begin_low (at (from X) X) B (from_at X (omega (arith, h, most)))))
