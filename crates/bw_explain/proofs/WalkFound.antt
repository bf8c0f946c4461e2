-- Documents of the sizes that a walk comes to are there.
use Rattle.std.proofs.Common.{◌≡◌, inl, inr, ℕ, ◌+◌, ◌-◌, ◌≤◌, ◌==◌, true, false, ◌&&◌, List, length, refl, ap, sym, ◌∙◌, subst, arith}
use Rattle.std.proofs.lemmas.Bool.{eqb-true, and_parts, or_cases, cases_Bool}
use Rattle.bw_lang.specs.declared.items.Attr.{Attr}
use Rattle.bw_lang.specs.Document.Forest.{Forest, none, text, gap, element}
use Rattle.bw_lang.specs.Document.Documents.{append, elements}
use Rattle.bw_lang.proofs.Forests.{append-none, append_assoc}
use Rattle.bw_shape.specs.Nodes.Templates.{template_at}
use Rattle.bw_sum.specs.Graph.{Graph}
use Rattle.bw_sum.specs.Unfolding.{FillsAttrs, Fills}
use Rattle.bw_explain.specs.declared.sizes.TheConstants.{PAST}
use Rattle.bw_explain.specs.declared.reach.Reach.{Reach}
use Rattle.bw_explain.specs.Ways.{way_of, ways_at, graph}
use Rattle.bw_explain.specs.Sizes.{size, capped, Found, plus, if_so, least_of, is_said, is_loose, attrs_least}
use Rattle.bw_explain.specs.Walks.{Aim, takes, is_spot, is_wordy, Runs, nothing, both, words, left, said, led, beside, inside, here, known_at, Walk}
use Rattle.bw_explain.specs.Walks.{plain_walk, from, at, after, text_cost, says_wordy, gap_cost, deep_cost, element_cost, walk}
use Rattle.bw_explain.proofs.Numbers.{left_of, right_of, trans, same_le, least_is, if_there, high_sum, own_high}
use Rattle.bw_explain.proofs.Filling.{size-append, word_there, wordy_there, led_there, attrs_fill}
use Rattle.bw_explain.proofs.Runs.{stay_takes, next_takes, taken, rises}
use Rattle.bw_explain.proofs.WalkLaws.{then_there, from_there, element_top, element_deep}

module _ (templates : List Forest) (u : Walk) (X Y : ℕ) (most : Y ≤ 2) (zero_at : u.aim.deep ≡ true → X ≡ 0) where
  abbrev T : ℕ → Forest
  T n = template_at templates n

  abbrev G : Graph
  G = graph u.nodes

  abbrev A : Aim
  A = u.aim

  module _
      (plain_there : u.aim.deep ≡ false → (n : ℕ) (t : Forest) → (walk (plain_walk u.nodes u.plain) n 0 (from 0) t).start ≤ PAST
      → Found (Fills T G n t) (walk (plain_walk u.nodes u.plain) n 0 (from 0) t).start)
      (cost_there : u.cost ≤ PAST → (b : List Attr) × ((j : Forest) × FillsAttrs G A.template A.attrs b × Fills T G A.template A.inner j
      × (A.good b j ≡ true) × (capped (1 + length b + size j) ≤ u.cost)))
      (known_there : (x y m : ℕ) → X ≤ x → x ≤ y → y ≤ Y → known_at u.known x y m ≤ PAST → Found (Runs T G A m 0 x (T m) y) (known_at u.known x y m)) where
    abbrev Attained : (ℕ → Forest → Type 0) → Reach → Type 0
    Attained P r = (x : ℕ) → x ≤ Y → at r x ≤ PAST → Found (P x) (at r x)

    abbrev Then : (ℕ → Forest → Type 0) → ℕ → ℕ → Forest → ℕ → Forest → Type 0
    Then P n k t y d = (x : ℕ) × ((c : Forest) × ((e : Forest) × P x c × Runs T G A n k x t y e × (d ≡ append c e)))

    abbrev IsAbove : (ℕ → Forest → Type 0) → Type 0
    IsAbove P = (x : ℕ) (d : Forest) → P x d → X ≤ x

    then_above : (P : ℕ → Forest → Type 0) (n k : ℕ) (t : Forest) → IsAbove P → IsAbove (Then P n k t)
    then_above P n k t lo y d h = let a = lo h.0 h.1.0 h.1.1.1 in let b = rises T G A h.1.1.2 in omega (arith, a, b)

    item_there : (P : ℕ → Forest → Type 0) → IsAbove P → (r : Reach) (f : ℕ → ℕ → ℕ) (n k : ℕ) (t : Forest)
        → ((x y : ℕ) → X ≤ x → x ≤ y → y ≤ Y → f x y ≤ PAST → Found (λ e. Runs T G A n k x t y e) (f x y)) → Attained P r → Attained (Then P n k t) (after r f)
    item_there P lo r f n k t each got y hi l =
        let w = then_there r f y (trans y Y 2 hi most) in
        let s : plus (at r w.0) (f w.0 y) ≤ PAST = subst (λ v. v ≤ PAST) w.2 l in
        let a = got w.0 (trans w.0 y Y w.1 hi) (left_of (at r w.0) (f w.0 y) PAST (omega arith) s (omega arith)) in
        let b = each w.0 y (lo w.0 a.0 a.1) w.1 hi (right_of (at r w.0) (f w.0 y) PAST (omega arith) s (omega arith)) in (
          append a.0 b.0,
          (w.0, (a.0, (b.0, a.1, b.1, refl {a = append a.0 b.0}))),
          subst (λ v. capped (size (append a.0 b.0)) ≤ v) (sym w.2)
              (high_sum (at r w.0) (f w.0 y) (size a.0) (size b.0) (size (append a.0 b.0)) a.2 b.2 (size-append a.0 b.0)),
        )

    joined : (P : ℕ → Forest → Type 0) (n k j : ℕ) (p t : Forest) → j ≡ k + elements p → (y : ℕ) (d : Forest) → Then (Then P n k p) n j t y d
        → Then P n k (append p t) y d
    joined P n k j p t e y d h =
        let a = h.1.1.1 in
        let c = h.1.1.0 in (
          a.0,
          (
            a.1.0,
            (
              append a.1.1.0 c,
              a.1.1.1,
              both a.1.1.2 (subst (λ i. Runs T G A n i h.0 t y c) e h.1.1.2),
              h.1.1.3 ∙ ap (λ z. append z c) a.1.1.3 ∙ append_assoc a.1.0 a.1.1.0 c,
            ),
          ),
        )

    text_there : (n k : ℕ) (s : List ℕ) (x y : ℕ) → text_cost A s x y ≤ PAST → Found (λ e. Runs T G A n k x (text s none) y e) (text_cost A s x y)
    text_there n k s x y l = let c = if_there (takes x y true (is_wordy A s)) 1 l in (text s none, words c.0, let e = c.1 in omega (arith, e))

    loose_there : (n k g x y : ℕ) → takes x y (is_loose (way_of (ways_at u.nodes n) g)) (says_wordy A (way_of (ways_at u.nodes n) g)) ≡ true
        → (d : Forest) × Runs T G A n k x (gap g none) y d × (size d ≡ 1)
    loose_there n k g x y h =
        let w = way_of (ways_at u.nodes n) g in
        elim (taken x y (is_loose w) (says_wordy A w) h) [
          | inl a ↦ elim (or_cases w.is_open (is_said w) a.1) [
            | inl o ↦ (gap g none, subst (λ z. Runs T G A n k x (gap g none) z (gap g none)) a.0 (left o), refl)
            | inr o ↦ let s = word_there w o in
                (text s.0 none, subst (λ z. Runs T G A n k x (gap g none) z (text s.0 none)) a.0 (said s.1 (stay_takes x _ _ refl)), refl)
          ]
          | inr a ↦ let s = wordy_there A w a.1 in
              (text s.0 none, subst (λ z. Runs T G A n k x (gap g none) z (text s.0 none)) a.0 (said s.1 (next_takes x _ _ s.2)), refl)
        ]

    gap_there : (n k g x y : ℕ) → X ≤ x → x ≤ y → y ≤ Y → gap_cost u (way_of (ways_at u.nodes n) g) x y ≤ PAST
        → Found (λ e. Runs T G A n k x (gap g none) y e) (gap_cost u (way_of (ways_at u.nodes n) g) x y)
    gap_there n k g x y lo le hi l =
        let w = way_of (ways_at u.nodes n) g in
        let b = takes x y (is_loose w) (says_wordy A w) in
        let K = known_at u.known x y in
        elim (least_is (if_so b 1) (least_of K w.led)) [
          | inl e ↦
              let c = if_there b 1 (subst (λ v. v ≤ PAST) e l) in
              let d = loose_there n k g x y c.0 in
              (d.0, d.1, let f = d.2 in let z = c.1 in small (size d.0) (if_so b 1) (gap_cost u w x y) f z e)
          | inr e ↦
              let o : least_of K w.led ≤ PAST = subst (λ v. v ≤ PAST) e l in
              let m = led_there K w.led o in
              let d = known_there x y m.0 lo le hi (trans (K m.0) (least_of K w.led) PAST m.2 o) in
              (d.0, led m.1 d.1, subst (λ v. capped (size d.0) ≤ v) (sym e) (trans (capped (size d.0)) (K m.0) (least_of K w.led) d.2 m.2))
        ]
      where
        small : (s v w : ℕ) → s ≡ 1 → v ≡ 1 → w ≡ v → capped s ≤ w
        small s v w e f g = omega arith

    -- by what its items may be
    element_there : (n k : ℕ) (tag : List ℕ) (a : List Attr) (i : Forest)
        → (A.deep ≡ true → (z : ℕ) → z ≤ Y → at (walk u n (k + 1) (from 0) i) z ≤ PAST
        → Found (λ e. Runs T G A n (k + 1) 0 i z e) (at (walk u n (k + 1) (from 0) i) z))
        → (x y : ℕ) → x ≤ y → y ≤ Y
        → element_cost A n (k + 1) tag (plus 1 (attrs_least (ways_at u.nodes n) a)) (walk u n (k + 1) (from 0) i) u.cost
        (walk (plain_walk u.nodes u.plain) n 0 (from 0) i).start x y ≤ PAST
        → Found (λ e. Runs T G A n k x (element tag a i none) y e) (element_cost A n (k + 1) tag (plus 1 (attrs_least (ways_at u.nodes n) a))
        (walk u n (k + 1) (from 0) i) u.cost (walk (plain_walk u.nodes u.plain) n 0 (from 0) i).start x y)
    element_there n k tag a i inner_there x y le hi l =
        let own = attrs_least (ways_at u.nodes n) a in
        let inner = walk u n (k + 1) (from 0) i in
        let v = (walk (plain_walk u.nodes u.plain) n 0 (from 0) i).start in
        elim (cases_Bool A.deep) [
          | inl o ↦
              let e = element_deep A n (k + 1) tag (plus 1 own) inner u.cost v x y o in
              subst (λ z. Found (λ e. Runs T G A n k x (element tag a i none) y e) z) (sym e) (deeper o (subst (λ z. z ≤ PAST) e l))
          | inr o ↦
              let e = element_top A n (k + 1) tag (plus 1 own) inner u.cost v x y o in
              let c = if_there (takes x y (A.stays tag) (A.next x tag)) (plus (plus 1 own) v) (subst (λ z. z ≤ PAST) e l) in
              let s : plus (plus 1 own) v ≤ PAST = subst (λ z. z ≤ PAST) (e ∙ c.1) l in
              let b = attrs_fill u.nodes n a (right_of 1 own PAST (omega arith) (left_of (plus 1 own) v PAST (omega arith) s (omega arith)) (omega arith)) in
              let j = plain_there o n i (right_of (plus 1 own) v PAST (omega arith) s (omega arith)) in (
                element tag b.0 j.0 none,
                beside {b = b.0} {j = j.0} o c.0 b.1 j.1,
                subst (λ z. capped (1 + length b.0 + size j.0 + 0) ≤ z) (sym (e ∙ c.1))
                    (no_more (1 + length b.0 + size j.0) (plus (plus 1 own) v) (own_high own v (length b.0) (size j.0) (let f = b.2 in omega (arith, f)) j.2)),
              )
        ]
      where
        no_more : (s v : ℕ) → capped s ≤ v → capped (s + 0) ≤ v
        no_more s v h = omega arith

        deeper : A.deep ≡ true → deep_cost A n (k + 1) (plus 1 (attrs_least (ways_at u.nodes n) a)) (walk u n (k + 1) (from 0) i) u.cost x y ≤ PAST
            → Found (λ e. Runs T G A n k x (element tag a i none) y e)
            (deep_cost A n (k + 1) (plus 1 (attrs_least (ways_at u.nodes n) a)) (walk u n (k + 1) (from 0) i) u.cost x y)
        deeper o h =
            let own = attrs_least (ways_at u.nodes n) a in
            let inner = walk u n (k + 1) (from 0) i in
            let z = y - x in
            let c = ((x + 1) == y) && is_spot A n (k + 1) in
            elim (least_is (plus (plus 1 own) (at inner z)) (if_so c u.cost)) [
              | inl e ↦
                  let s : plus (plus 1 own) (at inner z) ≤ PAST = subst (λ w. w ≤ PAST) e h in
                  let b = attrs_fill u.nodes n a (right_of 1 own PAST (omega arith) (left_of (plus 1 own) (at inner z) PAST (omega arith) s (omega arith))
                  (omega arith)) in
                  let j = inner_there o z (omega (arith, hi)) (right_of (plus 1 own) (at inner z) PAST (omega arith) s (omega arith)) in (
                    element tag b.0 j.0 none,
                    subst (λ w. Runs T G A n k x (element tag a i none) w (element tag b.0 j.0 none)) (let f : x + (y - x) ≡ y = omega (arith, le) in f)
                        (inside {b = b.0} {j = j.0} o b.1 j.1),
                    subst (λ w. capped (1 + length b.0 + size j.0 + 0) ≤ w) (sym e) (no_more (1 + length b.0 + size j.0) (plus (plus 1 own) (at inner z))
                        (own_high own (at inner z) (length b.0) (size j.0) (let f = b.2 in omega (arith, f)) j.2)),
                  )
              | inr e ↦
                  let f = if_there c u.cost (subst (λ w. w ≤ PAST) e h) in
                  let p = and_parts ((x + 1) == y) (is_spot A n (k + 1)) f.0 in
                  let d = cost_there (subst (λ w. w ≤ PAST) (e ∙ f.1) h) in (
                    element tag d.0 d.1.0 none,
                    subst (λ w. Runs T G A n k x (element tag a i none) w (element tag d.0 d.1.0 none)) (eqb-true (x + 1) y p.0)
                        (here {b = d.0} {j = d.1.0} o p.1 d.1.1 d.1.2 d.1.3),
                    subst (λ w. capped (1 + length d.0 + size d.1.0 + 0) ≤ w) (sym (e ∙ f.1)) (no_more (1 + length d.0 + size d.1.0) u.cost d.1.4),
                  )
            ]

    -- nothing yet
    abbrev Begun : ℕ → ℕ → Forest → Type 0
    Begun z x d = (z ≡ x) × (d ≡ none)

    begun : (z : ℕ) → Attained (Begun z) (from z)
    begun z x hi l = let e = from_there z x (trans x Y 2 hi most) l in
        (none, (e, refl), subst (λ w. 0 ≤ at (from z) w) e (omega arith))

    ended : (n k z : ℕ) (t : Forest) (y : ℕ) (d : Forest) → Then (Begun z) n k t y d → Runs T G A n k z t y d
    ended n k z t y d h =
        let e = h.1.1.3 ∙ ap (λ c. append c h.1.1.0) h.1.1.1.1 in
        subst (λ w. Runs T G A n k z t y w) (sym e) (subst (λ w. Runs T G A n k w t y h.1.1.0) (sym h.1.1.1.0) h.1.1.2)

    there : (t : Forest) (n k : ℕ) (P : ℕ → Forest → Type 0) → IsAbove P → (r : Reach) → Attained P r → Attained (Then P n k t) (walk u n k r t)
    there none n k P lo r got y hi l = let a = got y hi l in (a.0, (y, (a.0, (none, a.1, nothing, sym (append-none a.0)))), a.2)
    there (text s t) n k P lo r got y hi l =
        let a = there t n k (Then P n k (text s none)) (then_above P n k (text s none) lo) (after r (text_cost A s))
        (item_there P lo r (text_cost A s) n k (text s none) (λ x y a b c. text_there n k s x y) got) y hi l in
        (a.0, joined P n k k (text s none) t (omega arith) y a.0 a.1, a.2)
    there (gap g t) n k P lo r got y hi l =
        let f = gap_cost u (way_of (ways_at u.nodes n) g) in
        let a = there t n k (Then P n k (gap g none)) (then_above P n k (gap g none) lo) (after r f)
        (item_there P lo r f n k (gap g none) (λ x y a b c. gap_there n k g x y a b c) got) y hi l in
        (a.0, joined P n k k (gap g none) t (omega arith) y a.0 a.1, a.2)
    there (element tag e i t) n k P lo r got y hi l =
        let f = element_cost A n (k + 1) tag (plus 1 (attrs_least (ways_at u.nodes n) e)) (walk u n (k + 1) (from 0) i) u.cost
        (walk (plain_walk u.nodes u.plain) n 0 (from 0) i).start in
        let inner : A.deep ≡ true → (z : ℕ) → z ≤ Y → at (walk u n (k + 1) (from 0) i) z ≤ PAST
        → Found (λ d. Runs T G A n (k + 1) 0 i z d) (at (walk u n (k + 1) (from 0) i) z)
        = λ o z hz lz. inside_there o z (there i n (k + 1) (Begun 0) (λ x d h. let c = zero_at o in omega (arith, c)) (from 0) (begun 0) z hz lz) in
        let a = there t n (k + 1 + elements i) (Then P n k (element tag e i none)) (then_above P n k (element tag e i none) lo) (after r f)
        (item_there P lo r f n k (element tag e i none) (λ x y a b c. element_there n k tag e i inner x y b c) got) y hi l in
        (a.0, joined P n k (k + 1 + elements i) (element tag e i none) t (omega arith) y a.0 a.1, a.2)
      where
        inside_there : A.deep ≡ true → (z : ℕ) → Found (Then (Begun 0) n (k + 1) i z) (at (walk u n (k + 1) (from 0) i) z)
            → Found (λ d. Runs T G A n (k + 1) 0 i z d) (at (walk u n (k + 1) (from 0) i) z)
        inside_there o z a = (a.0, ended n (k + 1) 0 i z a.0 a.1, a.2)

    -- of a part
    pub walk_there : (n k : ℕ) (t : Forest) → at (walk u n k (from X) t) Y ≤ PAST → Found (λ d. Runs T G A n k X t Y d) (at (walk u n k (from X) t) Y)
    walk_there n k t l = let a = there t n k (Begun X) (λ x d h. let e = h.0 in omega (arith, e)) (from X) (begun X) Y (same_le Y) l in
        (a.0, ended n k X t Y a.0 a.1, a.2)
