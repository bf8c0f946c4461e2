-- The laws of tables: they are ordered and joined key by key.
use Rattle.std.specs.Prelude.{◌≡◌, ℕ, ◌<◌, ◌≤◌, Bool, true, false, ◌&&◌, cond, List, [], ◌∷◌}
use Rattle.std.proofs.Common.{refl, sym, ap, ◌∙◌, subst, inl, inr, arith}
use Rattle.std.proofs.lemmas.Bool.{false≢true, and_parts, and_from, cases_Bool}
use Rattle.std.specs.declared.cmp.Ordering.{Ordering}
use Rattle.std.specs.declared.cmp.Ordering.TheVariants.{Less, Equal, Greater}
use Rattle.std.specs.Cmp.{IsTotalOrder}
use Rattle.std.proofs.lemmas.Cmp.{tied_itself, tied_back, alike_right}
use Rattle.std.specs.Ordering.{is_eq, ordering_reverse}
use Rattle.std.specs.List.{AllByRecursion}
use Rattle.bw_solve.specs.Lawful.SetLaws.{by_order, three, all_weaker, is_Equal, less_back}
use Rattle.bw_solve.specs.Tables.{IsTable, found, is_table_below, table_join_into, table_join, table_sum}
use Rattle.bw_solve.specs.Lattice.{IsLattice}

module _ {K V : Type 0} {cmp : K → K → Ordering} (o : IsTotalOrder cmp) {fine : V → Type 0} {below : V → V → Bool} {join : V → V → V} {size rank : V → ℕ}
    (L : IsLattice {V = V} (λ a b. fine a × fine b) below join size rank) (least : V) (fine_least : fine least)
    (is_least : (v : V) → fine v → below least v ≡ true)
    (unit_left : (v : V) → join least v ≡ v) (unit_right : (v : V) → join v least ≡ v) where
  -- a table holds no least values: a key with the least value isn't there
  abbrev pub Holds : V → Type 0
  Holds v = fine v × (below v least ≡ false)

  abbrev Above : K → List (K × V) → Type 0
  Above k es = AllByRecursion (λ (f : K × V). cmp k f.0 ≡ Less) es

  abbrev Table : List (K × V) → Type 0
  Table es = IsTable cmp Holds es

  abbrev Below : List (K × V) → List (K × V) → Bool
  Below a b = is_table_below cmp below least a b

  abbrev Join : List (K × V) → List (K × V) → List (K × V)
  Join a b = table_join cmp join a b

  abbrev at : List (K × V) → K → V
  at es k = found cmp least es k

  above_weaker : (j k : K) (es : List (K × V)) → cmp j k ≡ Less → Above k es → Above j es
  above_weaker j k es e h = all_weaker (λ (f : K × V). cmp k f.0 ≡ Less) (λ (f : K × V). cmp j f.0 ≡ Less) es (λ f l. o.trans j k f.0 e l) h

  above_alike : (j k : K) (es : List (K × V)) → cmp j k ≡ Equal → Above k es → Above j es
  above_alike j k es e h = all_weaker (λ (f : K × V). cmp k f.0 ≡ Less) (λ (f : K × V). cmp j f.0 ≡ Less) es (λ f l. o.congr j k f.0 e ∙ l) h

  turned : (j k : K) → cmp j k ≡ Less → cmp k j ≡ Greater
  turned j k e = o.antisymm k j ∙ ap ordering_reverse e

  pub absent : (k : K) (es : List (K × V)) → Above k es → at es k ≡ least
  absent k [] h = refl
  absent k (e ∷ es) h = ap (λ r. cond (is_eq r) e.1 (at es k)) (turned k e.0 h.0) ∙ absent k es h.1

  pub at_alike : (es : List (K × V)) (j k : K) → cmp j k ≡ Equal → at es j ≡ at es k
  at_alike [] j k h = refl
  at_alike (e ∷ es) j k h = ap (λ r. cond (is_eq r) e.1 (at es j)) (alike_right o j k e.0 h) ∙ ap (λ v. cond (is_eq (cmp e.0 k)) e.1 v) (at_alike es j k h)

  pub at_fine : (es : List (K × V)) (k : K) → Table es → fine (at es k)
  at_fine [] k t = fine_least
  at_fine (e ∷ es) k t = elim (is_eq (cmp e.0 k)) as (λ b. fine (cond b e.1 (at es k))) [ true ↦ t.1.0.0 | false ↦ at_fine es k t.1.1 ]

  pub below_at : (a b : List (K × V)) (k : K) → Table a → Table b → Below a b ≡ true → below (at a k) (at b k) ≡ true
  below_at [] b k t u h = is_least (at b k) (at_fine b k u)
  below_at (e ∷ es) b k t u h =
      let p = and_parts (below e.1 (at b e.0)) (Below es b) h in
      elim (cases_Bool (is_eq (cmp e.0 k))) [
        | inl same ↦ ap (λ c. below (cond c e.1 (at es k)) (at b k)) same ∙ ap (below e.1) (sym (at_alike b e.0 k (is_Equal (cmp e.0 k) same))) ∙ p.0
        | inr other ↦ ap (λ c. below (cond c e.1 (at es k)) (at b k)) other ∙ below_at es b k t.1.1 u p.1
      ]

  pub below_by : (a b : List (K × V)) → Table a → Table b → ((k : K) → below (at a k) (at b k) ≡ true) → Below a b ≡ true
  below_by [] b t u h = refl
  below_by (e ∷ es) b t u h = and_from (below e.1 (at b e.0)) (Below es b)
      (ap (λ r. below (cond (is_eq r) e.1 (at es e.0)) (at b e.0)) (sym (tied_itself o e.0)) ∙ h e.0)
      (below_by es b t.1.1 u (λ k. elim (cases_Bool (is_eq (cmp e.0 k))) [
        | inl same ↦ ap (λ v. below v (at b k)) (sym (at_alike es e.0 k (is_Equal (cmp e.0 k) same)) ∙ absent e.0 es t.0) ∙ is_least (at b k) (at_fine b k u)
        | inr other ↦ ap (λ c. below (cond c e.1 (at es k)) (at b k)) (sym other) ∙ h k
      ]))

  not_least : (v w : V) → fine v → fine w → below v least ≡ false → below v w ≡ true → below w least ≡ false
  not_least v w f g n h = elim (cases_Bool (below w least)) [
    | inl low ↦ absurd (false≢true (sym n ∙ L.below_trans v w least (f, g) (g, fine_least) h low))
    | inr high ↦ high
  ]

  join_fine : (v w : V) → fine v → fine w → fine (join v w)
  join_fine v w f g = (L.join_alike v w (f, g)).0

  join_holds : (v w : V) → Holds v → Holds w → Holds (join v w)
  join_holds v w h k = (join_fine v w h.0 k.0, not_least v (join v w) h.0 (join_fine v w h.0 k.0) h.1 (L.join_left v w (h.0, k.0)))

  into_above : (k : K) (x : K × V) (xs : List (K × V)) (rest : List (K × V) → List (K × V)) → cmp k x.0 ≡ Less → Above k xs
      → ((ys : List (K × V)) → Above k ys → Above k (rest ys))
      → (ys : List (K × V)) → Above k ys → Above k (table_join_into cmp join x xs rest ys)
  into_above k x xs rest px pxs h [] q = (px, pxs)
  into_above k x xs rest px pxs h (y ∷ ys) q = by_order (Above k) (cmp x.0 y.0) (x ∷ rest (y ∷ ys)) ((x.0, join x.1 y.1) ∷ rest ys)
      (y ∷ table_join_into cmp join x xs rest ys)
      (λ e. (px, h (y ∷ ys) q)) (λ e. (px, h ys q.1)) (λ e. (q.0, into_above k x xs rest px pxs h ys q.1))

  join_above : (k : K) (xs ys : List (K × V)) → Above k xs → Above k ys → Above k (Join xs ys)
  join_above k [] ys p q = q
  join_above k (x ∷ xs) ys p q = into_above k x xs (Join xs) p.0 p.1 (λ zs r. join_above k xs zs p.1 r) ys q

  into_table : (x : K × V) (xs : List (K × V)) → Table (x ∷ xs) → ((ys : List (K × V)) → Table ys → Table (Join xs ys)) → (ys : List (K × V))
      → Table ys → Table (table_join_into cmp join x xs (Join xs) ys)
  into_table x xs s h [] q = s
  into_table x xs s h (y ∷ ys) q = by_order Table (cmp x.0 y.0) (x ∷ Join xs (y ∷ ys)) ((x.0, join x.1 y.1) ∷ Join xs ys)
      (y ∷ table_join_into cmp join x xs (Join xs) ys)
      (λ e. (join_above x.0 xs (y ∷ ys) s.0 (e, above_weaker x.0 y.0 ys e q.0), (s.1.0, h (y ∷ ys) q)))
      (λ e. (join_above x.0 xs ys s.0 (above_alike x.0 y.0 ys e q.0), (join_holds x.1 y.1 s.1.0 q.1.0, h ys q.1.1)))
      (λ e. let l = less_back o x.0 y.0 e in (
        into_above y.0 x xs (Join xs) l (above_weaker y.0 x.0 xs l s.0) (λ zs r. join_above y.0 xs zs (above_weaker y.0 x.0 xs l s.0) r) ys q.0,
        (q.1.0, into_table x xs s h ys q.1.1),
      ))

  pub join_table : (xs ys : List (K × V)) → Table xs → Table ys → Table (Join xs ys)
  join_table [] ys p q = q
  join_table (x ∷ xs) ys p q = into_table x xs p (λ zs r. join_table xs zs p.1.1 r) ys q

  -- a choice by one test on both sides of a join
  pick : (b : Bool) (v w x y z : V) → (b ≡ true → v ≡ z) → (b ≡ false → w ≡ join x y) → (b ≡ true → join x y ≡ z) → cond b v w ≡ join x y
  pick true v w x y z p q r = p refl ∙ sym (r refl)
  pick false v w x y z p q r = q refl

  into_at : (x : K × V) (xs : List (K × V)) → Table (x ∷ xs) → ((ys : List (K × V)) (k : K) → Table ys → at (Join xs ys) k ≡ join (at xs k) (at ys k))
      → (ys : List (K × V)) (k : K) → Table ys → at (table_join_into cmp join x xs (Join xs) ys) k ≡ join (at (x ∷ xs) k) (at ys k)
  into_at x xs s h [] k q = sym (unit_right (at (x ∷ xs) k))
  into_at x xs s h (y ∷ ys) k q = by_order (λ l. at l k ≡ join (at (x ∷ xs) k) (at (y ∷ ys) k)) (cmp x.0 y.0)
      (x ∷ Join xs (y ∷ ys)) ((x.0, join x.1 y.1) ∷ Join xs ys) (y ∷ table_join_into cmp join x xs (Join xs) ys)
      (λ e. elim (cases_Bool (is_eq (cmp x.0 k))) [
        | inl same ↦
            let alike = is_Equal (cmp x.0 k) same in
            let none : at (y ∷ ys) k ≡ least = sym (at_alike (y ∷ ys) x.0 k alike) ∙ absent x.0 (y ∷ ys) (e, above_weaker x.0 y.0 ys e q.0) in
            ap (λ c. cond c x.1 (at (Join xs (y ∷ ys)) k)) same ∙ sym (ap (λ c. join (cond c x.1 (at xs k)) (at (y ∷ ys) k)) same ∙ ap (join x.1) none
            ∙ unit_right x.1)
        | inr other ↦ ap (λ c. cond c x.1 (at (Join xs (y ∷ ys)) k)) other ∙ h (y ∷ ys) k q ∙ ap (λ c. join (cond c x.1 (at xs k)) (at (y ∷ ys) k)) (sym other)
      ])
      (λ e.
      let test : is_eq (cmp x.0 k) ≡ is_eq (cmp y.0 k) = ap is_eq (o.congr x.0 y.0 k e) in
      elim (cases_Bool (is_eq (cmp x.0 k))) [
        | inl same ↦ ap (λ c. cond c (join x.1 y.1) (at (Join xs ys) k)) same
            ∙ sym (ap (λ c. join (cond c x.1 (at xs k)) (at (y ∷ ys) k)) same ∙ ap (λ c. join x.1 (cond c y.1 (at ys k))) (sym test ∙ same))
        | inr other ↦ ap (λ c. cond c (join x.1 y.1) (at (Join xs ys) k)) other ∙ h ys k q.1.1
            ∙ sym (ap (λ c. join (cond c x.1 (at xs k)) (at (y ∷ ys) k)) other ∙ ap (λ c. join (at xs k) (cond c y.1 (at ys k))) (sym test ∙ other))
      ])
      (λ e.
      let l = less_back o x.0 y.0 e in
      elim (cases_Bool (is_eq (cmp y.0 k))) [
        | inl same ↦
            let alike = is_Equal (cmp y.0 k) same in
            let none : at (x ∷ xs) k ≡ least = sym (at_alike (x ∷ xs) y.0 k alike) ∙ absent y.0 (x ∷ xs) (l, above_weaker y.0 x.0 xs l s.0) in
            ap (λ c. cond c y.1 (at (table_join_into cmp join x xs (Join xs) ys) k)) same
            ∙ sym (ap (λ c. join (at (x ∷ xs) k) (cond c y.1 (at ys k))) same ∙ ap (λ v. join v y.1) none ∙ unit_left y.1)
        | inr other ↦ ap (λ c. cond c y.1 (at (table_join_into cmp join x xs (Join xs) ys) k)) other ∙ into_at x xs s h ys k q.1.1
            ∙ ap (λ c. join (at (x ∷ xs) k) (cond c y.1 (at ys k))) (sym other)
      ])

  -- the value of a key in the join of two tables is the join of its values
  pub join_at : (xs ys : List (K × V)) (k : K) → Table xs → Table ys → at (Join xs ys) k ≡ join (at xs k) (at ys k)
  join_at [] ys k p q = sym (unit_left (at ys k))
  join_at (x ∷ xs) ys k p q = into_at x xs p (λ zs j r. join_at xs zs j p.1.1 r) ys k q

  pub table_skip : (y : K × V) (ys zs : List (K × V)) → Above y.0 zs → Below zs (y ∷ ys) ≡ Below zs ys
  table_skip y ys [] h = refl
  table_skip y ys (z ∷ zs) h = ap (λ r. below z.1 (cond (is_eq r) y.1 (at ys z.0)) && Below zs (y ∷ ys)) h.0
      ∙ ap (λ b. below z.1 (at ys z.0) && b) (table_skip y ys zs h.1)

  pub table_less : (x y : K × V) (xs ys : List (K × V)) → Table (x ∷ xs) → Table (y ∷ ys) → cmp x.0 y.0 ≡ Less → Below (x ∷ xs) (y ∷ ys) ≡ false
  table_less x y xs ys s t e = ap (λ v. below x.1 v && Below xs (y ∷ ys)) (absent x.0 (y ∷ ys) (e, above_weaker x.0 y.0 ys e t.0))
      ∙ ap (λ b. b && Below xs (y ∷ ys)) s.1.0.1

  pub table_same : (x y : K × V) (xs ys : List (K × V)) → Table (x ∷ xs) → cmp x.0 y.0 ≡ Equal → Below (x ∷ xs) (y ∷ ys) ≡ (below x.1 y.1 && Below xs ys)
  table_same x y xs ys s e =
      let back = tied_back o x.0 y.0 e in
      ap (λ r. below x.1 (cond (is_eq r) y.1 (at ys x.0)) && Below xs (y ∷ ys)) back
      ∙ ap (λ b. below x.1 y.1 && b) (table_skip y ys xs (above_alike y.0 x.0 xs back s.0))

  pub table_more : (x y : K × V) (xs ys : List (K × V)) → Table (x ∷ xs) → cmp x.0 y.0 ≡ Greater → Below (x ∷ xs) (y ∷ ys) ≡ Below (x ∷ xs) ys
  table_more x y xs ys s e = let l = less_back o x.0 y.0 e in table_skip y ys (x ∷ xs) (l, above_weaker y.0 x.0 xs l s.0)

  -- a sum of what doesn't fall doesn't fall
  pub sum_grows : (m : V → ℕ) → ((v w : V) → fine v → fine w → below v w ≡ true → m v ≤ m w) → (b a : List (K × V)) → Table a → Table b
      → Below a b ≡ true → table_sum m a ≤ table_sum m b
  sum_grows m f b [] t u h = omega arith
  sum_grows m f [] (x ∷ xs) t u h = absurd (false≢true (sym t.1.0.1 ∙ (and_parts (below x.1 least) (Below xs []) h).0))
  sum_grows m f (y ∷ ys) (x ∷ xs) t u h = elim (three (cmp x.0 y.0)) [
    | inl r ↦ elim r [
      | inl e ↦ absurd (false≢true (sym (table_less x y xs ys t u e) ∙ h))
      | inr e ↦
          let p = and_parts (below x.1 y.1) (Below xs ys) (sym (table_same x y xs ys t e) ∙ h) in
          omega (arith, f x.1 y.1 t.1.0.0 u.1.0.0 p.0, sum_grows m f ys xs t.1.1 u.1.1 p.1)
    ]
    | inr e ↦ omega (arith, sum_grows m f ys (x ∷ xs) t u.1.1 (sym (table_more x y xs ys t e) ∙ h))
  ]

  holds_rank : (v : V) → Holds v → 0 < rank v
  holds_rank v h = omega (arith, L.rank_rises least v (fine_least, h.0) (is_least v h.0) h.1)

  ranks : (v w : V) → fine v → fine w → below v w ≡ true → rank v ≤ rank w
  ranks v w f g h = L.rank_grows v w (f, g) h

  pub sum_rises : (b a : List (K × V)) → Table a → Table b → Below a b ≡ true → Below b a ≡ false → table_sum rank a < table_sum rank b
  sum_rises [] [] t u h n = absurd (false≢true (sym n))
  sum_rises (y ∷ ys) [] t u h n = omega (arith, holds_rank y.1 u.1.0)
  sum_rises [] (x ∷ xs) t u h n = absurd (false≢true (sym t.1.0.1 ∙ (and_parts (below x.1 least) (Below xs []) h).0))
  sum_rises (y ∷ ys) (x ∷ xs) t u h n = elim (three (cmp x.0 y.0)) [
    | inl r ↦ elim r [
      | inl e ↦ absurd (false≢true (sym (table_less x y xs ys t u e) ∙ h))
      | inr e ↦
          let p = and_parts (below x.1 y.1) (Below xs ys) (sym (table_same x y xs ys t e) ∙ h) in
          let back : Below (y ∷ ys) (x ∷ xs) ≡ (below y.1 x.1 && Below ys xs) = table_same y x ys xs u (tied_back o x.0 y.0 e) in
          elim (cases_Bool (below y.1 x.1)) [
            | inl low ↦
                let m : Below ys xs ≡ false = sym (back ∙ ap (λ c. c && Below ys xs) low) ∙ n in
                omega (arith, ranks x.1 y.1 t.1.0.0 u.1.0.0 p.0, sum_rises ys xs t.1.1 u.1.1 p.1 m)
            | inr high ↦ omega (arith, L.rank_rises x.1 y.1 (t.1.0.0, u.1.0.0) p.0 high, sum_grows rank ranks ys xs t.1.1 u.1.1 p.1)
          ]
    ]
    | inr e ↦ omega (arith, holds_rank y.1 u.1.0, sum_grows rank ranks ys (x ∷ xs) t u.1.1 (sym (table_more x y xs ys t e) ∙ h))
  ]

  below_itself : (v : V) → fine v → below v v ≡ true
  below_itself v f = L.below_refl v (f, f)

  -- the tables over an order, whose values are of a lattice, are a lattice
  pub table_lattice : IsLattice {V = List (K × V)} (λ a b. Table a × Table b) Below Join (table_sum size) (table_sum rank)
  table_lattice = record {
    alike_symm = λ a b h. (h.1, h.0);
    alike_trans = λ a b c h k. (h.0, k.1);
    below_refl = λ a h. below_by a a h.0 h.0 (λ k. below_itself (at a k) (at_fine a k h.0));
    below_trans = λ a b c h k p q. below_by a c h.0 k.1 (λ x. L.below_trans (at a x) (at b x) (at c x) (at_fine a x h.0, at_fine b x h.1)
        (at_fine b x h.1, at_fine c x k.1) (below_at a b x h.0 h.1 p) (below_at b c x k.0 k.1 q));
    join_alike = λ a b h. (join_table a b h.0 h.1, h.0);
    join_left = λ a b h. below_by a (Join a b) h.0 (join_table a b h.0 h.1) (λ k.
        subst (λ v. below (at a k) v ≡ true) (sym (join_at a b k h.0 h.1)) (L.join_left (at a k) (at b k) (at_fine a k h.0, at_fine b k h.1)));
    join_right = λ a b h. below_by b (Join a b) h.1 (join_table a b h.0 h.1) (λ k.
        subst (λ v. below (at b k) v ≡ true) (sym (join_at a b k h.0 h.1)) (L.join_right (at a k) (at b k) (at_fine a k h.0, at_fine b k h.1)));
    join_least = λ a b c h k p q. below_by (Join a b) c (join_table a b h.0 h.1) k.1 (λ x.
        subst (λ v. below v (at c x) ≡ true) (sym (join_at a b x h.0 h.1))
        (L.join_least (at a x) (at b x) (at c x) (at_fine a x h.0, at_fine b x h.1) (at_fine b x h.1, at_fine c x k.1) (below_at a c x h.0 k.1 p)
        (below_at b c x h.1 k.1 q)));
    size_grows = λ a b h p. sum_grows size (λ v w f g l. L.size_grows v w (f, g) l) b a h.0 h.1 p;
    rank_grows = λ a b h p. sum_grows rank ranks b a h.0 h.1 p;
    rank_rises = λ a b h p n. sum_rises b a h.0 h.1 p n;
  }
