-- The least size of an element that is broken in one way.
use Rattle.std.proofs.Common.{◌≡◌, inl, ℕ, zero, suc, ◌+◌, ◌<◌, ◌≤◌, ◌==◌, Bool, true, false, ◌||◌, ◌&&◌, not, if◌then◌else◌, List, [], ◌∷◌, length}
use Rattle.std.proofs.Common.{refl, ap, sym, ◌∙◌, subst, arith}
use Rattle.std.proofs.lemmas.Bool.{false≢true, not_from_false, and_parts, and_from}
use Rattle.bw_lang.specs.declared.items.Attr.{Attr}
use Rattle.bw_lang.specs.declared.items.AttrValue.{AttrValue}
use Rattle.bw_lang.specs.declared.items.AttrValue.TheVariants.{Fixed, Hole}
use Rattle.bw_lang.specs.Document.Forest.{Forest}
use Rattle.bw_lang.specs.Table.Names.{same}
use Rattle.bw_schema.specs.declared.rules.Rule.{Rule}
use Rattle.bw_schema.specs.Validity.{is_fixed, each_fixed, has_fixed, value_in, has_value}
use Rattle.bw_shape.specs.Nodes.Templates.{template_at}
use Rattle.bw_sum.specs.Graph.{Graph}
use Rattle.bw_sum.specs.Unfolding.{FillsAttrs, Fills, Unfolds}
use Rattle.bw_lang.specs.declared.items.Element.{Element}
use Rattle.bw_explain.specs.declared.sizes.TheConstants.{MAX_SIZE, PAST, NONE}
use Rattle.bw_explain.specs.declared.aim.Made.{Made}
use Rattle.bw_explain.specs.declared.element.Whole.{Whole}
use Rattle.bw_explain.specs.declared.atom.Atom.{Atom}
use Rattle.bw_explain.specs.declared.atom.Atom.TheVariants.{NotAllowed, OtherValue, Absent, Outside, BadChild, BadText, Missing, Crossing}
use Rattle.bw_explain.specs.declared.page.Page.{Page}
use Rattle.bw_explain.specs.declared.solve.Tables.{Tables}
use Rattle.bw_explain.specs.declared.walk.Known.{Known as Lent}
use Rattle.bw_explain.specs.Aims.{top_goals, top_aim, known_of, table_of, AreTops, IsElement, IsBroken}
use Rattle.bw_explain.specs.Atoms.{is_broken, passes, fails}
use Rattle.bw_explain.specs.Owns.{OwnIs, value_passes, has_passing, own_broken, own_least}
use Rattle.bw_explain.specs.Sizes.{size, capped, plus, if_so, IsLeast, attrs_least}
use Rattle.bw_explain.specs.Tables.{Table, size_at, Documents, Solved}
use Rattle.bw_explain.specs.Walks.{Runs, Known, known_at, Walk, from, at, walk, CostIs, IsDraft}
use Rattle.bw_explain.specs.Ways.{Way, ways_at, graph}
use Rattle.bw_explain.proofs.AtomLaws.{fails_are}
use Rattle.bw_explain.proofs.Filling.{fills_attrs, attrs_low, attrs_fill}
use Rattle.bw_explain.proofs.Given.{known_is, stay_at}
use Rattle.bw_explain.proofs.Numbers.{left_of, right_of, same_le, if_there, own_low, own_high, own_exact}
use Rattle.bw_explain.proofs.OwnLaws.{failing_is, leaving_is}
use Rattle.bw_explain.proofs.Runs.{runs_fill}
use Rattle.bw_explain.proofs.Seeking.{unbound, flat_low, flat_there}
use Rattle.bw_explain.proofs.Tops.{runs_told, told_runs, broken_is}
use Rattle.bw_explain.proofs.WalkLows.{runs_low, begin_low}
use Rattle.bw_explain.proofs.WalkFound.{walk_there}

-- ---- attributes

value_absent : (r : Rule) (y x : List ℕ) (v : AttrValue) → value_passes (passes r (Absent y)) x v ≡ is_fixed v
value_absent r y x (Fixed s) = refl
value_absent r y x (Hole g) = refl

passing_absent : (r : Rule) (y x : List ℕ) (b : List Attr) → has_passing (passes r (Absent y)) x b ≡ has_fixed b x
passing_absent r y x [] = refl
passing_absent r y x (c ∷ b) = ap (λ p. (same c.name x && p) || has_passing (passes r (Absent y)) x b) (value_absent r y c.name c.value)
    ∙ ap (λ p. (same c.name x && is_fixed c.value) || p) (passing_absent r y x b)

value_outside : (r : Rule) (y : List ℕ) (vs : List (List ℕ)) (x : List ℕ) (v : AttrValue) → value_passes (passes r (Outside y vs)) x v ≡ value_in vs v
value_outside r y vs x (Fixed s) = refl
value_outside r y vs x (Hole g) = refl

passing_outside : (r : Rule) (y : List ℕ) (vs : List (List ℕ)) (x : List ℕ) (b : List Attr) → has_passing (passes r (Outside y vs)) x b ≡ has_value b x vs
passing_outside r y vs x [] = refl
passing_outside r y vs x (c ∷ b) =
    ap (λ p. (same c.name x && p) || has_passing (passes r (Outside y vs)) x b) (value_outside r y vs c.name c.value)
    ∙ ap (λ p. (same c.name x && value_in vs c.value) || p) (passing_outside r y vs x b)

same_own : (G : Graph) (P Q : List Attr → Bool) (own : ℕ → List Attr → ℕ) → ((b : List Attr) → P b ≡ Q b) → OwnIs G P own → OwnIs G Q own
same_own G P Q own e is = record {
  low = λ n a b q h. is.low n a b q (e b ∙ h);
  high = λ n a l. let k = is.high n a l in (k.0, k.1, sym (e k.0) ∙ k.2, k.3);
}

module _ (nodes : List (List Way)) (r : Rule) where
  plain_own : OwnIs (graph nodes) (λ b. true) (λ n a. attrs_least (ways_at nodes n) a)
  plain_own = record {
    low = λ n a b q h. let e = attrs_low nodes q in omega (arith, e);
    high = λ n a l. let k = attrs_fill nodes n a l in (k.0, k.1, refl, let e = k.2 in omega (arith, e));
  }

  pub own_is : (a : Atom) → OwnIs (graph nodes) (own_broken r a) (own_least nodes r a)
  own_is NotAllowed = failing_is nodes (passes r NotAllowed) (fails r NotAllowed) (fails_are r NotAllowed)
  own_is OtherValue = failing_is nodes (passes r OtherValue) (fails r OtherValue) (fails_are r OtherValue)
  own_is (Absent x) = same_own (graph nodes) (λ b. not (has_passing (passes r (Absent x)) x b)) (own_broken r (Absent x)) (own_least nodes r (Absent x))
      (λ b. ap not (passing_absent r x x b)) (leaving_is nodes (passes r (Absent x)) (fails r (Absent x)) (fails_are r (Absent x)) x)
  own_is (Outside x vs) = same_own (graph nodes) (λ b. not (has_passing (passes r (Outside x vs)) x b)) (own_broken r (Outside x vs))
      (own_least nodes r (Outside x vs)) (λ b. ap not (passing_outside r x vs x b))
      (leaving_is nodes (passes r (Outside x vs)) (fails r (Outside x vs)) (fails_are r (Outside x vs)) x)
  own_is BadChild = plain_own
  own_is BadText = plain_own
  own_is (Missing x) = plain_own
  own_is (Crossing x y) = plain_own

-- what was filled has the least number
module _ (nodes : List (List Way)) (r : Rule) (n : ℕ) (attrs b : List Attr) (fills : FillsAttrs (graph nodes) n attrs b) where
  counted : (c : Bool) → if_so c (capped (length attrs)) ≤ PAST → capped (length b) ≡ if_so c (capped (length attrs))
  counted c l = ap capped (fills_attrs nodes fills).1 ∙ sym (if_there c (capped (length attrs)) l).1

  pub own_size : (a : Atom) → own_least nodes r a n attrs ≤ PAST → capped (length b) ≡ own_least nodes r a n attrs
  own_size NotAllowed l = counted _ l
  own_size OtherValue l = counted _ l
  own_size (Absent x) l = counted _ l
  own_size (Outside x vs) l = counted _ l
  own_size BadChild l = counted _ l
  own_size BadText l = counted _ l
  own_size (Missing x) l = counted _ l
  own_size (Crossing x y) l = counted _ l

-- and is broken so
pub failing_broken : (r : Rule) (a c : Atom) (b : List Attr) → a ≡ c → own_broken r c b ≡ not (each_fixed (passes r c) b) → each_fixed (passes r a) b ≡ false
    → own_broken r a b ≡ true
failing_broken r a c b e f h = ap (λ (z : Atom). own_broken r z b) e ∙ f
    ∙ not_from_false (each_fixed (passes r c) b) (ap (λ (z : Atom). each_fixed (passes r z) b) (sym e) ∙ h)

pub absent_broken : (r : Rule) (a : Atom) (x : List ℕ) (b : List Attr) → a ≡ Absent x → has_passing (passes r a) x b ≡ false → own_broken r a b ≡ true
absent_broken r a x b e h = ap (λ (z : Atom). own_broken r z b) e
    ∙ ap not (sym (passing_absent r x x b) ∙ ap (λ (z : Atom). has_passing (passes r z) x b) (sym e) ∙ h)

pub outside_broken : (r : Rule) (a : Atom) (x : List ℕ) (vs : List (List ℕ)) (b : List Attr) → a ≡ Outside x vs → has_passing (passes r a) x b ≡ false
    → own_broken r a b ≡ true
outside_broken r a x vs b e h = ap (λ (z : Atom). own_broken r z b) e
    ∙ ap not (sym (passing_outside r x vs x b) ∙ ap (λ (z : Atom). has_passing (passes r z) x b) (sym e) ∙ h)

-- ---- the whole element

pub goals_most : (a : Atom) → top_goals a ≤ 2
goals_most NotAllowed = omega arith
goals_most OtherValue = omega arith
goals_most (Absent x) = omega arith
goals_most (Outside x vs) = omega arith
goals_most BadChild = omega arith
goals_most BadText = omega arith
goals_most (Missing x) = omega arith
goals_most (Crossing x y) = omega arith

module _ (templates : List Forest) (nodes : List (List Way)) (r : Rule) (a : Atom) (plain : ℕ → ℕ) (known : Known)
    (plain_is : (m : ℕ) → IsLeast (Unfolds (template_at templates) (graph nodes) m) (plain m))
    (each_is : (x y m : ℕ) → x ≤ y → y ≤ top_goals a
    → IsLeast (Runs (template_at templates) (graph nodes) (top_aim r a) m 0 x (template_at templates m) y) (known_at known x y m)) where
  abbrev u : Walk
  u = record { aim = top_aim r a; nodes = nodes; plain = plain; known = known; cost = NONE }

  abbrev inner : ℕ → Forest → ℕ
  inner n t = at (walk u n 0 (from 0) t) (top_goals a)

  inner_least : (n : ℕ) (t : Forest) → IsLeast (λ d. Runs (template_at templates) (graph nodes) (top_aim r a) n 0 0 t (top_goals a) d) (inner n t)
  inner_least n t = record {
    low = λ d h. unbound (inner n t) (size d) (runs_low templates u 0 (top_goals a) (goals_most a) (λ o. refl) NONE
        (λ o. flat_low templates nodes plain (λ m. (plain_is m).low)) (λ b j q f g. absurd (false≢true g)) (λ x y m lo le hi. inl ((each_is x y m le hi).low))
        h (omega arith) (same_le (top_goals a)) (from 0) 0 (begin_low 0 NONE refl));
    high = λ l. walk_there templates u 0 (top_goals a) (goals_most a) (λ o. refl) (λ o. flat_there templates nodes plain (λ m. (plain_is m).high))
        (λ c. absurd (omega (arith, c))) (λ x y m lo le hi. (each_is x y m le hi).high) n 0 t l;
  }

  -- an element that was filled is broken so
  filled_broken : (n : ℕ) {t : Forest} (b : List Attr) (j : Forest) → own_broken r a b ≡ true
      → Runs (template_at templates) (graph nodes) (top_aim r a) n 0 0 t (top_goals a) j → is_broken r a b j ≡ true
  filled_broken n b j h run = broken_is r a b j ∙ and_from (own_broken r a b) _ h (runs_told (top_aim r a) (template_at templates) (graph nodes) refl run)

  pub cost_is : (n : ℕ) (attrs : List Attr) (t : Forest) (v : ℕ) → v ≡ plus (plus 1 (own_least nodes r a n attrs)) (inner n t)
      → CostIs (template_at templates) (graph nodes) (is_broken r a) n attrs t v
  cost_is n attrs t v e = subst (CostIs (template_at templates) (graph nodes) (is_broken r a) n attrs t) (sym e) (record {
    low = λ b j q f g.
        let k = and_parts (own_broken r a b) _ (sym (broken_is r a b j) ∙ g) in
        own_low (own_least nodes r a n attrs) (inner n t) (length b) (size j) ((own_is nodes r a).low n attrs b q k.0)
        ((inner_least n t).low j (told_runs (top_aim r a) (template_at templates) (graph nodes) refl f 0 0 (top_goals a) k.1));
    high = λ l.
        let own = own_least nodes r a n attrs in
        let b = (own_is nodes r a).high n attrs (right_of 1 own PAST (omega arith) (left_of (plus 1 own) (inner n t) PAST (omega arith) l (omega arith))
        (omega arith)) in
        let j = (inner_least n t).high (right_of (plus 1 own) (inner n t) PAST (omega arith) l (omega arith)) in (
          b.0,
          (
            j.0,
            b.1,
            runs_fill (template_at templates) (graph nodes) (top_aim r a) (λ c i. refl) j.1,
            filled_broken n b.0 j.0 b.2 j.1,
            own_high own (inner n t) (length b.0) (size j.0) b.3 j.2,
          ),
        );
  })

  pub made_is : (n : ℕ) (attrs : List Attr) (t : Forest) (v : ℕ) (m : Made) → v ≡ plus (plus 1 (own_least nodes r a n attrs)) (inner n t) → v ≤ MAX_SIZE
      → FillsAttrs (graph nodes) n attrs m.attrs → own_broken r a m.attrs ≡ true → capped (length m.attrs) ≡ own_least nodes r a n attrs
      → Runs (template_at templates) (graph nodes) (top_aim r a) n 0 0 t (top_goals a) m.items → size m.items ≤ inner n t
      → IsElement (λ b j. FillsAttrs (graph nodes) n attrs b × Fills (template_at templates) (graph nodes) n t j × (is_broken r a b j ≡ true)) v m
  made_is n attrs t v m e l q h c run s = record {
    fit = (q, runs_fill (template_at templates) (graph nodes) (top_aim r a) (λ c i. refl) run, filled_broken n m.attrs m.items h run);
    most = subst (λ w. 1 + length m.attrs + size m.items ≤ w) (sym e)
        (own_exact (own_least nodes r a n attrs) (inner n t) (length m.attrs) (size m.items) (subst (λ w. w ≤ MAX_SIZE) e l) (sym c) s);
  }

  -- of what a walk over its items drafted
  pub drafted_is : (n : ℕ) (attrs : List Attr) (t : Forest) (v : ℕ) (m : Made) (high : ℕ) (doc : ℕ → Forest) → high ≡ top_goals a
      → v ≡ plus (plus 1 (own_least nodes r a n attrs)) (inner n t) → v ≤ MAX_SIZE → FillsAttrs (graph nodes) n attrs m.attrs → own_broken r a m.attrs ≡ true
      → capped (length m.attrs) ≡ own_least nodes r a n attrs
      → IsDraft (template_at templates) (graph nodes) (top_aim r a) n 0 0 high t (walk u n 0 (from 0) t) doc → m.items ≡ doc high
      → IsElement (λ b j. FillsAttrs (graph nodes) n attrs b × Fills (template_at templates) (graph nodes) n t j × (is_broken r a b j ≡ true)) v m
  drafted_is n attrs t v m high doc g e l q h c draft same_doc =
      let small = right_of (plus 1 (own_least nodes r a n attrs)) (inner n t) MAX_SIZE (omega arith) (subst (λ w. w ≤ MAX_SIZE) e l) (omega arith) in
      let d = draft high (same_le high) (subst (λ y. at (walk u n 0 (from 0) t) y ≤ MAX_SIZE) (sym g) small) in
      made_is n attrs t v m e l q h c
      (subst (λ y. Runs (template_at templates) (graph nodes) (top_aim r a) n 0 0 t y m.items) g
      (subst (Runs (template_at templates) (graph nodes) (top_aim r a) n 0 0 t high) (sym same_doc) d.0))
      (subst (λ y. size m.items ≤ at (walk u n 0 (from 0) t) y) g (subst (λ j. size j ≤ at (walk u n 0 (from 0) t) high) (sym same_doc) d.1))

-- ---- tables

module _ (p : Page) (r : Rule) (a : Atom) (t : Tables) where
  abbrev Goes : ℕ → ℕ → ℕ → Forest → Type 0
  Goes x y m d = Runs (template_at p.templates.now) (graph p.nodes.now) (top_aim r a) m 0 x (template_at p.templates.now m) y d

  abbrev chosen : ℕ → ℕ → Table
  chosen x y = if x == y then t.stay else if y == 1 then t.first else if x == 1 then t.second else t.whole

  by_states : Solved (Goes 0 0) t.stay → (1 ≤ top_goals a → Solved (Goes 0 1) t.first) → (2 ≤ top_goals a → Solved (Goes 1 2) t.second)
      → (2 ≤ top_goals a → Solved (Goes 0 2) t.whole) → (x y : ℕ) → x ≤ y → y ≤ top_goals a → Solved (Goes x y) (chosen x y)
  by_states stay first second whole zero zero h k = stay
  by_states stay first second whole (suc zero) (suc zero) h k =
      stay_at (template_at p.templates.now) (graph p.nodes.now) (top_aim r a) t.stay stay 1
  by_states stay first second whole (suc (suc zero)) (suc (suc zero)) h k =
      stay_at (template_at p.templates.now) (graph p.nodes.now) (top_aim r a) t.stay stay 2
  by_states stay first second whole zero (suc zero) h k = first k
  by_states stay first second whole (suc zero) (suc (suc zero)) h k = second k
  by_states stay first second whole zero (suc (suc zero)) h k = whole k
  by_states stay first second whole x y h k = let m = goals_most a in absurd (omega (arith, h, k, m))

  pub tops_are : Solved (Goes 0 0) t.stay → (1 ≤ top_goals a → Solved (Goes 0 1) t.first) → (2 ≤ top_goals a → Solved (Goes 1 2) t.second)
      → (2 ≤ top_goals a → Solved (Goes 0 2) t.whole) → AreTops p r a t
  tops_are stay first second whole = record { each = by_states stay first second whole }

pub lent_is : (k : Lent) (t : Tables) → k.stay.now ≡ t.stay → k.first.now ≡ t.first → k.second.now ≡ t.second → k.whole.now ≡ t.whole → (x y : ℕ)
    → table_of k x y ≡ (if x == y then t.stay else if y == 1 then t.first else if x == 1 then t.second else t.whole)
lent_is k t e f g h x y = by (x == y) (y == 1) (x == 1)
  where
    by : (b c d : Bool) → (if b then k.stay.now else if c then k.first.now else if d then k.second.now else k.whole.now)
        ≡ (if b then t.stay else if c then t.first else if d then t.second else t.whole)
    by true c d = e
    by false true d = f
    by false false true = g
    by false false false = h

module _ (p : Page) (r : Rule) (a : Atom) (t : Tables) (k : Lent) (tops : AreTops p r a t) (stay : k.stay.now ≡ t.stay) (first : k.first.now ≡ t.first)
    (second : k.second.now ≡ t.second) (whole : k.whole.now ≡ t.whole) where
  pub lent_least : (x y m : ℕ) → x ≤ y → y ≤ top_goals a
      → IsLeast (Runs (template_at p.templates.now) (graph p.nodes.now) (top_aim r a) m 0 x (template_at p.templates.now m) y) (known_at (known_of k) x y m)
  lent_least x y m h l =
      subst (λ f. IsLeast (Runs (template_at p.templates.now) (graph p.nodes.now) (top_aim r a) m 0 x (template_at p.templates.now m) y) (f m))
      (sym (known_is k x y ∙ ap size_at (lent_is k t stay first second whole x y))) ((tops.each x y h l).least m)

  pub lent_docs : (x y : ℕ) → x ≤ y → y ≤ top_goals a
      → Documents (λ m d. Runs (template_at p.templates.now) (graph p.nodes.now) (top_aim r a) m 0 x (template_at p.templates.now m) y d) (table_of k x y)
  lent_docs x y h l = subst (Documents (λ m d. Runs (template_at p.templates.now) (graph p.nodes.now) (top_aim r a) m 0 x (template_at p.templates.now m) y d))
      (sym (lent_is k t stay first second whole x y)) (tops.each x y h l).doc

-- the whole answer for an element, by the size that a walk over its items came to
module _ (p : Page) (r : Rule) (a : Atom) (t : Tables) (k : Lent) (flat : Table) (tops : AreTops p r a t) (stay : k.stay.now ≡ t.stay)
    (first : k.first.now ≡ t.first) (second : k.second.now ≡ t.second) (whole : k.whole.now ≡ t.whole)
    (plain : Solved (λ m d. Unfolds (template_at p.templates.now) (graph p.nodes.now) m d) flat) where
  abbrev pub top_walk : Walk
  top_walk = record { aim = top_aim r a; nodes = p.nodes.now; plain = size_at flat; known = known_of k; cost = NONE }

  abbrev pub IsSize : ℕ → Element → ℕ → Type 0
  IsSize n e v = v ≡ plus (plus 1 (own_least p.nodes.now r a n e.attrs)) (at (walk top_walk n 0 (from 0) e.items) (top_goals a))

  pub big_is_broken : (n : ℕ) (e : Element) (w : Whole) → IsSize n e w.size → w.size ≤ NONE → MAX_SIZE < w.size → IsBroken p r a n e w
  big_is_broken n e w s m h = record {
    size = cost_is p.templates.now p.nodes.now r a (size_at flat) (known_of k) plain.least (lent_least p r a t k tops stay first second whole) n e.attrs e.items
        w.size s;
    most = m;
    made = λ l. absurd (omega (arith, l, h));
  }

  pub made_is_broken : (n : ℕ) (e : Element) (w : Whole) (high : ℕ) (doc : ℕ → Forest) → IsSize n e w.size → w.size ≤ NONE → high ≡ top_goals a
      → FillsAttrs (graph p.nodes.now) n e.attrs w.made.attrs × (own_broken r a w.made.attrs ≡ true)
      × (capped (length w.made.attrs) ≡ own_least p.nodes.now r a n e.attrs)
      → IsDraft (template_at p.templates.now) (graph p.nodes.now) (top_aim r a) n 0 0 high e.items (walk top_walk n 0 (from 0) e.items) doc
      → w.made.items ≡ doc high → IsBroken p r a n e w
  made_is_broken n e w high doc s m g q draft d = record {
    size = cost_is p.templates.now p.nodes.now r a (size_at flat) (known_of k) plain.least (lent_least p r a t k tops stay first second whole) n e.attrs e.items
        w.size s;
    most = m;
    made = λ l. drafted_is p.templates.now p.nodes.now r a (size_at flat) (known_of k) plain.least (lent_least p r a t k tops stay first second whole)
        n e.attrs e.items w.size w.made high doc g s l q.0 q.1 q.2 draft d;
  }
