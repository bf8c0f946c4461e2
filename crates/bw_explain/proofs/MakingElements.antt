-- What is put for a text or an element into a document that takes one state to another.
use Rattle.std.proofs.Common.{◌≡◌, ℕ, ◌+◌, ◌-◌, ◌<◌, ◌≤◌, ◌==◌, min, true, false, ◌&&◌, List, length, ap, sym, ◌∙◌, subst, arith, refl}
use Rattle.std.specs.List.{list_all}
use Rattle.std.proofs.lemmas.Bool.{eqb-true, and_parts}
use Rattle.bw_lang.specs.declared.items.Attr.{Attr}
use Rattle.bw_lang.specs.Document.Forest.{Forest, none, text, element}
use Rattle.bw_lang.specs.Document.Documents.{append}
use Rattle.bw_shape.specs.Nodes.Templates.{template_at}
use Rattle.bw_sum.specs.Graph.{Graph}
use Rattle.bw_sum.specs.Unfolding.{FillsAttrs, Fills}
use Rattle.bw_explain.specs.declared.sizes.TheConstants.{MAX_SIZE, PAST}
use Rattle.bw_explain.specs.declared.aim.Aim.{Aim as Sought}
use Rattle.bw_explain.specs.declared.aim.Aim.TheVariants.{Plain, Tops, One}
use Rattle.bw_explain.specs.declared.aim.Made.{Made}
use Rattle.bw_explain.specs.declared.page.Page.{Page}
use Rattle.bw_explain.specs.Atoms.{is_broken}
use Rattle.bw_explain.specs.Aims.{aim_of, cost_of, IsElement, IsMade, IsCopy}
use Rattle.bw_explain.specs.Sizes.{size, capped, plus, if_so, may_fill, attrs_least}
use Rattle.bw_explain.specs.Walks.{Aim, takes, is_spot, is_wordy, Runs, words, beside, inside, here, Walk, plain_walk, from, text_cost, item_cost, flat_size}
use Rattle.bw_explain.specs.Walks.{inside_size, spot_size, walk, Adds}
use Rattle.bw_explain.specs.Ways.{Way, ways_at, graph}
use Rattle.bw_explain.proofs.Numbers.{left_of, right_of, if_there, own_exact}
use Rattle.bw_explain.proofs.WalkLaws.{element_top, element_deep}

small_by : (p q : ℕ) → p ≡ q → p ≤ MAX_SIZE → q ≤ PAST
small_by p q e h = omega (arith, e, h)

within_by : (s v w p : ℕ) → s ≤ v → w ≡ v → p ≡ w → s ≤ p
within_by s v w p h e f = omega (arith, h, e, f)

lesser_within : (s p a b : ℕ) → s ≤ a → p ≡ min a b → a < b → s ≤ p
lesser_within s p a b h e l = omega (arith, h, e, l)

other_by : (p a b : ℕ) → p ≡ min a b → p ≤ MAX_SIZE → b ≤ a → b ≤ PAST
other_by p a b e h l = omega (arith, e, h, l)

other_cost : (p a b v w : ℕ) → p ≡ min a b → p ≤ MAX_SIZE → b ≤ a → b ≡ v → v ≡ w → w ≤ MAX_SIZE
other_cost p a b v w e h l f g = omega (arith, e, h, l, f, g)

other_within : (s p a b v w : ℕ) → s ≤ w → p ≡ min a b → b ≤ a → b ≡ v → v ≡ w → s ≤ p
other_within s p a b v w h e l f g = omega (arith, h, e, l, f, g)

module _ (templates : ℕ → Forest) (G : Graph) (A : Aim) (n k x y : ℕ) where
  pub words_run : (s : List ℕ) (old new : Forest) → text_cost A s x y ≤ MAX_SIZE → new ≡ append old (text s none)
      → Adds (Runs templates G A n k x (text s none) y) (text_cost A s x y) old new
  words_run s old new l e =
      let c = if_there (takes x y true (is_wordy A s)) 1 (omega (arith, l)) in
      record { some = text s none; behind = e; has = words c.0; most = let h = c.1 in omega (arith, h) }

  pub element_run : (tag : List ℕ) (a : List Attr) (i : Forest) (v : ℕ) (m : Made) (old new : Forest)
      → IsElement (λ b j. Runs templates G A n k x (element tag a i none) y (element tag b j none)) v m
      → new ≡ append old (element tag m.attrs m.items none) → Adds (Runs templates G A n k x (element tag a i none) y) v old new
  element_run tag a i v m old new is e =
      record { some = element tag m.attrs m.items none; behind = e; has = is.fit; most = let h = is.most in omega (arith, h) }

-- of the attributes, where the size isn't too big
pub attrs_fit : (ways : List Way) (a : List Attr) (v : ℕ) → plus (plus 1 (attrs_least ways a)) v ≤ MAX_SIZE → list_all (λ x. may_fill ways x.value) a ≡ true
attrs_fit ways a v l =
    (if_there (list_all (λ x. may_fill ways x.value) a) (capped (length a))
    (right_of 1 (attrs_least ways a) PAST (omega arith) (left_of (plus 1 (attrs_least ways a)) v PAST (omega arith) (omega (arith, l)) (omega arith))
    (omega arith))).0

pub attrs_are : (ways : List Way) (a : List Attr) (v : ℕ) → plus (plus 1 (attrs_least ways a)) v ≤ MAX_SIZE → attrs_least ways a ≡ capped (length a)
attrs_are ways a v l =
    (if_there (list_all (λ x. may_fill ways x.value) a) (capped (length a))
    (right_of 1 (attrs_least ways a) PAST (omega arith) (left_of (plus 1 (attrs_least ways a)) v PAST (omega arith) (omega (arith, l)) (omega arith))
    (omega arith))).1

-- the size of an element that was filled
pub filled_size : (ways : List Way) (a : List Attr) (v : ℕ) (m : Made) → plus (plus 1 (attrs_least ways a)) v ≤ MAX_SIZE → length m.attrs ≡ length a
    → size m.items ≤ v → 1 + length m.attrs + size m.items ≤ plus (plus 1 (attrs_least ways a)) v
filled_size ways a v m l e s = own_exact (attrs_least ways a) v (length m.attrs) (size m.items) l (attrs_are ways a v l ∙ ap capped (sym e)) s

-- the element that is looked for, as it was copied
copy_fits : (p : Page) (aim : Sought) (m : Made) → cost_of aim ≤ MAX_SIZE → IsMade p aim → IsCopy aim m
    → FillsAttrs (graph p.nodes.now) (aim_of aim).template (aim_of aim).attrs m.attrs
    × Fills (template_at p.templates.now) (graph p.nodes.now) (aim_of aim).template (aim_of aim).inner m.items
    × ((aim_of aim).good m.attrs m.items ≡ true) × (1 + length m.attrs + size m.items ≤ cost_of aim)
copy_fits p Plain m l made copied = absurd copied
copy_fits p (Tops r a) m l made copied = absurd copied
copy_fits p (One b) m l made copied =
    let e = made l in
    let q = sym copied.0 in
    let r = sym copied.1 in (
      subst (λ c. FillsAttrs (graph p.nodes.now) b.template b.element.now.attrs c) q e.fit.0,
      subst (λ j. Fills (template_at p.templates.now) (graph p.nodes.now) b.template b.element.now.items j) r e.fit.1,
      subst (λ c. is_broken b.rule.now b.atom.now c m.items ≡ true) q (subst (λ j. is_broken b.rule.now b.atom.now b.made.now.attrs j ≡ true) r e.fit.2),
      let h = e.most in let c = ap length copied.0 in let d = ap size copied.1 in omega (arith, h, c, d),
    )

module _ (p : Page) (aim : Sought) (n k x y : ℕ) (tag : List ℕ) (a : List Attr) (i : Forest) where
  abbrev T : ℕ → Forest
  T = template_at p.templates.now

  abbrev G : Graph
  G = graph p.nodes.now

  abbrev A : Aim
  A = aim_of aim

  abbrev Becomes : List Attr → Forest → Type 0
  Becomes b j = Runs T G A n k x (element tag a i none) y (element tag b j none)

  top_is : (u : Walk) → u.aim.deep ≡ false
      → item_cost u n k (element tag a i none) x y ≡ if_so (takes x y (u.aim.stays tag) (u.aim.next x tag)) (flat_size u n a i)
  top_is u o = element_top u.aim n (k + 1) tag (plus 1 (attrs_least (ways_at u.nodes n) a)) (walk u n (k + 1) (from 0) i) u.cost
      (walk (plain_walk u.nodes u.plain) n 0 (from 0) i).start x y o

  deep_is : (u : Walk) → u.aim.deep ≡ true → item_cost u n k (element tag a i none) x y ≡ min (inside_size u n k a i (y - x)) (spot_size u n k x y)
  deep_is u o = element_deep u.aim n (k + 1) tag (plus 1 (attrs_least (ways_at u.nodes n) a)) (walk u n (k + 1) (from 0) i) u.cost
      (walk (plain_walk u.nodes u.plain) n 0 (from 0) i).start x y o

  pub top_run : (u : Walk) (m : Made) → u.aim ≡ A → A.deep ≡ false → item_cost u n k (element tag a i none) x y ≤ MAX_SIZE
      → IsElement (λ b j. FillsAttrs G n a b × Fills T G n i j) (flat_size u n a i) m → IsElement Becomes (item_cost u n k (element tag a i none) x y) m
  top_run u m e flat l is =
      let f = top_is u (ap (λ (z : Aim). z.deep) e ∙ flat) in
      let c = if_there (takes x y (u.aim.stays tag) (u.aim.next x tag)) (flat_size u n a i) (small_by _ _ f l) in
      record {
        fit = beside flat (ap (λ (z : Aim). takes x y (z.stays tag) (z.next x tag)) (sym e) ∙ c.0) is.fit.0 is.fit.1;
        most = within_by _ _ _ _ is.most c.1 f;
      }

  pub inside_run : (u : Walk) (m : Made) → u.aim ≡ A → A.deep ≡ true → x ≤ y → inside_size u n k a i (y - x) < spot_size u n k x y
      → IsElement (λ b j. FillsAttrs G n a b × Runs T G A n (k + 1) 0 i (y - x) j) (inside_size u n k a i (y - x)) m
      → IsElement Becomes (item_cost u n k (element tag a i none) x y) m
  inside_run u m e deep le h is =
      record {
        fit = subst (λ w. Runs T G A n k x (element tag a i none) w (element tag m.attrs m.items none)) (let f : x + (y - x) ≡ y = omega (arith, le) in f)
            (inside deep is.fit.0 is.fit.1);
        most = lesser_within _ _ _ _ is.most (deep_is u (ap (λ (z : Aim). z.deep) e ∙ deep)) h;
      }

  -- where it is what is looked for, that isn't too big
  pub spot_small : (u : Walk) → u.aim.deep ≡ true → item_cost u n k (element tag a i none) x y ≤ MAX_SIZE
      → spot_size u n k x y ≤ inside_size u n k a i (y - x) → u.cost ≤ MAX_SIZE
  spot_small u o l h =
      let d = deep_is u o in
      let c = if_there (((x + 1) == y) && is_spot u.aim n (k + 1)) u.cost (other_by _ _ _ d l h) in
      other_cost _ _ _ _ _ d l h c.1 refl

  pub spot_run : (u : Walk) (m : Made) → u.aim ≡ A → u.cost ≡ cost_of aim → A.deep ≡ true → item_cost u n k (element tag a i none) x y ≤ MAX_SIZE
      → spot_size u n k x y ≤ inside_size u n k a i (y - x) → IsMade p aim → IsCopy aim m → IsElement Becomes (item_cost u n k (element tag a i none) x y) m
  spot_run u m e f deep l h made copied =
      let d = deep_is u (ap (λ (z : Aim). z.deep) e ∙ deep) in
      let c = if_there (((x + 1) == y) && is_spot u.aim n (k + 1)) u.cost (other_by _ _ _ d l h) in
      let q = and_parts ((x + 1) == y) (is_spot u.aim n (k + 1)) c.0 in
      let w = copy_fits p aim m (other_cost _ _ _ _ _ d l h c.1 f) made copied in
      record {
        fit = subst (λ z. Runs T G A n k x (element tag a i none) z (element tag m.attrs m.items none)) (eqb-true (x + 1) y q.0)
            (here deep (ap (λ (z : Aim). is_spot z n (k + 1)) (sym e) ∙ q.1) w.0 w.1 w.2);
        most = other_within _ _ _ _ _ _ w.3 d h c.1 f;
      }
