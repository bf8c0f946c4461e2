-- Whether a need with an Or is sure, by the tables of a page graph.
use Rattle.std.proofs.Common.{◌≡◌, inl, inr, ℕ, ◌==◌, Bool, true, false, ◌||◌, ◌&&◌, not, List, Some, refl, ap, sym, ◌∙◌, subst}
use Rattle.std.proofs.lemmas.Bool.{false≢true, and_parts, and_cases, or_cases, or_parts, not-true, not-false}
use Rattle.std.proofs.lemmas.Option.{same_Some}
use Rattle.bw_lang.specs.declared.items.Attr.{Attr}
use Rattle.bw_lang.specs.declared.service.Service.{Service}
use Rattle.bw_lang.specs.Document.Forest.{Forest}
use Rattle.bw_schema.specs.declared.needs.Formula.{Formula}
use Rattle.bw_schema.specs.declared.needs.Formula.TheVariants.{And, Or, Attr as HasAttr, OneOf, Content, Order}
use Rattle.bw_schema.specs.declared.rules.Rule.{Rule}
use Rattle.bw_schema.specs.declared.schema.Schema.{Schema}
use Rattle.bw_schema.specs.Needs.{Needs, nothing, all_of, some_of, attr, one_value, content, order}
use Rattle.bw_schema.specs.NeedsView.{before_need}
use Rattle.bw_schema.specs.Rules.{rule_of}
use Rattle.bw_faults.specs.declared.fault.Fault.{Fault}
use Rattle.bw_strings.specs.declared.strings.StrSet.{StrSet}
use Rattle.bw_strings.specs.Literals.{literals_of}
use Rattle.bw_sum.specs.declared.summary.Summary.{Summary}
use Rattle.bw_sum.specs.Graph.{Graph}
use Rattle.bw_sum.specs.Graph.{graph as summary_graph}
use Rattle.bw_sum.specs.Templates.{all_items, template_items}
use Rattle.bw_shape.specs.declared.outline.Outline.{Outline}
use Rattle.bw_shape.specs.declared.tables.Tables.{Tables}
use Rattle.bw_shape.specs.Columns.{AreKnown}
use Rattle.bw_shape.specs.Formulas.{AreNamed}
use Rattle.bw_shape.specs.Nodes.Nodes.{Node}
use Rattle.bw_shape.specs.Nodes.Templates.{template_at}
use Rattle.bw_shape.specs.Outlines.{IsPageGraph, IsShape, root_of}
use Rattle.bw_shape.specs.Shape.{Reached}
use Rattle.bw_shape.proofs.Shapes.{template_is}
use Rattle.bw_judge.specs.Faults.{Sure, IsFault, wrong_root, breaks}
use Rattle.bw_judge.specs.Pages.{scene_at, IsPage}
use Rattle.bw_judge.specs.Scene.{Scene}
use Rattle.bw_judge.specs.Sure.{sure, sure_one}
use Rattle.bw_judge.proofs.ExactPage.{known_at, rule_in}
use Rattle.bw_judge.proofs.ExactSure.{sure_to, sure_from}
use Rattle.bw_judge.proofs.Whole.{wrapper_root}
use Rattle.bw_explain.specs.declared.finding.Spot.{Spot}
use Rattle.bw_explain.specs.Atoms.{is_plain, is_plain_one}
use Rattle.bw_explain.specs.Explained.{IsSplit, IsSpot, SplitNeeds, Tells, spot_of}
use Rattle.bw_explain.specs.Splits.{some_split}
use Rattle.bw_explain.proofs.Faulty.{spot_is}

pub split_before : (s : Scene) (f : Formula) (rest : Needs) (a : List Attr) (i : Forest)
    → some_split s (before_need f rest) a i ≡ ((not (is_plain_one f) && not (sure_one s f a i)) || some_split s rest a i)
split_before s (And p) rest a i = refl
split_before s (Or p) rest a i = refl
split_before s (HasAttr x) rest a i = refl
split_before s (OneOf x vs) rest a i = refl
split_before s (Content x) rest a i = refl
split_before s (Order x y) rest a i = refl

module _ (templates : List Forest) (nodes : List Node) (said : List (List (ℕ × StrSet))) (literals : List (List ℕ)) (o : Tables) (first : ℕ)
    (pairs : List (ℕ × ℕ)) (schema : Schema) (root : ℕ) (G : Graph)
    (page : IsPage templates nodes said literals o first pairs schema root G) (n : ℕ) (w : Reached G root n) (a : List Attr) (i : Forest)
    (known : AreKnown o.tags i) where
  abbrev scene : Scene
  scene = scene_at nodes said literals o pairs n

  abbrev Splits : Needs → Type 0
  Splits needs = SplitNeeds (template_at templates) G n a i needs

  unsure : (b : Bool) (parts : Needs) → AreNamed o.tags first pairs parts → not (sure scene b parts a i) ≡ true
      → Sure (template_at templates) G n a i b parts → ⊥
  unsure b parts k h s = false≢true (sym (not-true (sure scene b parts a i) h)
      ∙ sure_from templates nodes said literals o first pairs schema root G page n w b parts k a i s)

  pub split_to : (needs : Needs) → AreNamed o.tags first pairs needs → some_split scene needs a i ≡ true → Splits needs
  split_to nothing k h = false≢true h
  split_to (all_of parts rest) k h = elim (or_cases (not (is_plain parts) && not (sure scene true parts a i)) (some_split scene rest a i) h) [
    | inl p ↦ let q = and_parts (not (is_plain parts)) (not (sure scene true parts a i)) p in inl (not-true (is_plain parts) q.0, unsure true parts k.0 q.1)
    | inr p ↦ inr (split_to rest k.1 p)
  ]
  split_to (some_of parts rest) k h = elim (or_cases (not (sure scene false parts a i)) (some_split scene rest a i) h) [
    | inl p ↦ inl (unsure false parts k.0 p)
    | inr p ↦ inr (split_to rest k.1 p)
  ]
  split_to (attr x rest) k h = split_to rest k h
  split_to (one_value x vs rest) k h = split_to rest k h
  split_to (content x rest) k h = split_to rest k.1 h
  split_to (order x y rest) k h = split_to rest k.1 h

  is_sure : (b : Bool) (parts : Needs) → AreNamed o.tags first pairs parts → not (sure scene b parts a i) ≡ false
      → (Sure (template_at templates) G n a i b parts → ⊥) → ⊥
  is_sure b parts k h s = s (sure_to templates nodes said literals o first pairs schema root G page n w b parts k a i known
      (not-false (sure scene b parts a i) h))

  pub split_from : (needs : Needs) → AreNamed o.tags first pairs needs → some_split scene needs a i ≡ false → Splits needs → ⊥
  split_from nothing k h s = s
  split_from (all_of parts rest) k h s =
      let p = or_parts (not (is_plain parts) && not (sure scene true parts a i)) (some_split scene rest a i) h in
      elim s [
        | inl q ↦ elim (and_cases (not (is_plain parts)) (not (sure scene true parts a i)) p.0) [
          | inl e ↦ false≢true (sym e ∙ ap not q.0)
          | inr e ↦ is_sure true parts k.0 e q.1
        ]
        | inr q ↦ split_from rest k.1 p.1 q
      ]
  split_from (some_of parts rest) k h s =
      let p = or_parts (not (sure scene false parts a i)) (some_split scene rest a i) h in
      elim s [ inl q ↦ is_sure false parts k.0 p.0 q | inr q ↦ split_from rest k.1 p.1 q ]
  split_from (attr x rest) k h s = split_from rest k h s
  split_from (one_value x vs rest) k h s = split_from rest k h s
  split_from (content x rest) k h s = split_from rest k.1 h s
  split_from (order x y rest) k h s = split_from rest k.1 h s

-- the template of a fault of an element is reached
reached_of : (templates : ℕ → Forest) (G : Graph) (root : ℕ) (s : Schema) (point : ℕ) (f : Fault) → IsFault templates G root s point f → (f.number == 6) ≡ false
    → (n : ℕ) → f.template ≡ Some n → Reached G root n
reached_of templates G root s point _ (wrong_root e h) six n t = absurd (false≢true (sym six))
reached_of templates G root s point _ (breaks {n = m} w at rule b) six n t = subst (Reached G root) (same_Some m n t) w

module _ (service : Service) (page : Summary) (schema : Schema) (o : Outline) (graphed : IsPageGraph service page) (shape : IsShape service page schema o)
    (f : Fault) (s : Spot) (is : IsSpot (all_items service) f s) (r : Rule) (rule : rule_of schema.elements s.element.now.tag ≡ Some r) where
  abbrev G : Graph
  G = summary_graph (literals_of service) page

  abbrev T : ℕ → Forest
  T = template_at (all_items service)

  is_page : IsPage (all_items service) o.graphed.nodes.items o.graphed.said.items (literals_of service) o.tables o.first o.pairs.items schema (root_of page) G
  is_page = record {
    wrapper = wrapper_root service page graphed;
    reached = shape.kept.reached;
    tables = shape.kept.tables;
    strings = shape.kept.strings;
    named = shape.kept.named;
  }

  abbrev there : Bool
  there = some_split (scene_at o.graphed.nodes.items o.graphed.said.items (literals_of service) o.tables o.pairs.items s.template) r.needs
      s.element.now.attrs s.element.now.items

  pub split_is : IsFault (template_items service) G (root_of page) schema f.point f → f.number ≡ 7
      → Tells there (IsSplit (template_items service) G schema.elements f)
  split_is fault seven = subst (λ (t : ℕ → Forest). Tells there (IsSplit t G schema.elements f)) (template_is service) (
    λ h. record {
      number = seven;
      place = spot_of s;
      rule = r;
      at = record { template = is.template; place = is.place; at = is.at; rule = rule };
      needs = split_to (all_items service) o.graphed.nodes.items o.graphed.said.items (literals_of service) o.tables o.first o.pairs.items schema
          (root_of page) G is_page s.template reached s.element.now.attrs s.element.now.items known r.needs named h;
    },
    λ h x. split_from (all_items service) o.graphed.nodes.items o.graphed.said.items (literals_of service) o.tables o.first o.pairs.items schema
        (root_of page) G is_page s.template reached s.element.now.attrs s.element.now.items known r.needs named h (found x),
  )
    where
      reached : Reached G (root_of page) s.template
      reached = reached_of (template_items service) G (root_of page) schema f.point f fault (ap (λ n. n == 6) seven) s.template is.template

      known : AreKnown o.tables.tags s.element.now.items
      known = known_at o.tables.tags is.at (shape.kept.tables.known s.template reached)

      named : AreNamed o.tables.tags o.first o.pairs.items r.needs
      named = shape.kept.named r (rule_in schema.elements s.element.now.tag r rule)

      found : IsSplit T G schema.elements f → SplitNeeds T G s.template s.element.now.attrs s.element.now.items r.needs
      found x =
          let p = spot_is T schema.elements f x.place x.rule s.template s.place s.element.now x.at
          (same_Some x.place.template s.template (sym x.at.template ∙ is.template)) (sym is.place) is.at in
          let q : x.rule ≡ r = same_Some x.rule r (sym x.at.rule ∙ ap (λ (y : _). rule_of schema.elements y.tag) p ∙ rule) in
          subst (λ (z : Rule). SplitNeeds T G s.template s.element.now.attrs s.element.now.items z.needs) q
          (subst (λ (y : _). SplitNeeds T G y.template y.attrs y.inner x.rule.needs) p x.needs)
