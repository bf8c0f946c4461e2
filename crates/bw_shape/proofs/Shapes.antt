-- The outline that was made is the shape of the page graph.
use Rattle.std.proofs.Common.{◌≡◌, ◌⊎◌, ◌↔◌, inl, inr, ℕ, zero, suc, ◌<◌, ◌==◌, ◌&&◌, Bool, true, List, [], ◌∷◌, length, get_or, refl, ap, sym, ◌∙◌, subst}
use Rattle.std.proofs.Common.{arith}
use Rattle.std.specs.Prelude.{flat_map}
use Rattle.std.specs.List.{Contains}
use Rattle.std.proofs.lemmas.List.{append-nil}
use Rattle.std.proofs.lemmas.List.Elements.{Contains-append_cases}
use Rattle.std.proofs.lemmas.List.Sums.{passes_at_first}
use Rattle.std.proofs.lemmas.Option.{unwrap_or-slice_get}
use Rattle.std.proofs.lemmas.Bool.{and_parts, and_from}
use borrow.Author.Tests.{eqb-true, eq-eqb}
use Rattle.bw_lang.specs.declared.service.Service.{Service}
use Rattle.bw_lang.specs.Document.Forest.{Forest, none}
use Rattle.bw_lang.specs.Table.Names.{name_number, with_names}
use Rattle.bw_shape.specs.Rows.Rows.{at}
use Rattle.bw_schema.specs.declared.rules.Rule.{Rule}
use Rattle.bw_schema.specs.declared.schema.Schema.{Schema}
use Rattle.bw_schema.specs.Needs.{Needs, nothing, all_of, some_of, attr, one_value, content, order}
use Rattle.bw_strings.specs.Literals.{literals_of}
use Rattle.bw_sum.specs.Graph.{Graph, graph}
use Rattle.bw_sum.specs.Templates.{all_items, template_items}
use Rattle.bw_sum.specs.declared.summary.Summary.{Summary}
use Rattle.bw_types.specs.Fields.{field_names}
use Rattle.bw_shape.specs.declared.building.Graphed.{Graphed}
use Rattle.bw_shape.specs.Nodes.Fits.{Fits, AreStrings}
use Rattle.bw_shape.specs.Nodes.Templates.{template_at}
use Rattle.bw_shape.proofs.Nodes.Wrapped.{rows_are}
use Rattle.bw_shape.proofs.Nodes.Bools.{passes_at, any_at}
use Rattle.bw_shape.specs.declared.naming.Named.{Named}
use Rattle.bw_shape.specs.declared.outline.Outline.{Outline}
use Rattle.bw_shape.specs.Exact.{HoldFacts, AreTables}
use Rattle.bw_shape.specs.Formulas.{named_tags, ordered_tags, same_pair, pair_number, AreNamed}
use Rattle.bw_shape.specs.Outlines.{IsPageGraph, is_reached, root_of, AreFacts, AreKept, IsShape, IsOutlined}
use Rattle.bw_shape.specs.Shape.{Reached, Crossing}
use Rattle.bw_shape.specs.Tests.{tag_column}
use Rattle.bw_shape.proofs.Stays.{named_stay}

-- the templates by their numbers, said in two ways
pub template_is : (service : Service) → template_at (all_items service) ≡ template_items service
template_is service = λ i n. sym (unwrap_or-slice_get (all_items service) n none) i

-- a pair that is in the list is the one at its number
pub pair_at : (pairs : List (ℕ × ℕ)) (p : ℕ × ℕ) → pair_number pairs p < length pairs → get_or pairs (pair_number pairs p) (0, 0) ≡ p
pair_at pairs p h =
    let q = get_or pairs (pair_number pairs p) (0, 0) in
    let k = and_parts (p.0 == q.0) (p.1 == q.1) (passes_at_first (same_pair p) pairs (0, 0) h) in
    λ i. (sym (eqb-true p.0 q.0 k.0) i, sym (eqb-true p.1 q.1 k.1) i)

-- a member of a list is its first one or one behind
contains_cons : {X : Type 0} (y : X) (ys : List X) (x : X) → Contains (y ∷ ys) x → (y ≡ x) ⊎ Contains ys x
contains_cons y ys x (zero, l, e) = inl e
contains_cons y ys x (suc k, l, e) = inr (k, omega (arith, l), e)

-- a tag that formulas name is among the first
named_first : (tags : List (List ℕ)) (first : ℕ) (pairs : List (ℕ × ℕ)) (needs : Needs) → AreNamed tags first pairs needs → (x : List ℕ)
    → Contains (named_tags needs) x → name_number tags x < first
named_first tags first pairs nothing h x c = absurd (let l = c.1 in omega (arith, l))
named_first tags first pairs (all_of parts rest) h x c = elim (Contains-append_cases (named_tags parts) (named_tags rest) x c) [
  | inl it ↦ named_first tags first pairs parts h.0 x it
  | inr it ↦ named_first tags first pairs rest h.1 x it
]
named_first tags first pairs (some_of parts rest) h x c = elim (Contains-append_cases (named_tags parts) (named_tags rest) x c) [
  | inl it ↦ named_first tags first pairs parts h.0 x it
  | inr it ↦ named_first tags first pairs rest h.1 x it
]
named_first tags first pairs (attr y rest) h x c = named_first tags first pairs rest h x c
named_first tags first pairs (one_value y vs rest) h x c = named_first tags first pairs rest h x c
named_first tags first pairs (content y rest) h x c = elim (contains_cons y (named_tags rest) x c) [
  | inl it ↦ subst (λ z. name_number tags z < first) it h.0
  | inr it ↦ named_first tags first pairs rest h.1 x it
]
named_first tags first pairs (order y z rest) h x c = elim (contains_cons y (z ∷ named_tags rest) x c) [
  | inl it ↦ subst (λ w. name_number tags w < first) it h.0.0
  | inr more ↦ elim (contains_cons z (named_tags rest) x more) [
    | inl it ↦ subst (λ w. name_number tags w < first) it h.0.1.0
    | inr it ↦ named_first tags first pairs rest h.1 x it
  ]
]

abbrev IsOrdered : List (List ℕ) → ℕ → List (ℕ × ℕ) → List ℕ × List ℕ → Type 0
IsOrdered tags first pairs o =
    (name_number tags o.0 < first) × ((name_number tags o.1 < first) × (pair_number pairs (tag_column tags o.1, tag_column tags o.0) < length pairs))

-- and the pair of an order has a column
ordered_first : (tags : List (List ℕ)) (first : ℕ) (pairs : List (ℕ × ℕ)) (needs : Needs) → AreNamed tags first pairs needs → (o : List ℕ × List ℕ)
    → Contains (ordered_tags needs) o → IsOrdered tags first pairs o
ordered_first tags first pairs nothing h o c = absurd (let l = c.1 in omega (arith, l))
ordered_first tags first pairs (all_of parts rest) h o c = elim (Contains-append_cases (ordered_tags parts) (ordered_tags rest) o c) [
  | inl it ↦ ordered_first tags first pairs parts h.0 o it
  | inr it ↦ ordered_first tags first pairs rest h.1 o it
]
ordered_first tags first pairs (some_of parts rest) h o c = elim (Contains-append_cases (ordered_tags parts) (ordered_tags rest) o c) [
  | inl it ↦ ordered_first tags first pairs parts h.0 o it
  | inr it ↦ ordered_first tags first pairs rest h.1 o it
]
ordered_first tags first pairs (attr y rest) h o c = ordered_first tags first pairs rest h o c
ordered_first tags first pairs (one_value y vs rest) h o c = ordered_first tags first pairs rest h o c
ordered_first tags first pairs (content y rest) h o c = ordered_first tags first pairs rest h.1 o c
ordered_first tags first pairs (order y z rest) h o c = elim (contains_cons (y, z) (ordered_tags rest) o c) [
  | inl it ↦ subst (IsOrdered tags first pairs) it h.0
  | inr it ↦ ordered_first tags first pairs rest h.1 o it
]

-- what some rule names
of_some : {X : Type 0} (f : Rule → List X) (rules : List Rule) (x : X) → Contains (flat_map f rules) x → (r : Rule) × Contains rules r × Contains (f r) x
of_some f [] x c = absurd (let l = c.1 in omega (arith, l))
of_some f (r ∷ rules) x c = elim (Contains-append_cases (f r) (flat_map f rules) x c) [
  | inl it ↦ (r, (0, omega arith, refl), it)
  | inr it ↦ let q = of_some f rules x it in (q.0, (suc q.1.0, (let l = q.1.1 in omega (arith, l)), q.1.2), q.2)
]

module _ (templates : List Forest) (names : List (List ℕ)) (root : ℕ) (graphed : Graphed) (named : Named) (o : Outline)
    (made : IsOutlined templates names root graphed named o) (rules : List Rule) (literals : List (List ℕ)) (G : Graph)
    (rows : length graphed.nodes.items ≡ length templates) (sayings : length graphed.said.items ≡ length templates)
    (fits : Fits graphed.nodes.items G) (strings : AreStrings graphed.said.items literals G)
    (are_named : (r : Rule) → Contains rules r → AreNamed named.tags (length named.tags) named.pairs.items r.needs) where
  holds : HoldFacts templates G root names (length named.tags) named.pairs.items o.tables
  holds = made.facts G fits

  -- the formulas keep their numbers in the whole table
  stays : (r : Rule) → Contains rules r → AreNamed o.tables.tags (length named.tags) named.pairs.items r.needs
  stays r c =
      subst (λ ps. AreNamed o.tables.tags (length named.tags) ps r.needs) (append-nil named.pairs.items)
      (named_stay named.tags o.tables.tags (length named.tags) (length named.tags) named.pairs.items [] made.front (omega arith) (omega arith) r.needs
      (are_named r c))

  reached_to : (n : ℕ) → is_reached o n ≡ true → Reached G root n
  reached_to n h =
      let r = passes_at (λ m. m == n) o.tables.order.items h in
      (holds.reached n).0 (subst (Contains o.tables.order.items) (eqb-true r.0 n r.2) r.1)

  reached_from : (n : ℕ) → Reached G root n → is_reached o n ≡ true
  reached_from n w = any_at (λ m. m == n) o.tables.order.items n ((holds.reached n).1 w) (eq-eqb n n refl)

  -- a fact at a template that is reached
  at_reached : (n : ℕ) (b : Bool) (P : Type 0) → (Reached G root n → (b ≡ true) ↔ P) → ((is_reached o n && b) ≡ true) ↔ (Reached G root n × P)
  at_reached n b P h = (
    λ e. let p = and_parts (is_reached o n) b e in let w = reached_to n p.0 in (w, (h w).0 p.1),
    λ q. and_from (is_reached o n) b (reached_from n q.0) ((h q.0).1 q.1),
  )

  pub are_facts : AreFacts (template_at templates) G root names rules o
  are_facts = record {
    reached = λ n. (reached_to n, reached_from n);
    top = λ n x. at_reached n _ _ (holds.has_tops n x);
    have = λ n f l. at_reached n _ _ (λ w. holds.may_have n f w l);
    lack = λ n f l. at_reached n _ _ (λ w. holds.may_lack n f w l);
    twice = λ n f l. at_reached n _ _ (λ w. holds.has_twice n f w l);
    miss = λ n x c.
        let r = of_some (λ r. named_tags r.needs) rules x c in
        at_reached n _ _ (λ w. holds.may_miss n x w (named_first o.tables.tags (length named.tags) named.pairs.items r.0.needs (stays r.0 r.1) x r.2));
    cross = λ n x y c.
        let r = of_some (λ r. ordered_tags r.needs) rules (x, y) c in
        let q = ordered_first o.tables.tags (length named.tags) named.pairs.items r.0.needs (stays r.0 r.1) (x, y) r.2 in
        let few = (made.tables G fits).few in
        let p : ℕ × ℕ = (tag_column o.tables.tags y, tag_column o.tables.tags x) in
        let a = q.0 in
        let b = q.1.0 in
        subst (λ (ps : List (ℕ × ℕ)). ((is_reached o n && at o.tables.cross n (pair_number ps p)) ≡ true)
        ↔ (Reached G root n × Crossing (template_at templates) G x y n (template_at templates n))) (sym made.pairs)
        (at_reached n _ _ (λ w. holds.may_cross n (pair_number named.pairs.items p) x y w q.1.1 (pair_at named.pairs.items p q.1.1)
        (omega (arith, a, few)) (omega (arith, b, few))));
  }

  pub are_kept : AreKept templates literals G root rules o
  are_kept = record {
    rows = ap (λ g. length g.nodes.items) made.nodes ∙ rows;
    sayings = ap (λ g. length g.said.items) made.nodes ∙ sayings;
    small = made.small;
    reached = holds.reached;
    tables =
        subst (λ (g : Graphed). AreTables templates g.nodes.items G root o.first o.pairs.items o.tables.tags o.tables.tops o.tables.miss o.tables.cross)
        (sym made.nodes)
        (subst (λ k. AreTables templates graphed.nodes.items G root k o.pairs.items o.tables.tags o.tables.tops o.tables.miss o.tables.cross) (sym made.first)
        (subst (λ ps. AreTables templates graphed.nodes.items G root (length named.tags) ps o.tables.tags o.tables.tops o.tables.miss o.tables.cross)
        (sym made.pairs) (made.tables G fits)));
    strings = subst (λ (g : Graphed). AreStrings g.said.items literals G) (sym made.nodes) strings;
    named = λ r c.
        subst (λ k. AreNamed o.tables.tags k o.pairs.items r.needs) (sym made.first)
        (subst (λ ps. AreNamed o.tables.tags (length named.tags) ps r.needs) (sym made.pairs) (stays r c));
  }

pub is_shape : (service : Service) (page : Summary) (schema : Schema) (graphed : Graphed) (named : Named) (o : Outline)
    → IsOutlined (all_items service) (with_names [] (field_names service)) (root_of page) graphed named o
    → length graphed.nodes.items ≡ length (all_items service) → length graphed.said.items ≡ length (all_items service)
    → Fits graphed.nodes.items (graph (literals_of service) page) → AreStrings graphed.said.items (literals_of service) (graph (literals_of service) page)
    → ((r : Rule) → Contains schema.elements r → AreNamed named.tags (length named.tags) named.pairs.items r.needs) → IsShape service page schema o
is_shape service page schema graphed named o made rows sayings fits strings are_named =
    let G = graph (literals_of service) page in
    let names = with_names [] (field_names service) in
    record {
      facts = subst (λ T. AreFacts T G (root_of page) names schema.elements o) (template_is service)
          (are_facts (all_items service) names (root_of page) graphed named o made schema.elements (literals_of service) G rows sayings fits strings are_named);
      kept = are_kept (all_items service) names (root_of page) graphed named o made schema.elements (literals_of service) G rows sayings fits strings are_named;
    }

-- a page graph has one root, which is among the templates and the wrappers
pub has_root : (service : Service) (page : Summary) → IsPageGraph service page → 0 < length page.roots
has_root service page p = elim p.root [
  | inl e ↦ let k = ap length e in omega (arith, k)
  | inr e ↦ let k = ap length e in omega (arith, k)
]

pub root_is_low : (service : Service) (page : Summary) → IsPageGraph service page → root_of page < length (all_items service)
root_is_low service page p = elim p.root [
  | inl e ↦ let k = ap (λ rs. get_or rs 0 0) e in let r = rows_are service in omega (arith, k, r)
  | inr e ↦ let k = ap (λ rs. get_or rs 0 0) e in let r = rows_are service in omega (arith, k, r)
]
