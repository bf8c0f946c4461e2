-- The list of faults is exactly that of the page graph.
use Rattle.std.proofs.Common.{◌≡◌, inl, inr, ℕ, suc, ◌+◌, not, List, [], ◌∷◌, Option, Some, None, if◌then◌else◌, refl, ap, sym, ◌∙◌, subst}
use Rattle.std.proofs.Common.{arith}
use Rattle.std.specs.List.{Contains}
use Rattle.std.proofs.lemmas.Bool.{cases_Bool, not-true}
use Rattle.std.proofs.lemmas.Option.{none-some, same_Some}
use Rattle.bw_lang.specs.declared.items.Attr.{Attr}
use Rattle.bw_lang.specs.Document.Forest.{Forest, none, text, gap, element}
use Rattle.bw_lang.specs.Document.Documents.{elements}
use Rattle.bw_lang.specs.Table.Names.{same}
use Rattle.bw_strings.specs.declared.strings.StrSet.{StrSet}
use Rattle.bw_schema.specs.declared.rules.Rule.{Rule}
use Rattle.bw_schema.specs.declared.schema.Schema.{Schema}
use Rattle.bw_schema.specs.Rules.{rule_of}
use Rattle.bw_faults.specs.declared.fault.Fault.{Fault}
use Rattle.bw_faults.specs.Lists.{Lists}
use Rattle.bw_sum.specs.Graph.{Graph}
use Rattle.bw_shape.specs.Nodes.Nodes.{Node}
use Rattle.bw_shape.specs.Shape.{Reached}
use Rattle.bw_shape.specs.Columns.{AreKnown}
use Rattle.bw_shape.specs.Nodes.Templates.{template_at}
use Rattle.bw_shape.specs.declared.tables.Tables.{Tables}
use Rattle.bw_judge.specs.declared.content.Spot.{Spot}
use Rattle.bw_faults.specs.Lists.{When}
use Rattle.bw_judge.specs.Scene.{Scene}
use Rattle.bw_judge.specs.Found.{OfParts, OfRule, OfElement, OfForest, OfRoot, moved}
use Rattle.bw_judge.specs.Faults as fault
use Rattle.bw_judge.specs.Faults.{At, IsFault, fault_in}
use Rattle.bw_judge.specs.Pages.{scene_at, OfTemplate, OfPage, IsPage}
use Rattle.bw_judge.proofs.Lists.{Of}
use Rattle.bw_faults.proofs.Adding.{some_to, some_from}
use Rattle.bw_judge.proofs.ExactSure.{parts_to, parts_from}

-- the element of which it holds
abbrev Placed : Of → Spot → Forest → Fault → Type 0
Placed P s t f = (k : ℕ) × (tag : List ℕ) × (a : List Attr) × (i : Forest) × At t k tag a i × P (moved s (s.place + k)) tag a i f

to_place : (P : Of) (s : Spot) (t : Forest) (f : Fault) → OfForest P s t f → Placed P s t f
to_place P s none f h = absurd h
to_place P s (text x r) f h = let q = to_place P s r f h in (q.0, q.1, q.2, q.3, fault.after_text q.4, q.5)
to_place P s (gap g r) f h = let q = to_place P s r f h in (q.0, q.1, q.2, q.3, fault.after_gap q.4, q.5)
to_place P s (element tag a i r) f (inl h) = (1, tag, a, i, fault.here, h)
to_place P s (element tag a i r) f (inr (inl h)) =
    let q = to_place P (moved s (s.place + 1)) i f h in
    let e : s.place + 1 + q.0 ≡ s.place + (1 + q.0) = omega arith in
    (1 + q.0, q.1, q.2, q.3, fault.inside q.4, subst (λ k. P (moved s k) q.1 q.2 q.3 f) e q.5)
to_place P s (element tag a i r) f (inr (inr h)) =
    let q = to_place P (moved s (s.place + 1 + elements i)) r f h in
    let e : s.place + 1 + elements i + q.0 ≡ s.place + (1 + elements i + q.0) = omega arith in
    (1 + elements i + q.0, q.1, q.2, q.3, fault.after_element q.4, subst (λ k. P (moved s k) q.1 q.2 q.3 f) e q.5)

from_place : (P : Of) (s : Spot) (f : Fault) {t : Forest} {k : ℕ} {tag : List ℕ} {a : List Attr} {i : Forest} → At t k tag a i
    → P (moved s (s.place + k)) tag a i f → OfForest P s t f
from_place P s f fault.here h = inl h
from_place P s f {tag = tag} {a = a} {i = i} (fault.inside {k = k} m) h =
    let e : s.place + (1 + k) ≡ s.place + 1 + k = omega arith in inr (inl (from_place P (moved s (s.place + 1)) f m (subst (λ l. P (moved s l) tag a i f) e h)))
from_place P s f {tag = tag} {a = a} {i = i} (fault.after_element {i = j} {k = k} m) h =
    let e : s.place + (1 + elements j + k) ≡ s.place + 1 + elements j + k = omega arith in
    inr (inr (from_place P (moved s (s.place + 1 + elements j)) f m (subst (λ l. P (moved s l) tag a i f) e h)))
from_place P s f (fault.after_text m) h = from_place P s f m h
from_place P s f (fault.after_gap m) h = from_place P s f m h

-- the tags in an element of a template are known
pub known_at : (tags : List (List ℕ)) {t : Forest} {k : ℕ} {tag : List ℕ} {a : List Attr} {i : Forest} → At t k tag a i → AreKnown tags t → AreKnown tags i
known_at tags fault.here h = h.1.0
known_at tags (fault.inside m) h = known_at tags m h.1.0
known_at tags (fault.after_element m) h = known_at tags m h.1.1
known_at tags (fault.after_text m) h = known_at tags m h
known_at tags (fault.after_gap m) h = known_at tags m h

-- the rule of a tag is one of the rules
pub rule_in : (rules : List Rule) (tag : List ℕ) (r : Rule) → rule_of rules tag ≡ Some r → Contains rules r
rule_in [] tag r h = absurd (none-some r h)
rule_in (q ∷ rules) tag r h = elim (cases_Bool (same q.tag tag)) [
  | inl it ↦ (0, omega arith, same_Some q r (sym (ap (λ b. if b then Some q else rule_of rules tag) it) ∙ h))
  | inr isnt ↦ let c = rule_in rules tag r (sym (ap (λ b. if b then Some q else rule_of rules tag) isnt) ∙ h) in (suc c.0, omega (arith, c.1), c.2)
]

some_rule : (s : Scene) (rules : List Rule) (o : Option Rule) (spot : Spot) (tag : List ℕ) (a : List Attr) (i : Forest) (f : Fault)
    → rule_of rules tag ≡ o → OfRule s o spot tag a i f
    → (r : Rule) × (rule_of rules tag ≡ Some r) × OfParts s r spot tag a i f
some_rule s rules None spot tag a i f e h = absurd h
some_rule s rules (Some r) spot tag a i f e h = (r, e, h)

module _ (templates : List Forest) (nodes : List Node) (said : List (List (ℕ × StrSet))) (literals : List (List ℕ)) (o : Tables) (first : ℕ)
    (pairs : List (ℕ × ℕ)) (schema : Schema) (root point : ℕ) (G : Graph)
    (page : IsPage templates nodes said literals o first pairs schema root G) where
  template_to : (n : ℕ) → Reached G root n → (f : Fault) → OfTemplate templates nodes said literals o pairs schema point n f
      → IsFault (template_at templates) G root schema point f
  template_to n w f h =
      let s : Spot = record { point = point; template = n; place = 0 } in
      let S = scene_at nodes said literals o pairs n in
      let q = to_place (OfElement S schema.elements) s (template_at templates n) f h in
      let r = some_rule S schema.elements (rule_of schema.elements q.1) (moved s (0 + q.0)) q.1 q.2 q.3 f refl q.5 in
      let b = parts_to templates nodes said literals o first pairs schema root G page n w r.0 (page.named r.0 (rule_in schema.elements q.1 r.0 r.1))
      (moved s (0 + q.0)) q.1 q.2 q.3 (known_at o.tags q.4 (page.tables.known n w)) f r.2 in
      let e : 0 + q.0 ≡ q.0 = omega arith in
      subst (IsFault (template_at templates) G root schema point) (sym (b.3 ∙ ap (λ k. fault_in point b.0 n k b.1) e)) (fault.breaks w q.4 r.1 b.2)

  root_to : (f : Fault) (t : Forest) → (tag : List ℕ) (a : List Attr) (i : Forest) → t ≡ element tag a i none → template_at templates root ≡ t
      → OfRoot point schema.root root t f → IsFault (template_at templates) G root schema point f
  root_to f t tag a i e d h =
      let k : When (not (same tag schema.root)) (fault_in point 6 root 1 tag) f = subst (λ u. OfRoot point schema.root root u f) e h in
      subst (IsFault (template_at templates) G root schema point) (sym k.1) (fault.wrong_root (d ∙ e) (not-true _ k.0))

  pub page_to : (f : Fault) → OfPage templates nodes said literals o pairs schema root point o.order.items f
      → IsFault (template_at templates) G root schema point f
  page_to f (inl h) = let u = page.wrapper in root_to f (template_at templates root) u.0 u.1 u.2 u.3 refl h
  page_to f (inr h) =
      let q = some_to (OfTemplate templates nodes said literals o pairs schema point) o.order.items f h in
      template_to q.0 ((page.reached q.0).0 q.1) f q.2

  pub page_from : {f : Fault} → IsFault (template_at templates) G root schema point f
      → OfPage templates nodes said literals o pairs schema root point o.order.items f
  page_from (fault.wrong_root {tag = tag} e d) = inl (subst (λ u. OfRoot point schema.root root u (fault_in point 6 root 1 tag)) (sym e) (ap not d, refl))
  page_from (fault.breaks {n = n} {place = place} {number = number} {detail = detail} {tag = tag} {a = a} {i = i} {r = r} w m e b) =
      let s : Spot = record { point = point; template = n; place = 0 } in
      let S = scene_at nodes said literals o pairs n in
      let f = fault_in point number n place detail in
      let p = parts_from templates nodes said literals o first pairs schema root G page n w r (page.named r (rule_in schema.elements tag r e)) (moved s place)
      (known_at o.tags m (page.tables.known n w)) b in
      let k : 0 + place ≡ place = omega arith in
      let h : OfElement S schema.elements (moved s (0 + place)) tag a i f =
      subst (λ l. OfElement S schema.elements (moved s l) tag a i f) (sym k) (subst (λ z. OfRule S z (moved s place) tag a i f) (sym e) p) in
      inr (some_from (OfTemplate templates nodes said literals o pairs schema point) o.order.items f n ((page.reached n).1 w)
      (from_place (OfElement S schema.elements) s f m h))

  pub exact_list : (l : List Fault) → Lists (OfPage templates nodes said literals o pairs schema root point o.order.items) l
      → Lists (IsFault (template_at templates) G root schema point) l
  exact_list l h = record { set = h.set; sound = λ x k. page_to x (h.sound x k); whole = λ x k. h.whole x (page_from k) }
