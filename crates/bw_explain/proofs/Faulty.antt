-- The element of a fault.
use Rattle.std.proofs.Common.{◌≡◌, inl, inr, ℕ, ◌==◌, true, false, List, Some, refl, ap, sym, ◌∙◌}
use Rattle.std.proofs.Common.{subst}
use Rattle.bw_lang.specs.Table.Names.{same}
use Rattle.std.proofs.lemmas.Bool.{false≢true, cases_Bool}
use Rattle.bw_sum.specs.Unfolding.{Unfolds}
use Rattle.bw_explain.specs.Shows.{Shows, each, some}
use Rattle.bw_lang.specs.declared.items.Attr.{Attr}
use Rattle.bw_lang.specs.declared.items.Element.{Element}
use Rattle.bw_lang.specs.declared.tree.Tree.{Tree}
use Rattle.bw_lang.specs.Document.Forest.{Forest}
use Rattle.bw_schema.specs.declared.rules.Rule.{Rule}
use Rattle.bw_schema.specs.declared.schema.Schema.{Schema}
use Rattle.bw_schema.specs.Rules.{rule_of}
use Rattle.bw_faults.specs.declared.fault.Fault.{Fault}
use Rattle.bw_judge.specs.Faults.{At, IsFault, wrong_root, breaks, Breaks, attribute, absent, unsure, value, child, words, need}
use Rattle.std.proofs.lemmas.Option.{same_Some}
use Rattle.bw_lang.specs.Document.Documents.{close}
use Rattle.bw_schema.specs.Validity.{Valid}
use Rattle.bw_explain.proofs.ShownLaws.{shown_is_broken, root_is_broken}
use Rattle.bw_sum.specs.Graph.{Graph}
use Rattle.bw_explain.specs.declared.explained.Explained.{Explained}
use Rattle.bw_explain.specs.Atoms.{atoms_of}
use Rattle.bw_explain.specs.Explained.{IsAnswer, page_of, all_big, none_there, IsExplained, page, too_big, IsAt, FindsOne, Ties}
use Rattle.bw_explain.specs.Explained.{IsSplit, NotValid, is_none, Place, HasElement, IsPlaced, IsSpot}
use Rattle.bw_explain.specs.declared.finding.Spot.{Spot}
use Rattle.bw_lang.specs.declared.service.Service.{Service}
use Rattle.bw_shape.specs.Nodes.Templates.{template_at}
use Rattle.bw_shape.proofs.Shapes.{template_is}
use Rattle.bw_sum.specs.Templates.{all_items, template_items}
use Rattle.bw_explain.specs.declared.explained.Explained.TheVariants as answers
use Rattle.bw_explain.specs.Places.{IsThere}
use Rattle.bw_explain.proofs.Placing.{at_same}
use Rattle.bw_explain.proofs.Showing.{explained_is_shown, root_is_shown}

pub fault_is_at : (templates : ℕ → Forest) (G : Graph) (root : ℕ) (s : Schema) (point : ℕ) (f : Fault) → IsFault templates G root s point f → (f.number == 6)
    ≡ false → (p : Place) × ((r : Rule) × IsAt templates s.elements f p r)
fault_is_at templates G root s point _ (wrong_root e h) six = absurd (false≢true (sym six))
fault_is_at templates G root s point _ (breaks {n = n} {place = place} {tag = tag} {a = a} {i = i} {r = r} reached at rule b) six = (
  record { template = n; place = place; tag = tag; attrs = a; inner = i },
  (r, record { template = refl; place = refl; at = at; rule = rule }),
)

-- by the element and the rule that were found
pub by_rule : (templates : ℕ → Forest) (G : Graph) (rules : List Rule) (f : Fault) (root : ℕ) (e : Explained) (spot : Place) (rule : Rule)
    → rule_of rules spot.tag ≡ Some rule → IsAnswer (FindsOne templates G spot rule (atoms_of f.number rule) root) e
    → (p : Place) (r : Rule) → IsAt templates rules f p r → p ≡ spot → IsAnswer (FindsOne templates G p r (atoms_of f.number r) root) e
by_rule templates G rules f root e spot rule found h p r is g =
    let k : rule ≡ r = same_Some rule r (sym found ∙ ap (λ (q : Place). rule_of rules q.tag) (sym g) ∙ is.rule) in
    subst (λ (q : Place). IsAnswer (FindsOne templates G q r (atoms_of f.number r) root) e) (sym g)
    (subst (λ (x : Rule). IsAnswer (FindsOne templates G spot x (atoms_of f.number x) root) e) k h)

-- the element that was found is the fault's
pub spot_is : (templates : ℕ → Forest) (rules : List Rule) (f : Fault) (p : Place) (r : Rule) (template place : ℕ) (e : Element) → IsAt templates rules f p r
    → p.template ≡ template → place ≡ f.place → IsThere (templates template) place e
    → p ≡ record { template = template; place = place; tag = e.tag; attrs = e.attrs; inner = e.items }
spot_is templates rules f p r template place e is t g h =
    let k = sym is.place ∙ sym g in
    let s = at_same (subst (λ n. At (templates n) p.place p.tag p.attrs p.inner) t is.at) h k in
    ap (λ x. record { template = x; place = p.place; tag = p.tag; attrs = p.attrs; inner = p.inner }) t
    ∙ ap (λ x. record { template = template; place = x; tag = p.tag; attrs = p.attrs; inner = p.inner }) k
    ∙ ap (λ x. record { template = template; place = place; tag = x; attrs = p.attrs; inner = p.inner }) s.0
    ∙ ap (λ x. record { template = template; place = place; tag = e.tag; attrs = x; inner = p.inner }) s.1
    ∙ ap (λ x. record { template = template; place = place; tag = e.tag; attrs = e.attrs; inner = x }) s.2

-- the element of a fault of a page graph stands in one of the templates, and has a rule
pub fault_is_placed : (service : Service) (templates : List Forest) → templates ≡ all_items service → (G : Graph) (root : ℕ) (s : Schema) (point : ℕ)
    (f : Fault)
    → IsFault (template_items service) G root s point f → (f.number == 6) ≡ false → IsPlaced templates s.elements f
fault_is_placed service templates e G root s point f is six =
    subst (λ (T : ℕ → Forest). (p : Place) × ((r : Rule) × IsAt T s.elements f p r)) (sym (ap template_at e ∙ template_is service))
    (fault_is_at (template_items service) G root s point f is six)

pub placed_there : (templates : List Forest) (rules : List Rule) (f : Fault) → IsPlaced templates rules f → HasElement templates f
placed_there templates rules f x = (x.0, x.1.1.template, x.1.1.place, x.1.1.at)

pub spot_has_rule : (templates : List Forest) (rules : List Rule) (f : Fault) → IsPlaced templates rules f → (s : Spot) → IsSpot templates f s
    → (r : Rule) × (rule_of rules s.element.now.tag ≡ Some r)
spot_has_rule templates rules f x s is =
    let q = spot_is (template_at templates) rules f x.0 x.1.0 s.template s.place s.element.now x.1.1
    (same_Some x.0.template s.template (sym x.1.1.template ∙ is.template)) (sym is.place) is.at in
    (x.1.0, ap (λ (y : Place). rule_of rules y.tag) (sym q) ∙ x.1.1.rule)

-- what explains it by its ways or as an unfolding explains it as a fault
pub by_number : (templates : ℕ → Forest) (G H : Graph) (s : Schema) (point : ℕ) (f : Fault) (root : ℕ) (e : Explained)
    → IsFault templates H root s point f → Ties G H
    → ((f.number == 6) ≡ true → IsAnswer (Unfolds templates G root) e)
    → ((f.number == 6) ≡ false → (p : Place) (r : Rule) → IsAt templates s.elements f p r → IsAnswer (FindsOne templates G p r (atoms_of f.number r) root) e)
    → IsAnswer (Shows templates H s.elements f root) e
by_number templates G H s point f root e is tie six others = elim (cases_Bool (f.number == 6)) [
  | inl y ↦ root_is_shown templates G H s.elements f root e tie y (six y)
  | inr n ↦ let x = fault_is_at templates H root s point f is n in explained_is_shown templates G H s.elements f x.0 x.1.0 root e tie x.1.1 n
      (others n x.0 x.1.0 x.1.1)
]

six_of : (templates : ℕ → Forest) (G : Graph) (n : ℕ) (r : Rule) (tag : List ℕ) (a : List Attr) (i : Forest) (number : ℕ) (detail : List ℕ)
    → Breaks templates G n r tag a i number detail → (number == 6) ≡ true → ⊥
six_of templates G n r tag a i _ _ (attribute c m h) e = false≢true e
six_of templates G n r tag a i _ _ (absent c h) e = false≢true e
six_of templates G n r tag a i _ _ (unsure c d h k l) e = false≢true e
six_of templates G n r tag a i _ _ (value c m h) e = false≢true e
six_of templates G n r tag a i _ _ (child g h) e = false≢true e
six_of templates G n r tag a i _ _ (words g h) e = false≢true e
six_of templates G n r tag a i _ _ (need h) e = false≢true e

-- what shows a fault isn't valid
pub shown_not_valid : (templates : ℕ → Forest) (G : Graph) (s : Schema) (point : ℕ) (f : Fault) (root : ℕ) (d : Forest) → IsFault templates G root s point f
    → Shows templates G s.elements f root d → Valid s (close d) → ⊥
shown_not_valid templates G s point f root d is (some o h) v = shown_is_broken templates G s f root d h v
shown_not_valid templates G s point f root d is (each y u) v = by_root f is y
  where
    by_root : (f : Fault) → IsFault templates G root s point f → (f.number == 6) ≡ true → ⊥
    by_root _ (wrong_root {tag = tag} {a = a} {i = i} e k) y = root_is_broken templates G s root tag a i d e k u v
    by_root _ (breaks {n = n} {number = number} {detail = detail} {tag = tag} {a = a} {i = i} {r = r} reached at rule b) y = six_of templates G n r tag a i
        number detail b y

pub not_valid : (templates : ℕ → Forest) (G : Graph) (s : Schema) (point : ℕ) (f : Fault) (root : ℕ) (e : Explained) → IsFault templates G root s point f
    → IsExplained (Shows templates G s.elements f root) (IsSplit templates G s.elements f) e → NotValid s e
not_valid templates G s point f root e is h t same v = by t (subst (λ (x : Explained). IsExplained (Shows templates G s.elements f root)
    (IsSplit templates G s.elements f) x) same h) v
  where
    by : (t : Tree) → IsExplained (Shows templates G s.elements f root) (IsSplit templates G s.elements f) (answers.Page t) → Valid s t.items → ⊥
    by t (page h l m) v = shown_not_valid templates G s point f root _ is h v

-- what is told of the documents that show a fault explains it, where there is one
pub told_found : (Shown : Forest → Type 0) (Split : Type 0) (e : Explained) → IsAnswer Shown e → is_none e ≡ false → IsExplained Shown Split e
told_found Shown Split _ (page_of h l m) k = page h l m
told_found Shown Split _ (all_big d h l) k = too_big d h l
told_found Shown Split _ (none_there h) k = absurd (false≢true (sym k))

pub none_shown : (Shown : Forest → Type 0) (e : Explained) → IsAnswer Shown e → is_none e ≡ true → (d : Forest) → Shown d → ⊥
none_shown Shown _ (page_of h l m) k = absurd (false≢true k)
none_shown Shown _ (all_big d h l) k = absurd (false≢true k)
none_shown Shown _ (none_there h) k = h
