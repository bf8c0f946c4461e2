-- The faults of one page.
use Rattle.std.proofs.Common.{◌≡◌, ◌⊎◌, ℕ, List, [], ◌∷◌, length, Option, Some, None, unwrap_or, refl, sym, ap, ◌∙◌, subst, inl, inr, arith}
use Rattle.std.specs.Prelude.{slice_get}
use Rattle.bw_analyse.specs.declared.facts.Facts.{Facts}
use Rattle.bw_analyse.specs.Facts.{page_of, shown_fact}
use Rattle.bw_flow.specs.Layout.{flow_of}
use Rattle.bw_analyse.specs.Pages.{page_at, page_by, page_graph, HasPage}
use Rattle.bw_faults.specs.declared.fault.Fault.{Fault}
use Rattle.bw_faults.specs.Lists.{Lists}
use Rattle.bw_faults.specs.Order.{fault_cmp}
use Rattle.bw_flow.specs.declared.point.Received.{Received}
use Rattle.bw_flow.specs.Steps.{shows, Step}
use Rattle.bw_lang.specs.declared.service.Service.{Service}
use Rattle.bw_lang.specs.Service.Term.{Term}
use Rattle.bw_schema.specs.declared.schema.Schema.{Schema}
use Rattle.bw_shape.specs.Outlines.{IsPageGraph}
use Rattle.bw_solve.specs.Sets.{merge}
use Rattle.bw_sum.specs.declared.summary.Summary.{Summary}
use Rattle.bw_check.specs.Faults.{received_at, IsElementFault, IsReceivedFault, IsPageFault}
use Rattle.bw_check.proofs.Joining.{both_listed, same_listed, none_listed}

root_of_show : (service : Service) (o : Option Summary) (x : Step) (e : Term) (rs : List Received) → x.act ≡ shows e rs
    → IsPageGraph service (page_at service o (Some x)) → (page_at service o (Some x)).roots ≡ length service.templates ∷ []
root_of_show service None x e rs act g = absurd (elim g.root [ inl h ↦ cc | inr h ↦ cc ])
root_of_show service (Some d) x e rs act g = subst (λ a. (page_by service d a).roots ≡ length service.templates ∷ []) (sym act) refl

-- a show's page begins as the wrapper of shown pages
pub show_root : (service : Service) (facts : Facts) (p : ℕ) (x : Step) (e : Term) (rs : List Received) → slice_get (flow_of service) p ≡ Some x
    → x.act ≡ shows e rs → IsPageGraph service (page_graph service facts p) → (page_graph service facts p).roots ≡ length service.templates ∷ []
show_root service facts p x e rs at act g =
    let is : page_graph service facts p ≡ page_at service (shown_fact facts p) (Some x) = ap (page_at service (shown_fact facts p)) at in
    subst (λ s. s.roots ≡ length service.templates ∷ []) (sym is)
    (root_of_show service (shown_fact facts p) x e rs act (subst (IsPageGraph service) is g))

-- a point that receives no field has no fault of fields
pub none_received : (service : Service) (facts : Facts) (p : ℕ) (x : Step) → received_at x.act ≡ [] → Lists (IsReceivedFault service facts p x) []
none_received service facts p x e = none_listed (λ f h.
    let h1 = subst (λ rs. length rs ≡ 0) (sym e) refl in absurd (omega (arith, h1, h.1.1)))

-- the faults of a page are those of its fields and those of its elements
pub page_listed : (service : Service) (schema : Schema) (facts : Facts) (p : ℕ) (x : Step) (fields elements all : List Fault)
    → HasPage service p → slice_get (flow_of service) p ≡ Some x → all ≡ merge fault_cmp fields elements
    → Lists (IsReceivedFault service facts p x) fields → Lists (IsElementFault service schema facts p x.number) elements
    → Lists (IsPageFault service schema facts p) all
page_listed service schema facts p x fields elements all (y, there, page) at e f g =
    let same : y ≡ x = ap (λ o. unwrap_or o y) (sym there ∙ at) in
    same_listed all (λ z h. (x, at, subst (λ s. page_of s.act ≡ None → ⊥) same page, h))
    (λ z h. let is : h.0 ≡ x = ap (λ o. unwrap_or o h.0) (sym h.1 ∙ at) in
    subst (λ s. IsReceivedFault service facts p s z ⊎ IsElementFault service schema facts p s.number z) is h.3)
    (both_listed fields elements all e f g)
