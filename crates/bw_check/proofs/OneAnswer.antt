-- The check has one answer.
use Rattle.std.proofs.Common.{◌≡◌, ◌⊎◌, ℕ, List, [], length, Option, Some, None, refl, subst, inl, inr}
use Rattle.std.specs.Prelude.{slice_get, slice_index_or}
use Rattle.bw_analyse.specs.declared.abstracts.Abstract.{Abstract}
use Rattle.bw_analyse.specs.declared.facts.Facts.{Facts}
use Rattle.bw_analyse.specs.Facts.{AreFacts, page_of, joined_option}
use Rattle.bw_analyse.specs.GapFaults.{IsFaultAt}
use Rattle.bw_flow.specs.Layout.{flow_of}
use Rattle.bw_analyse.specs.Pages as pages
use Rattle.bw_faults.specs.declared.fault.Fault.{Fault}
use Rattle.bw_faults.proofs.Adding.{none_of}
use Rattle.bw_faults.proofs.Lists.{lists_unique}
use Rattle.bw_fields.specs.Received.{IsFieldFault}
use Rattle.bw_flow.specs.Steps.{Step}
use Rattle.bw_judge.specs.Faults.{IsFault}
use Rattle.bw_lang.specs.declared.service.Service.{Service}
use Rattle.bw_schema.specs.declared.schema.Schema.{Schema}
use Rattle.bw_shape.specs.Outlines.{root_of}
use Rattle.bw_strings.specs.Literals.{literals_of}
use Rattle.bw_sum.specs.declared.summary.Summary.{Summary}
use Rattle.bw_sum.specs.Graph.{graph}
use Rattle.bw_sum.specs.Templates.{template_items}
use Rattle.bw_types.specs.declared.typed.Typed.{Typed}
use Rattle.bw_check.proofs.Within.OneSolution.{facts_are_one}
use Rattle.bw_check.specs.Faults.{received_at, IsServiceFault}
use Rattle.bw_check.specs.Laws.{OneList, AcceptedHasNone, HasNoneIsAccepted}
use Rattle.bw_check.proofs.Joining.{none_listed, same_listed}

-- the page at a place, where these are the documents of the pages
abbrev page_by : Service → List (Option Summary) → ℕ → Summary
page_by service shown p = pages.page_at service (joined_option (slice_get shown p)) (slice_get (flow_of service) p)

-- a fault of some page, by the documents of the pages alone
abbrev PageFaultBy : Service → Schema → Fault → List (Option Summary) → Type 0
PageFaultBy service schema f shown =
    (p : ℕ) × ((x : Step) × (slice_get (flow_of service) p ≡ Some x) × (page_of x.act ≡ None → ⊥)
    × (IsFieldFault (template_items service) (graph (literals_of service) (page_by service shown p)) (length service.templates) service x.number
    (received_at x.act) f
    ⊎ IsFault (template_items service) (graph (literals_of service) (page_by service shown p)) (root_of (page_by service shown p)) schema x.number f))

-- a gap fault, by the rows alone
abbrev GapFaultBy : Service → Fault → List (List Abstract) → Type 0
GapFaultBy service f rows =
    (p : ℕ) × (x : Step) × (slice_get (flow_of service) p ≡ Some x)
    × IsFaultAt service (slice_index_or rows p []) (slice_index_or rows (length (flow_of service)) []) x f

-- a fault by some facts of a service is one by all of them
moved : (t : Typed) (schema : Schema) (f g : Facts) → AreFacts t.service f → AreFacts t.service g → (x : Fault)
    → IsServiceFault t.service schema f x → IsServiceFault t.service schema g x
moved t schema f g p q x (inl h) = inl (subst (PageFaultBy t.service schema x) (facts_are_one t f g p q).1 h)
moved t schema f g p q x (inr h) = inr (subst (GapFaultBy t.service x) (facts_are_one t f g p q).0 h)

pub one_list : (t : Typed) → OneList t.service
one_list t schema l m (f, p, h) (g, q, k) =
    lists_unique (IsServiceFault t.service schema g) l m (same_listed l (moved t schema f g p q) (moved t schema g f q p) h) k

pub accepted_has_none : (t : Typed) → AcceptedHasNone t.service
accepted_has_none t schema l (f, a) (g, q, k) =
    lists_unique (IsServiceFault t.service schema g) l [] k (none_listed (λ x h. a.faultless x (moved t schema g f q a.facts_are x h)))

pub has_none_is_accepted : (t : Typed) → HasNoneIsAccepted t.service
has_none_is_accepted t schema limits (f, p, h) = (f, record { limits = limits; facts_are = p; faultless = none_of [] refl h })
