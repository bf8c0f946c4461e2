-- All faults of a service.
use Rattle.std.proofs.Common.{◌≡◌, ℕ, List, inl, inr}
use Rattle.bw_analyse.specs.declared.facts.Facts.{Facts}
use Rattle.bw_analyse.specs.GapFaults.{IsGapFault}
use Rattle.bw_flow.specs.Layout.{flow_of}
use Rattle.bw_faults.specs.declared.fault.Fault.{Fault}
use Rattle.bw_faults.specs.Lists.{Lists}
use Rattle.bw_faults.specs.Order.{fault_cmp}
use Rattle.bw_lang.specs.declared.service.Service.{Service}
use Rattle.bw_schema.specs.declared.schema.Schema.{Schema}
use Rattle.bw_solve.specs.Sets.{merge}
use Rattle.bw_check.specs.Faults.{IsFaultOfSome, IsServiceFault}
use Rattle.bw_check.specs.Pieces.{pages_from}
use Rattle.bw_check.proofs.Joining.{both_listed, same_listed}
use Rattle.bw_check.proofs.PagePlaces.{pages_are_pieces}

-- those of the pieces, and those of the gaps
pub service_listed : (service : Service) (schema : Schema) (facts : Facts) (ps : List ℕ) (a b l : List Fault) → ps ≡ pages_from 0 (flow_of service)
    → l ≡ merge fault_cmp a b → Lists (IsFaultOfSome service schema facts ps) a → Lists (IsGapFault service facts) b
    → Lists (IsServiceFault service schema facts) l
service_listed service schema facts ps a b l e m g h =
    same_listed l
    (λ f k. elim k [ inl r ↦ inl (r.0, r.2) | inr r ↦ inr r ])
    (λ f k. elim k [ inl r ↦ inl (r.0, pages_are_pieces service ps e r.0 (r.1.0, r.1.1, r.1.2), r.1) | inr r ↦ inr r ])
    (both_listed a b l m g h)
