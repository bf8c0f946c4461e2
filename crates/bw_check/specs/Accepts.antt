-- When a service is accepted, and when each refusal comes.
use Rattle.std.specs.Prelude.{◌≡◌, ◌<◌, ◌≤◌, List, [], ⊤}
use Rattle.bw_analyse.specs.declared.facts.Facts.{Facts}
use Rattle.bw_analyse.specs.Facts.{AreFacts}
use Rattle.bw_analyse.specs.Least.{IsTooLarge}
use Rattle.bw_check.specs.declared.fault.CheckFault.{CheckFault}
use Rattle.bw_check.specs.declared.fault.CheckFault.TheVariants.{Refused, TooLarge, TooMany, Memory}
use Rattle.bw_check.specs.Faults.{IsServiceFault}
use Rattle.bw_faults.specs.declared.fault.Fault.{Fault}
use Rattle.bw_faults.specs.Lists.{Lists}
use Rattle.bw_flow.specs.Layout.{points}
use Rattle.bw_lang.specs.declared.service.Service.{Service}
use Rattle.bw_schema.specs.declared.schema.Schema.{Schema}
use Rattle.bw_flow.specs.declared.lowering.TheConstants.{MAX_POINTS}
use Rattle.bw_analyse.specs.declared.analysis.TheConstants.{MAX_MEMBERS}

-- the service keeps the limits of the analysis: it has at most 4,096 points, and its least solution has at most 2,000,000 members
pub record KeepsLimits (service : Service) : Type 0 where
  pub points : points service.sessions ≤ MAX_POINTS
  pub members : ¬ (IsTooLarge service MAX_MEMBERS)

-- these are the facts of a service that keeps its limits, and by them it has no fault
pub record IsAccepted (service : Service) (schema : Schema) (facts : Facts) : Type 0 where
  pub limits : KeepsLimits service
  pub facts_are : AreFacts service facts
  pub faultless : (f : Fault) → IsServiceFault service schema facts f → ⊥

-- the service is accepted by the schema
abbrev pub Accepts : Service → Schema → Type 0
Accepts service schema = (facts : Facts) × IsAccepted service schema facts

-- these are its faults, in their order and without doubles
abbrev pub AreFaults : Service → Schema → List Fault → Type 0
AreFaults service schema l = (facts : Facts) × AreFacts service facts × Lists (IsServiceFault service schema facts) l

-- the refusal is none by a list of faults
abbrev pub HasNoList : CheckFault → Type 0
HasNoList (Refused l) = ⊥
HasNoList fault = ⊤

-- when each refusal comes; want of memory is free
abbrev pub IsCheckFault : Service → Schema → CheckFault → Type 0
IsCheckFault service schema (TooMany n) = (n ≡ points service.sessions) × (MAX_POINTS < n)
IsCheckFault service schema (TooLarge n) = (points service.sessions ≤ MAX_POINTS) × (MAX_MEMBERS < n) × IsTooLarge service MAX_MEMBERS
IsCheckFault service schema (Refused l) = KeepsLimits service × (l ≡ [] → ⊥) × AreFaults service schema l
IsCheckFault service schema Memory = Unit {0}
