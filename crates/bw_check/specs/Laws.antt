-- Laws of the answers of the check.
use Rattle.std.specs.Prelude.{◌≡◌, ◌≢◌, List, [], Option, None, Some}
use Rattle.bw_faults.specs.declared.fault.Fault.{Fault}
use Rattle.bw_lang.specs.declared.service.Service.{Service}
use Rattle.bw_schema.specs.declared.schema.Schema.{Schema}
use Rattle.bw_check.specs.Accepts.{Accepts, AreFaults, IsCheckFault, KeepsLimits}
use Rattle.bw_check.specs.declared.fault.CheckFault.{CheckFault}
use Rattle.bw_check.specs.declared.fault.CheckFault.TheVariants.{TooLarge, Memory}

-- the service has one list of faults
abbrev pub OneList : Service → Type 0
OneList service = (schema : Schema) (l m : List Fault) → AreFaults service schema l → AreFaults service schema m → l ≡ m

-- that of a service that is accepted is empty
abbrev pub AcceptedHasNone : Service → Type 0
AcceptedHasNone service = (schema : Schema) (l : List Fault) → Accepts service schema → AreFaults service schema l → l ≡ []

-- and a service that keeps its limits, and has none, is accepted
abbrev pub HasNoneIsAccepted : Service → Type 0
HasNoneIsAccepted service = (schema : Schema) → KeepsLimits service → AreFaults service schema [] → Accepts service schema

-- what the check reports of a service: that it is accepted, or why it isn't; want of memory is no report
abbrev pub IsReport : Service → Schema → Option CheckFault → Type 0
IsReport service schema None = Accepts service schema
IsReport service schema (Some fault) = IsCheckFault service schema fault × (fault ≢ Memory)

-- what is told of it: the number of facts at which the analysis gave up is left open
abbrev pub told : Option CheckFault → Option CheckFault
told (Some (TooLarge members)) = Some (TooLarge 0)
told report = report

-- the report of any number of workers is the report of one
abbrev pub OneReport : Service → Type 0
OneReport service = (schema : Schema) (many one : Option CheckFault) → IsReport service schema many → IsReport service schema one → told many ≡ told one
