-- What the check finds of a service.
use Rattle.std.specs.Prelude.{◌≡◌}
use Rattle.bw_analyse.specs.Facts.{AreFacts}
use Rattle.bw_check.specs.declared.checking.Findings.{Findings}
use Rattle.bw_check.specs.Accepts.{KeepsLimits}
use Rattle.bw_check.specs.Faults.{IsServiceFault}
use Rattle.bw_faults.specs.Lists.{Lists}
use Rattle.bw_flow.specs.Layout.{plan_of}
use Rattle.bw_lang.specs.declared.service.Service.{Service}
use Rattle.bw_schema.specs.declared.schema.Schema.{Schema}

-- the service keeps its limits, and this is its flow, what is known of it, and all its faults by the schema
pub record AreFindings (service : Service) (schema : Schema) (found : Findings) : Type 0 where
  pub limits : KeepsLimits service
  pub flow_is : found.flow ≡ plan_of service
  pub facts_are : AreFacts service found.facts
  pub faults_are : Lists (IsServiceFault service schema found.facts) found.faults
