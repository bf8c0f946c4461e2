-- Talks whose turns can go on.
use Rattle.std.specs.Prelude.{List}
use Rattle.std.specs.List.{All}
use Rattle.bw_lang.specs.declared.service.Service.{Service}
use Rattle.bw_flow.specs.Steps.{Step}
use Rattle.bw_run.specs.Fit.{IsFrame, AreShared}
use Rattle.document_cases.specs.declared.talks.Talk.{Talk}

-- there is a value for each shared variable, and each turn waits at a show of the flow
pub record IsFit (service : Service) (flow : List Step) (talk : Talk) : Type 0 where
  pub shared : AreShared service talk.shared
  pub waiting : All (IsFrame service flow) talk.waiting.items
