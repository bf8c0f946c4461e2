-- What is read is spelled so, and what is spelled so is read.
use Rattle.std.specs.Prelude.{ℕ, List}
use Rattle.bw_flow.specs.Layout.{plan_of, flow_of}
use Rattle.bw_lang.specs.declared.service.Service.{Service}
use Rattle.bw_lang.specs.declared.stmt.Kind.{Kind}
use Rattle.bw_saved.specs.Codec.{IsCodec}
use Rattle.bw_saved.specs.Documents.Demands.{IsDocument, IsSmall}
use Rattle.bw_saved.specs.Documents.Layout.{document}
use Rattle.bw_saved.specs.Documents.Reading.{document_at}
use Rattle.bw_saved.specs.Sessions.Demands.{IsSession, IsSaved}
use Rattle.bw_saved.specs.Sessions.Layout.{session, waiting}
use Rattle.bw_saved.specs.Sessions.Reading.{session_at, waiting_at}
use Rattle.bw_saved.specs.Values.Demands.{AreVariables}
use Rattle.bw_saved.specs.Values.Layout.{variables}
use Rattle.bw_saved.specs.Values.Reading.{variables_at}

-- documents
abbrev pub DocumentsReadBack : Type 0
DocumentsReadBack = (service : Service) → IsSmall service → IsCodec document (IsDocument service) (document_at service)

-- variables of these names and kinds
abbrev pub VariablesReadBack : Type 0
VariablesReadBack =
    (service : Service) → IsSmall service → (kinds : List (List ℕ × Kind)) → IsCodec variables (AreVariables service kinds) (variables_at service kinds)

-- sessions, where this is the next number
abbrev pub SessionsReadBack : Type 0
SessionsReadBack =
    (service : Service) → IsSmall service → (next : ℕ) →
    IsCodec (session (flow_of service)) (IsSession service next) (session_at service (plan_of service) next)

-- all that waits
abbrev pub WaitingReadsBack : Type 0
WaitingReadsBack = (service : Service) → IsSmall service → IsCodec (waiting (flow_of service)) (IsSaved service) (waiting_at service (plan_of service))
