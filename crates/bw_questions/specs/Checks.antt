-- Services that are accepted, as the code holds them.
use Rattle.std.specs.Prelude.{◌≡◌, List}
use Rattle.bw_check.specs.Accepts.{Accepts}
use Rattle.bw_format.specs.declared.format.Format.{Format}
use Rattle.bw_lang.specs.declared.service.Service.{Service}
use Rattle.bw_questions.specs.Asked.{Ruled}
use Rattle.bw_questions.specs.declared.checking.Served.{Served}

-- the service, the schema by which it was accepted, and the formats
abbrev pub ruled_by : Served → Ruled
ruled_by served = record { service = served.checked.typed.service; schema = served.checked.schema; formats = served.formats }

-- these are the service and the formats, with a schema by which it is accepted
abbrev pub IsRuled : Service → List Format → Ruled → Type 0
IsRuled service formats ruled = (ruled.service ≡ service) × Accepts ruled.service ruled.schema × (ruled.formats ≡ formats)
