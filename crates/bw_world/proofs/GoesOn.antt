-- A session over one input more goes on from the show where it waited.
use Rattle.std.proofs.Common.{◌≡◌, ℕ, List, [], ◌∷◌, ◌++◌, ap}
use Rattle.bw_lang.specs.declared.service.Service.{Service}
use Rattle.bw_meaning.specs.GoOn.{go_on}
use Rattle.bw_meaning.specs.Laws.{answered}
use Rattle.bw_meaning.specs.States.{Input, Outcome, Went, Shown, Exited, Failed, Rests}
use Rattle.bw_meaning.specs.Values.{Document, Values}
use Rattle.bw_meaning.proofs.BehindLaw.{turn_goes_on, going_on_goes_on}
use Rattle.bw_model.specs.Sessions.{Origin, Started, Loaded, result}

abbrev number_of : Outcome → ℕ
number_of (Went st) = 0
number_of (Shown at locals rests d shared units) = at
number_of (Exited d shared units) = 0
number_of (Failed f units) = 0

abbrev locals_of : Outcome → Values
locals_of (Went st) = []
locals_of (Shown at locals rests d shared units) = locals
locals_of (Exited d shared units) = []
locals_of (Failed f units) = []

abbrev rests_of : Outcome → Rests
rests_of (Went st) = []
rests_of (Shown at locals rests d shared units) = rests
rests_of (Exited d shared units) = []
rests_of (Failed f units) = []

pub result_goes_on : (service : Service) (session : ℕ) (origin : Origin) (inputs : List Input) (i : Input) (at : ℕ) (locals : Values) (rests : Rests)
    (d : Document) (shared : Values) (units : ℕ) →
    result service session origin inputs ≡ Shown at locals rests d shared units
    → result service session origin (inputs ++ i ∷ []) ≡ go_on service session (answered at locals rests i)
result_goes_on service session
    (Started first) inputs i at locals rests d shared units e = turn_goes_on service session first inputs i at locals rests d shared units e
result_goes_on service session (Loaded a l r s n) [] i at locals rests d shared units e =
    λ k. go_on service session (answered (ap number_of e k) (ap locals_of e k) (ap rests_of e k) i)
result_goes_on service session (Loaded a l r s n) (j ∷ later) i at locals rests d shared units e =
    going_on_goes_on service session (record { at = a; locals = l; rests = r; input = j; later = later }) i at locals rests d shared units e
