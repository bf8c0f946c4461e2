-- What turns are.
use Rattle.std.specs.Prelude.{◌≡◌, ℕ, ◌+◌, List, [], Result, Ok, Err, slice_get, Option, Some, None}
use Rattle.bw_lang.specs.declared.turn.TurnFault.{TurnFault}
use Rattle.bw_flow.specs.Steps.{Step}
use Rattle.bw_flow.specs.declared.point.Received.{Received}
use Rattle.bw_flow.specs.Flows.{fields_of}
use Rattle.bw_lang.specs.declared.service.Service.{Service}
use Rattle.bw_meaning.specs.GoOn.{turn}
use Rattle.bw_meaning.specs.Laws.{answered}
use Rattle.bw_meaning.specs.Values as meaning
use Rattle.bw_meaning.specs.States.{Form, Input, Answered, Outcome, Shown, Exited, Failed, units_left, cost}
use Rattle.bw_eval.specs.declared.value.Value.{Value}
use Rattle.bw_eval.specs.View.{document, values}
use Rattle.bw_run.specs.declared.turn.Frame.{Frame}
use Rattle.bw_run.specs.declared.turn.Turn.{Turn}
use Rattle.bw_run.specs.declared.turn.Turn.TheVariants as turns
use Rattle.bw_run.specs.Walks.{number_at}

-- the outcome that an answer tells, with so many units left
abbrev pub turned : List Step → Result Turn TurnFault → ℕ → Outcome
turned flow (Ok (turns.Shown f d shared)) units = Shown (number_at flow f.point) (values f.locals) f.rests (document d) (values shared) units
turned flow (Ok (turns.Exited d shared)) units = Exited (document d) (values shared) units
turned flow (Err f) units = Failed f units

-- the answer is this outcome, and the counter rose by its cost
pub record IsTurn (flow : List Step) (result : Result Turn TurnFault) (before after : ℕ) (o : Outcome) : Type 0 where
  pub outcome : turned flow result (units_left o) ≡ o
  pub counter : after ≡ before + cost o

-- what a show receives, by the point at its place
abbrev pub received_at : Option Step → List Received
received_at None = []
received_at (Some x) = fields_of x.act

abbrev pub receives_of : List Step → Frame → List Received
receives_of flow frame = received_at (slice_get flow frame.point)

-- the frame's show, answered by this form and these shared variables
abbrev pub answered_frame : List Step → Frame → Form → List (List ℕ × Value) → Answered
answered_frame flow frame form shared =
    answered (number_at flow frame.point) (values frame.locals) frame.rests (record { form = form; shared = values shared })

-- The frame stands for these inputs of a session that began with those shared variables: over them the session waits at the
-- frame's show, with its locals and its rests.
abbrev pub StandsFor : Service → List Step → Frame → ℕ → meaning.Values → List Input → Type 0
StandsFor service flow frame session first inputs =
    (d : meaning.Document) × (shared : meaning.Values) × (units : ℕ) ×
    (turn service session first inputs ≡ Shown (number_at flow frame.point) (values frame.locals) frame.rests d shared units)
