-- One input more.
use Rattle.std.proofs.Common.{ℕ, List, [], ◌∷◌, ◌++◌, ◌+◌, sym, subst}
use Rattle.bw_lang.specs.declared.service.Service.{Service}
use Rattle.bw_lang.specs.declared.turn.TurnFault.{TurnFault}
use Rattle.bw_lang.specs.Service.Code.{numbered}
use Rattle.bw_lang.specs.Service.Numbers.{first_number}
use Rattle.std.specs.Prelude.{Result}
use Rattle.bw_flow.specs.Steps.{Step}
use Rattle.bw_meaning.specs.GoOn.{body_of, turn, go_on}
use Rattle.bw_meaning.specs.States.{Form, Input, State, budget}
use Rattle.bw_meaning.specs.Statements.{room}
use Rattle.bw_meaning.specs.Values.{Values}
use Rattle.bw_meaning.proofs.Good.{Good, exec_good}
use Rattle.bw_meaning.proofs.BehindLaw.{turn_goes_on}
use Rattle.bw_eval.specs.declared.value.Value.{Value}
use Rattle.bw_eval.specs.View.{values}
use Rattle.bw_run.specs.Follow.Laws.{IsOf}
use Rattle.bw_run.specs.declared.turn.Frame.{Frame}
use Rattle.bw_run.specs.declared.turn.Turn.{Turn}
use Rattle.bw_run.specs.Turns.{IsTurn, StandsFor, answered_frame}
use Rattle.bw_run.specs.Walks.{number_at}

-- the show at which a session waits is one of its own
own_show : (service : Service) (flow : List Step) (frame : Frame) (session : ℕ) (first : Values) (inputs : List Input) →
    StandsFor service flow frame session first inputs → IsOf service session (number_at flow frame.point)
own_show service flow frame session first inputs s =
    let body = body_of service session in
    let n = first_number service session in
    let st : State = record { locals = []; shared = first; units = budget; inputs = inputs } in
    let g = subst (Good n (n + numbered body) (room st)) s.3 (exec_good service body n 0 st) in
    record { from = g.0; below = g.1 }

-- what goes on from the frame is the turn over one input more
pub one_more : (service : Service) (flow : List Step) (frame : Frame) (form : Form) (shared : List (List ℕ × Value)) (result : Result Turn TurnFault)
    (before after session : ℕ) (first : Values) (inputs : List Input) →
    ((session : ℕ) → IsOf service session (number_at flow frame.point) →
    IsTurn flow result before after (go_on service session (answered_frame flow frame form shared))) → StandsFor service flow frame session first inputs →
    IsTurn flow result before after (turn service session first (inputs ++ record { form = form; shared = values shared } ∷ []))
one_more service flow frame form shared result before after session first inputs h s =
    let i : Input = record { form = form; shared = values shared } in
    subst (IsTurn flow result before after)
    (sym (turn_goes_on service session first inputs i (number_at flow frame.point) (values frame.locals) frame.rests s.0 s.1 s.2 s.3))
    (h session (own_show service flow frame session first inputs s))
