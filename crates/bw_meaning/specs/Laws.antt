-- Laws of turns.
use Rattle.std.specs.Prelude.{◌≡◌, ℕ, ◌+◌, if◌then◌else◌, List, [], ◌∷◌, ◌++◌}
use Rattle.bw_lang.specs.declared.service.Service.{Service}
use Rattle.bw_lang.specs.Service.Code.{Code, while_loop, numbered}
use Rattle.bw_lang.specs.Service.Term.{Term}
use Rattle.bw_meaning.specs.GoOn.{turn, go_on}
use Rattle.bw_meaning.specs.Operators.{truth_of}
use Rattle.bw_meaning.specs.States.{Input, State, Shown, Answered, Rests, budget, units_left, cost}
use Rattle.bw_meaning.specs.Statements.{declared, begin, then_do, leave, exec}
use Rattle.bw_meaning.specs.Values.{Document, Values}

-- a show that is answered by this input alone
abbrev pub answered : ℕ → Values → Rests → Input → Answered
answered show locals rests i = record { at = show; locals = locals; rests = rests; input = i; later = [] }

-- where a turn waits at a show, one more input is the same as going on from there with it
abbrev pub TurnGoesOn : Type 0
TurnGoesOn =
    (service : Service) (session : ℕ) (first : Values) (inputs : List Input) (i : Input) (show : ℕ) (locals : Values) (rests : Rests) (shown : Document)
    (shared : Values) (units : ℕ) →
    turn service session first inputs ≡ Shown show locals rests shown shared units →
    turn service session first (inputs ++ i ∷ []) ≡ go_on service session (answered show locals rests i)

-- the same for a session that itself goes on from a show
abbrev pub GoingOnGoesOn : Type 0
GoingOnGoesOn =
    (service : Service) (session : ℕ) (a : Answered) (i : Input) (show : ℕ) (locals : Values) (rests : Rests) (shown : Document) (shared : Values) (units : ℕ) →
    go_on service session a ≡ Shown show locals rests shown shared units →
    go_on service session (record a { later = a.later ++ i ∷ [] }) ≡ go_on service session (answered show locals rests i)

-- what a turn costs and the units left are together the budget, so that it costs no more
abbrev pub TurnCosts : Type 0
TurnCosts =
    (service : Service) (session : ℕ) (first : Values) (inputs : List Input) →
    cost (turn service session first inputs) + units_left (turn service session first inputs) ≡ budget

abbrev pub GoingOnCosts : Type 0
GoingOnCosts = (service : Service) (session : ℕ) (a : Answered) → cost (go_on service session a) + units_left (go_on service session a) ≡ budget

-- A loop by its own equation: where the test holds, the body and then the loop again; else what follows. So the number
-- of turns that its definition allows never ends it.
abbrev pub LoopsAgain : Type 0
LoopsAgain =
    (service : Service) (t : Term) (b rest : Code) (n around : ℕ) (st : State) →
    exec service (while_loop t b rest) n around st ≡
    begin service t st (λ v st1.
    if truth_of v then then_do (leave (declared b) (exec service b (n + 1) around st1)) (exec service (while_loop t b rest) n around)
    else exec service rest (n + 1 + numbered b) around st1)
