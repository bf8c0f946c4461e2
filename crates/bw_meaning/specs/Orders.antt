-- The order in which names stand with their values doesn't matter to what statements and turns do.
use Rattle.std.specs.Prelude.{◌≡◌, ℕ, List, [], ◌∷◌, filter, IsPermutation}
use Rattle.std.specs.List.{IsDistinct}
use Rattle.bw_lang.specs.declared.service.Service.{Service}
use Rattle.bw_lang.specs.declared.turn.TurnFault.{TurnFault}
use Rattle.bw_lang.specs.Service.Code.{Code}
use Rattle.bw_lang.specs.Table.Names.{same}
use Rattle.bw_meaning.specs.GoOn.{turn, go_on}
use Rattle.bw_meaning.specs.States.{Form, Rests, Input, State, Outcome, Went, Shown, Exited, Failed, Answered}
use Rattle.bw_meaning.specs.Statements.{exec}
use Rattle.bw_meaning.specs.Values.{Document, Values, names_of}

-- what a name has: its pairs, in their order
abbrev pub of_name : List ℕ → Values → Values
of_name w values = filter (λ x. same w x.0) values

-- each name has the same in both, so that they differ by the order of different names at most
abbrev pub IsReordered : Values → Values → Type 0
IsReordered a b = (w : List ℕ) → of_name w a ≡ of_name w b

-- where no name stands twice, that is each other order
abbrev pub OrdersAreReordered : Type 0
OrdersAreReordered = (a b : Values) → IsDistinct same (names_of a) → IsPermutation a b → IsReordered a b

-- ---- what differs by the order of names at most

pub data AreInputsAlike : List Input → List Input → Type 0 where
  no_input : AreInputsAlike [] []
  one_input : (form : Form) (s t : Values) (is js : List Input) → IsReordered s t → AreInputsAlike is js →
      AreInputsAlike (record { form = form; shared = s } ∷ is) (record { form = form; shared = t } ∷ js)

pub data AreStatesAlike : State → State → Type 0 where
  states : (l m s t : Values) (units : ℕ) (is js : List Input) → IsReordered l m → IsReordered s t → AreInputsAlike is js →
      AreStatesAlike (record { locals = l; shared = s; units = units; inputs = is }) (record { locals = m; shared = t; units = units; inputs = js })

pub data AreOutcomesAlike : Outcome → Outcome → Type 0 where
  went : (st st1 : State) → AreStatesAlike st st1 → AreOutcomesAlike (Went st) (Went st1)
  shown : (at : ℕ) (l m : Values) (rests : Rests) (d : Document) (s t : Values) (units : ℕ) → IsReordered l m → IsReordered s t →
      AreOutcomesAlike (Shown at l rests d s units) (Shown at m rests d t units)
  exited : (d : Document) (s t : Values) (units : ℕ) → IsReordered s t → AreOutcomesAlike (Exited d s units) (Exited d t units)
  failed : (f : TurnFault) (units : ℕ) → AreOutcomesAlike (Failed f units) (Failed f units)

pub data AreAnswersAlike : Answered → Answered → Type 0 where
  answers : (at : ℕ) (l m : Values) (rests : Rests) (form : Form) (s t : Values) (is js : List Input) →
      IsReordered l m → IsReordered s t → AreInputsAlike is js →
      AreAnswersAlike (record { at = at; locals = l; rests = rests; input = record { form = form; shared = s }; later = is })
      (record { at = at; locals = m; rests = rests; input = record { form = form; shared = t }; later = js })

-- ---- the laws

-- statements in front of which names stand in another order do the same
abbrev pub StatementsSeeNoOrder : Type 0
StatementsSeeNoOrder =
    (service : Service) (c : Code) (n around : ℕ) (st st1 : State) → AreStatesAlike st st1 →
    AreOutcomesAlike (exec service c n around st) (exec service c n around st1)

-- so does a session's turn
abbrev pub TurnsSeeNoOrder : Type 0
TurnsSeeNoOrder =
    (service : Service) (session : ℕ) (first first1 : Values) (inputs inputs1 : List Input) → IsReordered first first1 → AreInputsAlike inputs inputs1 →
    AreOutcomesAlike (turn service session first inputs) (turn service session first1 inputs1)

-- and a session that goes on
abbrev pub GoingOnSeesNoOrder : Type 0
GoingOnSeesNoOrder =
    (service : Service) (session : ℕ) (a b : Answered) → AreAnswersAlike a b → AreOutcomesAlike (go_on service session a) (go_on service session b)
