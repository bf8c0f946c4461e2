-- What statements do: a big step over the tree, from the state in front of them.
use Rattle.std.specs.Prelude.{ℕ, zero, suc, ◌+◌, if◌then◌else◌, List, [], ◌∷◌, ◌++◌, is_some, Option, Some, None}
use Rattle.std.specs.Option.{option_or}
use Rattle.bw_lang.specs.declared.service.Service.{Service}
use Rattle.bw_lang.specs.declared.stmt.Receive.{Receive}
use Rattle.bw_lang.specs.declared.turn.TurnFault.{TurnFault}
use Rattle.bw_lang.specs.declared.turn.TurnFault.TheVariants.{Spent}
use Rattle.bw_lang.specs.Service.Code.{Code, done, declare, assign, if_then, if_else, while_loop, block, for_each, show, exit, numbered}
use Rattle.bw_lang.specs.Table.Names.{beside}
use Rattle.bw_lang.specs.Service.Submissions.{values_of}
use Rattle.bw_lang.specs.Service.Term.{Term}
use Rattle.bw_meaning.specs.Expressions.{Evaluated, Gives, Faults, eval}
use Rattle.bw_meaning.specs.Forms.{received_value}
use Rattle.bw_meaning.specs.Operators.{truth_of, list_of, document_of}
use Rattle.bw_meaning.specs.Pages.{show_fault, exit_fault}
use Rattle.bw_meaning.specs.States.{Form, Input, State, Outcome, Went, Shown, Exited, Failed, budget}
use Rattle.bw_meaning.specs.Values.{Document, Value, Values, text, list_weight, replaced, without}

-- ---- names

-- the names of the locals that a block's own statements declare
abbrev pub declared : Code → List (List ℕ)
declared done = []
declared (declare kind w e rest) = w ∷ declared rest
declared (assign w e rest) = declared rest
declared (if_then t y rest) = declared rest
declared (if_else t y z rest) = declared rest
declared (while_loop t b rest) = declared rest
declared (block b rest) = declared rest
declared (for_each w e b rest) = declared rest
declared (show p rs rest) = declared rest
declared (exit p rest) = declared rest

-- ---- locals and shared variables

-- a new local
abbrev pub add_local : List ℕ → Value → State → State
add_local w v st = record st { locals = st.locals ++ (w, v) ∷ [] }

-- a value for the local of that name or, where there is none, for the shared variable
abbrev pub store : List ℕ → Value → State → State
store w v st =
    record st {
      locals = replaced w v st.locals;
      shared = if is_some (beside w st.locals) then st.shared else replaced w v st.shared;
    }

-- the value of the local, or else of the shared variable, of that name
abbrev pub variable : List ℕ → State → Option Value
variable w st = option_or (beside w st.locals) (beside w st.shared)

-- the fields of a form are stored, in source order
abbrev pub received : List Receive → Form → State → State
received [] form st = st
received (r ∷ rs) form st = received rs form (store r.target (received_value (variable r.target st) (values_of r.field form)) st)

-- An input is taken: its shared variables replace those at hand, its fields are stored, and there are new units.
abbrev pub taken : List Receive → Values → Input → List Input → State
taken rs locals i later = received rs i.form (record { locals = locals; shared = i.shared; units = budget; inputs = later })

-- ---- one thing after another

-- goes on with one unit less, where one is left
abbrev pub when_paid : ℕ → (ℕ → Outcome) → Outcome
when_paid zero go = Failed Spent 0
when_paid (suc units) go = go units

abbrev pub with_unit : State → (State → Outcome) → Outcome
with_unit st go = when_paid st.units (λ u. go (record st { units = u }))

-- goes on with an expression's value and the units left
abbrev pub when_given : Evaluated → (Value → ℕ → Outcome) → Outcome
when_given (Gives v units) go = go v units
when_given (Faults f units) go = Failed f units

abbrev pub with_value : Service → Term → State → (Value → State → Outcome) → Outcome
with_value service e st go = when_given (eval service st.locals st.shared e st.units) (λ v u. go v (record st { units = u }))

-- takes the unit of a statement or a test, and goes on with its expression's value
abbrev pub begin : Service → Term → State → (Value → State → Outcome) → Outcome
begin service e st go = with_unit st (λ st1. with_value service e st1 go)

-- goes on where statements went to their end
abbrev pub then_do : Outcome → (State → Outcome) → Outcome
then_do (Went st) go = go st
then_do (Shown at locals rests shown shared units) go = Shown at locals rests shown shared units
then_do (Exited last shared units) go = Exited last shared units
then_do (Failed f units) go = Failed f units

-- goes on where no test failed
abbrev pub unless_fault : Option TurnFault → ℕ → Outcome → Outcome
unless_fault None units o = o
unless_fault (Some f) units o = Failed f units

-- behind a block its locals are out of scope
abbrev pub leave : List (List ℕ) → Outcome → Outcome
leave names o = then_do o (λ st. Went (record st { locals = without names st.locals }))

-- ---- loops

-- more turns than a loop can make with these units and inputs, since each takes a unit
abbrev pub refills : List Input → ℕ
refills [] = 0
refills (i ∷ is) = suc budget + refills is

abbrev pub room : State → ℕ
room st = st.units + refills st.inputs

-- a loop of at most n turns
abbrev pub turns : ℕ → Service → Term → (State → Outcome) → State → Outcome
turns zero service t body st = Failed Spent 0
turns (suc n) service t body st = begin service t st (λ v st1. if truth_of v then then_do (body st1) (turns n service t body) else Went st1)

-- a show in a foreach hands on what is still to come of it
abbrev pub add_rest : List (List ℕ) → Outcome → Outcome
add_rest vs (Went st) = Went st
add_rest vs (Shown at locals rests shown shared units) = Shown at locals (vs ∷ rests) shown shared units
add_rest vs (Exited last shared units) = Exited last shared units
add_rest vs (Failed f units) = Failed f units

-- a foreach over these strings, each in turn in a local of that name; the body is told which are still to come
abbrev pub each : List (List ℕ) → List ℕ → List (List ℕ) → (List (List ℕ) → State → Outcome) → State → Outcome
each [] w names body st = with_unit st Went
each (v ∷ vs) w names body st =
    with_unit st (λ st1. then_do (leave names (add_rest vs (body vs (add_local w (text v) st1)))) (each vs w names body))

-- ---- pages

-- the session waits where no input is left, and else takes the first one
abbrev pub wait : ℕ → List Receive → Document → State → List Input → Outcome
wait n rs d st [] = Shown n st.locals [] d st.shared st.units
wait n rs d st (i ∷ later) = Went (taken rs st.locals i later)

-- a show of number n in front of this document, where the rests around it weigh so much
abbrev pub shows : ℕ → ℕ → List Receive → Document → State → Outcome
shows n around rs d st = unless_fault (show_fault d st.locals around st.shared) st.units (wait n rs d st st.inputs)

-- an exit with this document
abbrev pub exits : Document → State → Outcome
exits d st = unless_fault (exit_fault d st.shared) st.units (Exited d st.shared st.units)

-- ---- statements

-- What statements do, the first of which has number n, where the rests of the foreachs around them weigh so much.
abbrev pub exec : Service → Code → ℕ → ℕ → State → Outcome
exec service done n around st = Went st
exec service (declare kind w e rest) n around st = then_do (begin service e st (λ v st1. Went (add_local w v st1))) (exec service rest (n + 1) around)
exec service (assign w e rest) n around st = then_do (begin service e st (λ v st1. Went (store w v st1))) (exec service rest (n + 1) around)
exec service (if_then t y rest) n around st =
    then_do (begin service t st (λ v st1. if truth_of v then leave (declared y) (exec service y (n + 1) around st1) else Went st1))
    (exec service rest (n + 1 + numbered y) around)
exec service (if_else t y z rest) n around st =
    then_do (begin service t st (λ v st1.
    if truth_of v then leave (declared y) (exec service y (n + 1) around st1)
    else leave (declared z) (exec service z (n + 1 + numbered y) around st1)))
    (exec service rest (n + 1 + numbered y + numbered z) around)
exec service (while_loop t b rest) n around st =
    then_do (turns (room st) service t (λ st1. leave (declared b) (exec service b (n + 1) around st1)) st)
    (exec service rest (n + 1 + numbered b) around)
exec service (block b rest) n around st = then_do (leave (declared b) (exec service b n around st)) (exec service rest (n + numbered b) around)
exec service (for_each w e b rest) n around st =
    then_do (with_value service e st (λ v. each (list_of v) w (w ∷ declared b) (λ vs. exec service b (n + 1) (around + list_weight vs))))
    (exec service rest (n + 1 + numbered b) around)
exec service (show p rs rest) n around st = then_do (begin service p st (λ v. shows n around rs (document_of v))) (exec service rest (n + 1) around)
exec service (exit p rest) n around st = begin service p st (λ v. exits (document_of v))
