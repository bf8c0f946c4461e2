-- What a flow means: one point after another.
use Rattle.std.specs.Prelude.{ℕ, zero, suc, ◌-◌, ◌==◌, if◌then◌else◌, List, [], ◌∷◌, ◌++◌, map, take, length, sum_by, slice_get}
use Rattle.std.specs.Prelude.{unwrap_or, Option, Some, None}
use Rattle.bw_lang.specs.declared.service.Service.{Service}
use Rattle.bw_lang.specs.declared.stmt.Receive.{Receive}
use Rattle.bw_lang.specs.declared.turn.TurnFault.TheVariants.{Spent}
use Rattle.bw_flow.specs.declared.point.Local.{Local}
use Rattle.bw_flow.specs.declared.point.Received.{Received}
use Rattle.bw_flow.specs.Scoped.{is_known}
use Rattle.bw_flow.specs.Steps.{Act, Step}
use Rattle.bw_flow.specs.Steps as acts
use Rattle.bw_meaning.specs.Operators.{truth_of, list_of, document_of}
use Rattle.bw_meaning.specs.States.{State, Outcome, Went, Shown, Exited, Failed, Rests}
use Rattle.bw_meaning.specs.Statements.{add_local, store, with_unit, with_value, begin, then_do, shows, exits}
use Rattle.bw_meaning.specs.Values.{Value, text, list_weight}

-- ---- names and places

-- a value for the variable of that name or, where there is none, for a new local
abbrev pub put : Service → List Local → List ℕ → Value → State → State
put service scope w v st = if is_known service scope w then store w v st else add_local w v st

-- only the first n locals
abbrev pub cut : ℕ → State → State
cut n st = record st { locals = take n st.locals }

-- a received field without what a flow adds
abbrev pub plain : Received → Receive
plain r = record { target = r.target; field = r.field }

abbrev pub first_of : List ℕ → ℕ
first_of [] = 0
first_of (p ∷ ps) = p

abbrev pub second_of : List ℕ → ℕ
second_of [] = 0
second_of (p ∷ ps) = first_of ps

-- ---- rests

-- of all rests together
abbrev pub rests_weight : Rests → ℕ
rests_weight rests = sum_by list_weight rests

-- the rest of the innermost foreach, and those of the foreachs around it
abbrev pub last_rest : Rests → List (List ℕ)
last_rest rests = unwrap_or (slice_get rests (length rests - 1)) []

abbrev pub outer_rests : Rests → Rests
outer_rests rests = take (length rests - 1) rests

-- with these rests around those that are told
abbrev pub within : Rests → Outcome → Outcome
within outer (Went st) = Went st
within outer (Shown at locals rests shown shared units) = Shown at locals (outer ++ rests) shown shared units
within outer (Exited last shared units) = Exited last shared units
within outer (Failed f units) = Failed f units

-- ---- points

-- how it goes on from a place, with these rests
abbrev pub Next : Type 0
Next = ℕ → Rests → State → Outcome

-- a turn of a foreach over these strings: into its body with the first one and the rest, or past it
abbrev pub go_over : List ℕ → List (List ℕ) → List ℕ → Next → Rests → State → Outcome
go_over w [] places next rests st = with_unit st (next (second_of places) rests)
go_over w (v ∷ vs) places next rests st = with_unit st (λ st1. next (first_of places) (rests ++ vs ∷ []) (add_local w (text v) st1))

-- What a point does. A foreach is entered where there is one rest for each foreach around it, and else goes on with
-- one rest more, its own.
abbrev pub does : Service → Act → Step → Next → Rests → State → Outcome
does service (acts.sets w e) x next rests st = begin service e st (λ v st1. next (first_of x.next) rests (put service x.scope w v st1))
does service (acts.tests e) x next rests st =
    begin service e st (λ v st1. if truth_of v then next (first_of x.next) rests st1 else next (second_of x.next) rests st1)
does service (acts.goes_over w e) x next rests st =
    if length rests == x.inside then with_value service e st (λ v. go_over w (list_of v) x.next next rests)
    else go_over w (last_rest rests) x.next next (outer_rests rests) st
does service (acts.shows e rs) x next rests st =
    begin service e st (λ v st1.
    then_do (within rests (shows x.number (rests_weight rests) (map plain rs) (document_of v) st1)) (next (first_of x.next) rests))
does service (acts.exits e) x next rests st = begin service e st (λ v. exits (document_of v))
does service acts.joins x next rests st = next (first_of x.next) rests st

-- at a point the locals are those in scope; what is no point is a session's end, with no local in scope
abbrev pub at_point : Service → Option Step → Next → Rests → State → Outcome
at_point service None next rests st = Went (cut 0 st)
at_point service (Some x) next rests st = does service x.act x next rests (cut (length x.scope) st)

-- what the flow does from a place on, over at most so many points
abbrev pub run : Service → List Step → ℕ → Next
run service flow zero p rests st = Failed Spent 0
run service flow (suc g) p rests st = at_point service (slice_get flow p) (run service flow g) rests st
