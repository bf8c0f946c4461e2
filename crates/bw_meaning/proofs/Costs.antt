-- No more units are left than the budget.
use Rattle.std.proofs.Common.{ℕ, zero, suc, ◌+◌, ◌≤◌, Bool, true, false, List, [], ◌∷◌, Option, Some, None, arith}
use Rattle.std.specs.Prelude.{◌==◌, nat_lt, if◌then◌else◌}
use Rattle.bw_lang.specs.declared.service.Service.{Service}
use Rattle.bw_lang.specs.declared.stmt.Receive.{Receive}
use Rattle.bw_lang.specs.declared.turn.TurnFault.{TurnFault}
use Rattle.bw_lang.specs.Service.Code.{Code, done, declare, assign, if_then, if_else, while_loop, block, for_each, show, exit, numbered}
use Rattle.bw_lang.specs.Service.Term.{Term}
use Rattle.bw_meaning.specs.Expressions.{Evaluated, Gives, Faults, eval}
use Rattle.bw_lang.specs.Service.Submissions.{values_of}
use Rattle.bw_meaning.specs.Forms.{received_value}
use Rattle.bw_lang.specs.Service.Numbers.{first_number}
use Rattle.bw_meaning.specs.GoOn.{with_rest, go_on_behind, body_of, turn, go_on}
use Rattle.bw_meaning.specs.Laws.{TurnCosts, GoingOnCosts}
use Rattle.bw_meaning.specs.Operators.{truth_of, list_of, document_of}
use Rattle.bw_meaning.specs.Pages.{show_fault, exit_fault}
use Rattle.bw_meaning.specs.States.{Form, Rests, Input, State, Outcome, Went, Shown, Exited, Failed, Answered, budget, units_left}
use Rattle.bw_meaning.specs.Statements.{declared, add_local, store, variable, received, taken, when_paid, when_given, with_unit, with_value, begin, then_do}
use Rattle.bw_meaning.specs.Statements.{unless_fault, leave, room, turns, add_rest, each, wait, shows, exits, exec}
use Rattle.bw_meaning.specs.Values.{Document, Value, Values, text, list_weight}
use Rattle.bw_meaning.proofs.Good.{Leaves, eval_leaves}

-- no more units are left than the budget
abbrev Within : Outcome → Type 0
Within o = units_left o ≤ budget

-- goes on so from each state
abbrev Keeps : (State → Outcome) → Type 0
Keeps go = (st : State) → st.units ≤ budget → Within (go st)

within_then : (o : Outcome) (go : State → Outcome) → Within o → Keeps go → Within (then_do o go)
within_then (Went st) go h k = k st h
within_then (Shown at locals rests shown shared units) go h k = h
within_then (Exited last shared units) go h k = h
within_then (Failed f units) go h k = h

within_leave : (names : List (List ℕ)) (o : Outcome) → Within o → Within (leave names o)
within_leave names o h = within_then o _ h (λ st le. le)

within_rest : (vs : List (List ℕ)) (o : Outcome) → Within o → Within (add_rest vs o)
within_rest vs (Went st) h = h
within_rest vs (Shown at locals rests shown shared units) h = h
within_rest vs (Exited last shared units) h = h
within_rest vs (Failed f units) h = h

within_if : (b : Bool) (o p : Outcome) → Within o → Within p → Within (if b then o else p)
within_if true o p ho hp = ho
within_if false o p ho hp = hp

within_unless : (f : Option TurnFault) (units : ℕ) (o : Outcome) → units ≤ budget → Within o → Within (unless_fault f units o)
within_unless None units o le h = h
within_unless (Some f) units o le h = le

within_paid : (u : ℕ) (go : ℕ → Outcome) → u ≤ budget → ((w : ℕ) → w ≤ budget → Within (go w)) → Within (when_paid u go)
within_paid zero go le h = omega arith
within_paid (suc u) go le h = h u (omega arith)

within_given : (u : ℕ) (o : Evaluated) (go : Value → ℕ → Outcome) → u ≤ budget → Leaves u o → ((v : Value) (w : ℕ) → w ≤ budget → Within (go v w)) →
    Within (when_given o go)
within_given u (Gives v left) go le l h = h v left (omega arith)
within_given u (Faults f left) go le l h = omega arith

within_unit : (st : State) (go : State → Outcome) → st.units ≤ budget → Keeps go → Within (with_unit st go)
within_unit st go le h = within_paid st.units (λ u. go (record st { units = u })) le (λ w lw. h (record st { units = w }) lw)

within_value : (service : Service) (e : Term) (st : State) (go : Value → State → Outcome) → st.units ≤ budget → ((v : Value) → Keeps (go v)) →
    Within (with_value service e st go)
within_value service e st go le h =
    within_given st.units (eval service st.locals st.shared e st.units)
    (λ v u. go v (record st { units = u })) le (eval_leaves service st.locals st.shared e st.units) (λ v w lw. h v (record st { units = w }) lw)

within_begin : (service : Service) (e : Term) (st : State) (go : Value → State → Outcome) → st.units ≤ budget → ((v : Value) → Keeps (go v)) →
    Within (begin service e st go)
within_begin service e st go le h = within_unit st (λ st1. with_value service e st1 go) le (λ st1 le1. within_value service e st1 go le1 h)

received_units : (rs : List Receive) (form : Form) (st : State) → st.units ≤ budget → (received rs form st).units ≤ budget
received_units [] form st le = le
received_units (r ∷ rs) form st le = received_units rs form (store r.target (received_value (variable r.target st) (values_of r.field form)) st) le

taken_units : (rs : List Receive) (locals : Values) (i : Input) (later : List Input) → (taken rs locals i later).units ≤ budget
taken_units rs locals i later = received_units rs i.form (record { locals = locals; shared = i.shared; units = budget; inputs = later }) (omega arith)

within_wait : (n : ℕ) (rs : List Receive) (d : Document) (st : State) (w : List Input) → st.units ≤ budget → Within (wait n rs d st w)
within_wait n rs d st [] le = le
within_wait n rs d st (i ∷ later) le = taken_units rs st.locals i later

within_turns : (n : ℕ) (service : Service) (t : Term) (body : State → Outcome) → Keeps body → Keeps (turns n service t body)
within_turns zero service t body h st le = omega arith
within_turns (suc n) service t body h st le =
    within_begin service t st (λ v st1. if truth_of v then then_do (body st1) (turns n service t body) else Went st1) le
    (λ v st1 le1. within_if (truth_of v) (then_do (body st1) (turns n service t body)) (Went st1)
    (within_then (body st1) (turns n service t body) (h st1 le1) (within_turns n service t body h)) le1)

within_each : (vs : List (List ℕ)) (w : List ℕ) (names : List (List ℕ)) (body : List (List ℕ) → State → Outcome) → ((ws : List (List ℕ)) → Keeps (body ws)) →
    Keeps (each vs w names body)
within_each [] w names body h st le = within_unit st Went le (λ st1 le1. le1)
within_each (v ∷ vs) w names body h st le =
    within_unit st (λ st1. then_do (leave names (add_rest vs (body vs (add_local w (text v) st1)))) (each vs w names body)) le
    (λ st1 le1. within_then (leave names (add_rest vs (body vs (add_local w (text v) st1)))) (each vs w names body)
    (within_leave names (add_rest vs (body vs (add_local w (text v) st1)))
    (within_rest vs (body vs (add_local w (text v) st1)) (h vs (add_local w (text v) st1) le1)))
    (within_each vs w names body h))

exec_within : (service : Service) (c : Code) (n around : ℕ) → Keeps (exec service c n around)
exec_within service done n around st le = le
exec_within service (declare kind w e rest) n around st le =
    within_then (begin service e st (λ v st1. Went (add_local w v st1))) (exec service rest (n + 1) around)
    (within_begin service e st (λ v st1. Went (add_local w v st1)) le (λ v st1 le1. le1)) (exec_within service rest (n + 1) around)
exec_within service (assign w e rest) n around st le =
    within_then (begin service e st (λ v st1. Went (store w v st1))) (exec service rest (n + 1) around)
    (within_begin service e st (λ v st1. Went (store w v st1)) le (λ v st1 le1. le1)) (exec_within service rest (n + 1) around)
exec_within service (if_then t y rest) n around st le =
    let go = λ (v : Value) (st1 : State). if truth_of v then leave (declared y) (exec service y (n + 1) around st1) else Went st1 in
    within_then (begin service t st go) (exec service rest (n + 1 + numbered y) around)
    (within_begin service t st go le (λ v st1 le1.
    within_if (truth_of v) (leave (declared y) (exec service y (n + 1) around st1)) (Went st1)
    (within_leave (declared y) (exec service y (n + 1) around st1) (exec_within service y (n + 1) around st1 le1)) le1))
    (exec_within service rest (n + 1 + numbered y) around)
exec_within service (if_else t y z rest) n around st le =
    let j = n + 1 + numbered y in
    let go = λ (v : Value) (st1 : State). if truth_of v then leave (declared y) (exec service y (n + 1) around st1) else leave (declared z)
    (exec service z j around st1) in
    within_then (begin service t st go) (exec service rest (j + numbered z) around)
    (within_begin service t st go le (λ v st1 le1.
    within_if (truth_of v) (leave (declared y) (exec service y (n + 1) around st1)) (leave (declared z) (exec service z j around st1))
    (within_leave (declared y) (exec service y (n + 1) around st1) (exec_within service y (n + 1) around st1 le1))
    (within_leave (declared z) (exec service z j around st1) (exec_within service z j around st1 le1))))
    (exec_within service rest (j + numbered z) around)
exec_within service (while_loop t b rest) n around st le =
    let run = λ (st1 : State). leave (declared b) (exec service b (n + 1) around st1) in
    within_then (turns (room st) service t run st) (exec service rest (n + 1 + numbered b) around)
    (within_turns (room st) service t run (λ st1 le1.
    within_leave (declared b) (exec service b (n + 1) around st1) (exec_within service b (n + 1) around st1 le1)) st le)
    (exec_within service rest (n + 1 + numbered b) around)
exec_within service (block b rest) n around st le =
    within_then (leave (declared b) (exec service b n around st)) (exec service rest (n + numbered b) around)
    (within_leave (declared b) (exec service b n around st) (exec_within service b n around st le))
    (exec_within service rest (n + numbered b) around)
exec_within service (for_each w e b rest) n around st le =
    let run = λ (vs : List (List ℕ)) (st2 : State). exec service b (n + 1) (around + list_weight vs) st2 in
    let go = λ (v : Value) (st1 : State). each (list_of v) w (w ∷ declared b) run st1 in
    within_then (with_value service e st go) (exec service rest (n + 1 + numbered b) around)
    (within_value service e st go le (λ v. within_each (list_of v) w (w ∷ declared b) run (λ ws. exec_within service b (n + 1) (around + list_weight ws))))
    (exec_within service rest (n + 1 + numbered b) around)
exec_within service (show p rs rest) n around st le =
    let go = λ (v : Value) (st1 : State). shows n around rs (document_of v) st1 in
    within_then (begin service p st go) (exec service rest (n + 1) around)
    (within_begin service p st go le (λ v st1 le1.
    within_unless (show_fault (document_of v) st1.locals around st1.shared) st1.units (wait n rs (document_of v) st1 st1.inputs) le1
    (within_wait n rs (document_of v) st1 st1.inputs le1)))
    (exec_within service rest (n + 1) around)
exec_within service (exit p rest) n around st le =
    within_begin service p st (λ v st1. exits (document_of v) st1) le
    (λ v st1 le1. within_unless (exit_fault (document_of v) st1.shared) st1.units (Exited (document_of v) st1.shared st1.units) le1 le1)

within_with : (rests : Rests) (go : List (List ℕ) → Rests → Outcome) → ((vs : List (List ℕ)) (inner : Rests) → Within (go vs inner)) →
    Within (with_rest rests go)
within_with [] go h = omega arith
within_with (vs ∷ inner) go h = h vs inner

behind_within : (service : Service) (c : Code) (n around : ℕ) (a : Answered) → Within (go_on_behind service c n around a)
behind_within service done n around a = omega arith
behind_within service (declare kind w e rest) n around a = behind_within service rest (n + 1) around a
behind_within service (assign w e rest) n around a = behind_within service rest (n + 1) around a
behind_within service (exit p rest) n around a = behind_within service rest (n + 1) around a
behind_within service (show p rs rest) n around a =
    within_if (a.at == n) (exec service rest (n + 1) around (taken rs a.locals a.input a.later)) (go_on_behind service rest (n + 1) around a)
    (exec_within service rest (n + 1) around (taken rs a.locals a.input a.later) (taken_units rs a.locals a.input a.later))
    (behind_within service rest (n + 1) around a)
behind_within service (block b rest) n around a =
    let m = n + numbered b in
    within_if (nat_lt a.at m) (then_do (leave (declared b) (go_on_behind service b n around a)) (exec service rest m around))
    (go_on_behind service rest m around a)
    (within_then (leave (declared b) (go_on_behind service b n around a)) (exec service rest m around)
    (within_leave (declared b) (go_on_behind service b n around a) (behind_within service b n around a)) (exec_within service rest m around))
    (behind_within service rest m around a)
behind_within service (if_then t y rest) n around a =
    let m = n + 1 + numbered y in
    within_if (nat_lt a.at m) (then_do (leave (declared y) (go_on_behind service y (n + 1) around a)) (exec service rest m around))
    (go_on_behind service rest m around a)
    (within_then (leave (declared y) (go_on_behind service y (n + 1) around a)) (exec service rest m around)
    (within_leave (declared y) (go_on_behind service y (n + 1) around a) (behind_within service y (n + 1) around a)) (exec_within service rest m around))
    (behind_within service rest m around a)
behind_within service (if_else t y z rest) n around a =
    let j = n + 1 + numbered y in
    let m = j + numbered z in
    let p = then_do (leave (declared y) (go_on_behind service y (n + 1) around a)) (exec service rest m around) in
    let q = then_do (leave (declared z) (go_on_behind service z j around a)) (exec service rest m around) in
    within_if (nat_lt a.at j) p (if nat_lt a.at m then q else go_on_behind service rest m around a)
    (within_then (leave (declared y) (go_on_behind service y (n + 1) around a)) (exec service rest m around)
    (within_leave (declared y) (go_on_behind service y (n + 1) around a) (behind_within service y (n + 1) around a)) (exec_within service rest m around))
    (within_if (nat_lt a.at m) q (go_on_behind service rest m around a)
    (within_then (leave (declared z) (go_on_behind service z j around a)) (exec service rest m around)
    (within_leave (declared z) (go_on_behind service z j around a) (behind_within service z j around a)) (exec_within service rest m around))
    (behind_within service rest m around a))
behind_within service (while_loop t b rest) n around a =
    let m = n + 1 + numbered b in
    let o = leave (declared b) (go_on_behind service b (n + 1) around a) in
    within_if (nat_lt a.at m) (then_do o (exec service (while_loop t b rest) n around)) (go_on_behind service rest m around a)
    (within_then o (exec service (while_loop t b rest) n around)
    (within_leave (declared b) (go_on_behind service b (n + 1) around a) (behind_within service b (n + 1) around a))
    (exec_within service (while_loop t b rest) n around))
    (behind_within service rest m around a)
behind_within service (for_each w e b rest) n around a =
    let m = n + 1 + numbered b in
    let names = w ∷ declared b in
    let run = λ (vs : List (List ℕ)) (st2 : State). exec service b (n + 1) (around + list_weight vs) st2 in
    let o = λ (vs : List (List ℕ)) (inner : Rests).
    then_do (leave names (add_rest vs (go_on_behind service b (n + 1) (around + list_weight vs) (record a { rests = inner })))) (each vs w names run) in
    within_if (nat_lt a.at m) (then_do (with_rest a.rests o) (exec service rest m around)) (go_on_behind service rest m around a)
    (within_then (with_rest a.rests o) (exec service rest m around)
    (within_with a.rests o (λ vs inner. within_then
    (leave names (add_rest vs (go_on_behind service b (n + 1) (around + list_weight vs) (record a { rests = inner })))) (each vs w names run)
    (within_leave names (add_rest vs (go_on_behind service b (n + 1) (around + list_weight vs) (record a { rests = inner })))
    (within_rest vs (go_on_behind service b (n + 1) (around + list_weight vs) (record a { rests = inner }))
    (behind_within service b (n + 1) (around + list_weight vs) (record a { rests = inner }))))
    (within_each vs w names run (λ ws. exec_within service b (n + 1) (around + list_weight ws)))))
    (exec_within service rest m around))
    (behind_within service rest m around a)

pub turn_costs : TurnCosts
turn_costs service session first inputs =
    let h : units_left (turn service session first inputs) ≤ budget =
    exec_within service (body_of service session) (first_number service session) 0 (record { locals = []; shared = first; units = budget; inputs = inputs })
    (omega arith) in
    omega arith

pub going_on_costs : GoingOnCosts
going_on_costs service session a =
    let h : units_left (go_on service session a) ≤ budget = behind_within service (body_of service session) (first_number service session) 0 a in
    omega arith
