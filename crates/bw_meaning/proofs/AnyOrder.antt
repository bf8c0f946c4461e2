-- Statements and turns do the same whatever the order of names is.
use Rattle.std.proofs.Common.{◌≡◌, ℕ, zero, suc, ◌+◌, Bool, true, false, List, [], ◌∷◌, ◌++◌, Option, Some, None, refl, ap, ◌∙◌, subst}
use Rattle.std.specs.Prelude.{◌==◌, nat_lt, if◌then◌else◌, is_some}
use Rattle.std.specs.Option.{option_or}
use Rattle.bw_lang.specs.declared.service.Service.{Service}
use Rattle.bw_lang.specs.declared.stmt.Receive.{Receive}
use Rattle.bw_lang.specs.declared.turn.TurnFault.{TurnFault}
use Rattle.bw_lang.specs.declared.turn.TurnFault.TheVariants.{Spent, PageTooLong, SessionHeavy, SharedHeavy}
use Rattle.bw_lang.specs.Service.Code.{Code, done, declare, assign, if_then, if_else, while_loop, block, for_each, show, exit, numbered}
use Rattle.bw_lang.specs.Table.Names.{beside}
use Rattle.bw_lang.specs.Service.Numbers.{first_number}
use Rattle.bw_lang.specs.Service.Submissions.{values_of}
use Rattle.bw_lang.specs.Service.Term.{Term}
use Rattle.bw_meaning.specs.Expressions.{Evaluated, Gives, Faults, eval}
use Rattle.bw_meaning.specs.Forms.{received_value}
use Rattle.bw_meaning.specs.GoOn.{with_rest, go_on_behind, body_of}
use Rattle.bw_meaning.specs.Operators.{truth_of, list_of, document_of}
use Rattle.bw_meaning.specs.Orders.{IsReordered, AreInputsAlike, no_input, one_input, AreStatesAlike, states, AreOutcomesAlike, went, shown, exited, failed}
use Rattle.bw_meaning.specs.Orders.{answers, StatementsSeeNoOrder, TurnsSeeNoOrder, GoingOnSeesNoOrder}
use Rattle.bw_meaning.specs.Pages.{over, page_length, show_fault, exit_fault}
use Rattle.bw_meaning.specs.States.{Form, Rests, Input, State, Outcome, Went, Exited, Answered, budget}
use Rattle.bw_meaning.specs.Statements.{declared, add_local, store, variable, received, when_paid, when_given, with_unit, with_value, begin, then_do}
use Rattle.bw_meaning.specs.Statements.{unless_fault, leave, refills, room, turns, add_rest, each, wait, shows, exits, exec}
use Rattle.bw_meaning.specs.Values.{Document, Value, Values, text, weights, list_weight, replaced, without}
use Rattle.bw_meaning.proofs.Reordered.{agree, replaced_alike, added_alike, without_alike, weights_alike}
use Rattle.bw_meaning.proofs.Seen.{eval_alike}

-- goes on alike from states that are alike
abbrev Follow : (State → Outcome) → (State → Outcome) → Type 0
Follow go go1 = (st st1 : State) → AreStatesAlike st st1 → AreOutcomesAlike (go st) (go1 st1)

-- ---- states

added : (w : List ℕ) (v : Value) (st st1 : State) → AreStatesAlike st st1 → AreStatesAlike (add_local w v st) (add_local w v st1)
added w v _ _ (states l m s t u is js hl hs hi) = states (l ++ (w, v) ∷ []) (m ++ (w, v) ∷ []) s t u is js (added_alike w v l m hl) hs hi

either : (b : Bool) (p q s t : Values) → IsReordered p q → IsReordered s t → IsReordered (if b then p else s) (if b then q else t)
either true p q s t h k = h
either false p q s t h k = k

stored : (w : List ℕ) (v : Value) (st st1 : State) → AreStatesAlike st st1 → AreStatesAlike (store w v st) (store w v st1)
stored w v _ _ (states l m s t u is js hl hs hi) =
    states (replaced w v l) (replaced w v m) (if is_some (beside w l) then s else replaced w v s) (if is_some (beside w m) then t else replaced w v t) u is js
    (replaced_alike w v l m hl)
    (subst (λ o. IsReordered (if is_some (beside w l) then s else replaced w v s) (if is_some o then t else replaced w v t)) (agree l m hl w)
    (either (is_some (beside w l)) s t (replaced w v s) (replaced w v t) hs (replaced_alike w v s t hs)))
    hi

same_variable : (w : List ℕ) (st st1 : State) → AreStatesAlike st st1 → variable w st ≡ variable w st1
same_variable w _ _ (states l m s t u is js hl hs hi) = ap (λ o. option_or o (beside w s)) (agree l m hl w) ∙ ap (option_or (beside w m)) (agree s t hs w)

all_received : (rs : List Receive) (form : Form) (st st1 : State) → AreStatesAlike st st1 → AreStatesAlike (received rs form st) (received rs form st1)
all_received [] form st st1 h = h
all_received (r ∷ rs) form st st1 h =
    let v = received_value (variable r.target st) (values_of r.field form) in
    all_received rs form (store r.target v st) (store r.target (received_value (variable r.target st1) (values_of r.field form)) st1)
    (subst (λ o. AreStatesAlike (store r.target v st) (store r.target (received_value o (values_of r.field form)) st1)) (same_variable r.target st st1 h)
    (stored r.target v st st1 h))

same_refills : (is js : List Input) → AreInputsAlike is js → refills is ≡ refills js
same_refills _ _ no_input = refl
same_refills _ _ (one_input form s t is js h k) = ap (λ n. suc budget + n) (same_refills is js k)

same_room : (st st1 : State) → AreStatesAlike st st1 → room st ≡ room st1
same_room _ _ (states l m s t u is js hl hs hi) = ap (λ n. u + n) (same_refills is js hi)

-- ---- one thing after another

on : (o o1 : Outcome) (go go1 : State → Outcome) → AreOutcomesAlike o o1 → Follow go go1 → AreOutcomesAlike (then_do o go) (then_do o1 go1)
on _ _ go go1 (went st st1 h) k = k st st1 h
on _ _ go go1 (shown at l m rests d s t u hl hs) k = shown at l m rests d s t u hl hs
on _ _ go go1 (exited d s t u hs) k = exited d s t u hs
on _ _ go go1 (failed f u) k = failed f u

left : (names : List (List ℕ)) (o o1 : Outcome) → AreOutcomesAlike o o1 → AreOutcomesAlike (leave names o) (leave names o1)
left names o o1 h = on o o1 _ _ h (λ st st1 k. out st st1 k)
  where
    out : (st st1 : State) → AreStatesAlike st st1 →
        AreOutcomesAlike (Went (record st { locals = without names st.locals })) (Went (record st1 { locals = without names st1.locals }))
    out _ _ (states l m s t u is js hl hs hi) = went _ _ (states (without names l) (without names m) s t u is js (without_alike names l m hl) hs hi)

rest_added : (vs : List (List ℕ)) (o o1 : Outcome) → AreOutcomesAlike o o1 → AreOutcomesAlike (add_rest vs o) (add_rest vs o1)
rest_added vs _ _ (went st st1 h) = went st st1 h
rest_added vs _ _ (shown at l m rests d s t u hl hs) = shown at l m (vs ∷ rests) d s t u hl hs
rest_added vs _ _ (exited d s t u hs) = exited d s t u hs
rest_added vs _ _ (failed f u) = failed f u

on_paid : (u : ℕ) (go go1 : ℕ → Outcome) → ((w : ℕ) → AreOutcomesAlike (go w) (go1 w)) → AreOutcomesAlike (when_paid u go) (when_paid u go1)
on_paid zero go go1 h = failed Spent 0
on_paid (suc u) go go1 h = h u

on_given : (o : Evaluated) (go go1 : Value → ℕ → Outcome) → ((v : Value) (w : ℕ) → AreOutcomesAlike (go v w) (go1 v w)) →
    AreOutcomesAlike (when_given o go) (when_given o go1)
on_given (Gives v u) go go1 h = h v u
on_given (Faults f u) go go1 h = failed f u

on_unit : (go go1 : State → Outcome) → Follow go go1 → Follow (λ st. with_unit st go) (λ st. with_unit st go1)
on_unit go go1 k _ _ (states l m s t u is js hl hs hi) = on_paid u _ _ (λ w. k _ _ (states l m s t w is js hl hs hi))

on_value : (service : Service) (e : Term) (go go1 : Value → State → Outcome) → ((v : Value) → Follow (go v) (go1 v)) →
    Follow (λ st. with_value service e st go) (λ st. with_value service e st go1)
on_value service e go go1 k _ _ (states l m s t u is js hl hs hi) =
    let st1 : State = record { locals = m; shared = t; units = u; inputs = js } in
    let st : State = record { locals = l; shared = s; units = u; inputs = is } in
    subst (λ o. AreOutcomesAlike (with_value service e st go) (when_given o (λ v w. go1 v (record st1 { units = w }))))
    (eval_alike service l m s t (agree l m hl) (agree s t hs) e u)
    (on_given (eval service l s e u) (λ v w. go v (record st { units = w })) (λ v w. go1 v (record st1 { units = w }))
    (λ v w. k v _ _ (states l m s t w is js hl hs hi)))

on_begun : (service : Service) (e : Term) (go go1 : Value → State → Outcome) → ((v : Value) → Follow (go v) (go1 v)) →
    Follow (λ st. begin service e st go) (λ st. begin service e st go1)
on_begun service e go go1 k = on_unit (λ st. with_value service e st go) (λ st. with_value service e st go1) (on_value service e go go1 k)

on_if : (b : Bool) (o o1 p p1 : Outcome) → AreOutcomesAlike o o1 → AreOutcomesAlike p p1 → AreOutcomesAlike (if b then o else p) (if b then o1 else p1)
on_if true o o1 p p1 h k = h
on_if false o o1 p p1 h k = k

on_no_fault : (f : Option TurnFault) (u : ℕ) (o o1 : Outcome) → AreOutcomesAlike o o1 → AreOutcomesAlike (unless_fault f u o) (unless_fault f u o1)
on_no_fault None u o o1 h = h
on_no_fault (Some f) u o o1 h = failed f u

-- ---- pages

waited : (n : ℕ) (rs : List Receive) (d : Document) (l m s t : Values) (u : ℕ) (st st1 : State) (is js : List Input) → IsReordered l m → IsReordered s t →
    AreInputsAlike is js → AreOutcomesAlike
    (wait n rs d (record { locals = l; shared = s; units = u; inputs = st.inputs }) is)
    (wait n rs d (record { locals = m; shared = t; units = u; inputs = st1.inputs }) js)
waited n rs d l m s t u st st1 _ _ hl hs no_input = shown n l m [] d s t u hl hs
waited n rs d l m s t u st st1 _ _ hl hs (one_input form p q is js h k) =
    went _ _ (all_received rs form _ _ (states l m p q budget is js hl h k))

on_shown : (n around : ℕ) (rs : List Receive) (d : Document) → Follow (shows n around rs d) (shows n around rs d)
on_shown n around rs d _ _ (states l m s t u is js hl hs hi) =
    let st : State = record { locals = l; shared = s; units = u; inputs = is } in
    let st1 : State = record { locals = m; shared = t; units = u; inputs = js } in
    let test = λ (x y : ℕ). option_or (over 4194304 PageTooLong (page_length d))
    (option_or (over 1048576 SessionHeavy (x + around + d.measure.weight)) (over 8388608 SharedHeavy y)) in
    let e : show_fault d l around s ≡ show_fault d m around t =
    ap (λ x. test x (weights s)) (weights_alike l m hl) ∙ ap (test (weights m)) (weights_alike s t hs) in
    subst (λ f. AreOutcomesAlike (shows n around rs d st) (unless_fault f u (wait n rs d st1 js))) e
    (on_no_fault (show_fault d l around s) u (wait n rs d st is) (wait n rs d st1 js) (waited n rs d l m s t u st st1 is js hl hs hi))

on_exit : (d : Document) → Follow (exits d) (exits d)
on_exit d _ _ (states l m s t u is js hl hs hi) =
    let e : exit_fault d s ≡ exit_fault d t =
    ap (λ y. option_or (over 4194304 PageTooLong (page_length d)) (over 8388608 SharedHeavy y)) (weights_alike s t hs) in
    subst (λ f. AreOutcomesAlike (unless_fault (exit_fault d s) u (Exited d s u)) (unless_fault f u (Exited d t u))) e
    (on_no_fault (exit_fault d s) u (Exited d s u) (Exited d t u) (exited d s t u hs))

-- ---- loops

on_turns : (n : ℕ) (service : Service) (t : Term) (body : State → Outcome) → Follow body body → Follow (turns n service t body) (turns n service t body)
on_turns zero service t body k st st1 h = failed Spent 0
on_turns (suc n) service t body k st st1 h =
    let go = λ (v : Value) (st2 : State). if truth_of v then then_do (body st2) (turns n service t body) else Went st2 in
    on_begun service t go go (λ v st2 st3 h2. on_if (truth_of v) _ _ (Went st2) (Went st3)
    (on (body st2) (body st3) (turns n service t body) (turns n service t body) (k st2 st3 h2) (on_turns n service t body k)) (went st2 st3 h2)) st st1 h

on_loop : (service : Service) (t : Term) (body : State → Outcome) → Follow body body →
    Follow (λ st. turns (room st) service t body st) (λ st. turns (room st) service t body st)
on_loop service t body k st st1 h =
    subst (λ n. AreOutcomesAlike (turns (room st) service t body st) (turns n service t body st1)) (same_room st st1 h)
    (on_turns (room st) service t body k st st1 h)

on_each : (vs : List (List ℕ)) (w : List ℕ) (names : List (List ℕ)) (body : List (List ℕ) → State → Outcome) →
    ((ws : List (List ℕ)) → Follow (body ws) (body ws)) → Follow (each vs w names body) (each vs w names body)
on_each [] w names body k = on_unit Went Went (λ st st1 h. went st st1 h)
on_each (v ∷ vs) w names body k =
    let go = λ (st : State). then_do (leave names (add_rest vs (body vs (add_local w (text v) st)))) (each vs w names body) in
    on_unit go go (λ st st1 h.
    on (leave names (add_rest vs (body vs (add_local w (text v) st)))) (leave names (add_rest vs (body vs (add_local w (text v) st1))))
    (each vs w names body) (each vs w names body)
    (left names _ _ (rest_added vs _ _ (k vs (add_local w (text v) st) (add_local w (text v) st1) (added w (text v) st st1 h))))
    (on_each vs w names body k))

-- ---- statements

-- a block, and what follows it
on_block : (names : List (List ℕ)) (o o1 : Outcome) (go : State → Outcome) → AreOutcomesAlike o o1 → Follow go go →
    AreOutcomesAlike (then_do (leave names o) go) (then_do (leave names o1) go)
on_block names o o1 go h k = on (leave names o) (leave names o1) go go (left names o o1 h) k

pub statements_see_no_order : StatementsSeeNoOrder
statements_see_no_order service done n around st st1 h = went st st1 h
statements_see_no_order service (declare kind w e rest) n around st st1 h =
    on _ _ (exec service rest (n + 1) around) (exec service rest (n + 1) around)
    (on_begun service e _ _ (λ v st2 st3 h2. went _ _ (added w v st2 st3 h2)) st st1 h) (statements_see_no_order service rest (n + 1) around)
statements_see_no_order service (assign w e rest) n around st st1 h =
    on _ _ (exec service rest (n + 1) around) (exec service rest (n + 1) around)
    (on_begun service e _ _ (λ v st2 st3 h2. went _ _ (stored w v st2 st3 h2)) st st1 h) (statements_see_no_order service rest (n + 1) around)
statements_see_no_order service (if_then t y rest) n around st st1 h =
    let m = n + 1 + numbered y in
    on _ _ (exec service rest m around) (exec service rest m around)
    (on_begun service t _ _ (λ v st2 st3 h2. on_if (truth_of v) _ _ (Went st2) (Went st3)
    (left (declared y) _ _ (statements_see_no_order service y (n + 1) around st2 st3 h2)) (went st2 st3 h2)) st st1 h)
    (statements_see_no_order service rest m around)
statements_see_no_order service (if_else t y z rest) n around st st1 h =
    let j = n + 1 + numbered y in
    on _ _ (exec service rest (j + numbered z) around) (exec service rest (j + numbered z) around)
    (on_begun service t _ _ (λ v st2 st3 h2. on_if (truth_of v) _ _ _ _
    (left (declared y) _ _ (statements_see_no_order service y (n + 1) around st2 st3 h2))
    (left (declared z) _ _ (statements_see_no_order service z j around st2 st3 h2))) st st1 h)
    (statements_see_no_order service rest (j + numbered z) around)
statements_see_no_order service (while_loop t b rest) n around st st1 h =
    let m = n + 1 + numbered b in
    on _ _ (exec service rest m around) (exec service rest m around)
    (on_loop service t (λ st2. leave (declared b) (exec service b (n + 1) around st2))
    (λ st2 st3 h2. left (declared b) _ _ (statements_see_no_order service b (n + 1) around st2 st3 h2)) st st1 h)
    (statements_see_no_order service rest m around)
statements_see_no_order service (block b rest) n around st st1 h =
    on_block (declared b) _ _ (exec service rest (n + numbered b) around) (statements_see_no_order service b n around st st1 h)
    (statements_see_no_order service rest (n + numbered b) around)
statements_see_no_order service (for_each w e b rest) n around st st1 h =
    let m = n + 1 + numbered b in
    let run = λ (vs : List (List ℕ)) (st2 : State). exec service b (n + 1) (around + list_weight vs) st2 in
    let go = λ (v : Value) (st2 : State). each (list_of v) w (w ∷ declared b) run st2 in
    on _ _ (exec service rest m around) (exec service rest m around)
    (on_value service e go go (λ v. on_each (list_of v) w (w ∷ declared b) run (λ ws. statements_see_no_order service b (n + 1) (around + list_weight ws)))
    st st1 h)
    (statements_see_no_order service rest m around)
statements_see_no_order service (show p rs rest) n around st st1 h =
    on _ _ (exec service rest (n + 1) around) (exec service rest (n + 1) around)
    (on_begun service p _ _ (λ v. on_shown n around rs (document_of v)) st st1 h) (statements_see_no_order service rest (n + 1) around)
statements_see_no_order service (exit p rest) n around st st1 h = on_begun service p _ _ (λ v. on_exit (document_of v)) st st1 h

pub turns_see_no_order : TurnsSeeNoOrder
turns_see_no_order service session first first1 is js hs hi =
    statements_see_no_order service (body_of service session) (first_number service session) 0 _ _ (states [] [] first first1 budget is js (λ w. refl) hs hi)

-- ---- going on

on_rest : (rests : Rests) (go go1 : List (List ℕ) → Rests → Outcome) → ((vs : List (List ℕ)) (inner : Rests) → AreOutcomesAlike (go vs inner) (go1 vs inner)) →
    AreOutcomesAlike (with_rest rests go) (with_rest rests go1)
on_rest [] go go1 h = failed Spent 0
on_rest (vs ∷ inner) go go1 h = h vs inner

module _ (service : Service) (at : ℕ) (l m : Values) (form : Form) (s t : Values) (is js : List Input)
    (hl : IsReordered l m) (hs : IsReordered s t) (hi : AreInputsAlike is js) where
  abbrev one : Rests → Answered
  one rests = record { at = at; locals = l; rests = rests; input = record { form = form; shared = s }; later = is }

  abbrev other : Rests → Answered
  other rests = record { at = at; locals = m; rests = rests; input = record { form = form; shared = t }; later = js }

  behind_alike : (c : Code) (n around : ℕ) (rests : Rests)
      → AreOutcomesAlike (go_on_behind service c n around (one rests)) (go_on_behind service c n around (other rests))
  behind_alike done n around rests = failed Spent 0
  behind_alike (declare kind w e rest) n around rests = behind_alike rest (n + 1) around rests
  behind_alike (assign w e rest) n around rests = behind_alike rest (n + 1) around rests
  behind_alike (exit p rest) n around rests = behind_alike rest (n + 1) around rests
  behind_alike (show p rs rest) n around rests =
      on_if (at == n) _ _ _ _
      (statements_see_no_order service rest (n + 1) around _ _ (all_received rs form _ _ (states l m s t budget is js hl hs hi)))
      (behind_alike rest (n + 1) around rests)
  behind_alike (block b rest) n around rests =
      let k = n + numbered b in
      on_if (nat_lt at k) _ _ _ _
      (on_block (declared b) _ _ (exec service rest k around) (behind_alike b n around rests) (statements_see_no_order service rest k around))
      (behind_alike rest k around rests)
  behind_alike (if_then e y rest) n around rests =
      let k = n + 1 + numbered y in
      on_if (nat_lt at k) _ _ _ _
      (on_block (declared y) _ _ (exec service rest k around) (behind_alike y (n + 1) around rests) (statements_see_no_order service rest k around))
      (behind_alike rest k around rests)
  behind_alike (if_else e y z rest) n around rests =
      let j = n + 1 + numbered y in
      let k = j + numbered z in
      on_if (nat_lt at j) _ _ _ _
      (on_block (declared y) _ _ (exec service rest k around) (behind_alike y (n + 1) around rests) (statements_see_no_order service rest k around))
      (on_if (nat_lt at k) _ _ _ _
      (on_block (declared z) _ _ (exec service rest k around) (behind_alike z j around rests) (statements_see_no_order service rest k around))
      (behind_alike rest k around rests))
  behind_alike (while_loop e b rest) n around rests =
      let k = n + 1 + numbered b in
      on_if (nat_lt at k) _ _ _ _
      (on_block (declared b) _ _ (exec service (while_loop e b rest) n around) (behind_alike b (n + 1) around rests)
      (statements_see_no_order service (while_loop e b rest) n around))
      (behind_alike rest k around rests)
  behind_alike (for_each w e b rest) n around rests =
      let k = n + 1 + numbered b in
      let names = w ∷ declared b in
      let run = λ (vs : List (List ℕ)) (st2 : State). exec service b (n + 1) (around + list_weight vs) st2 in
      on_if (nat_lt at k) _ _ _ _
      (on _ _ (exec service rest k around) (exec service rest k around)
      (on_rest rests _ _ (λ vs inner. on_block names _ _ (each vs w names run) (rest_added vs _ _ (behind_alike b (n + 1) (around + list_weight vs) inner))
      (on_each vs w names run (λ ws. statements_see_no_order service b (n + 1) (around + list_weight ws)))))
      (statements_see_no_order service rest k around))
      (behind_alike rest k around rests)

pub going_on_sees_no_order : GoingOnSeesNoOrder
going_on_sees_no_order service session _ _ (answers at l m rests form s t is js hl hs hi) =
    behind_alike service at l m form s t is js hl hs hi (body_of service session) (first_number service session) 0 rests
