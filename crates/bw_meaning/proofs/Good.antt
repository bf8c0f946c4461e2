-- What every run keeps: units and inputs fall, and a show is one of the statements' own.
use Rattle.std.proofs.Common.{◌≡◌, ℕ, zero, suc, ◌+◌, ◌<◌, ◌≤◌, Bool, true, false, List, [], ◌∷◌, Option, Some, None, Result, Ok, Err, refl, arith}
use Rattle.std.specs.Prelude.{if◌then◌else◌}
use Rattle.bw_lang.specs.declared.service.Service.{Service}
use Rattle.bw_lang.specs.declared.stmt.Receive.{Receive}
use Rattle.bw_lang.specs.declared.turn.TurnFault.{TurnFault}
use Rattle.bw_lang.specs.Service.Code.{Code, done, declare, assign, if_then, if_else, while_loop, block, for_each, show, exit, numbered}
use Rattle.bw_lang.specs.Table.Names as names
use Rattle.bw_lang.specs.Service.Term.{Term, int, truth, string, name, paren, not, neg, binary, call, plug, nothing, Fillings, no_more, filling}
use Rattle.bw_meaning.specs.Expressions.{Evaluated, Gives, Faults, paid, and_then, given, eval, fill}
use Rattle.bw_lang.specs.Service.Submissions.{values_of}
use Rattle.bw_meaning.specs.Forms.{received_value}
use Rattle.bw_meaning.specs.Operators.{truth_of, list_of, document_of, decides, combined, filled}
use Rattle.bw_meaning.specs.Pages.{show_fault, exit_fault}
use Rattle.bw_meaning.specs.States.{Form, Input, State, Outcome, Went, Shown, Exited, Failed, budget}
use Rattle.bw_meaning.specs.Statements.{declared, add_local, store, variable, received, taken, when_paid, with_unit, when_given, with_value, begin, then_do}
use Rattle.bw_meaning.specs.Statements.{unless_fault, leave, refills, room, turns, add_rest, each, wait, shows, exits, exec}
use Rattle.bw_meaning.specs.Values.{Document, Value, Values, text, list_weight}

-- ---- expressions

-- no more units are left than there were
abbrev pub Leaves : ℕ → Evaluated → Type 0
Leaves u (Gives v left) = left ≤ u
Leaves u (Faults f left) = left ≤ u

leaves_more : (a b : ℕ) (o : Evaluated) → a ≤ b → Leaves a o → Leaves b o
leaves_more a b (Gives v left) le h = omega arith
leaves_more a b (Faults f left) le h = omega arith

leaves_paid : (u : ℕ) (go : ℕ → Evaluated) → ((w : ℕ) → Leaves w (go w)) → Leaves u (paid u go)
leaves_paid zero go h = omega arith
leaves_paid (suc u) go h = leaves_more u (suc u) (go u) (omega arith) (h u)

leaves_then : (u : ℕ) (o : Evaluated) (go : Value → ℕ → Evaluated) → Leaves u o → ((v : Value) (w : ℕ) → Leaves w (go v w)) → Leaves u (and_then o go)
leaves_then u (Gives v left) go l h = leaves_more left u (go v left) l (h v left)
leaves_then u (Faults f left) go l h = l

leaves_given : (r : Result Value TurnFault) (u : ℕ) → Leaves u (given r u)
leaves_given (Ok v) u = omega arith
leaves_given (Err f) u = omega arith

leaves_if : (b : Bool) (u : ℕ) (o p : Evaluated) → Leaves u o → Leaves u p → Leaves u (if b then o else p)
leaves_if true u o p ho hp = ho
leaves_if false u o p ho hp = hp

mutual
  pub eval_leaves : (service : Service) (l s : Values) (e : Term) (u : ℕ) → Leaves u (eval service l s e u)
  eval_leaves service l s (int n) u = leaves_paid u _ (λ w. omega arith)
  eval_leaves service l s (truth b) u = leaves_paid u _ (λ w. omega arith)
  eval_leaves service l s (string t) u = leaves_paid u _ (λ w. omega arith)
  eval_leaves service l s nothing u = leaves_paid u _ (λ w. omega arith)
  eval_leaves service l s (name x) u = leaves_paid u _ (λ w. omega arith)
  eval_leaves service l s (paren e) u = leaves_paid u _ (λ w. eval_leaves service l s e w)
  eval_leaves service l s (not e) u = leaves_paid u _ (λ w. leaves_then w (eval service l s e w) _ (eval_leaves service l s e w) (λ v x. omega arith))
  eval_leaves service l s (neg e) u = leaves_paid u _ (λ w. leaves_then w (eval service l s e w) _ (eval_leaves service l s e w) (λ v x. leaves_given _ x))
  eval_leaves service l s (call f e) u = leaves_paid u _ (λ w. leaves_then w (eval service l s e w) _ (eval_leaves service l s e w) (λ v x. omega arith))
  eval_leaves service l s (binary op p q) u =
      leaves_paid u _ (λ w. leaves_then w (eval service l s p w) _ (eval_leaves service l s p w) (λ v x.
      leaves_if (decides op v) x (Gives v x) (and_then (eval service l s q x) (λ r. given (combined op v r))) (omega arith)
      (leaves_then x (eval service l s q x) (λ r. given (combined op v r)) (eval_leaves service l s q x) (λ r y. leaves_given (combined op v r) y))))
  eval_leaves service l s (plug b ps) u =
      leaves_paid u _ (λ w. leaves_then w (eval service l s b w) _ (eval_leaves service l s b w) (λ d x. fill_leaves service l s ps d x))

  fill_leaves : (service : Service) (l s : Values) (ps : Fillings) (d : Value) (u : ℕ) → Leaves u (fill service l s ps d u)
  fill_leaves service l s no_more d u = omega arith
  fill_leaves service l s (filling g e ps) d u =
      leaves_then u (eval service l s e u) (λ v x.
      and_then (given (filled (names.name_number service.gaps g) v (document_of d)) x) (λ d1 y. fill service l s ps d1 y)) (eval_leaves service l s e u)
      (λ v x. leaves_then x (given (filled (names.name_number service.gaps g) v (document_of d)) x)
      (λ d1 y. fill service l s ps d1 y) (leaves_given (filled (names.name_number service.gaps g) v (document_of d)) x)
      (λ d1 y. fill_leaves service l s ps d1 y))

-- ---- outcomes

-- the end keeps within this room, and a show has a number from lo up to hi
abbrev pub Good : ℕ → ℕ → ℕ → Outcome → Type 0
Good lo hi r (Went st) = room st ≤ r
Good lo hi r (Shown at locals rests shown shared units) = (lo ≤ at) × (at < hi)
Good lo hi r (Exited last shared units) = Unit {0}
Good lo hi r (Failed f units) = Unit {0}

pub good_more : (lo hi r lo' hi' r' : ℕ) (o : Outcome) → lo' ≤ lo → hi ≤ hi' → r ≤ r' → Good lo hi r o → Good lo' hi' r' o
good_more lo hi r lo' hi' r' (Went st) a b c h = omega arith
good_more lo hi r lo' hi' r' (Shown at locals rests shown shared units) a b c h = (omega (arith, h.0), omega (arith, h.1))
good_more lo hi r lo' hi' r' (Exited last shared units) a b c h = tt
good_more lo hi r lo' hi' r' (Failed f units) a b c h = tt

pub good_then : (lo hi r : ℕ) (o : Outcome) (go : State → Outcome) → Good lo hi r o → ((st : State) → room st ≤ r → Good lo hi r (go st)) →
    Good lo hi r (then_do o go)
good_then lo hi r (Went st) go h k = k st h
good_then lo hi r (Shown at locals rests shown shared units) go h k = h
good_then lo hi r (Exited last shared units) go h k = tt
good_then lo hi r (Failed f units) go h k = tt

-- statements, and then others with the numbers behind them
pub good_step : (lo mid end hi r : ℕ) (o : Outcome) (go : State → Outcome) → lo ≤ mid → mid ≤ hi → end ≤ hi → Good lo mid r o →
    ((st : State) → Good mid end (room st) (go st)) → Good lo hi r (then_do o go)
good_step lo mid end hi r o go a b c g h =
    good_then lo hi r o go (good_more lo mid r lo hi r o (omega arith) b (omega arith) g) (λ st le. good_more mid end (room st) lo hi r (go st) a c le (h st))

pub good_leave : (lo hi r : ℕ) (names : List (List ℕ)) (o : Outcome) → Good lo hi r o → Good lo hi r (leave names o)
good_leave lo hi r names o h = good_then lo hi r o _ h (λ st le. le)

good_paid : (lo hi r u : ℕ) (go : ℕ → Outcome) → ((w : ℕ) → w < u → Good lo hi r (go w)) → Good lo hi r (when_paid u go)
good_paid lo hi r zero go h = tt
good_paid lo hi r (suc u) go h = h u (omega arith)

good_unit : (lo hi r : ℕ) (st : State) (go : State → Outcome) → ((st1 : State) → room st1 < room st → Good lo hi r (go st1)) → Good lo hi r (with_unit st go)
good_unit lo hi r st go h = good_paid lo hi r st.units _ (λ u lt. h (record st { units = u }) (omega arith))

good_given : (lo hi r u : ℕ) (o : Evaluated) (go : Value → ℕ → Outcome) → Leaves u o → ((v : Value) (w : ℕ) → w ≤ u → Good lo hi r (go v w)) →
    Good lo hi r (when_given o go)
good_given lo hi r u (Gives v left) go l h = h v left l
good_given lo hi r u (Faults f left) go l h = tt

pub good_value : (lo hi r : ℕ) (service : Service) (e : Term) (st : State) (go : Value → State → Outcome) →
    ((v : Value) (st1 : State) → room st1 ≤ room st → Good lo hi r (go v st1)) → Good lo hi r (with_value service e st go)
good_value lo hi r service e st go h =
    good_given lo hi r st.units (eval service st.locals st.shared e st.units) _ (eval_leaves service st.locals st.shared e st.units)
    (λ v u le. h v (record st { units = u }) (omega arith))

-- a statement that first pays and evaluates
pub good_begin : (lo hi r : ℕ) (service : Service) (e : Term) (st : State) (go : Value → State → Outcome) → room st ≤ r →
    ((v : Value) (st1 : State) → room st1 < room st → Good lo hi r (go v st1)) → Good lo hi r (begin service e st go)
good_begin lo hi r service e st go le h =
    good_unit lo hi r st (λ st1. with_value service e st1 go) (λ st1 lt. good_value lo hi r service e st1 go (λ v st2 le2. h v st2 (omega arith)))

received_room : (rs : List Receive) (form : Form) (st : State) → room (received rs form st) ≡ room st
received_room [] form st = refl
received_room (r ∷ rs) form st = received_room rs form (store r.target (received_value (variable r.target st) (values_of r.field form)) st)

pub taken_room : (rs : List Receive) (locals : Values) (i : Input) (later : List Input) → room (taken rs locals i later) ≡ budget + refills later
taken_room rs locals i later = received_room rs i.form (record { locals = locals; shared = i.shared; units = budget; inputs = later })

pub good_if : (lo hi r : ℕ) (b : Bool) (o p : Outcome) → Good lo hi r o → Good lo hi r p → Good lo hi r (if b then o else p)
good_if lo hi r true o p ho hp = ho
good_if lo hi r false o p ho hp = hp

pub good_unless : (lo hi r : ℕ) (f : Option TurnFault) (units : ℕ) (o : Outcome) → Good lo hi r o → Good lo hi r (unless_fault f units o)
good_unless lo hi r None units o h = h
good_unless lo hi r (Some f) units o h = tt

pub good_wait : (lo hi r n : ℕ) (rs : List Receive) (d : Document) (st : State) (w : List Input) → lo ≤ n → n < hi → st.units + refills w ≤ r →
    Good lo hi r (wait n rs d st w)
good_wait lo hi r n rs d st [] a b le = (a, b)
good_wait lo hi r n rs d st (i ∷ later) a b le = let e = taken_room rs st.locals i later in omega arith

pub good_turns : (lo hi r n : ℕ) (service : Service) (t : Term) (body : State → Outcome) (st : State) → room st ≤ r →
    ((st1 : State) → Good lo hi (room st1) (body st1)) → Good lo hi r (turns n service t body st)
good_turns lo hi r zero service t body st le h = tt
good_turns lo hi r (suc n) service t body st le h =
    good_begin lo hi r service t st (λ v st1. if truth_of v then then_do (body st1) (turns n service t body) else Went st1) le
    (λ v st1 lt. good_if lo hi r (truth_of v) (then_do (body st1) (turns n service t body)) (Went st1)
    (good_then lo hi r (body st1) (turns n service t body) (good_more lo hi (room st1) lo hi r (body st1) (omega arith) (omega arith) (omega arith) (h st1))
    (λ st2 le2. good_turns lo hi r n service t body st2 le2 h)) (omega arith))

pub good_rest : (lo hi r : ℕ) (vs : List (List ℕ)) (o : Outcome) → Good lo hi r o → Good lo hi r (add_rest vs o)
good_rest lo hi r vs (Went st) h = h
good_rest lo hi r vs (Shown at locals rests shown shared units) h = h
good_rest lo hi r vs (Exited last shared units) h = tt
good_rest lo hi r vs (Failed f units) h = tt

pub good_each : (lo hi r : ℕ) (vs : List (List ℕ)) (w : List ℕ) (names : List (List ℕ)) (body : List (List ℕ) → State → Outcome) (st : State) → room st ≤ r →
    ((ws : List (List ℕ)) (st1 : State) → Good lo hi (room st1) (body ws st1)) → Good lo hi r (each vs w names body st)
good_each lo hi r [] w names body st le h = good_unit lo hi r st Went (λ st1 lt. omega arith)
good_each lo hi r (v ∷ vs) w names body st le h =
    good_unit lo hi r st (λ st1. then_do (leave names (add_rest vs (body vs (add_local w (text v) st1)))) (each vs w names body))
    (λ st1 lt. good_then lo hi r (leave names (add_rest vs (body vs (add_local w (text v) st1)))) (each vs w names body)
    (good_leave lo hi r names (add_rest vs (body vs (add_local w (text v) st1)))
    (good_rest lo hi r vs (body vs (add_local w (text v) st1))
    (good_more lo hi (room st1) lo hi r (body vs (add_local w (text v) st1)) (omega arith) (omega arith) (omega arith) (h vs (add_local w (text v) st1)))))
    (λ st2 le2. good_each lo hi r vs w names body st2 le2 h))

-- ---- statements

-- a block inside a statement of number n
pub good_inner : (n hi r : ℕ) (names : List (List ℕ)) (o : Outcome) → Good (n + 1) hi r o → Good n hi r (leave names o)
good_inner n hi r names o h = good_leave n hi r names o (good_more (n + 1) hi r n hi r o (omega arith) (omega arith) (omega arith) h)

pub exec_good : (service : Service) (c : Code) (n around : ℕ) (st : State) → Good n (n + numbered c) (room st) (exec service c n around st)
exec_good service done n around st = omega arith
exec_good service (declare kind w e rest) n around st =
    good_step n (n + 1) (n + 1 + numbered rest) (n + (1 + numbered rest)) (room st) (begin service e st (λ v st1. Went (add_local w v st1)))
    (exec service rest (n + 1) around)
    (omega arith) (omega arith) (omega arith)
    (good_begin n (n + 1) (room st) service e st (λ v st1. Went (add_local w v st1)) (omega arith) (λ v st1 lt. omega arith))
    (λ st1. exec_good service rest (n + 1) around st1)
exec_good service (assign w e rest) n around st =
    good_step n (n + 1) (n + 1 + numbered rest) (n + (1 + numbered rest)) (room st) (begin service e st (λ v st1. Went (store w v st1)))
    (exec service rest (n + 1) around)
    (omega arith) (omega arith) (omega arith)
    (good_begin n (n + 1) (room st) service e st (λ v st1. Went (store w v st1)) (omega arith) (λ v st1 lt. omega arith))
    (λ st1. exec_good service rest (n + 1) around st1)
exec_good service (if_then t y rest) n around st =
    let m = n + 1 + numbered y in
    let go = λ (v : Value) (st1 : State). if truth_of v then leave (declared y) (exec service y (n + 1) around st1) else Went st1 in
    good_step n m (m + numbered rest) (n + (1 + numbered y + numbered rest)) (room st) (begin service t st go) (exec service rest m around)
    (omega arith) (omega arith) (omega arith)
    (good_begin n m (room st) service t st go (omega arith)
    (λ v st1 lt. good_if n m (room st) (truth_of v) (leave (declared y) (exec service y (n + 1) around st1)) (Went st1)
    (good_inner n m (room st) (declared y) (exec service y (n + 1) around st1)
    (good_more (n + 1) m (room st1) (n + 1) m (room st) (exec service y (n + 1) around st1) (omega arith) (omega arith) (omega arith)
    (exec_good service y (n + 1) around st1)))
    (omega arith)))
    (λ st1. exec_good service rest m around st1)
exec_good service (if_else t y z rest) n around st =
    let k = n + 1 + numbered y in
    let m = k + numbered z in
    let go = λ (v : Value) (st1 : State). if truth_of v then leave (declared y) (exec service y (n + 1) around st1) else leave (declared z)
    (exec service z k around st1) in
    good_step n m (m + numbered rest) (n + (1 + numbered y + numbered z + numbered rest)) (room st) (begin service t st go) (exec service rest m around)
    (omega arith) (omega arith) (omega arith)
    (good_begin n m (room st) service t st go (omega arith)
    (λ v st1 lt. good_if n m (room st) (truth_of v) (leave (declared y) (exec service y (n + 1) around st1)) (leave (declared z) (exec service z k around st1))
    (good_inner n m (room st) (declared y) (exec service y (n + 1) around st1)
    (good_more (n + 1) k (room st1) (n + 1) m (room st) (exec service y (n + 1) around st1) (omega arith) (omega arith) (omega arith)
    (exec_good service y (n + 1) around st1)))
    (good_leave n m (room st) (declared z) (exec service z k around st1)
    (good_more k m (room st1) n m (room st) (exec service z k around st1) (omega arith) (omega arith) (omega arith) (exec_good service z k around st1)))))
    (λ st1. exec_good service rest m around st1)
exec_good service (while_loop t b rest) n around st =
    let m = n + 1 + numbered b in
    let run = λ (st1 : State). leave (declared b) (exec service b (n + 1) around st1) in
    good_step n m (m + numbered rest) (n + (1 + numbered b + numbered rest)) (room st) (turns (room st) service t run st) (exec service rest m around)
    (omega arith) (omega arith) (omega arith)
    (good_turns n m (room st) (room st) service t run st (omega arith)
    (λ st1. good_inner n m (room st1) (declared b) (exec service b (n + 1) around st1) (exec_good service b (n + 1) around st1)))
    (λ st1. exec_good service rest m around st1)
exec_good service (block b rest) n around st =
    let m = n + numbered b in
    good_step n m (m + numbered rest) (n + (numbered b + numbered rest)) (room st) (leave (declared b) (exec service b n around st))
    (exec service rest m around)
    (omega arith) (omega arith) (omega arith)
    (good_leave n m (room st) (declared b) (exec service b n around st) (exec_good service b n around st))
    (λ st1. exec_good service rest m around st1)
exec_good service (for_each w e b rest) n around st =
    let m = n + 1 + numbered b in
    let run = λ (vs : List (List ℕ)) (st2 : State). exec service b (n + 1) (around + list_weight vs) st2 in
    let go = λ (v : Value) (st1 : State). each (list_of v) w (w ∷ declared b) run st1 in
    good_step n m (m + numbered rest) (n + (1 + numbered b + numbered rest)) (room st) (with_value service e st go) (exec service rest m around)
    (omega arith) (omega arith) (omega arith)
    (good_value n m (room st) service e st go (λ v st1 le. good_each n m (room st) (list_of v) w (w ∷ declared b) run st1 le
    (λ vs st2. good_more (n + 1) m (room st2) n m (room st2) (exec service b (n + 1) (around + list_weight vs) st2) (omega arith) (omega arith) (omega arith)
    (exec_good service b (n + 1) (around + list_weight vs) st2))))
    (λ st1. exec_good service rest m around st1)
exec_good service (show p rs rest) n around st =
    good_step n (n + 1) (n + 1 + numbered rest) (n + (1 + numbered rest)) (room st) (begin service p st (λ v st1. shows n around rs (document_of v) st1))
    (exec service rest (n + 1) around)
    (omega arith) (omega arith) (omega arith)
    (good_begin n (n + 1) (room st) service p st (λ v st1. shows n around rs (document_of v) st1) (omega arith)
    (λ v st1 lt. good_unless n (n + 1) (room st) (show_fault (document_of v) st1.locals around st1.shared) st1.units (wait n rs (document_of v) st1 st1.inputs)
    (good_wait n (n + 1) (room st) n rs (document_of v) st1 st1.inputs (omega arith) (omega arith) (omega arith))))
    (λ st1. exec_good service rest (n + 1) around st1)
exec_good service (exit p rest) n around st =
    let hi = n + (1 + numbered rest) in
    good_begin n hi (room st) service p st (λ v st1. exits (document_of v) st1) (omega arith)
    (λ v st1 lt. good_unless n hi (room st) (exit_fault (document_of v) st1.shared) st1.units (Exited (document_of v) st1.shared st1.units) tt)
