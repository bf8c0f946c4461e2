-- How statements end: with the locals in scope behind them, or at a show of the flow.
use Rattle.std.proofs.Common.{◌≡◌, ℕ, zero, suc, ◌+◌, Bool, true, false, List, [], ◌∷◌, ◌++◌, length, Option, Some, None, refl, sym, ap, ◌∙◌, subst, arith}
use Rattle.std.proofs.Common.{append_assoc}
use Rattle.std.specs.Prelude.{if◌then◌else◌}
use Rattle.std.proofs.lemmas.List.{append-nil}
use Rattle.bw_lang.specs.declared.service.Service.{Service}
use Rattle.bw_lang.specs.declared.stmt.Kind.TheVariants as kinds
use Rattle.bw_lang.specs.declared.stmt.Receive.{Receive}
use Rattle.bw_lang.specs.declared.turn.TurnFault.{TurnFault}
use Rattle.bw_lang.specs.Service.Code.{Code, done, declare, assign, if_then, if_else, while_loop, block, for_each, show, exit, numbered}
use Rattle.bw_lang.specs.Service.Term.{Term}
use Rattle.bw_flow.specs.declared.point.Local.{Local}
use Rattle.bw_flow.specs.declared.point.Received.{Received}
use Rattle.bw_flow.specs.Layout.{step, receives}
use Rattle.bw_flow.specs.Scopes.{with_local}
use Rattle.bw_flow.specs.Stands.{IsAt, Lowered}
use Rattle.bw_flow.specs.Steps.{Step}
use Rattle.bw_flow.specs.Steps as acts
use Rattle.bw_meaning.specs.Expressions.{Evaluated, Gives, Faults, eval}
use Rattle.bw_meaning.specs.Operators.{truth_of, list_of, document_of}
use Rattle.bw_meaning.specs.Pages.{show_fault, exit_fault}
use Rattle.bw_meaning.specs.States.{Input, State, Outcome, Went, Shown, Exited, Failed, Rests}
use Rattle.bw_meaning.specs.Statements.{declared, add_local, store, when_paid, when_given, with_value, begin, then_do, unless_fault}
use Rattle.bw_meaning.specs.Statements.{leave, room, turns, add_rest, each, wait, shows, exits, exec}
use Rattle.bw_meaning.specs.Values.{Document, Value, Values, text, list_weight, without}
use Rattle.bw_meaning.specs.Values.{names_of}
use Rattle.bw_flow.specs.Scoped.{is_known}
use Rattle.bw_run.specs.Follow.Scoped.{names_in}
use Rattle.bw_flow.specs.Scoped.{IsScoped}
use Rattle.bw_run.proofs.Follow.Names.{names_store, names_taken, names_add, names_with, names_take, Apart, without_declared, unknown_apart, scoped_apart}
use Rattle.bw_run.proofs.Follow.Names.{apart_with}

-- a show of the flow, with the locals in scope there, and with so many rests besides these
pub record Waits (flow : List Step) (d at : ℕ) (locals : Values) (rests : Rests) : Type 0 where
  pub place : ℕ
  pub point : Step
  pub page : Term
  pub fields : List Received
  pub is : IsAt flow place point
  pub acts : point.act ≡ acts.shows page fields
  pub number : at ≡ point.number
  pub names : names_of locals ≡ names_in point.scope
  pub depth : d + length rests ≡ point.inside

abbrev pub Ends : List Step → ℕ → List (List ℕ) → Outcome → Type 0
Ends flow d ns (Went st) = names_of st.locals ≡ ns
Ends flow d ns (Shown at locals rests shown shared units) = Waits flow d at locals rests
Ends flow d ns (Exited last shared units) = Unit {0}
Ends flow d ns (Failed f units) = Unit {0}

module _ (flow : List Step) where
  pub ends_to : (d : ℕ) (a b : List (List ℕ)) (o : Outcome) → a ≡ b → Ends flow d a o → Ends flow d b o
  ends_to d a b o e h = subst (λ ns. Ends flow d ns o) e h

  pub ends_then : (d : ℕ) (ns ms : List (List ℕ)) (o : Outcome) (go : State → Outcome) → Ends flow d ns o →
      ((st : State) → names_of st.locals ≡ ns → Ends flow d ms (go st)) → Ends flow d ms (then_do o go)
  ends_then d ns ms (Went st) go h k = k st h
  ends_then d ns ms (Shown at locals rests shown shared units) go h k = h
  ends_then d ns ms (Exited last shared units) go h k = tt
  ends_then d ns ms (Failed f units) go h k = tt

  pub ends_leave : (d : ℕ) (ns xs : List (List ℕ)) (o : Outcome) → Apart ns xs → Ends flow d (ns ++ xs) o → Ends flow d ns (leave xs o)
  ends_leave d ns xs o a h =
      ends_then d (ns ++ xs) ns o (λ st. Went (record st { locals = without xs st.locals })) h
      (λ st e. ap names_of (without_declared ns xs st.locals e a) ∙ names_take ns xs st.locals e)

  ends_paid : (d : ℕ) (ns : List (List ℕ)) (u : ℕ) (go : ℕ → Outcome) → ((w : ℕ) → Ends flow d ns (go w)) → Ends flow d ns (when_paid u go)
  ends_paid d ns zero go h = tt
  ends_paid d ns (suc u) go h = h u

  ends_given : (d : ℕ) (ns : List (List ℕ)) (o : Evaluated) (go : Value → ℕ → Outcome) → ((v : Value) (w : ℕ) → Ends flow d ns (go v w)) →
      Ends flow d ns (when_given o go)
  ends_given d ns (Gives v u) go h = h v u
  ends_given d ns (Faults f u) go h = tt

  ends_value : (d : ℕ) (ns : List (List ℕ)) (service : Service) (e : Term) (st : State) (go : Value → State → Outcome) →
      ((v : Value) (u : ℕ) → Ends flow d ns (go v (record st { units = u }))) → Ends flow d ns (with_value service e st go)
  ends_value d ns service e st go h = ends_given d ns (eval service st.locals st.shared e st.units) (λ v u. go v (record st { units = u })) h

  pub ends_begin : (d : ℕ) (ns : List (List ℕ)) (service : Service) (e : Term) (st : State) (go : Value → State → Outcome) →
      ((v : Value) (u : ℕ) → Ends flow d ns (go v (record st { units = u }))) → Ends flow d ns (begin service e st go)
  ends_begin d ns service e st go h =
      ends_paid d ns st.units (λ u. with_value service e (record st { units = u }) go)
      (λ u. ends_value d ns service e (record st { units = u }) go (λ v w. h v w))

  ends_if : (d : ℕ) (ns : List (List ℕ)) (b : Bool) (o p : Outcome) → Ends flow d ns o → Ends flow d ns p → Ends flow d ns (if b then o else p)
  ends_if d ns true o p ho hp = ho
  ends_if d ns false o p ho hp = hp

  ends_unless : (d : ℕ) (ns : List (List ℕ)) (f : Option TurnFault) (units : ℕ) (o : Outcome) → Ends flow d ns o → Ends flow d ns (unless_fault f units o)
  ends_unless d ns None units o h = h
  ends_unless d ns (Some f) units o h = tt

  ends_wait : (d n : ℕ) (ns : List (List ℕ)) (rs : List Receive) (doc : Document) (st : State) (w : List Input) → names_of st.locals ≡ ns →
      Waits flow d n st.locals [] → Ends flow d ns (wait n rs doc st w)
  ends_wait d n ns rs doc st [] e h = h
  ends_wait d n ns rs doc st (i ∷ later) e h = names_taken rs st.locals i later ∙ e

  pub ends_shows : (d n around : ℕ) (ns : List (List ℕ)) (rs : List Receive) (doc : Document) (st : State) → names_of st.locals ≡ ns →
      Waits flow d n st.locals [] → Ends flow d ns (shows n around rs doc st)
  ends_shows d n around ns rs doc st e h = ends_unless d ns (show_fault doc st.locals around st.shared) st.units (wait n rs doc st st.inputs)
      (ends_wait d n ns rs doc st st.inputs e h)

  ends_exits : (d : ℕ) (ns : List (List ℕ)) (doc : Document) (st : State) → Ends flow d ns (exits doc st)
  ends_exits d ns doc st = ends_unless d ns (exit_fault doc st.shared) st.units (Exited doc st.shared st.units) tt

  pub ends_rest : (d : ℕ) (ns vs : List (List ℕ)) (o : Outcome) → Ends flow (d + 1) ns o → Ends flow d ns (add_rest vs o)
  ends_rest d ns vs (Went st) h = h
  ends_rest d ns vs (Shown at locals rests shown shared units) h =
      record {
        place = h.place;
        point = h.point;
        page = h.page;
        fields = h.fields;
        is = h.is;
        acts = h.acts;
        number = h.number;
        names = h.names;
        depth = let e = h.depth in omega arith;
      }
  ends_rest d ns vs (Exited last shared units) h = tt
  ends_rest d ns vs (Failed f units) h = tt

  ends_turns : (d : ℕ) (ns : List (List ℕ)) (n : ℕ) (service : Service) (t : Term) (body : State → Outcome) (st : State) → names_of st.locals ≡ ns →
      ((st1 : State) → names_of st1.locals ≡ ns → Ends flow d ns (body st1)) → Ends flow d ns (turns n service t body st)
  ends_turns d ns zero service t body st e h = tt
  ends_turns d ns (suc n) service t body st e h =
      ends_begin d ns service t st (λ v st1. if truth_of v then then_do (body st1) (turns n service t body) else Went st1)
      (λ v u. ends_if d ns (truth_of v) (then_do (body (record st { units = u })) (turns n service t body)) (Went (record st { units = u }))
      (ends_then d ns ns (body (record st { units = u })) (turns n service t body) (h (record st { units = u }) e)
      (λ st2 e2. ends_turns d ns n service t body st2 e2 h)) e)

  pub ends_each : (d : ℕ) (ns vs : List (List ℕ)) (w : List ℕ) (xs : List (List ℕ)) (body : List (List ℕ) → State → Outcome) (st : State) →
      names_of st.locals ≡ ns → Apart ns (w ∷ xs) →
      ((ws : List (List ℕ)) (st1 : State) → names_of st1.locals ≡ ns ++ w ∷ [] → Ends flow (d + 1) (ns ++ w ∷ xs) (body ws st1)) →
      Ends flow d ns (each vs w (w ∷ xs) body st)
  ends_each d ns [] w xs body st e a h = ends_paid d ns st.units (λ u. Went (record st { units = u })) (λ u. e)
  ends_each d ns (v ∷ vs) w xs body st e a h =
      ends_paid d ns st.units (λ u. then_do (leave (w ∷ xs) (add_rest vs (body vs (add_local w (text v) (record st { units = u })))))
      (each vs w (w ∷ xs) body))
      (λ u.
      let st1 = add_local w (text v) (record st { units = u }) in
      ends_then d ns ns (leave (w ∷ xs) (add_rest vs (body vs st1))) (each vs w (w ∷ xs) body)
      (ends_leave d ns (w ∷ xs) (add_rest vs (body vs st1)) a
      (ends_rest d (ns ++ w ∷ xs) vs (body vs st1) (h vs st1 (names_add w (text v) (record st { units = u }) ns e))))
      (λ st2 e2. ends_each d ns vs w xs body st2 e2 a h))

  pub exec_ends : (service : Service) (c : Code) (n : ℕ) (sc : List Local) (d p q around : ℕ) (st : State) → Lowered service flow c n sc d p q →
      IsScoped service c sc → names_of st.locals ≡ names_in sc → Ends flow d (names_in sc ++ declared c) (exec service c n around st)
  exec_ends service done n sc d p q around st low s h = h ∙ sym (append-nil (names_in sc))
  exec_ends service (declare k w e rest) n sc d p q around st low s h =
      let ns = names_in sc in
      ends_to d (names_in (with_local sc w k) ++ declared rest) (ns ++ w ∷ declared rest) (exec service (declare k w e rest) n around st)
      (ap (λ l. l ++ declared rest) (names_with sc w k) ∙ append_assoc ns (w ∷ []) (declared rest))
      (ends_then d (ns ++ w ∷ []) (names_in (with_local sc w k) ++ declared rest) (begin service e st (λ v st1. Went (add_local w v st1)))
      (exec service rest (n + 1) around)
      (ends_begin d (ns ++ w ∷ []) service e st (λ v st1. Went (add_local w v st1)) (λ v u. names_add w v (record st { units = u }) ns h))
      (λ st1 e1. exec_ends service rest (n + 1) (with_local sc w k) d low.0 q around st1 low.2 s.1 (e1 ∙ sym (names_with sc w k))))
  exec_ends service (assign w e rest) n sc d p q around st low s h =
      let ns = names_in sc in
      ends_then d ns (ns ++ declared rest) (begin service e st (λ v st1. Went (store w v st1))) (exec service rest (n + 1) around)
      (ends_begin d ns service e st (λ v st1. Went (store w v st1)) (λ v u. names_store w v (record st { units = u }) ∙ h))
      (λ st1 e1. exec_ends service rest (n + 1) sc d low.0 q around st1 low.2 s.1 e1)
  exec_ends service (if_then e y rest) n sc d p q around st low s h =
      let ns = names_in sc in
      let m = n + 1 + numbered y in
      let go = λ (v : Value) (st1 : State). if truth_of v then leave (declared y) (exec service y (n + 1) around st1) else Went st1 in
      ends_then d ns (ns ++ declared rest) (begin service e st go) (exec service rest m around)
      (ends_begin d ns service e st go
      (λ v u. ends_if d ns (truth_of v) (leave (declared y) (exec service y (n + 1) around (record st { units = u }))) (Went (record st { units = u }))
      (ends_leave d ns (declared y) (exec service y (n + 1) around (record st { units = u })) (scoped_apart service y sc s.0)
      (exec_ends service y (n + 1) sc d low.0 low.1 around (record st { units = u }) low.5 s.0 h)) h))
      (λ st1 e1. exec_ends service rest m sc d low.2 q around st1 low.6 s.1 e1)
  exec_ends service (if_else e y z rest) n sc d p q around st low s h =
      let ns = names_in sc in
      let k = n + 1 + numbered y in
      let m = k + numbered z in
      let go = λ (v : Value) (st1 : State). if truth_of v then leave (declared y) (exec service y (n + 1) around st1) else leave (declared z)
      (exec service z k around st1) in
      ends_then d ns (ns ++ declared rest) (begin service e st go) (exec service rest m around)
      (ends_begin d ns service e st go
      (λ v u. ends_if d ns (truth_of v) (leave (declared y) (exec service y (n + 1) around (record st { units = u })))
      (leave (declared z) (exec service z k around (record st { units = u })))
      (ends_leave d ns (declared y) (exec service y (n + 1) around (record st { units = u })) (scoped_apart service y sc s.0)
      (exec_ends service y (n + 1) sc d low.0 low.2 around (record st { units = u }) low.6 s.0 h))
      (ends_leave d ns (declared z) (exec service z k around (record st { units = u })) (scoped_apart service z sc s.1)
      (exec_ends service z k sc d low.1 low.2 around (record st { units = u }) low.7 s.1 h))))
      (λ st1 e1. exec_ends service rest m sc d low.3 q around st1 low.8 s.2 e1)
  exec_ends service (while_loop e b rest) n sc d p q around st low s h =
      let ns = names_in sc in
      let m = n + 1 + numbered b in
      let once = λ (st1 : State). leave (declared b) (exec service b (n + 1) around st1) in
      ends_then d ns (ns ++ declared rest) (turns (room st) service e once st) (exec service rest m around)
      (ends_turns d ns (room st) service e once st h
      (λ st1 e1. ends_leave d ns (declared b) (exec service b (n + 1) around st1) (scoped_apart service b sc s.0)
      (exec_ends service b (n + 1) sc d low.0 p around st1 low.3 s.0 e1)))
      (λ st1 e1. exec_ends service rest m sc d low.1 q around st1 low.4 s.1 e1)
  exec_ends service (block b rest) n sc d p q around st low s h =
      let ns = names_in sc in
      let m = n + numbered b in
      ends_then d ns (ns ++ declared rest) (leave (declared b) (exec service b n around st)) (exec service rest m around)
      (ends_leave d ns (declared b) (exec service b n around st) (scoped_apart service b sc s.0) (exec_ends service b n sc d p low.0 around st low.1 s.0 h))
      (λ st1 e1. exec_ends service rest m sc d low.0 q around st1 low.2 s.1 e1)
  exec_ends service (for_each w e b rest) n sc d p q around st low s h =
      let ns = names_in sc in
      let m = n + 1 + numbered b in
      let sc1 = with_local sc w kinds.Str in
      let body = λ (vs : List (List ℕ)). exec service b (n + 1) (around + list_weight vs) in
      ends_then d ns (ns ++ declared rest) (with_value service e st (λ v. each (list_of v) w (w ∷ declared b) body)) (exec service rest m around)
      (ends_value d ns service e st (λ v. each (list_of v) w (w ∷ declared b) body)
      (λ v u. ends_each d ns (list_of v) w (declared b) body (record st { units = u }) h (each_apart service w b sc s.0 s.1)
      (λ ws st1 e1. ends_to (d + 1) (names_in sc1 ++ declared b) (ns ++ w ∷ declared b) (body ws st1)
      (ap (λ l. l ++ declared b) (names_with sc w kinds.Str) ∙ append_assoc ns (w ∷ []) (declared b))
      (exec_ends service b (n + 1) sc1 (d + 1) low.0 p (around + list_weight ws) st1 low.3 s.1 (e1 ∙ sym (names_with sc w kinds.Str))))))
      (λ st1 e1. exec_ends service rest m sc d low.1 q around st1 low.4 s.2 e1)
    where
      each_apart : (service : Service) (w : List ℕ) (b : Code) (sc : List Local) → is_known service sc w ≡ false →
          IsScoped service b (with_local sc w kinds.Str) → Apart (names_in sc) (w ∷ declared b)
      each_apart service w b sc k s = unknown_apart service sc w (declared b) k
          (apart_with sc w kinds.Str (declared b) (scoped_apart service b (with_local sc w kinds.Str) s))
  exec_ends service (show e rs rest) n sc d p q around st low s h =
      let ns = names_in sc in
      let go = λ (v : Value). shows n around rs (document_of v) in
      ends_then d ns (ns ++ declared rest) (begin service e st go) (exec service rest (n + 1) around)
      (ends_begin d ns service e st go (λ v u. ends_shows d n around ns rs (document_of v) (record st { units = u }) h
      (record {
        place = p;
        point = step n sc d (acts.shows e (receives service sc rs)) (low.0 ∷ []);
        page = e;
        fields = receives service sc rs;
        is = low.1;
        acts = refl;
        number = refl;
        names = h;
        depth = omega arith;
      })))
      (λ st1 e1. exec_ends service rest (n + 1) sc d low.0 q around st1 low.2 s e1)
  exec_ends service (exit e rest) n sc d p q around st low s h =
      ends_begin d (names_in sc ++ declared rest) service e st (λ v. exits (document_of v))
      (λ v u. ends_exits d (names_in sc ++ declared rest) (document_of v) (record st { units = u }))
