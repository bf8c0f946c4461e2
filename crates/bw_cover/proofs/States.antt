-- What statements find and leave is covered: states, and what is stored in them.
use Rattle.std.proofs.Common.{◌≡◌, ℕ, true, false, List, [], ◌∷◌, ◌++◌, Option, Some, None, sym, ap, ◌∙◌, subst}
use Rattle.std.specs.Prelude.{if◌then◌else◌, is_some}
use Rattle.bw_lang.specs.declared.service.Service.{Service}
use Rattle.bw_lang.specs.declared.stmt.Receive.{Receive}
use Rattle.bw_lang.specs.Table.Names.{same, beside}
use Rattle.bw_lang.specs.Service.Term.{Term}
use Rattle.bw_meaning.specs.States.{Input, State, Outcome, Went, Shown, Exited, Failed, budget}
use Rattle.bw_meaning.specs.Statements.{add_local, store, variable, received, taken}
use Rattle.bw_lang.specs.Service.Submissions.{values_of}
use Rattle.bw_meaning.specs.Forms.{received_value}
use Rattle.bw_meaning.specs.Values.{Value, Values, replaced}
use Rattle.bw_cover.specs.Abstracts.{Abstract, covers, known}
use Rattle.bw_cover.specs.Facts.{What, keeps, sets, takes, Facts, look, own, left, Leads}
use Rattle.bw_types.specs.Scopes.{is_among}
use Rattle.bw_cover.specs.Plugs.{Plug}
use Rattle.bw_cover.specs.Covered.{CoversLocals, CoversShared, CoversInputs, WaitsCovered, EndsCovered, AreOpen}
use Rattle.bw_cover.proofs.Names.{some-replaced, some-added}
use Rattle.bw_cover.proofs.Values.{covers_below}
use Rattle.bw_cover.proofs.Locals.{Holds, holds_own, holds_added, holds_replaced, leads_covered, shared_stored, is_there, Receives, received_all}

module _ {K : Type 0} (service : Service) (f : Facts K) where
  -- a state at the point q, with these names of locals: those in scope at q are covered
  pub record IsAt (q : K) (sc : List (List ℕ)) (st : State) : Type 0 where
    pub names : (w : List ℕ) → is_some (beside w st.locals) ≡ is_among w sc
    pub locals : (w : List ℕ) (v : Value) → is_among w (f.scope q) ≡ true → beside w st.locals ≡ Some v → covers service (f.local q w) v
    pub shared : CoversShared service f st.shared
    pub inputs : CoversInputs service f st.inputs

  -- where statements come to their end they are at the point q, with these names
  abbrev pub Fine : K → List (List ℕ) → Outcome → Type 0
  Fine q sc (Went st) = IsAt q sc st
  Fine q sc (Shown at locals rests shown shared units) = WaitsCovered service f at locals shown shared
  Fine q sc (Exited last shared units) = EndsCovered service f last shared
  Fine q sc (Failed x units) = Unit {0}

  abbrev pub Good : K → List (List ℕ) → Outcome → List Plug → Type 0
  Good q sc o ps = Fine q sc o × AreOpen ps

  -- ---- states

  pub with_units : (p : K) (sc : List (List ℕ)) (st : State) (u : ℕ) → IsAt p sc st → IsAt p sc (record st { units = u })
  with_units p sc st u c = record { names = c.names; locals = c.locals; shared = c.shared; inputs = c.inputs }

  pub here : (p : K) (sc : List (List ℕ)) (st : State) → f.scope p ≡ sc → IsAt p sc st → CoversLocals service f p st.locals
  here p sc st s c = record {
    names = λ w. c.names w ∙ ap (is_among w) (sym s);
    each = λ w v e. c.locals w v (ap (is_among w) s ∙ sym (c.names w) ∙ ap is_some e) e;
  }

  pub kept : (p q : K) (sc : List (List ℕ)) (st : State) → f.scope p ≡ sc → Leads service f p keeps q → IsAt p sc st → IsAt q sc st
  kept p q sc st s h c = record {
    names = c.names;
    locals = leads_covered service f p st.locals (here p sc st s c) q keeps st.locals h (holds_own service f p st.locals (here p sc st s c));
    shared = c.shared;
    inputs = c.inputs;
  }

  -- a new local
  pub added : (p q : K) (sc : List (List ℕ)) (st : State) (w : List ℕ) (what : What) (a : Abstract) (v : Value) → f.scope p ≡ sc → is_among w sc ≡ false
      → covers service a v
      → left service f p what ≡ (λ y. if same y w then Some a else own f p y) → Leads service f p what q → IsAt p sc st
      → IsAt q (sc ++ w ∷ []) (add_local w v st)
  added p q sc st w what a v s fresh cv e h c =
      let l = here p sc st s c in record {
        names = λ y. some-added w v st.locals y sc (c.names y);
        locals = leads_covered service f p st.locals l q what (st.locals ++ (w, v) ∷ []) h
            (subst (λ cells. Holds service cells (st.locals ++ (w, v) ∷ [])) (sym e)
            (holds_added service f p st.locals l w a v cv (ap (is_among w) s ∙ fresh)));
        shared = c.shared;
        inputs = c.inputs;
      }

  -- an assignment
  pub stored : (p q : K) (sc : List (List ℕ)) (st : State) (w : List ℕ) (e : Term) (v : Value) (o : Option Value) → beside w st.locals ≡ o → f.scope p ≡ sc
      → covers service (known service (look service f p) e) v
      → Leads service f p (sets w e) q → IsAt p sc st → IsAt q sc (store w v st)
  stored p q sc st w e v None n s cv h c =
      let l = here p sc st s c in
      let a = known service (look service f p) e in record {
        names = λ y. some-replaced w v st.locals y ∙ c.names y;
        locals = leads_covered service f p st.locals l q (sets w e) (replaced w v st.locals) h (holds_replaced service f p st.locals l w a v cv);
        shared = subst (λ (b : Option Value). CoversShared service f (if is_some b then st.shared else replaced w v st.shared)) (sym n)
            (shared_stored service f st.shared w v c.shared (λ u i.
            covers_below service a (f.shared w) v (h.adds (sym (l.names w) ∙ ap is_some n) (is_there service f st.shared w u c.shared i)) cv));
        inputs = c.inputs;
      }
  stored p q sc st w e v (Some old) n s cv h c =
      let l = here p sc st s c in
      let a = known service (look service f p) e in record {
        names = λ y. some-replaced w v st.locals y ∙ c.names y;
        locals = leads_covered service f p st.locals l q (sets w e) (replaced w v st.locals) h (holds_replaced service f p st.locals l w a v cv);
        shared = subst (λ (b : Option Value). CoversShared service f (if is_some b then st.shared else replaced w v st.shared)) (sym n) c.shared;
        inputs = c.inputs;
      }

  pub received_inputs : (rs : List Receive) (l : Values) (i : Input) (later : List Input) → CoversInputs service f later
      → CoversInputs service f (taken rs l i later).inputs
  received_inputs rs l i later c = go rs (record { locals = l; shared = i.shared; units = budget; inputs = later }) c
    where
      go : (rs : List Receive) (st : State) → CoversInputs service f st.inputs → CoversInputs service f (received rs i.form st).inputs
      go [] st c = c
      go (r ∷ rs) st c = go rs (store r.target (received_value (variable r.target st) (values_of r.field i.form)) st) c

  -- an input that is taken at a show
  pub taken_good : (p q : K) (sc : List (List ℕ)) (rs : List Receive) (l : Values) (i : Input) (later : List Input) → f.scope p ≡ sc
      → CoversLocals service f p l
      → Leads service f p (takes rs) q
      → CoversShared service f i.shared → CoversInputs service f later → IsAt q sc (taken rs l i later)
  taken_good p q sc rs l i later s c h cs ci =
      let st : State = record { locals = l; shared = i.shared; units = budget; inputs = later } in
      let ready : Receives service f p (own f p) rs st = record { names = c.names; held = holds_own service f p l c; shared = cs; adds = h.adds } in
      let r = received_all service f p rs i.form (own f p) st ready in record {
        names = λ w. r.names w ∙ ap (is_among w) s;
        locals = leads_covered service f p l c q (takes rs) (taken rs l i later).locals h r.held;
        shared = r.shared;
        inputs = received_inputs rs l i later ci;
      }
