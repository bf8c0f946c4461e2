-- What the flow tells is of the kinds of its variables.
use Rattle.std.proofs.Common.{◌≡◌, ◌⊎◌, ℕ, zero, suc, Bool, true, false, List, [], ◌∷◌, ◌++◌, map, take, length, Option, Some, None, refl, sym}
use Rattle.std.proofs.Common.{ap, ◌∙◌, subst, inl, inr, append_assoc}
use Rattle.std.specs.Prelude.{◌==◌, if◌then◌else◌, is_some, slice_get}
use Rattle.std.proofs.lemmas.List.{map-append}
use Rattle.std.proofs.lemmas.List.Elements.{All-head, All-tail}
use Rattle.bw_lang.specs.declared.service.Service.{Service}
use Rattle.bw_lang.specs.declared.stmt.Kind.{Kind}
use Rattle.bw_lang.specs.declared.stmt.Kind.TheVariants as kinds
use Rattle.bw_lang.specs.declared.turn.TurnFault.{TurnFault}
use Rattle.bw_lang.specs.declared.turn.TurnFault.TheVariants.{Spent}
use Rattle.bw_lang.specs.Service.Term.{Term}
use Rattle.bw_flow.specs.declared.point.Local.{Local}
use Rattle.bw_flow.specs.declared.point.Received.{Received}
use Rattle.bw_flow.specs.Places.{Among, HasNexts}
use Rattle.bw_flow.specs.Scoped.{is_known}
use Rattle.bw_flow.specs.Stands.{IsAt}
use Rattle.bw_flow.specs.Steps.{Act, Step}
use Rattle.bw_flow.specs.Steps as acts
use Rattle.bw_flow.specs.TypedFlow.{names_at, kind_at, HasKindAt, IsTypedAct, BringsIn, Follows, IsTypedFlow}
use Rattle.bw_flow.proofs.Ways.{Ends}
use Rattle.bw_meaning.specs.Expressions.{Evaluated, Gives, Faults, eval}
use Rattle.bw_meaning.specs.Operators.{truth_of, list_of, document_of}
use Rattle.bw_meaning.specs.Pages.{show_fault, exit_fault}
use Rattle.bw_meaning.specs.States.{Input, State, Outcome, Went, Shown, Exited, Failed, Rests}
use Rattle.bw_meaning.specs.Statements.{add_local, store, taken, when_paid, when_given, with_value, begin, then_do}
use Rattle.bw_meaning.specs.Statements.{unless_fault, wait, shows, exits}
use Rattle.bw_meaning.specs.Values.{Document, Value, Values, text}
use Rattle.bw_typed.proofs.OneKind.{kinds_agree}
use Rattle.bw_run.specs.Follow.Kinds.{kind_of, kinds_of, kinds_in, AreShared, GivesKind, HasKinds, InputsHaveKinds}
use Rattle.bw_run.specs.Follow.Runs.{put, cut, plain, first_of, second_of, rests_weight, last_rest, outer_rests, within, Next, go_over, does, at_point, run}
use Rattle.bw_run.proofs.Follow.ValueKinds.{values_have_kinds}
use Rattle.bw_run.proofs.Follow.FitKinds.{Fits, first_kinds, known_kind, fits_store, fits_taken}

-- ---- one thing after another

-- where it goes on, the state is so; what is told is of the kinds of its variables
abbrev pub Told : Service → List Step → (State → Type 0) → Outcome → Type 0
Told service flow W (Went st) = W st
Told service flow W (Shown at locals rests shown shared units) = HasKinds service flow (Shown at locals rests shown shared units)
Told service flow W (Exited last shared units) = HasKinds service flow (Exited last shared units)
Told service flow W (Failed f units) = Unit {0}

abbrev Any : State → Type 0
Any st = Unit {0}

told_kinds : (service : Service) (flow : List Step) (o : Outcome) → Told service flow Any o → HasKinds service flow o
told_kinds service flow (Went st) h = h
told_kinds service flow (Shown at locals rests shown shared units) h = h
told_kinds service flow (Exited last shared units) h = h
told_kinds service flow (Failed f units) h = h

fits_units : (service : Service) (scope : List Local) (st : State) (u : ℕ) → Fits service scope st → Fits service scope (record st { units = u })
fits_units service scope st u f = record { locals = f.locals; shared = f.shared; inputs = f.inputs }

module _ (service : Service) (flow : List Step) (W : State → Type 0) where
  abbrev Kinds : Outcome → Type 0
  Kinds o = Told service flow W o

  kinds_paid : (u : ℕ) (go : ℕ → Outcome) → ((w : ℕ) → Kinds (go w)) → Kinds (when_paid u go)
  kinds_paid zero go h = tt
  kinds_paid (suc u) go h = h u

  kinds_given : (k : Kind) (o : Evaluated) (go : Value → ℕ → Outcome) → GivesKind k o → ((v : Value) (u : ℕ) → kind_of v ≡ k → Kinds (go v u)) →
      Kinds (when_given o go)
  kinds_given k (Gives v u) go g h = h v u g
  kinds_given k (Faults f u) go g h = tt

  kinds_value : (scope : List Local) (e : Term) (k : Kind) (st : State) (go : Value → State → Outcome) → HasKindAt service scope e k → Fits service scope st
      → ((v : Value) (u : ℕ) → kind_of v ≡ k → Kinds (go v (record st { units = u }))) → Kinds (with_value service e st go)
  kinds_value scope e k st go h f more =
      kinds_given k (eval service st.locals st.shared e st.units) (λ v u. go v (record st { units = u }))
      (values_have_kinds service (names_at scope) e k st.locals st.shared st.units h f.locals f.shared) more

  kinds_begin : (scope : List Local) (e : Term) (k : Kind) (st : State) (go : Value → State → Outcome) → HasKindAt service scope e k → Fits service scope st
      → ((v : Value) (u : ℕ) → kind_of v ≡ k → Kinds (go v (record st { units = u }))) → Kinds (begin service e st go)
  kinds_begin scope e k st go h f more =
      kinds_paid st.units (λ u. with_value service e (record st { units = u }) go)
      (λ u. kinds_value scope e k (record st { units = u }) go h (fits_units service scope st u f) more)

  kinds_if : (b : Bool) (o p : Outcome) → Kinds o → Kinds p → Kinds (if b then o else p)
  kinds_if true o p a b = a
  kinds_if false o p a b = b

-- ---- from point to point

module _ (service : Service) (flow : List Step) where
  -- what a state has at whatever point comes next
  pub record Arrives (q : ℕ) (st : State) : Type 0 where
    pub there : (y : Step) → IsAt flow q y → kinds_of (take (length y.scope) st.locals) ≡ kinds_in y.scope
    pub shared : AreShared service st.shared
    pub inputs : InputsHaveKinds service st.inputs

  -- a state with the locals in front of the point, where the point brings in none or needn't
  arrives_kept : (x : Step) (q : ℕ) (st : State) → Fits service x.scope st →
      ((y : Step) → IsAt flow q y → (gone : List Local) × (x.scope ≡ y.scope ++ gone)) → Arrives q st
  arrives_kept x q st f h = record {
    there = λ y at. let g = h y at in first_kinds st.locals y.scope g.0 (f.locals ∙ ap kinds_in g.1);
    shared = f.shared;
    inputs = f.inputs;
  }

  arrives_brought : (x : Step) (q : ℕ) (w : List ℕ) (v : Value) (k : Kind) (st : State) → Fits service x.scope st → kind_of v ≡ k
      → ((y : Step) → IsAt flow q y → Follows service x y) → ((l : Local) → BringsIn service x.scope x.act l → (l.name ≡ w) × (l.kind ≡ k)) →
      Arrives q (add_local w v st)
  arrives_brought x q w v k st f ev h b = record { there = there; shared = f.shared; inputs = f.inputs }
    where
      all : kinds_of (st.locals ++ (w, v) ∷ []) ≡ kinds_in (x.scope ++ record { name = w; kind = k } ∷ [])
      all =
          map-append (λ (p : List ℕ × Value). (p.0, kind_of p.1)) st.locals ((w, v) ∷ []) ∙ (λ i. f.locals i ++ (w, ev i) ∷ [])
          ∙ sym (map-append (λ (l : Local). (l.name, l.kind)) x.scope (record { name = w; kind = k } ∷ []))

      by_case : (y : Step) → Follows service x y → kinds_of (take (length y.scope) (st.locals ++ (w, v) ∷ [])) ≡ kinds_in y.scope
      by_case y (gone, inl e) = first_kinds (st.locals ++ (w, v) ∷ []) y.scope (gone ++ record { name = w; kind = k } ∷ []) (all
          ∙ ap kinds_in (ap (λ s. s ++ record { name = w; kind = k } ∷ []) e ∙ append_assoc y.scope gone (record { name = w; kind = k } ∷ [])))
      by_case y (gone, inr (l, brings, e)) =
          let r = b l brings in
          let same_local : record { name = w; kind = k } ≡ l = λ i. record { name = sym r.0 i; kind = sym r.1 i } in
          first_kinds (st.locals ++ (w, v) ∷ []) y.scope gone (all ∙ ap (λ m. kinds_in (x.scope ++ m ∷ [])) same_local ∙ ap kinds_in e)

      there : (y : Step) → IsAt flow q y → kinds_of (take (length y.scope) (st.locals ++ (w, v) ∷ [])) ≡ kinds_in y.scope
      there y at = by_case y (h y at)

among_one : (next : List ℕ) (q : ℕ) → next ≡ q ∷ [] → Among (first_of next) next
among_one next q e = subst (λ n. Among (first_of n) n) (sym e) (inl refl)

among_first : (next : List ℕ) (q r : ℕ) → next ≡ q ∷ r ∷ [] → Among (first_of next) next
among_first next q r e = subst (λ n. Among (first_of n) n) (sym e) (inl refl)

among_second : (next : List ℕ) (q r : ℕ) → next ≡ q ∷ r ∷ [] → Among (second_of next) next
among_second next q r e = subst (λ n. Among (second_of n) n) (sym e) (inr (inl refl))

module _ (service : Service) (flow : List Step) (typed : IsTypedFlow service flow) (nexts : (p : ℕ) (x : Step) → IsAt flow p x → HasNexts x.act x.next)
    (pasts : (p : ℕ) (x : Step) (w : List ℕ) (e : Term) → IsAt flow p x → x.act ≡ acts.goes_over w e → Ends flow (second_of x.next) x.scope) where
  module _ (W : State → Type 0) (p : ℕ) (x : Step) (at : IsAt flow p x) (next : Next) (more : (q : ℕ) (rs : Rests) (st : State) → Arrives service flow q st →
      Told service flow W (next q rs st)) where
    -- where the point brings in no local
    kept_at : (q : ℕ) → Among q x.next → ((l : Local) → BringsIn service x.scope x.act l → ⊥) → (y : Step) → IsAt flow q y →
        (gone : List Local) × (x.scope ≡ y.scope ++ gone)
    kept_at q among none y yt = by_case (typed.follows p q x y at yt among)
      where
        by_case : Follows service x y → (gone : List Local) × (x.scope ≡ y.scope ++ gone)
        by_case (gone, inl e) = (gone, e)
        by_case (gone, inr (l, brings, e)) = absurd (none l brings)

    put_arrives : (q : ℕ) (w : List ℕ) (e : Term) (v : Value) (k : Kind) (st : State) → Among q x.next → x.act ≡ acts.sets w e → HasKindAt service x.scope e k
        → (kind_at service x.scope w ≡ Some k) ⊎ (kind_at service x.scope w ≡ None) → kind_of v ≡ k → Fits service x.scope st →
        Arrives service flow q (put service x.scope w v st)
    put_arrives q w e v k st among is value or ev f = by_test (is_known service x.scope w) refl
      where
        brought : (l : Local) → BringsIn service x.scope x.act l → BringsIn service x.scope (acts.sets w e) l
        brought l b = subst (λ a. BringsIn service x.scope a l) is b

        some_at : is_some (kind_at service x.scope w) ≡ true → (kind_at service x.scope w ≡ Some k) ⊎ (kind_at service x.scope w ≡ None) →
            kind_at service x.scope w ≡ Some k
        some_at h (inl s) = s
        some_at h (inr n) = absurd (let c : false ≡ true = sym (ap is_some n) ∙ h in cc)

        by_test : (b : Bool) → is_known service x.scope w ≡ b → Arrives service flow q (if b then store w v st else add_local w v st)
        by_test true h =
            let s = some_at (sym (known_kind service x.scope w) ∙ h) or in
            arrives_kept service flow x q (store w v st) (fits_store service x.scope w v k st s ev f)
            (kept_at q among (λ l b. let c : Some k ≡ None = sym s ∙ (brought l b).2 in cc))
        by_test false h =
            arrives_brought service flow x q w v k st f ev (λ y yt. typed.follows p q x y at yt among)
            (λ l b. ((brought l b).0, kinds_agree service (names_at x.scope) e l.kind k (brought l b).1 value))

    go_kinds : (w : List ℕ) (e : Term) → x.act ≡ acts.goes_over w e → (vs : List (List ℕ)) (rests : Rests) (st : State) → Fits service x.scope st →
        Told service flow W (go_over w vs x.next next rests st)
    go_kinds w e is [] rests st f =
        kinds_paid service flow W st.units (λ u. next (second_of x.next) rests (record st { units = u }))
        (λ u. more (second_of x.next) rests (record st { units = u })
        (arrives_kept service flow x (second_of x.next) (record st { units = u }) (fits_units service x.scope st u f) (pasts p x w e at is)))
    go_kinds w e is (v ∷ vs) rests st f =
        let two = subst (λ a. HasNexts a x.next) is (nexts p x at) in
        let q = first_of x.next in
        let among = among_first x.next two.0 two.1 two.2 in
        kinds_paid service flow W st.units (λ u. next q (rests ++ vs ∷ []) (add_local w (text v) (record st { units = u })))
        (λ u. more q (rests ++ vs ∷ []) (add_local w (text v) (record st { units = u }))
        (arrives_brought service flow x q w (text v) kinds.Str (record st { units = u }) (fits_units service x.scope st u f) refl
        (λ y yt. typed.follows p q x y at yt among)
        (λ l b. let c = subst (λ a. BringsIn service x.scope a l) is b in (c.0, c.1))))

    show_kinds : (e : Term) (rs : List Received) → x.act ≡ acts.shows e rs →
        (fault : Option TurnFault) (u : ℕ) (d : Document) (rests : Rests) (st : State) (ins : List Input) → Fits service x.scope st →
        InputsHaveKinds service ins →
        Told service flow W (then_do (within rests (unless_fault fault u (wait x.number (map plain rs) d st ins))) (next (first_of x.next) rests))
    show_kinds e rs is (Some f) u d rests st ins fits h = tt
    show_kinds e rs is None u d rests st [] fits h = ((p, x, e, rs, at, is, refl, fits.locals), fits.shared)
    show_kinds e rs is None u d rests st (i ∷ later) fits h =
        let one = subst (λ a. HasNexts a x.next) is (nexts p x at) in
        let t = subst (λ a. IsTypedAct service x.scope a) is (typed.acts p x at) in
        let after = taken (map plain rs) st.locals i later in
        more (first_of x.next) rests after (arrives_kept service flow x (first_of x.next) after
        (fits_taken service x.scope rs st.locals i later t.1 fits.locals (All-head (λ j. AreShared service j.shared) i later h)
        (All-tail (λ j. AreShared service j.shared) i later h))
        (kept_at (first_of x.next) (among_one x.next one.0 one.1) (λ l b. subst (λ a. BringsIn service x.scope a l) is b)))

    exit_kinds : (fault : Option TurnFault) (d : Document) (st : State) → AreShared service st.shared →
        Told service flow W (unless_fault fault st.units (Exited d st.shared st.units))
    exit_kinds None d st h = h
    exit_kinds (Some f) d st h = tt

    does_kinds : (a : Act) → x.act ≡ a → (rests : Rests) (st : State) → Fits service x.scope st → Told service flow W (does service a x next rests st)
    does_kinds (acts.sets w e) is rests st f =
        let one = subst (λ a. HasNexts a x.next) is (nexts p x at) in
        let t = subst (λ a. IsTypedAct service x.scope a) is (typed.acts p x at) in
        kinds_begin service flow W x.scope e t.0 st (λ v st1. next (first_of x.next) rests (put service x.scope w v st1)) t.1 f
        (λ v u ev. more (first_of x.next) rests (put service x.scope w v (record st { units = u }))
        (put_arrives (first_of x.next) w e v t.0 (record st { units = u }) (among_one x.next one.0 one.1) is t.1 t.2 ev
        (fits_units service x.scope st u f)))
    does_kinds (acts.tests e) is rests st f =
        let two = subst (λ a. HasNexts a x.next) is (nexts p x at) in
        let t = subst (λ a. IsTypedAct service x.scope a) is (typed.acts p x at) in
        let none = λ (l : Local) (b : BringsIn service x.scope x.act l). subst (λ a. BringsIn service x.scope a l) is b in
        kinds_begin service flow W x.scope e kinds.Bool st
        (λ v st1. if truth_of v then next (first_of x.next) rests st1 else next (second_of x.next) rests st1) t f
        (λ v u ev. let st1 : State = record st { units = u } in let f1 = fits_units service x.scope st u f in
        kinds_if service flow W (truth_of v) (next (first_of x.next) rests st1) (next (second_of x.next) rests st1)
        (more (first_of x.next) rests st1
        (arrives_kept service flow x (first_of x.next) st1 f1 (kept_at (first_of x.next) (among_first x.next two.0 two.1 two.2) none)))
        (more (second_of x.next) rests st1
        (arrives_kept service flow x (second_of x.next) st1 f1 (kept_at (second_of x.next) (among_second x.next two.0 two.1 two.2) none))))
    does_kinds (acts.goes_over w e) is rests st f =
        let t = subst (λ a. IsTypedAct service x.scope a) is (typed.acts p x at) in
        kinds_if service flow W (length rests == x.inside) (with_value service e st (λ v. go_over w (list_of v) x.next next rests))
        (go_over w (last_rest rests) x.next next (outer_rests rests) st)
        (kinds_value service flow W x.scope e kinds.Strs st (λ v. go_over w (list_of v) x.next next rests) t.1 f
        (λ v u ev. go_kinds w e is (list_of v) rests (record st { units = u }) (fits_units service x.scope st u f)))
        (go_kinds w e is (last_rest rests) (outer_rests rests) st f)
    does_kinds (acts.shows e rs) is rests st f =
        let t = subst (λ a. IsTypedAct service x.scope a) is (typed.acts p x at) in
        kinds_begin service flow W x.scope e kinds.Html st
        (λ v st1. then_do (within rests (shows x.number (rests_weight rests) (map plain rs) (document_of v) st1)) (next (first_of x.next) rests)) t.0 f
        (λ v u ev. let st1 : State = record st { units = u } in
        show_kinds e rs is (show_fault (document_of v) st.locals (rests_weight rests) st.shared) u (document_of v) rests st1 st.inputs
        (fits_units service x.scope st u f) f.inputs)
    does_kinds (acts.exits e) is rests st f =
        let t = subst (λ a. IsTypedAct service x.scope a) is (typed.acts p x at) in
        kinds_begin service flow W x.scope e kinds.Html st (λ v. exits (document_of v)) t f
        (λ v u ev. exit_kinds (exit_fault (document_of v) st.shared) (document_of v) (record st { units = u }) f.shared)
    does_kinds acts.joins is rests st f =
        let one = subst (λ a. HasNexts a x.next) is (nexts p x at) in
        more (first_of x.next) rests st
        (arrives_kept service flow x (first_of x.next) st f
        (kept_at (first_of x.next) (among_one x.next one.0 one.1) (λ l b. subst (λ a. BringsIn service x.scope a l) is b)))

  run_told : (g q : ℕ) (rests : Rests) (st : State) → Arrives service flow q st → Told service flow Any (run service flow g q rests st)
  run_told zero q rests st a = tt
  run_told (suc g) q rests st a = by_point (λ q1 rs1 st1 a1. run_told g q1 rs1 st1 a1) (slice_get flow q) refl
    where
      by_point : ((q1 : ℕ) (rs1 : Rests) (st1 : State) → Arrives service flow q1 st1 → Told service flow Any (run service flow g q1 rs1 st1)) →
          (o : Option Step) → slice_get flow q ≡ o → Told service flow Any (at_point service o (run service flow g) rests st)
      by_point ih None e = tt
      by_point ih (Some x) e =
          does_kinds Any q x e (run service flow g) ih x.act refl rests (cut (length x.scope) st) (record {
            locals = a.there x e;
            shared = a.shared;
            inputs = a.inputs;
          })

  pub run_kinds : (g q : ℕ) (rests : Rests) (st : State) → Arrives service flow q st → HasKinds service flow (run service flow g q rests st)
  run_kinds g q rests st a = told_kinds service flow (run service flow g q rests st) (run_told g q rests st a)

  -- A point that goes on leaves the kinds that are due at the next one. The units stand for the place.
  pub comes_on : (p : ℕ) (x : Step) → IsAt flow p x → (rests : Rests) (st : State) → Fits service x.scope st →
      Told service flow (λ s. Arrives service flow s.units s) (does service x.act x (λ q rs s. Went (record s { units = q })) rests st)
  comes_on p x at rests st f =
      does_kinds (λ s. Arrives service flow s.units s) p x at (λ q rs s. Went (record s { units = q }))
      (λ q rs s a. record { there = a.there; shared = a.shared; inputs = a.inputs }) x.act refl rests st f

  -- behind a show, once its input is taken
  pub arrives_behind : (p : ℕ) (x : Step) (e : Term) (rs : List Received) (l : Values) (i : Input) (later : List Input) → IsAt flow p x →
      x.act ≡ acts.shows e rs → kinds_of l ≡ kinds_in x.scope → AreShared service i.shared → InputsHaveKinds service later →
      Arrives service flow (first_of x.next) (taken (map plain rs) l i later)
  arrives_behind p x e rs l i later at is el es ei =
      let one = subst (λ a. HasNexts a x.next) is (nexts p x at) in
      let t = subst (λ a. IsTypedAct service x.scope a) is (typed.acts p x at) in
      arrives_kept service flow x (first_of x.next) (taken (map plain rs) l i later) (fits_taken service x.scope rs l i later t.1 el es ei)
      (kept_at Any p x at (λ q rs1 st1. Failed Spent 0) (λ q rs1 st1 a. tt) (first_of x.next) (among_one x.next one.0 one.1)
      (λ l1 b. subst (λ a. BringsIn service x.scope a l1) is b))

-- at a session's first point there is no local
pub arrives_first : (service : Service) (flow : List Step) (q : ℕ) (shared : Values) (units : ℕ) (inputs : List Input) → Ends flow q [] →
    AreShared service shared → InputsHaveKinds service inputs →
    Arrives service flow q (record { locals = []; shared = shared; units = units; inputs = inputs })
arrives_first service flow q shared units inputs h es ei = record {
  there = λ y at. let g = h y at in first_kinds [] y.scope g.0 (ap kinds_in g.1);
  shared = es;
  inputs = ei;
}
