-- One thing after another, loops and pages keep what is covered.
use Rattle.std.proofs.Common.{◌≡◌, ℕ, zero, suc, Bool, true, false, List, [], ◌∷◌, ◌++◌, Option, Some, None, refl, sym, ◌∙◌, subst}
use Rattle.std.specs.Prelude.{◌||◌, if◌then◌else◌}
use Rattle.std.proofs.lemmas.Bool.{false≢true}
use Rattle.bw_lang.specs.declared.service.Service.{Service}
use Rattle.bw_lang.specs.declared.stmt.Receive.{Receive}
use Rattle.bw_lang.specs.declared.turn.TurnFault.{TurnFault}
use Rattle.bw_lang.specs.Service.Code.{Code}
use Rattle.bw_lang.specs.Table.Names.{same, beside}
use Rattle.bw_lang.specs.Service.Term.{Term}
use Rattle.bw_meaning.specs.Expressions.{Evaluated, Gives, Faults, eval}
use Rattle.bw_meaning.specs.Operators.{truth_of, document_of}
use Rattle.bw_meaning.specs.States.{Input, State, Outcome, Went, Shown, Exited, Failed}
use Rattle.bw_meaning.specs.Statements.{declared, add_local, when_paid, when_given, with_value, begin, then_do}
use Rattle.bw_meaning.specs.Statements.{unless_fault, leave, turns, add_rest, each, wait}
use Rattle.bw_meaning.specs.Values.{Value, Values, number, truth_value, text, document, list}
use Rattle.bw_sum.specs.Graph.{Graph}
use Rattle.bw_cover.specs.Abstracts.{Abstract, Html, CoversTree, covers, known, Below}
use Rattle.bw_cover.specs.Facts.{keeps, takes, Facts, look, Leads, IsPoint, Apart, after}
use Rattle.bw_types.specs.Scopes.{is_among}
use Rattle.bw_cover.specs.Plugs.{Plug, on_unit, on_value, on_end, plugs_in, value_plugs, begin_plugs, turns_plugs, each_plugs}
use Rattle.bw_cover.specs.Covered.{CoversLocals, CoversInputs}
use Rattle.bw_lang.proofs.SameNames.{same_self}
use Rattle.bw_cover.proofs.Names.{beside-without, some-without, among-after, among-inner}
use Rattle.bw_cover.proofs.Values.{open_append, Given, eval_good, covers_below}
use Rattle.bw_cover.proofs.Lookups.{looks}
use Rattle.bw_cover.proofs.Locals.{none_some}
use Rattle.bw_cover.proofs.States.{IsAt, Fine, Good, with_units, here, kept, taken_good}

module _ {K : Type 0} (service : Service) (f : Facts K) where
  -- ---- one thing after another

  pub good_paid : (q : K) (sc : List (List ℕ)) (u : ℕ) (go : ℕ → Outcome) (ps : ℕ → List Plug) → ((w : ℕ) → Good service f q sc (go w) (ps w))
      → Good service f q sc (when_paid u go) (on_unit u ps)
  good_paid q sc zero go ps h = (tt, tt)
  good_paid q sc (suc u) go ps h = h u

  pub good_given : (q : K) (sc : List (List ℕ)) (a : Abstract) (o : Evaluated) (go : Value → ℕ → Outcome) (more : Value → ℕ → List Plug) → Given service a o
      → ((v : Value) (u : ℕ) → covers service a v → Good service f q sc (go v u) (more v u)) → Good service f q sc (when_given o go) (on_value o more)
  good_given q sc a (Gives v u) go more c h = h v u c
  good_given q sc a (Faults x u) go more c h = (tt, tt)

  pub good_value : (p q : K) (sc sc2 : List (List ℕ)) (e : Term) (st : State) (go : Value → State → Outcome) (more : Value → State → List Plug)
      → IsPoint service f p sc e → IsAt service f p sc st
      → ((v : Value) (st1 : State) → covers service (known service (look service f p) e) v → IsAt service f p sc st1
      → Good service f q sc2 (go v st1) (more v st1))
      → Good service f q sc2 (with_value service e st go) (value_plugs service e st more)
  good_value p q sc sc2 e st go more pt c h =
      let o = eval service st.locals st.shared e st.units in
      let ev = eval_good service st.locals st.shared (look service f p)
      (looks service f p st.locals st.shared (here service f p sc st pt.scope c) c.shared) e st.units pt.gaps pt.plugs in
      let r = good_given q sc2 (known service (look service f p) e) o (λ v u. go v (record st { units = u })) (λ v u. more v (record st { units = u })) ev.0
      (λ v u cv. h v (record st { units = u }) cv (with_units service f p sc st u c)) in
      (r.0, open_append (plugs_in service st.locals st.shared e st.units) (on_value o (λ v u. more v (record st { units = u }))) ev.1 r.1)

  pub good_begin : (p q : K) (sc sc2 : List (List ℕ)) (e : Term) (st : State) (go : Value → State → Outcome) (more : Value → State → List Plug)
      → IsPoint service f p sc e → IsAt service f p sc st
      → ((v : Value) (st1 : State) → covers service (known service (look service f p) e) v → IsAt service f p sc st1
      → Good service f q sc2 (go v st1) (more v st1))
      → Good service f q sc2 (begin service e st go) (begin_plugs service e st more)
  good_begin p q sc sc2 e st go more pt c h =
      good_paid q sc2 st.units (λ u. with_value service e (record st { units = u }) go) (λ u. value_plugs service e (record st { units = u }) more)
      (λ u. good_value p q sc sc2 e (record st { units = u }) go more pt (with_units service f p sc st u c) h)

  pub good_next : (r q : K) (sc sc2 : List (List ℕ)) (o : Outcome) (go : State → Outcome) (more : State → List Plug) → Fine service f r sc o
      → ((st : State) → IsAt service f r sc st → Good service f q sc2 (go st) (more st)) → Good service f q sc2 (then_do o go) (on_end o more)
  good_next r q sc sc2 (Went st) go more c h = h st c
  good_next r q sc sc2 (Shown at locals rests shown shared units) go more c h = (c, tt)
  good_next r q sc sc2 (Exited last shared units) go more c h = (c, tt)
  good_next r q sc sc2 (Failed x units) go more c h = (tt, tt)

  pub good_then : (r q : K) (sc sc2 : List (List ℕ)) (o : Outcome) (ps : List Plug) (go : State → Outcome) (more : State → List Plug)
      → Good service f r sc o ps
      → ((st : State) → IsAt service f r sc st → Good service f q sc2 (go st) (more st)) → Good service f q sc2 (then_do o go) (ps ++ on_end o more)
  good_then r q sc sc2 o ps go more c h = let n = good_next r q sc sc2 o go more c.0 h in (n.0, open_append ps (on_end o more) c.1 n.1)

  pub went_same : (o : Outcome) (more : State → List Plug) → on_end (then_do o Went) more ≡ on_end o more
  went_same (Went st) more = refl
  went_same (Shown at locals rests shown shared units) more = refl
  went_same (Exited last shared units) more = refl
  went_same (Failed x units) more = refl

  -- a statement alone, and then what follows it
  pub good_step : (r q : K) (sc sc2 : List (List ℕ)) (o : Outcome) (ps : List Plug) (go : State → Outcome) (more : State → List Plug)
      → Good service f r sc o ps
      → ((st : State) → IsAt service f r sc st → Good service f q sc2 (go st) (more st))
      → Good service f q sc2 (then_do o go) (ps ++ on_end (then_do o Went) more)
  good_step r q sc sc2 o ps go more c h =
      subst (λ xs. Good service f q sc2 (then_do o go) (ps ++ xs)) (sym (went_same o more)) (good_then r q sc sc2 o ps go more c h)

  pub good_if : (q : K) (sc : List (List ℕ)) (b : Bool) (o o' : Outcome) (ps ps' : List Plug) → (b ≡ true → Good service f q sc o ps)
      → (b ≡ false → Good service f q sc o' ps')
      → Good service f q sc (if b then o else o') (if b then ps else ps')
  good_if q sc true o o' ps ps' h k = h refl
  good_if q sc false o o' ps ps' h k = k refl

  -- a join leads on
  pub fine_kept : (j r : K) (sc : List (List ℕ)) (o : Outcome) → f.scope j ≡ sc → Leads service f j keeps r → Fine service f j sc o → Fine service f r sc o
  fine_kept j r sc (Went st) s h c = kept service f j r sc st s h c
  fine_kept j r sc (Shown at locals rests shown shared units) s h c = c
  fine_kept j r sc (Exited last shared units) s h c = c
  fine_kept j r sc (Failed x units) s h c = c

  pub fine_rest : (q : K) (sc : List (List ℕ)) (vs : List (List ℕ)) (o : Outcome) → Fine service f q sc o → Fine service f q sc (add_rest vs o)
  fine_rest q sc vs (Went st) c = c
  fine_rest q sc vs (Shown at locals rests shown shared units) c = record { locals_are = c.locals_are; shown_is = c.shown_is; shared_are = c.shared_are }
  fine_rest q sc vs (Exited last shared units) c = c
  fine_rest q sc vs (Failed x units) c = c

  -- the end of a block
  pub left_out : (names : List (List ℕ)) (l : Values) (w : List ℕ) (v : Value) (b : Bool) → (if b then None else beside w l) ≡ Some v → beside w l ≡ Some v
  left_out names l w v true e = absurd (none_some None v refl e)
  left_out names l w v false e = e

  pub fine_leave : (q : K) (sc sc2 names : List (List ℕ)) (o : Outcome) → Apart sc names
      → ((w : List ℕ) → is_among w sc2 ≡ (is_among w sc || is_among w names))
      → Fine service f q sc2 o → Fine service f q sc (leave names o)
  fine_leave q sc sc2 names (Went st) a h c = record {
    names = λ w. some-without names st.locals w sc (c.names w ∙ h w) a;
    locals = λ w v i e. c.locals w v i (left_out names st.locals w v (is_among w names) (sym (beside-without names st.locals w) ∙ e));
    shared = c.shared;
    inputs = c.inputs;
  }
  fine_leave q sc sc2 names (Shown at locals rests shown shared units) a h c = c
  fine_leave q sc sc2 names (Exited last shared units) a h c = c
  fine_leave q sc sc2 names (Failed x units) a h c = c

  pub good_leave : (q : K) (sc : List (List ℕ)) (c : Code) (o : Outcome) (ps : List Plug) → Apart sc (declared c) → Good service f q (after c sc) o ps
      → Good service f q sc (leave (declared c) o) ps
  good_leave q sc c o ps a g = (fine_leave q sc (after c sc) (declared c) o a (λ w. among-after w c sc) g.0, g.1)

  pub good_inner : (q : K) (sc : List (List ℕ)) (w : List ℕ) (c : Code) (vs : List (List ℕ)) (o : Outcome) (ps : List Plug) → Apart sc (w ∷ declared c)
      → Good service f q (after c (sc ++ w ∷ [])) o ps
      → Good service f q sc (leave (w ∷ declared c) (add_rest vs o)) ps
  good_inner q sc w c vs o ps a g = (
    fine_leave q sc (after c (sc ++ w ∷ [])) (w ∷ declared c) (add_rest vs o) a (λ y. among-inner y w c sc)
        (fine_rest q (after c (sc ++ w ∷ [])) vs o g.0),
    g.1,
  )

  -- ---- loops

  pub good_turns : (n : ℕ) (p r : K) (sc : List (List ℕ)) (t : Term) (body : State → Outcome) (inside : State → List Plug) (st : State)
      → IsPoint service f p sc t → Leads service f p keeps r
      → ((st1 : State) → IsAt service f p sc st1 → Good service f p sc (body st1) (inside st1)) → IsAt service f p sc st
      → Good service f r sc (turns n service t body st) (turns_plugs n service t body inside st)
  good_turns zero p r sc t body inside st pt h g c = (tt, tt)
  good_turns (suc n) p r sc t body inside st pt h g c =
      good_begin p r sc sc t st (λ v st1. if truth_of v then then_do (body st1) (turns n service t body) else Went st1)
      (λ v st1. if truth_of v then inside st1 ++ on_end (body st1) (turns_plugs n service t body inside) else []) pt c
      (λ v st1 cv c1. good_if r sc (truth_of v) (then_do (body st1) (turns n service t body)) (Went st1)
      (inside st1 ++ on_end (body st1) (turns_plugs n service t body inside)) []
      (λ _. good_then p r sc sc (body st1) (inside st1) (turns n service t body) (turns_plugs n service t body inside) (g st1 c1)
      (λ st2 c2. good_turns n p r sc t body inside st2 pt h g c2))
      (λ _. (kept service f p r sc st1 pt.scope h c1, tt)))

  pub good_each : (vs : List (List ℕ)) (p r : K) (sc : List (List ℕ)) (w : List ℕ) (names : List (List ℕ)) (body : List (List ℕ) → State → Outcome)
      (inside : List (List ℕ) → State → List Plug) (st : State)
      → f.scope p ≡ sc → Leads service f p keeps r
      → ((ws : List (List ℕ)) (v : List ℕ) (st1 : State) → IsAt service f p sc st1
      → Good service f p sc (leave names (add_rest ws (body ws (add_local w (text v) st1))))
      (inside ws (add_local w (text v) st1)))
      → IsAt service f p sc st → Good service f r sc (each vs w names body st) (each_plugs vs w names body inside st)
  good_each [] p r sc w names body inside st s h g c =
      let k = good_paid r sc st.units (λ u. Went (record st { units = u })) (λ u. [])
      (λ u. (kept service f p r sc (record st { units = u }) s h (with_units service f p sc st u c), tt)) in (k.0, tt)
  good_each (v ∷ vs) p r sc w names body inside st s h g c =
      good_paid r sc st.units
      (λ u. then_do (leave names (add_rest vs (body vs (add_local w (text v) (record st { units = u }))))) (each vs w names body))
      (λ u. inside vs (add_local w (text v) (record st { units = u })) ++ on_end
      (leave names (add_rest vs (body vs (add_local w (text v) (record st { units = u }))))) (each_plugs vs w names body inside))
      (λ u. good_then p r sc sc (leave names (add_rest vs (body vs (add_local w (text v) (record st { units = u })))))
      (inside vs (add_local w (text v) (record st { units = u })))
      (each vs w names body) (each_plugs vs w names body inside)
      (g vs v (record st { units = u }) (with_units service f p sc st u c))
      (λ st2 c2. good_each vs p r sc w names body inside st2 s h g c2))

  -- ---- pages

  pub fine_unless : (q : K) (sc : List (List ℕ)) (x : Option TurnFault) (units : ℕ) (o : Outcome) → Fine service f q sc o
      → Fine service f q sc (unless_fault x units o)
  fine_unless q sc None units o c = c
  fine_unless q sc (Some x) units o c = tt

  -- what a summary covers is a document
  pub page_is : (G : Graph) (v : Value) → covers service (Html G) v → CoversTree service G (document_of v).tree
  page_is G (number n) c = absurd c
  page_is G (truth_value b) c = absurd c
  page_is G (text s) c = absurd c
  page_is G (document d) c = c
  page_is G (list s) c = absurd c

  pub fine_wait : (n : ℕ) (p r : K) (sc : List (List ℕ)) (rs : List Receive) (e : Term) (v : Value) (st : State) (inputs : List Input) → f.scope p ≡ sc
      → f.place n ≡ p → Below (known service (look service f p) e) (Html (f.shown p))
      → Leads service f p (takes rs) r → covers service (known service (look service f p) e) v → IsAt service f p sc st → CoversInputs service f inputs
      → Fine service f r sc (wait n rs (document_of v) st inputs)
  fine_wait n p r sc rs e v st [] s pl k h cv c ci = record {
    locals_are = subst (λ x. CoversLocals service f x st.locals) (sym pl) (here service f p sc st s c);
    shown_is = subst (λ x. CoversTree service (f.shown x) (document_of v).tree) (sym pl) (page_is (f.shown p) v
        (covers_below service (known service (look service f p) e) (Html (f.shown p)) v k cv));
    shared_are = c.shared;
  }
  fine_wait n p r sc rs e v st (i ∷ later) s pl k h cv c ci = taken_good service f p r sc rs st.locals i later s (here service f p sc st s c) h ci.0 ci.1

  -- a name that is apart from those in scope is new
  pub fresh_name : (w : List ℕ) (b : Code) (sc : List (List ℕ)) → Apart sc (w ∷ declared b) → is_among w sc ≡ false
  fresh_name w b sc a = by_test (is_among w sc) refl
    where
      by_test : (b : Bool) → is_among w sc ≡ b → b ≡ false
      by_test true e = absurd (here_not (same w w) (same_self w) (a w e))
        where
          here_not : (s : Bool) → s ≡ true → (s || is_among w (declared b)) ≡ false → ⊥
          here_not true t h = false≢true (sym h)
          here_not false t h = false≢true t
      by_test false e = refl
