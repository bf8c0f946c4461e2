-- One thing after another, loops and pages keep what values are made of.
use Rattle.std.proofs.Common.{◌≡◌, ◌≤◌, ℕ, zero, suc, Bool, true, false, List, [], ◌∷◌, Option, Some, None, refl, length, arith}
use Rattle.std.specs.Prelude.{if◌then◌else◌, not, is_some, nat_lt, slice_get, unwrap_or, IsUtf8}
use Rattle.std.specs.List.{AllByRecursion, list_any}
use Rattle.std.specs.Option.{option_or}
use Rattle.std.proofs.lemmas.Bool.Decides.{nat_tests}
use Rattle.std.proofs.lemmas.Str.{IsUtf8-nil}
use Rattle.bw_lang.specs.Service.Submissions.{IsTextForm}
use Rattle.bw_lang.specs.declared.service.Service.{Service}
use Rattle.bw_lang.specs.declared.stmt.Receive.{Receive}
use Rattle.bw_lang.specs.declared.turn.TurnFault.{TurnFault}
use Rattle.bw_lang.specs.declared.turn.TurnFault.TheVariants.{PageTooLong}
use Rattle.bw_lang.specs.Document.Forest.{Forest}
use Rattle.bw_lang.specs.Document.Print.{print}
use Rattle.bw_lang.specs.Service.Submissions.{values_of}
use Rattle.bw_lang.specs.Service.Term.{Term}
use Rattle.bw_lang.specs.Table.Names.{same, beside}
use Rattle.bw_meaning.specs.Expressions.{Evaluated, Gives, Faults, eval}
use Rattle.bw_meaning.specs.Forms.{received_value}
use Rattle.bw_meaning.specs.Operators.{truth_of, list_of}
use Rattle.bw_meaning.specs.Pages.{over, page_length, show_fault, exit_fault}
use Rattle.bw_meaning.specs.States.{Form, Input, State, Outcome, Went, Shown, Exited, Failed, budget}
use Rattle.bw_meaning.specs.Statements.{add_local, store, variable, received, taken, when_paid, when_given, with_value, begin, then_do}
use Rattle.bw_meaning.specs.Statements.{unless_fault, leave, turns, add_rest, each, wait, shows, exits}
use Rattle.bw_meaning.specs.Values.{Document, Value, Values, number, truth_value, text, document, list, replaced}
use Rattle.bw_typed.specs.Strings.{EachString, IsUtf8Text}
use Rattle.bw_made.specs.Made.{IsDocumentOf, IsText, AreTexts, GivesText, AreTextInputs, IsTextState, IsTextOutcome, IsPageOf}
use Rattle.bw_model.proofs.Keeping.{all_append}
use Rattle.bw_made.proofs.Texts.{all_filter, all_map}
use Rattle.bw_made.proofs.Values.{AreConstants, value_text}

pub list_texts : (Constant : _) (v : Value) → IsText Constant v → AllByRecursion IsUtf8 (list_of v)
list_texts C (number n) h = tt
list_texts C (truth_value b) h = tt
list_texts C (text s) h = tt
list_texts C (document d) h = tt
list_texts C (list s) h = h

module _ (Constant : Forest → Type 0) where
  abbrev pub Holds : State → Type 0
  Holds st = IsTextState Constant st

  -- ---- states

  pub with_units : (st : State) (u : ℕ) → Holds st → Holds (record st { units = u })
  with_units st u h = record { locals = h.locals; shared = h.shared; inputs = h.inputs }

  pub added : (w : List ℕ) (v : Value) (st : State) → IsText Constant v → Holds st → Holds (add_local w v st)
  added w v st k h = record {
    locals = all_append (λ (x : List ℕ × Value). IsText Constant x.1) st.locals ((w, v) ∷ []) h.locals (k, tt);
    shared = h.shared;
    inputs = h.inputs;
  }

  replaced_texts : (w : List ℕ) (v : Value) (xs : Values) → IsText Constant v → AreTexts Constant xs → AreTexts Constant (replaced w v xs)
  replaced_texts w v [] k h = tt
  replaced_texts w v (x ∷ xs) k h = by_test (same w x.0) (replaced_texts w v xs k h.1)
    where
      by_test : (b : Bool) → AreTexts Constant (replaced w v xs) → AreTexts Constant (if b then (x.0, v) ∷ xs else x ∷ replaced w v xs)
      by_test true m = (k, h.1)
      by_test false m = (h.0, m)

  pub stored : (w : List ℕ) (v : Value) (st : State) → IsText Constant v → Holds st → Holds (store w v st)
  stored w v st k h = record {
    locals = replaced_texts w v st.locals k h.locals;
    shared = by_test (is_some (beside w st.locals));
    inputs = h.inputs;
  }
    where
      by_test : (b : Bool) → AreTexts Constant (if b then st.shared else replaced w v st.shared)
      by_test true = h.shared
      by_test false = replaced_texts w v st.shared k h.shared

  -- ---- what a form gives

  values_texts : (name : List ℕ) (form : Form) → IsTextForm form → AllByRecursion IsUtf8 (values_of name form)
  values_texts name form h =
      all_map IsUtf8 (λ (pair : List ℕ × List ℕ). pair.1) _
      (all_filter (λ (pair : List ℕ × List ℕ). IsUtf8 pair.1) (λ (pair : List ℕ × List ℕ). same name pair.0) form h)

  first_text : (given : List (List ℕ)) → AllByRecursion IsUtf8 given → IsUtf8 (unwrap_or (slice_get given 0) [])
  first_text [] h = IsUtf8-nil
  first_text (s ∷ given) h = h.0

  received_text : (old : Option Value) (given : List (List ℕ)) → AllByRecursion IsUtf8 given → IsText Constant (received_value old given)
  received_text None given h = first_text given h
  received_text (Some (number n)) given h = first_text given h
  received_text (Some (truth_value b)) given h = first_text given h
  received_text (Some (text s)) given h = first_text given h
  received_text (Some (document d)) given h = first_text given h
  received_text (Some (list s)) given h = h

  received_holds : (rs : List Receive) (form : Form) (st : State) → IsTextForm form → Holds st → Holds (received rs form st)
  received_holds [] form st f h = h
  received_holds (r ∷ rs) form st f h =
      let v = received_value (variable r.target st) (values_of r.field form) in
      received_holds rs form (store r.target v st) f
      (stored r.target v st (received_text (variable r.target st) (values_of r.field form) (values_texts r.field form f)) h)

  pub taken_holds : (rs : List Receive) (locals : Values) (i : Input) (later : List Input) → AreTexts Constant locals → AreTextInputs Constant (i ∷ later) →
      Holds (taken rs locals i later)
  taken_holds rs locals i later l h =
      received_holds rs i.form (record { locals = locals; shared = i.shared; units = budget; inputs = later }) h.0.0
      (record { locals = l; shared = h.0.1; inputs = h.1 })

  -- a page of which no test fails is short
  pub short_page : (d : Document) (o : Option TurnFault) → option_or (over 4194304 PageTooLong (page_length d)) o ≡ None → length (print d.tree) ≤ 4194304
  short_page d o e = by_test (nat_lt 4194304 (length (print d.tree))) refl e
    where
      below : (a b : ℕ) → nat_lt a b ≡ false → b ≤ a
      below a b f = grind (arith, nat_tests)

      by_test : (b : Bool) → nat_lt 4194304 (length (print d.tree)) ≡ b → option_or (if b then Some (PageTooLong (length (print d.tree))) else None) o ≡ None →
          length (print d.tree) ≤ 4194304
      by_test true f g = absurd (cc)
      by_test false f g = below 4194304 (length (print d.tree)) f

module _ (service : Service) (Constant : Forest → Type 0) (c : AreConstants Constant service) where
  abbrev H : State → Type 0
  H st = IsTextState Constant st

  abbrev pub Comes : Outcome → Type 0
  Comes o = IsTextOutcome Constant o

  -- ---- one thing after another

  pub come_paid : (u : ℕ) (go : ℕ → Outcome) → ((w : ℕ) → Comes (go w)) → Comes (when_paid u go)
  come_paid zero go h = tt
  come_paid (suc u) go h = h u

  come_given : (o : Evaluated) (go : Value → ℕ → Outcome) → GivesText Constant o → ((v : Value) (u : ℕ) → IsText Constant v → Comes (go v u)) →
      Comes (when_given o go)
  come_given (Gives v u) go g h = h v u g
  come_given (Faults f u) go g h = tt

  pub come_value : (e : Term) (st : State) (go : Value → State → Outcome) → EachString IsUtf8Text e → H st
      → ((v : Value) (st1 : State) → IsText Constant v → H st1 → Comes (go v st1)) → Comes (with_value service e st go)
  come_value e st go s h more =
      come_given (eval service st.locals st.shared e st.units) (λ v u. go v (record st { units = u }))
      (value_text Constant service c st.locals st.shared h.locals h.shared e st.units s)
      (λ v u k. more v (record st { units = u }) k (with_units Constant st u h))

  pub come_begin : (e : Term) (st : State) (go : Value → State → Outcome) → EachString IsUtf8Text e → H st
      → ((v : Value) (st1 : State) → IsText Constant v → H st1 → Comes (go v st1)) → Comes (begin service e st go)
  come_begin e st go s h more =
      come_paid st.units (λ u. with_value service e (record st { units = u }) go)
      (λ u. come_value e (record st { units = u }) go s (with_units Constant st u h) more)

  pub come_then : (o : Outcome) (go : State → Outcome) → Comes o → ((st : State) → H st → Comes (go st)) → Comes (then_do o go)
  come_then (Went st) go h more = more st h
  come_then (Shown at locals rests shown shared units) go h more = h
  come_then (Exited last shared units) go h more = h
  come_then (Failed f units) go h more = tt

  pub come_if : (b : Bool) (o p : Outcome) → Comes o → Comes p → Comes (if b then o else p)
  come_if true o p h k = h
  come_if false o p h k = k

  pub come_leave : (names : List (List ℕ)) (o : Outcome) → Comes o → Comes (leave names o)
  come_leave names (Went st) h = record {
    locals = all_filter (λ (x : List ℕ × Value). IsText Constant x.1) (λ (x : List ℕ × Value). not (list_any (same x.0) names)) st.locals h.locals;
    shared = h.shared;
    inputs = h.inputs;
  }
  come_leave names (Shown at locals rests shown shared units) h = h
  come_leave names (Exited last shared units) h = h
  come_leave names (Failed f units) h = tt

  pub come_rest : (vs : List (List ℕ)) (o : Outcome) → AllByRecursion IsUtf8 vs → Comes o → Comes (add_rest vs o)
  come_rest vs (Went st) k h = h
  come_rest vs (Shown at locals rests shown shared units) k h =
      record { locals_are = h.locals_are; rests_are = (k, h.rests_are); shown_is = h.shown_is; shared_are = h.shared_are }
  come_rest vs (Exited last shared units) k h = h
  come_rest vs (Failed f units) k h = tt

  -- ---- loops

  pub come_turns : (n : ℕ) (t : Term) (body : State → Outcome) (st : State) → EachString IsUtf8Text t → ((st1 : State) → H st1 → Comes (body st1)) →
      H st → Comes (turns n service t body st)
  come_turns zero t body st s g h = tt
  come_turns (suc n) t body st s g h =
      come_begin t st (λ v st1. if truth_of v then then_do (body st1) (turns n service t body) else Went st1) s h
      (λ v st1 k h1. come_if (truth_of v) (then_do (body st1) (turns n service t body)) (Went st1)
      (come_then (body st1) (turns n service t body) (g st1 h1) (λ st2 h2. come_turns n t body st2 s g h2)) h1)

  pub come_each : (vs : List (List ℕ)) (w : List ℕ) (names : List (List ℕ)) (body : List (List ℕ) → State → Outcome) (st : State) → AllByRecursion IsUtf8 vs
      → ((more : List (List ℕ)) (st1 : State) → AllByRecursion IsUtf8 more → H st1 → Comes (body more st1)) → H st → Comes (each vs w names body st)
  come_each [] w names body st k g h = come_paid st.units (λ u. Went (record st { units = u })) (λ u. with_units Constant st u h)
  come_each (v ∷ vs) w names body st k g h =
      come_paid st.units
      (λ u. then_do (leave names (add_rest vs (body vs (add_local w (text v) (record st { units = u }))))) (each vs w names body))
      (λ u. let st1 : State = add_local w (text v) (record st { units = u }) in
      come_then (leave names (add_rest vs (body vs st1))) (each vs w names body)
      (come_leave names (add_rest vs (body vs st1)) (come_rest vs (body vs st1) k.1
      (g vs st1 k.1 (added Constant w (text v) (record st { units = u }) k.0 (with_units Constant st u h)))))
      (λ st2 h2. come_each vs w names body st2 k.1 g h2))

  -- ---- pages

  come_unless : (x : Option TurnFault) (units : ℕ) (o : Outcome) → (x ≡ None → Comes o) → Comes (unless_fault x units o)
  come_unless None units o h = h refl
  come_unless (Some f) units o h = tt

  come_wait : (n : ℕ) (rs : List Receive) (d : Document) (st : State) (inputs : List Input) → IsPageOf Constant d → H st → AreTextInputs Constant inputs →
      Comes (wait n rs d st inputs)
  come_wait n rs d st [] p h i = record { locals_are = h.locals; rests_are = tt; shown_is = p; shared_are = h.shared }
  come_wait n rs d st (i ∷ later) p h k = taken_holds Constant rs st.locals i later h.locals k

  pub come_shows : (n around : ℕ) (rs : List Receive) (d : Document) (st : State) → IsDocumentOf Constant d → H st → Comes (shows n around rs d st)
  come_shows n around rs d st k h =
      come_unless (show_fault d st.locals around st.shared) st.units (wait n rs d st st.inputs)
      (λ e. come_wait n rs d st st.inputs (record { document = k; short = short_page Constant d _ e }) h h.inputs)

  pub come_exits : (d : Document) (st : State) → IsDocumentOf Constant d → H st → Comes (exits d st)
  come_exits d st k h =
      come_unless (exit_fault d st.shared) st.units (Exited d st.shared st.units)
      (λ e. record { last_is = record { document = k; short = short_page Constant d _ e }; shared_are = h.shared })
