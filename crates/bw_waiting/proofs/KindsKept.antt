-- Each live session has values of the kinds of its variables.
use Rattle.std.proofs.Common.{◌≡◌, ◌<◌, ◌≤◌, ◌+◌, ℕ, zero, suc, Bool, true, false, List, [], ◌∷◌, map, Option, Some, None, refl, sym, subst, ap, ◌∙◌}
use Rattle.std.specs.Prelude.{if◌then◌else◌, find, slice_get, unwrap_or}
use Rattle.std.specs.Option.{option_map}
use Rattle.std.specs.List.{AllByRecursion, All}
use Rattle.std.proofs.lemmas.List.Elements.{All-nil, All-cons, All-head, All-tail}
use Rattle.bw_cover.specs.Received.{scope_of}
use Rattle.bw_cover.proofs.Received.{scope_is}
use Rattle.bw_flow.specs.Layout.{points, plan_of, session_firsts}
use Rattle.bw_flow.specs.Steps.{Step as Point}
use Rattle.bw_http.specs.declared.request.Request.{Request}
use Rattle.bw_lang.proofs.Small.{readable_is_woven}
use Rattle.bw_lang.specs.Document.Forest.{none}
use Rattle.bw_lang.specs.Service.Code.{Code, done, numbered}
use Rattle.bw_lang.specs.Service.Numbers.{first_number}
use Rattle.bw_lang.specs.Table.Names.{same}
use Rattle.bw_lang.specs.declared.service.Literal.{Literal}
use Rattle.bw_lang.specs.declared.service.Literal.TheVariants as literals
use Rattle.bw_lang.specs.declared.service.Service.{Service}
use Rattle.bw_lang.specs.declared.service.Session.{Session}
use Rattle.bw_lang.specs.declared.service.Shared.{Shared}
use Rattle.bw_lang.specs.declared.service.Template.{Template}
use Rattle.bw_lang.specs.declared.stmt.Kind.{Kind}
use Rattle.bw_lang.specs.declared.stmt.Kind.TheVariants as kinds
use Rattle.bw_meaning.specs.GoOn.{body_of, turn}
use Rattle.bw_meaning.specs.States.{Form, Input, Outcome, Went, Shown, Exited, Failed, Rests, State, budget}
use Rattle.bw_meaning.specs.Statements.{exec}
use Rattle.bw_meaning.specs.Values.{Document, Values, constant, document, literal_value}
use Rattle.bw_model.proofs.Keeping.{Leaves, all_append, kept}
use Rattle.bw_model.specs.Answers.{with_input}
use Rattle.bw_model.specs.Sessions.{Origin, Started, Loaded, Talk, World, result, now}
use Rattle.bw_model.specs.Steps.{beginner, step}
use Rattle.bw_run.proofs.Follow.Fit.{shown_is_fit}
use Rattle.bw_run.proofs.Follow.Kept.{typed_is_ready, turns_keep_kinds}
use Rattle.bw_run.specs.Follow.Kinds.{AreShared, HasKinds, InputsHaveKinds, kind_of, kinds_of, kinds_in}
use Rattle.bw_types.proofs.WellTyped.{typed}
use Rattle.bw_types.specs.Faults.{literal_kind}
use Rattle.bw_types.specs.Scopes.{is_among}
use Rattle.bw_types.specs.declared.typed.Typed.{Typed}
use Rattle.bw_waiting.specs.Worlds.{IsKindedOrigin, IsKindedTalk, IsKindedWorld, KindsStay, WaitingFits}

-- a session that the service doesn't have has no statements
pub firsts_none : (ss : List Session) (n out session : ℕ) → slice_get (session_firsts ss n out) session ≡ None
    → unwrap_or (slice_get (map (λ (s : Session). s.body) ss) session) done ≡ done
firsts_none [] n out session e = refl
firsts_none (s ∷ ss) n out zero e = absurd (cc)
firsts_none (s ∷ ss) n out (suc k) e = firsts_none ss _ out k e

module _ (t : Typed) where
  abbrev OfShared : Values → Type 0
  OfShared shared = AreShared t.service shared

  abbrev OfTalk : Talk → Type 0
  OfTalk talk = IsKindedTalk t.service talk

  inputs_have : (inputs : List Input) → AllByRecursion (λ (i : Input). OfShared i.shared) inputs → InputsHaveKinds t.service inputs
  inputs_have [] h = All-nil (λ (i : Input). AreShared t.service i.shared)
  inputs_have (i ∷ inputs) h = All-cons (λ (i : Input). AreShared t.service i.shared) i inputs h.0 (inputs_have inputs h.1)

  -- ---- what a turn leaves

  left : (talk : Talk) (o : Outcome) → OfTalk talk → HasKinds t.service (plan_of t.service).steps o → Leaves OfTalk OfShared talk o
  left talk (Went st) u h = tt
  left talk (Shown at locals rests shown shared units) u h = (u, h.1)
  left talk (Exited last shared units) u h = h
  left talk (Failed f units) u h = tt

  turn_leaves : (talk : Talk) (session : ℕ) (shared : Values) (inputs : List Input) → OfTalk talk → OfShared shared
      → AllByRecursion (λ (i : Input). OfShared i.shared) inputs → Leaves OfTalk OfShared talk (turn t.service session shared inputs)
  turn_leaves talk session shared inputs u h i = by_first (slice_get (plan_of t.service).firsts session) refl
    where
      by_first : (o : Option ℕ) → slice_get (plan_of t.service).firsts session ≡ o → Leaves OfTalk OfShared talk (turn t.service session shared inputs)
      by_first None e =
          let st : State = record { locals = []; shared = shared; units = budget; inputs = inputs } in
          subst (λ (c : Code). Leaves OfTalk OfShared talk (exec t.service c (first_number t.service session) 0 st))
          (sym (firsts_none t.service.sessions 0 (points t.service.sessions) session e)) tt
      by_first (Some first) e =
          left talk (turn t.service session shared inputs) u (turns_keep_kinds t session first shared inputs e h (inputs_have inputs i))

  result_leaves : (talk : Talk) (session : ℕ) (origin : Origin) (inputs : List Input) → OfTalk talk → IsKindedOrigin t.service origin
      → AllByRecursion (λ (i : Input). OfShared i.shared) inputs → Leaves OfTalk OfShared talk (result t.service session origin inputs)
  result_leaves talk session (Started shared) inputs u o i = turn_leaves talk session shared inputs u o i
  result_leaves talk session (Loaded at locals rests shown number) inputs u o i = absurd o

  now_leaves : (talk : Talk) → OfTalk talk → Leaves OfTalk OfShared talk (now t.service talk)
  now_leaves talk h = result_leaves talk talk.session talk.origin talk.inputs h h.origin h.inputs

  next_talk : (talk : Talk) (form : Form) (shared : Values) → OfTalk talk → OfShared shared → OfTalk (with_input talk form shared)
  next_talk talk form shared h s = record {
    origin = h.origin;
    inputs = all_append (λ (i : Input). OfShared i.shared) talk.inputs (record { form = form; shared = shared } ∷ []) h.inputs (s, tt);
  }

  stepped : (w : World) (request : Request) (key : ℕ) → IsKindedWorld t.service w → IsKindedWorld t.service (step t.service w request key).world
  stepped w request key h =
      let k = kept t.service OfTalk OfShared w request.form h.shared h.live
      (λ s. now_leaves (beginner w s) (record { origin = h.shared; inputs = tt }))
      (λ talk u. now_leaves (with_input talk request.form w.shared) (next_talk talk request.form w.shared u h.shared)) request key refl in
      record { shared = k.0; live = k.1 }

  -- ---- a session that waits

  module _ (at : ℕ) (locals : Values) (rests : Rests) (shown : Document) (sh : Values) (units : ℕ) where
    turn_fits : (session : ℕ) (shared : Values) (inputs : List Input) → OfShared shared → AllByRecursion (λ (i : Input). OfShared i.shared) inputs
        → turn t.service session shared inputs ≡ Shown at locals rests shown sh units → kinds_of locals ≡ kinds_in (scope_of t.service session at)
    turn_fits session shared inputs h i e = by_first (slice_get (plan_of t.service).firsts session) refl
      where
        by_first : (o : Option ℕ) → slice_get (plan_of t.service).firsts session ≡ o → kinds_of locals ≡ kinds_in (scope_of t.service session at)
        by_first None f =
            let st : State = record { locals = []; shared = shared; units = budget; inputs = inputs } in
            let went : Went st ≡ Shown at locals rests shown sh units
            = subst (λ (c : Code). exec t.service c (first_number t.service session) 0 st ≡ Shown at locals rests shown sh units)
            (firsts_none t.service.sessions 0 (points t.service.sessions) session f) e in absurd (cc)
        by_first (Some first) f =
            let k = (subst (HasKinds t.service (plan_of t.service).steps) e
            (turns_keep_kinds t session first shared inputs f h (inputs_have inputs i))).0 in
            let own = (shown_is_fit t.service session first shared inputs (record { form = []; shared = shared }) at locals rests shown sh units
            (typed_is_ready t) f e).7 in
            k.7 ∙ ap kinds_in
            (sym (scope_is t.service session k.0 k.1 k.2 k.3 k.4 k.5 (subst (λ n. first_number t.service session ≤ n) k.6 own.from)
            (subst (λ n. n < first_number t.service session + numbered (body_of t.service session)) k.6 own.below))
            ∙ ap (scope_of t.service session) (sym k.6))

    result_fits : (session : ℕ) (origin : Origin) (inputs : List Input) → IsKindedOrigin t.service origin
        → AllByRecursion (λ (i : Input). OfShared i.shared) inputs
        → result t.service session origin inputs ≡ Shown at locals rests shown sh units → kinds_of locals ≡ kinds_in (scope_of t.service session at)
    result_fits session (Started shared) inputs o i e = turn_fits session shared inputs o i e
    result_fits session (Loaded a l r d n) inputs o i e = absurd o

pub waiting_fits : WaitingFits
waiting_fits t talk at locals rests shown sh units h e =
    result_fits t at locals rests shown sh units talk.session talk.origin talk.inputs h.origin h.inputs e

-- ---- what shared variables begin with

document_kind : (o : Option Template)
    → kind_of (unwrap_or (option_map (λ (x : Template). document (constant x.items)) o) (document (constant none))) ≡ kinds.Html
document_kind None = refl
document_kind (Some x) = refl

template_is : (b : Bool) (k : Kind) → (if b then Some kinds.Html else None) ≡ Some k → kinds.Html ≡ k
template_is true k e = cc
template_is false k e = absurd cc

literal_has : (service : Service) (l : Literal) (k : Kind) → literal_kind service l ≡ Some k → kind_of (literal_value service l) ≡ k
literal_has service (literals.Int n) k e = cc
literal_has service (literals.Bool b) k e = cc
literal_has service (literals.Str s) k e = cc
literal_has service (literals.Tmpl w) k e =
    document_kind (find (λ (x : Template). same w x.name) service.templates)
    ∙ template_is (is_among w (map (λ (x : Template). x.name) service.templates)) k e

first_have : (service : Service) (vs : List Shared) → All (λ (v : Shared). literal_kind service v.init ≡ Some v.kind) vs
    → kinds_of (map (λ (v : Shared). (v.name, literal_value service v.init)) vs) ≡ map (λ (v : Shared). (v.name, v.kind)) vs
first_have service [] h = refl
first_have service (v ∷ vs) h =
    λ i. (v.name, literal_has service v.init v.kind (All-head (λ (x : Shared). literal_kind service x.init ≡ Some x.kind) v vs h) i)
    ∷ first_have service vs (All-tail (λ (x : Shared). literal_kind service x.init ≡ Some x.kind) v vs h) i

pub kinds_stay : KindsStay
kinds_stay t = (
  record {
    shared = first_have t.service t.service.shared (typed t.service (readable_is_woven t.service t.readable) t.well_typed).shared;
    live = tt;
  },
  stepped t,
)
