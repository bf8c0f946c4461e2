-- With the kinds that are due at a place, what a point does there can be done, and the kinds are those that are due at the next.
use Rattle.std.proofs.Common.{◌≡◌, ℕ, List, length, take, sym, ap, ◌∙◌, subst}
use Rattle.std.specs.Prelude.{Result, Ok}
use Rattle.std.proofs.lemmas.List.Elements.{All-nil}
use Rattle.bw_lang.specs.declared.service.Service.{Service}
use Rattle.bw_lang.specs.declared.stmt.Kind.{Kind}
use Rattle.bw_lang.specs.declared.stmt.Kind.TheVariants as kinds
use Rattle.bw_lang.specs.declared.turn.TurnFault.{TurnFault}
use Rattle.bw_lang.specs.Service.Term.{Term, int, truth, string, name, paren, not, neg, binary, call, plug, nothing, Fillings, no_more, filling}
use Rattle.bw_types.specs.declared.typed.Typed.{Typed}
use Rattle.bw_types.specs.ExpressionFaults.{fun_takes}
use Rattle.bw_types.specs.Scopes.{Scope}
use Rattle.bw_types.specs.Typing.{HasKind, AreTyped}
use Rattle.bw_typed.specs.ShortStrings.{HasShort}
use Rattle.bw_flow.specs.declared.point.Local.{Local}
use Rattle.bw_flow.specs.Layout.{plan_of}
use Rattle.bw_flow.specs.Stands.{IsAt}
use Rattle.bw_flow.specs.Steps.{Act, Step, Plan}
use Rattle.bw_flow.specs.Steps as acts
use Rattle.bw_flow.specs.TypedFlow.{names_at, HasKindAt, IsTypedAct}
use Rattle.bw_flow.proofs.Nexts.{all_have_nexts}
use Rattle.bw_flow.proofs.OfTyped.{points_are_typed}
use Rattle.bw_meaning.specs.Expressions.{Evaluated, Gives, Faults, eval}
use Rattle.bw_meaning.specs.States.{State, Went}
use Rattle.bw_meaning.specs.Values as meaning
use Rattle.bw_meaning.specs.Values.{number, truth_value, text, document, list}
use Rattle.bw_eval.specs.Bases.{IsDocument, GivesDocument, GivesDocuments, HasBases, HaveBases}
use Rattle.bw_eval.specs.Evaluations.{HasMemory}
use Rattle.bw_eval.specs.View.{values}
use Rattle.bw_run.specs.Follow.Kinds.{kind_of, kinds_of, kinds_in, AreShared, GivesKind}
use Rattle.bw_run.specs.Follow.Runs.{cut, first_of, second_of, Next, does}
use Rattle.bw_run.proofs.Follow.FitKinds.{Fits}
use Rattle.bw_run.proofs.Follow.Past.{goes_past}
use Rattle.bw_run.proofs.Follow.RunKinds.{Told, Arrives, comes_on}
use Rattle.bw_run.proofs.Follow.ValueKinds.{values_have_kinds}
use Rattle.bw_run.specs.declared.standing.Standing.{Standing}
use Rattle.bw_run.specs.declared.step.Stepped.{Stepped}
use Rattle.bw_run.specs.declared.step.Stepped.TheVariants.{First, Second}
use Rattle.bw_run.specs.Code.{state, stepped, IsSound, ActIsShort, CanEvaluate, CanShow, CanDo, Does}
use Rattle.bw_run.specs.Walks.{HasKindsAt}
use Rattle.bw_run.proofs.Walkable.{walkable}

-- ---- expressions

is_document : (v : meaning.Value) → kind_of v ≡ kinds.Html → IsDocument v
is_document (number n) e = absurd (let f : kinds.Int ≡ kinds.Html = e in cc)
is_document (truth_value b) e = absurd (let f : kinds.Bool ≡ kinds.Html = e in cc)
is_document (text s) e = absurd (let f : kinds.Str ≡ kinds.Html = e in cc)
is_document (document d) e = tt
is_document (list strings) e = absurd (let f : kinds.Strs ≡ kinds.Html = e in cc)

gives_document : (o : Evaluated) → GivesKind kinds.Html o → GivesDocument o
gives_document (Gives v u) h = is_document v h
gives_document (Faults f u) h = tt

module _ (service : Service) (scope : Scope) (locals shared : meaning.Values) (el : kinds_of locals ≡ scope.locals) (es : AreShared service shared) where
  documents : (e : Term) → HasKind service scope e kinds.Html → GivesDocuments service locals shared e
  documents e h u = gives_document (eval service locals shared e u) (values_have_kinds service scope e kinds.Html locals shared u h el es)

  mutual
    has_bases : (e : Term) (k : Kind) → HasKind service scope e k → HasBases service locals shared e
    has_bases (int n) k h = tt
    has_bases (truth b) k h = tt
    has_bases (string s) k h = tt
    has_bases nothing k h = tt
    has_bases (name w) k h = tt
    has_bases (paren e) k h = has_bases e k h
    has_bases (not e) k h = has_bases e kinds.Bool h.0
    has_bases (neg e) k h = has_bases e kinds.Int h.0
    has_bases (call f e) k h = has_bases e (fun_takes f) h.0
    has_bases (binary op l r) k h = (has_bases l h.0 h.1, has_bases r h.0 h.2)
    has_bases (plug b ps) k h = (documents b h.0, has_bases b kinds.Html h.0, have_bases ps h.1)

    have_bases : (ps : Fillings) → AreTyped service scope ps → HaveBases service locals shared ps
    have_bases no_more h = tt
    have_bases (filling g e ps) h = let t = h.0 in (has_bases e t.1 t.3, have_bases ps h.1)

-- ---- what a point does

module _ (service : Service) (scope : List Local) (s : Standing) (el : kinds_of (values s.locals) ≡ kinds_in scope)
    (es : AreShared service (values s.shared)) (sound : IsSound service.templates s) where
  evaluable : (e : Term) (k : Kind) → HasKindAt service scope e k → HasShort e → CanEvaluate service e s
  evaluable e k h short = record {
    short = short;
    bases = has_bases service (names_at scope) (values s.locals) (values s.shared) el es e k h;
    sound = sound;
  }

  showable : (e : Term) → HasKindAt service scope e kinds.Html → HasShort e → CanShow service e s
  showable e h short = record {
    evaluates = evaluable e kinds.Html h short;
    documents = documents service (names_at scope) (values s.locals) (values s.shared) el es e h;
  }

  can_do : (a : Act) → IsTypedAct service scope a → ActIsShort a → CanDo service a s
  can_do (acts.sets w e) t short = evaluable e t.0 t.1 short
  can_do (acts.tests e) t short = evaluable e kinds.Bool t short
  can_do (acts.goes_over w e) t short = evaluable e kinds.Strs t.1 short
  can_do (acts.shows e rs) t short = showable e t.0 short
  can_do (acts.exits e) t short = showable e t short
  can_do acts.joins t short = sound

-- ---- from a point on

module _ (typed : Typed) (flow : Plan) (same : flow ≡ plan_of typed.service) (p : ℕ) (x : Step) (at : IsAt flow.steps p x) (old s : Standing) (n : ℕ)
    (kept : HasKindsAt typed.service flow.steps p old) (en : n ≡ length x.scope) (is : state s ≡ cut n (state old)) where
  abbrev steps : List Step
  steps = (plan_of typed.service).steps

  there : IsAt steps p x
  there = subst (λ (f : Plan). IsAt f.steps p x) same at

  -- the locals in scope at the point have their kinds, once the others are cut
  fits : Fits typed.service x.scope (state s)
  fits = record {
    locals = ap (λ (st : State). kinds_of st.locals) is ∙ ap (λ m. kinds_of (take m (values old.locals))) en ∙ kept.locals x at;
    shared = ap (λ (st : State). kinds_of st.shared) is ∙ kept.shared;
    inputs = All-nil (λ i. AreShared typed.service i.shared);
  }

  pub can_do_there : IsSound typed.service.templates s → CanDo typed.service x.act s
  can_do_there sound =
      can_do typed.service x.scope s fits.locals fits.shared sound x.act ((points_are_typed typed).acts p x there) ((walkable typed).short p x there)

  -- the place and the state with which it goes on
  abbrev mark : Next
  mark q rests st = Went (record st { units = q })

  arrives : (q : ℕ) (new : Standing) → does typed.service x.act x mark s.rests (state s) ≡ Went (record (state new) { units = q }) →
      HasKindsAt typed.service flow.steps q new
  arrives q new e =
      let told = comes_on typed.service steps (points_are_typed typed) (all_have_nexts typed.service) (goes_past typed.service) p x there s.rests
      (state s) fits in
      let a = subst (Told typed.service steps (λ st. Arrives typed.service steps st.units st)) e told in
      subst (λ (f : Plan). HasKindsAt typed.service f.steps q new) (sym same) (record { locals = a.there; shared = a.shared })

  pub goes_first : (q : ℕ) (new : Standing) (before after : ℕ) (r : Result Stepped TurnFault) → r ≡ Ok First → q ≡ first_of x.next →
      Does typed.service x.act x s new before after r → HasKindsAt typed.service flow.steps q new
  goes_first q new before after r e eq d =
      let h = subst (λ z. (next : Next) → HasMemory z → does typed.service x.act x next s.rests (state s) ≡ stepped z x next new) e d.does_so in
      subst (λ z. HasKindsAt typed.service flow.steps z new) (sym eq) (arrives (first_of x.next) new (h mark tt))

  pub goes_second : (q : ℕ) (new : Standing) (before after : ℕ) (r : Result Stepped TurnFault) → r ≡ Ok Second → q ≡ second_of x.next →
      Does typed.service x.act x s new before after r → HasKindsAt typed.service flow.steps q new
  goes_second q new before after r e eq d =
      let h = subst (λ z. (next : Next) → HasMemory z → does typed.service x.act x next s.rests (state s) ≡ stepped z x next new) e d.does_so in
      subst (λ z. HasKindsAt typed.service flow.steps z new) (sym eq) (arrives (second_of x.next) new (h mark tt))
