-- What a turn gives is fit.
use Rattle.std.proofs.Common.{◌≡◌, ℕ, true, ◌<◌, arith, List, [], ◌∷◌, length, map, Some, refl, sym, ap, ◌∙◌, subst}
use Rattle.std.specs.Prelude.{slice_get, Ok, IsSome}
use Rattle.std.proofs.lemmas.Option.{same_Some}
use Rattle.bw_lang.specs.Service.Term.{Term}
use Rattle.bw_types.specs.declared.typed.Typed.{Typed}
use Rattle.bw_flow.specs.declared.point.Local.{Local}
use Rattle.bw_flow.specs.declared.point.Received.{Received}
use Rattle.bw_flow.specs.Flows.{is_show}
use Rattle.bw_flow.specs.Layout.{plan_of}
use Rattle.bw_flow.specs.Stands.{IsAt}
use Rattle.bw_flow.specs.Steps.{Act, Step, Plan}
use Rattle.bw_flow.specs.Steps as acts
use Rattle.bw_flow.proofs.Numbered.{no_join, all_have_numbers}
use Rattle.bw_flow.proofs.OfTyped.{firsts_are_inside}
use Rattle.bw_flow.proofs.Shut.{firsts_are_all}
use Rattle.bw_meaning.specs.GoOn.{turn, go_on}
use Rattle.bw_meaning.specs.States.{Input, Answered, Outcome, Shown}
use Rattle.bw_meaning.specs.Values as meaning
use Rattle.bw_meaning.specs.Values.{names_of}
use Rattle.bw_eval.specs.View.{document, values}
use Rattle.bw_eval.proofs.Templates.{get_within}
use Rattle.bw_run.specs.Follow.Kinds as kinds
use Rattle.bw_run.specs.Follow.Kinds.{kinds_of, kinds_in, HasKinds}
use Rattle.bw_run.specs.Follow.Laws.{IsFit, IsOf}
use Rattle.bw_run.specs.Follow.Scoped.{names_in}
use Rattle.bw_run.proofs.Follow.Fit.{shown_is_fit, shown_again_is_fit}
use Rattle.bw_run.proofs.Follow.Kept.{typed_is_ready}
use Rattle.bw_run.specs.declared.turn.Turn.{Turn}
use Rattle.bw_run.specs.declared.turn.Turn.TheVariants as turns
use Rattle.bw_run.specs.Fit.{IsFitTurn, IsSoundTurn}
use Rattle.bw_run.specs.Turns.{turned}
use Rattle.bw_run.specs.Walks.{number_of, number_at}
use Rattle.bw_run.proofs.Walkable.{IsWalkable, walkable}

-- the names of values are those of their kinds
names_of_kinds : (l : meaning.Values) → map (λ p. p.0) (kinds_of l) ≡ names_of l
names_of_kinds [] = refl
names_of_kinds (x ∷ l) = ap (λ r. x.0 ∷ r) (names_of_kinds l)

names_of_scope : (sc : List Local) → map (λ p. p.0) (kinds_in sc) ≡ names_in sc
names_of_scope [] = refl
names_of_scope (l ∷ sc) = ap (λ r. l.name ∷ r) (names_of_scope sc)

pub names_from : (l : meaning.Values) (sc : List Local) → kinds_of l ≡ kinds_in sc → names_of l ≡ names_in sc
names_from l sc e = sym (names_of_kinds l) ∙ ap (map (λ p. p.0)) e ∙ names_of_scope sc

shows_is : (a : Act) (e : Term) (rs : List Received) → a ≡ acts.shows e rs → is_show a ≡ true
shows_is a e rs h = ap is_show h

-- two shows with one number are one
same_show : (typed : Typed) (p q : ℕ) (x y : Step) → let flow = (plan_of typed.service).steps in IsAt flow p x → IsAt flow q y →
    is_show x.act ≡ true → is_show y.act ≡ true → x.number ≡ y.number → x ≡ y
same_show typed p q x y a b h k e =
    let flow = (plan_of typed.service).steps in
    let s = all_have_numbers typed.service p q x y a b (no_join x.act h) (no_join y.act k) e in
    same_Some x y (sym a ∙ ap (slice_get flow) s ∙ b)

-- where a turn waits, it is at a show with so many rests
abbrev pub WaitsFit : List Step → Outcome → Type 0
WaitsFit flow o = (at : ℕ) (locals : meaning.Values) (rests : List (List (List ℕ))) (d : meaning.Document) (shared : meaning.Values) (units : ℕ) →
    o ≡ Shown at locals rests d shared units →
    (p : ℕ) × (x : Step) × IsAt flow p x × (is_show x.act ≡ true) × (at ≡ x.number) × (length rests ≡ x.inside)

fit_from : (typed : Typed) (flow : List Step) (turn : Turn) (o : Outcome) (units : ℕ) → flow ≡ (plan_of typed.service).steps →
    turned flow (Ok turn) units ≡ o → HasKinds typed.service flow o → WaitsFit flow o
    → IsSoundTurn typed.service.templates flow turn → IsFitTurn typed.service flow turn
fit_from typed flow (turns.Exited d shared) o units ef e h w s =
    let k : kinds.AreShared typed.service (values shared) = subst (HasKinds typed.service flow) (sym e) h in
    (s.0, record { kinds_are = k; sound = s.1 })
fit_from typed flow (turns.Shown f d shared) o units ef e h w s =
    let k = subst (HasKinds typed.service flow) (sym e) h in
    let a = k.0 in
    let r = w (number_at flow f.point) (values f.locals) f.rests (document d) (values shared) units (sym e) in
    let y = s.0.0 in
    let number : number_at flow f.point ≡ y.number = ap number_of s.0.1 in
    let at = λ (p : ℕ) (z : Step) (i : IsAt flow p z). subst (λ fl. IsAt fl p z) ef i in
    let show1 = shows_is a.1.act a.2 a.3 a.5 in
    let one : a.1 ≡ y = same_show typed a.0 f.point a.1 y (at a.0 a.1 a.4) (at f.point y s.0.1) show1 s.0.2 (sym a.6 ∙ number) in
    let two : r.1 ≡ y = same_show typed r.0 f.point r.1 y (at r.0 r.1 r.2) (at f.point y s.0.1) r.3 s.0.2 (sym r.4 ∙ number) in (
      record {
        point = y;
        page = a.2;
        fields = a.3;
        is = s.0.1;
        acts = ap (λ (z : Step). z.act) (sym one) ∙ a.5;
        locals = record { kinds_are = a.7 ∙ ap (λ (z : Step). kinds_in z.scope) one; sound = s.1 };
        rests = r.5 ∙ ap (λ (z : Step). z.inside) two;
        short = s.2;
      },
      s.3,
      record { kinds_are = k.1; sound = s.4 },
    )

pub fit_turn : (typed : Typed) (flow : Plan) (turn : Turn) (o : Outcome) (units : ℕ) → flow ≡ plan_of typed.service →
    turned flow.steps (Ok turn) units ≡ o → HasKinds typed.service (plan_of typed.service).steps o → WaitsFit (plan_of typed.service).steps o
    → IsSoundTurn typed.service.templates flow.steps turn → IsFitTurn typed.service flow.steps turn
fit_turn typed flow turn o units ef e h w s =
    let es = ap (λ (f : Plan). f.steps) ef in
    fit_from typed flow.steps turn o units es e (subst (λ fl. HasKinds typed.service fl o) (sym es) h) (subst (λ fl. WaitsFit fl o) (sym es) w) s

-- ---- where turns wait

no_input : Input
no_input = record { form = []; shared = [] }

pub turn_waits : (typed : Typed) (session first : ℕ) (shared : meaning.Values) (inputs : List Input) →
    slice_get (plan_of typed.service).firsts session ≡ Some first → WaitsFit (plan_of typed.service).steps (turn typed.service session shared inputs)
turn_waits typed session first shared inputs ef at locals rests d sh units e =
    let r = shown_is_fit typed.service session first shared inputs no_input at locals rests d sh units (typed_is_ready typed) ef e in
    (r.0, r.1, r.4, shows_is r.1.act r.2 r.3 r.5, r.6.number, r.6.rests)

pub going_on_waits : (typed : Typed) (session p : ℕ) (x : Step) (e : Term) (rs : List Received) (a : Answered) →
    IsAt (plan_of typed.service).steps p x → x.act ≡ acts.shows e rs → IsFit x a → IsOf typed.service session x.number →
    WaitsFit (plan_of typed.service).steps (go_on typed.service session a)
going_on_waits typed session p x e rs a at is fit of k locals rests d sh units eq =
    let r = shown_again_is_fit typed.service session p x e rs a no_input k locals rests d sh units (typed_is_ready typed) at is fit of eq in
    (r.0, r.1, r.4, shows_is r.1.act r.2 r.3 r.5, r.6.number, r.6.rests)

-- ---- first points

pub has_first : (typed : Typed) (flow : Plan) (session : ℕ) → flow ≡ plan_of typed.service → session < length typed.service.sessions →
    IsSome (slice_get flow.firsts session)
has_first typed flow session e lt =
    let all = firsts_are_all typed.service in
    subst (λ (f : Plan). IsSome (slice_get f.firsts session)) (sym e) (get_within (plan_of typed.service).firsts session (omega (arith, all)))

pub first_inside : (typed : Typed) (flow : Plan) (session first : ℕ) → flow ≡ plan_of typed.service → slice_get flow.firsts session ≡ Some first →
    first < length flow.steps
first_inside typed flow session first e at =
    subst (λ (f : Plan). first < length f.steps) (sym e)
    (firsts_are_inside typed session first (subst (λ (f : Plan). slice_get f.firsts session ≡ Some first) e at))

pub can_walk : (typed : Typed) (flow : Plan) → flow ≡ plan_of typed.service → IsWalkable flow.steps
can_walk typed flow e = subst (λ (f : Plan). IsWalkable f.steps) (sym e) (walkable typed)
