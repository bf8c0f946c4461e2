-- What points give to variables is of their kinds.
use Rattle.std.proofs.Common.{◌≡◌, ◌⊎◌, ℕ, zero, suc, Bool, true, false, cond, List, [], ◌∷◌, ◌++◌, length, Some, None, Option, refl, ap, sym, ◌∙◌, subst, inl}
use Rattle.std.proofs.Common.{inr}
use Rattle.std.specs.Prelude.{slice_get, find}
use Rattle.std.specs.Option.{option_map, option_or}
use Rattle.std.proofs.lemmas.Cmp.{nat_list_eq_equiv}
use Rattle.std.proofs.lemmas.List.Elements.{All-weaker}
use Rattle.bw_lang.specs.declared.service.Service.{Service}
use Rattle.bw_lang.specs.declared.stmt.Kind.{Kind}
use Rattle.bw_lang.specs.Table.Names.{same}
use Rattle.bw_lang.proofs.SameNames.{same_is}
use Rattle.bw_types.specs.Scopes.{shared_kind}
use Rattle.bw_flow.specs.declared.point.Local.{Local}
use Rattle.bw_flow.specs.Layout.{points, plan_of}
use Rattle.bw_flow.specs.Scopes.{kind_in}
use Rattle.bw_flow.specs.Stands.{IsAt}
use Rattle.bw_flow.specs.Steps.{Act, sets, tests, goes_over, shows, exits, joins, Step}
use Rattle.bw_flow.specs.TypedFlow.{kind_at, HasKindAt, AreNames, IsTypedReceive, IsTypedAct, BringsIn, Follows, IsGivenOf, Leaves, FlowsAreTyped}
use Rattle.bw_flow.proofs.Names.{kind_in_is, push_cases, shared_is}
use Rattle.bw_flow.proofs.Parts.{holds_self}
use Rattle.bw_flow.proofs.Stands.{length_sessions}
use Rattle.bw_flow.proofs.Typed.{AllGoWell, goes_well_at, sessions_typed}

-- a variable has one kind at a place
one_kind : (o : Option Kind) (a b : Kind) → o ≡ Some a → o ≡ Some b → a ≡ b
one_kind o a b x y = let e : Some a ≡ Some b = sym x ∙ y in cc

no_kind : {A : Type 0} (o : Option Kind) (k : Kind) → o ≡ Some k → o ≡ None → A
no_kind o k x y = absurd (let e : Some k ≡ None = sym x ∙ y in cc)

-- what a point gives to a variable that is known in front of it is of the kind that the variable has there
given_known : (service : Service) (w : List ℕ) (k : Kind) (x : Step) (act : Act) → kind_at service x.scope w ≡ Some k → IsTypedAct service x.scope act
    → IsGivenOf service w k x act
given_known service w k x (sets v e) at (j, value, inl h) = λ s.
    subst (λ i. HasKindAt service x.scope e i) (one_kind (kind_at service x.scope w) j k (ap (kind_at service x.scope) (sym (same_is v w s)) ∙ h) at) value
given_known service w k x (sets v e) at (j, value, inr h) = λ s. no_kind (kind_at service x.scope w) k at (ap (kind_at service x.scope) (sym (same_is v w s)) ∙ h)
given_known service w k x (tests e) at t = tt
given_known service w k x (goes_over v e) at t = λ s. no_kind (kind_at service x.scope w) k at (ap (kind_at service x.scope) (sym (same_is v w s)) ∙ t.0)
given_known service w k x (shows e rs) at t =
    All-weaker (IsTypedReceive service x.scope) (λ r. same r.target w ≡ true → r.kind ≡ k)
    (λ r i s. one_kind (kind_at service x.scope w) r.kind k (ap (kind_at service x.scope) (sym (same_is r.target w s)) ∙ i.0) at) rs t.1
given_known service w k x (exits e) at t = tt
given_known service w k x joins at t = tt

-- what it gives to a local that it brings in is of that local's kind
given_new : (service : Service) (l : Local) (x : Step) (act : Act) → BringsIn service x.scope act l → IsGivenOf service l.name l.kind x act
given_new service l x (sets v e) b = λ s. b.1
given_new service l x (goes_over v e) b = λ s. b.1
given_new service l x (tests e) b = tt
given_new service l x (shows e rs) b = absurd b
given_new service l x (exits e) b = tt
given_new service l x joins b = tt

-- a local that is brought in is not left alone
brought_or_left : {A : Type 0} (service : Service) (l : Local) (scope : List Local) (act : Act) → BringsIn service scope act l → Leaves l.name act → A
brought_or_left service l scope (sets v e) b h =
    absurd (let r = nat_list_eq_equiv.refl l.name in let s : same v l.name ≡ true = ap (λ z. same z l.name) (sym b.0) ∙ r in cc)
brought_or_left service l scope (goes_over v e) b h =
    absurd (let r = nat_list_eq_equiv.refl l.name in let s : same v l.name ≡ true = ap (λ z. same z l.name) (sym b.0) ∙ r in cc)
brought_or_left service l scope (tests e) b h = absurd b
brought_or_left service l scope (shows e rs) b h = absurd b
brought_or_left service l scope (exits e) b h = absurd b
brought_or_left service l scope joins b h = absurd b

-- ---- locals

in_front : (xs ys : List Local) (i : ℕ) (l : Local) → slice_get xs i ≡ Some l → slice_get (xs ++ ys) i ≡ Some l
in_front [] ys i l e = cc
in_front (x ∷ xs) ys zero l e = e
in_front (x ∷ xs) ys (suc i) l e = in_front xs ys i l e

-- a local in scope at a point that comes next is in scope in front of the point, or was brought in by it
before_or_brought : (service : Service) (x y : Step) (i : ℕ) (l : Local) → Follows service x y → slice_get y.scope i ≡ Some l
    → (slice_get x.scope i ≡ Some l) ⊎ BringsIn service x.scope x.act l
before_or_brought service x y i l (gone, inl e) h = inl (ap (λ s. slice_get s i) e ∙ in_front y.scope gone i l h)
before_or_brought service x y i l (gone, inr (m, b, e)) h = by (push_cases x.scope m i l (ap (λ s. slice_get s i) e ∙ in_front y.scope gone i l h))
  where
    by : (slice_get x.scope i ≡ Some l) ⊎ (m ≡ l) → (slice_get x.scope i ≡ Some l) ⊎ BringsIn service x.scope x.act l
    by (inl a) = inl a
    by (inr a) = inr (subst (λ z. BringsIn service x.scope x.act z) a b)

local_at : (service : Service) (scope : List Local) (i : ℕ) (l : Local) → AreNames service scope → slice_get scope i ≡ Some l →
    kind_at service scope l.name ≡ Some l.kind
local_at service scope i l names h = ap (λ o. option_or o (shared_kind service l.name)) (kind_in_is scope l.name ∙ names.found i l h)

local_given : (service : Service) (x : Step) (i : ℕ) (l : Local) → AreNames service x.scope → IsTypedAct service x.scope x.act
    → (slice_get x.scope i ≡ Some l) ⊎ BringsIn service x.scope x.act l → IsGivenOf service l.name l.kind x x.act
local_given service x i l names acts (inl h) = given_known service l.name l.kind x x.act (local_at service x.scope i l names h) acts
local_given service x i l names acts (inr b) = given_new service l x x.act b

local_kept : (service : Service) (x : Step) (i : ℕ) (l : Local) → AreNames service x.scope → (slice_get x.scope i ≡ Some l) ⊎ BringsIn service x.scope x.act l
    → Leaves l.name x.act → kind_in x.scope l.name ≡ Some l.kind
local_kept service x i l names (inl h) k = names.found i l h
local_kept service x i l names (inr b) k = brought_or_left service l x.scope x.act b k

-- ---- shared variables

-- a kind that is found is that of some local of the name
kind_found : (scope : List Local) (w : List ℕ) (k : Kind) → kind_in scope w ≡ Some k → (i : ℕ) × (l : Local) × (slice_get scope i ≡ Some l) × (l.name ≡ w)
kind_found [] w k e = cc
kind_found (x ∷ xs) w k e = by (same w x.name) refl e (kind_found xs w k)
  where
    by : (b : Bool) → same w x.name ≡ b → option_map (λ (z : Local). z.kind) (cond b (Some x) (find (λ z. same w z.name) xs)) ≡ Some k
        → (kind_in xs w ≡ Some k → (i : ℕ) × (l : Local) × (slice_get xs i ≡ Some l) × (l.name ≡ w))
        → (i : ℕ) × (l : Local) × (slice_get (x ∷ xs) i ≡ Some l) × (l.name ≡ w)
    by true s h more = (0, x, refl, sym (same_is w x.name s))
    by false s h more = let r = more h in (suc r.0, r.1, r.2, r.3)

no_local : (service : Service) (scope : List Local) (w : List ℕ) (k : Kind) → AreNames service scope → shared_kind service w ≡ Some k → kind_in scope w ≡ None
no_local service scope w k names e = by (kind_in scope w) refl
  where
    by : (o : Option Kind) → kind_in scope w ≡ o → o ≡ None
    by None h = refl
    by (Some j) h =
        let r = kind_found scope w j h in
        no_kind (shared_kind service w) k e (ap (shared_kind service) (sym r.3) ∙ names.apart r.0 r.1 r.2)

shared_at : (service : Service) (scope : List Local) (w : List ℕ) (k : Kind) → AreNames service scope → shared_kind service w ≡ Some k →
    kind_at service scope w ≡ Some k
shared_at service scope w k names e = ap (λ o. option_or o (shared_kind service w)) (kind_in_is scope w ∙ no_local service scope w k names e) ∙ e

-- ---- the flow

pub nothing_behind : (flow : List Step) (y : Step) → slice_get flow (length flow) ≡ Some y → ⊥
nothing_behind [] y e = cc
nothing_behind (x ∷ xs) y e = nothing_behind xs y e

pub flows_are_typed : FlowsAreTyped
flows_are_typed service woven t =
    let flow = (plan_of service).steps in
    let out = points service.sessions in
    let len = length_sessions service service.sessions 1 0 out in
    let all : AllGoWell service flow flow =
    sessions_typed service flow woven service.sessions 1 0 out t.sessions
    (λ y e. absurd (nothing_behind flow y (subst (λ m. slice_get flow m ≡ Some y) (sym len) e))) (holds_self flow) in
    let well = λ (p : ℕ) (x : Step) (at : IsAt flow p x). goes_well_at service flow flow p x all at in
    record {
      names = λ p x at. (well p x at).names;
      acts = λ p x at. (well p x at).acts;
      follows = λ p q x y at there h. (well p x at).follows q y h there;
      locals = λ p q i x y l at there h e.
          let g = well p x at in local_given service x i l g.names g.acts (before_or_brought service x y i l (g.follows q y h there) e);
      kept = λ p q i x y l at there h e k.
          let g = well p x at in local_kept service x i l g.names (before_or_brought service x y i l (g.follows q y h there) e) k;
      shared = λ p j x v at e.
          let g = well p x at in given_known service v.name v.kind x x.act (shared_at service x.scope v.name v.kind g.names (shared_is service woven t j v e))
          g.acts;
    }
