-- The flow of a service that is typed: its scopes are those of names and kinds, what points do is typed in them, and what
-- a point gives to a variable is of that variable's kind.
use Rattle.std.specs.Prelude.{◌≡◌, ◌⊎◌, ℕ, true, false, List, [], ◌∷◌, ◌++◌, map, slice_get, Option, Some, None}
use Rattle.std.specs.List.{All}
use Rattle.bw_lang.specs.declared.service.Service.{Service}
use Rattle.bw_lang.specs.declared.service.Shared.{Shared}
use Rattle.bw_lang.specs.declared.stmt.Kind.{Kind}
use Rattle.bw_lang.specs.declared.stmt.Kind.TheVariants.{Bool as Truth, Str, Html, Strs}
use Rattle.bw_lang.specs.Table.Names.{same}
use Rattle.bw_lang.specs.Service.Term.{Term}
use Rattle.bw_types.specs.Scopes.{Scope, shared_kind, variable_kind}
use Rattle.bw_types.specs.Typing.{HasKind, IsTypedService}
use Rattle.bw_flow.specs.declared.point.Local.{Local}
use Rattle.bw_flow.specs.declared.point.Received.{Received}
use Rattle.bw_flow.specs.Layout.{plan_of}
use Rattle.bw_flow.specs.Places.{Among}
use Rattle.bw_flow.specs.Scopes.{kind_in}
use Rattle.bw_flow.specs.Stands.{IsAt}
use Rattle.bw_lang.specs.Service.Order.{IsWoven}
use Rattle.bw_flow.specs.Steps.{Act, sets, tests, goes_over, shows, exits, joins, Step}

-- ---- names at a point

-- what names and kinds see where these locals are in scope
abbrev pub names_at : List Local → Scope
names_at scope = record { locals = map (λ l. (l.name, l.kind)) scope; taken = [] }

-- the kind of the variable of that name, a local in scope or a shared one
abbrev pub kind_at : Service → List Local → List ℕ → Option Kind
kind_at service scope w = variable_kind service (names_at scope) w

-- the expression has the kind there
abbrev pub HasKindAt : Service → List Local → Term → Kind → Type 0
HasKindAt service scope e kind = HasKind service (names_at scope) e kind

-- each local in scope is found by its name, and is no shared variable
pub record AreNames (service : Service) (scope : List Local) : Type 0 where
  pub found : (i : ℕ) (l : Local) → slice_get scope i ≡ Some l → kind_in scope l.name ≡ Some l.kind
  pub apart : (i : ℕ) (l : Local) → slice_get scope i ≡ Some l → shared_kind service l.name ≡ None

-- ---- what points do

-- the variable is of the kind that the field is received as, a string or a list
abbrev pub IsTypedReceive : Service → List Local → Received → Type 0
IsTypedReceive service scope r = (kind_at service scope r.target ≡ Some r.kind) × ((r.kind ≡ Str) ⊎ (r.kind ≡ Strs))

-- A value goes into a variable of its kind, or into a local that is new; a foreach goes over a list, and its local is new;
-- tests are of truth values, and pages are documents.
abbrev pub IsTypedAct : Service → List Local → Act → Type 0
IsTypedAct service scope (sets w e) =
    (kind : Kind) × HasKindAt service scope e kind × ((kind_at service scope w ≡ Some kind) ⊎ (kind_at service scope w ≡ None))
IsTypedAct service scope (tests e) = HasKindAt service scope e Truth
IsTypedAct service scope (goes_over w e) = (kind_at service scope w ≡ None) × HasKindAt service scope e Strs
IsTypedAct service scope (shows e rs) = HasKindAt service scope e Html × All (IsTypedReceive service scope) rs
IsTypedAct service scope (exits e) = HasKindAt service scope e Html
IsTypedAct service scope joins = Unit {0}

-- ---- from point to point

-- the point brings in a local, whose name is that of no variable in front of it
abbrev pub BringsIn : Service → List Local → Act → Local → Type 0
BringsIn service scope (sets w e) l = (l.name ≡ w) × HasKindAt service scope e l.kind × (kind_at service scope w ≡ None)
BringsIn service scope (goes_over w e) l = (l.name ≡ w) × (l.kind ≡ Str) × (kind_at service scope w ≡ None)
BringsIn service scope (tests e) l = ⊥
BringsIn service scope (shows e rs) l = ⊥
BringsIn service scope (exits e) l = ⊥
BringsIn service scope joins l = ⊥

-- Of the locals in scope at a point, and of the one that it may bring in, the first ones are in scope at a point that
-- comes next.
abbrev pub Follows : Service → Step → Step → Type 0
Follows service x y =
    (gone : List Local) × ((x.scope ≡ y.scope ++ gone)
    ⊎ ((l : Local) × BringsIn service x.scope x.act l × (x.scope ++ l ∷ [] ≡ y.scope ++ gone)))

-- ---- what is given to a variable

-- what the point gives to the variable of that name is of this kind
abbrev pub IsGivenOf : Service → List ℕ → Kind → Step → Act → Type 0
IsGivenOf service w kind x (sets v e) = same v w ≡ true → HasKindAt service x.scope e kind
IsGivenOf service w kind x (tests e) = Unit {0}
IsGivenOf service w kind x (goes_over v e) = same v w ≡ true → kind ≡ Str
IsGivenOf service w kind x (shows e rs) = All (λ r. same r.target w ≡ true → r.kind ≡ kind) rs
IsGivenOf service w kind x (exits e) = Unit {0}
IsGivenOf service w kind x joins = Unit {0}

-- the point gives nothing to the variable of that name by its own value: no assignment, no declaration and no foreach
abbrev pub Leaves : List ℕ → Act → Type 0
Leaves w (sets v e) = same v w ≡ false
Leaves w (goes_over v e) = same v w ≡ false
Leaves w (tests e) = Unit {0}
Leaves w (shows e rs) = Unit {0}
Leaves w (exits e) = Unit {0}
Leaves w joins = Unit {0}

-- ---- the flow

-- the points of a flow are typed
pub record IsTypedFlow (service : Service) (flow : List Step) : Type 0 where
  -- names, and what points do in them
  pub names : (p : ℕ) (x : Step) → IsAt flow p x → AreNames service x.scope
  pub acts : (p : ℕ) (x : Step) → IsAt flow p x → IsTypedAct service x.scope x.act
  -- scopes from point to point
  pub follows : (p q : ℕ) (x y : Step) → IsAt flow p x → IsAt flow q y → Among q x.next → Follows service x y
  -- what a point gives to a local in scope at a point that comes next is of its kind
  pub locals : (p q i : ℕ) (x y : Step) (l : Local) → IsAt flow p x → IsAt flow q y → Among q x.next → slice_get y.scope i ≡ Some l
      → IsGivenOf service l.name l.kind x x.act
  -- what it leaves alone is in scope with the same kind
  pub kept : (p q i : ℕ) (x y : Step) (l : Local) → IsAt flow p x → IsAt flow q y → Among q x.next → slice_get y.scope i ≡ Some l
      → Leaves l.name x.act → kind_in x.scope l.name ≡ Some l.kind
  -- and what it gives to a shared variable is of its kind
  pub shared : (p j : ℕ) (x : Step) (v : Shared) → IsAt flow p x → slice_get service.shared j ≡ Some v → IsGivenOf service v.name v.kind x x.act

-- the flow of a service that is typed is typed
abbrev pub FlowsAreTyped : Type 0
FlowsAreTyped = (service : Service) → IsWoven service → IsTypedService service → IsTypedFlow service (plan_of service).steps
