-- The kinds of the expressions of a typed service.
use Rattle.std.specs.Prelude.{◌≡◌, Some}
use Rattle.std.specs.List.{All}
use Rattle.bw_lang.specs.declared.service.Service.{Service}
use Rattle.bw_lang.specs.declared.stmt.Kind.{Kind}
use Rattle.bw_lang.specs.declared.stmt.Kind.TheVariants.{Bool as Truth, Str, Html, Strs}
use Rattle.bw_lang.specs.Service.Code.{Code, done, declare, assign, if_then, if_else, while_loop, block, for_each, show, exit}
use Rattle.bw_lang.specs.Service.Reads.{IsReadable}
use Rattle.bw_lang.specs.Service.Term.{Term}
use Rattle.bw_types.specs.ExpressionFaults.{kind_of}
use Rattle.bw_types.specs.Faults.{IsWellTyped}
use Rattle.bw_types.specs.Scopes.{Scope, no_locals, variable_kind, with_local, scope_behind, behind_each}
use Rattle.bw_types.specs.Typing.{HasKind, IsTypedSession}

-- what has a kind has the one that is found for it
abbrev pub KindIsOne : Type 0
KindIsOne = (service : Service) (scope : Scope) (e : Term) (kind : Kind) → HasKind service scope e kind → kind_of service scope e ≡ Some kind

-- so it has no other
abbrev pub KindsAgree : Type 0
KindsAgree = (service : Service) (scope : Scope) (e : Term) (a b : Kind) → HasKind service scope e a → HasKind service scope e b → a ≡ b

-- The kind that is found for each expression is the one that its use demands: of a test a truth value, of a page a
-- document, of a foreach a list, and of a value its variable's kind.
abbrev pub MeetsKinds : Service → Scope → Code → Type 0
MeetsKinds service scope done = Unit {0}
MeetsKinds service scope (declare kind w e rest) = (kind_of service scope e ≡ Some kind) × MeetsKinds service (with_local scope w kind) rest
MeetsKinds service scope (assign w e rest) =
    ((kind : Kind) × (variable_kind service scope w ≡ Some kind) × (kind_of service scope e ≡ Some kind)) × MeetsKinds service scope rest
MeetsKinds service scope (if_then t y rest) =
    (kind_of service scope t ≡ Some Truth) × MeetsKinds service scope y × MeetsKinds service (scope_behind scope y) rest
MeetsKinds service scope (if_else t y n rest) =
    (kind_of service scope t ≡ Some Truth) × MeetsKinds service scope y × MeetsKinds service (scope_behind scope y) n
    × MeetsKinds service (scope_behind (scope_behind scope y) n) rest
MeetsKinds service scope (while_loop t b rest) =
    (kind_of service scope t ≡ Some Truth) × MeetsKinds service scope b × MeetsKinds service (scope_behind scope b) rest
MeetsKinds service scope (block b rest) = MeetsKinds service scope b × MeetsKinds service (scope_behind scope b) rest
MeetsKinds service scope (for_each w e b rest) =
    (kind_of service scope e ≡ Some Strs) × MeetsKinds service (with_local scope w Str) b × MeetsKinds service (behind_each scope w b) rest
MeetsKinds service scope (show p rs rest) = (kind_of service scope p ≡ Some Html) × MeetsKinds service scope rest
MeetsKinds service scope (exit p rest) = (kind_of service scope p ≡ Some Html) × MeetsKinds service scope rest

-- the sessions of a service that is well typed are typed
abbrev pub SessionsAreTyped : Type 0
SessionsAreTyped = (service : Service) → ∥ IsReadable service ∥₁ → IsWellTyped service → All (IsTypedSession service) service.sessions

-- and their expressions have the kinds that are demanded
abbrev pub KindsAreMet : Type 0
KindsAreMet = (service : Service) → ∥ IsReadable service ∥₁ → IsWellTyped service → All (λ s. MeetsKinds service no_locals s.body) service.sessions
