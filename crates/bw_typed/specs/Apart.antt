-- The names of locals in a typed service, at each place of its sessions.
use Rattle.std.specs.Prelude.{◌≢◌, ℕ, List, [], ◌++◌, map}
use Rattle.std.specs.List.{All, AllPairs, Contains}
use Rattle.bw_lang.specs.declared.service.Service.{Service}
use Rattle.bw_lang.specs.declared.stmt.Kind.TheVariants.{Str}
use Rattle.bw_lang.specs.Service.Code.{Code, done, declare, assign, if_then, if_else, while_loop, block, for_each, show, exit}
use Rattle.bw_lang.specs.Service.CodeNames.{local_names}
use Rattle.bw_lang.specs.Service.Reads.{IsReadable}
use Rattle.bw_types.specs.Faults.{IsWellTyped}
use Rattle.bw_types.specs.Scopes.{Scope, no_locals, declared_names, with_local, scope_behind, behind_each}

-- the names of the locals in scope, the newest first
abbrev pub names_in : Scope → List (List ℕ)
names_in scope = map (λ x. x.0) scope.locals

-- In front of these statements, behind which the session declares these names more: the locals in scope have names that
-- differ, that no declaration of the service has, and that the session declares nowhere from here on.
pub record IsApart (service : Service) (scope : Scope) (c : Code) (more : List (List ℕ)) : Type 0 where
  pub differ : AllPairs (λ v w. v ≢ w) (names_in scope)
  pub undeclared : All (λ w. ¬ (Contains (declared_names service) w)) (names_in scope)
  pub later : All (λ w. ¬ (Contains (local_names c ++ more) w)) (names_in scope)

-- so it is in front of each of the statements, at all levels
abbrev pub AreApart : Service → Scope → Code → List (List ℕ) → Type 0
AreApart service scope done more = IsApart service scope done more
AreApart service scope (declare kind w e rest) more =
    IsApart service scope (declare kind w e rest) more × AreApart service (with_local scope w kind) rest more
AreApart service scope (assign w e rest) more = IsApart service scope (assign w e rest) more × AreApart service scope rest more
AreApart service scope (if_then t y rest) more =
    IsApart service scope (if_then t y rest) more × AreApart service scope y (local_names rest ++ more) × AreApart service (scope_behind scope y) rest more
AreApart service scope (if_else t y n rest) more =
    IsApart service scope (if_else t y n rest) more × AreApart service scope y (local_names n ++ (local_names rest ++ more))
    × AreApart service (scope_behind scope y) n (local_names rest ++ more) × AreApart service (scope_behind (scope_behind scope y) n) rest more
AreApart service scope (while_loop t b rest) more =
    IsApart service scope (while_loop t b rest) more × AreApart service scope b (local_names rest ++ more) × AreApart service (scope_behind scope b) rest more
AreApart service scope (block b rest) more =
    IsApart service scope (block b rest) more × AreApart service scope b (local_names rest ++ more) × AreApart service (scope_behind scope b) rest more
AreApart service scope (for_each w e b rest) more =
    IsApart service scope (for_each w e b rest) more × AreApart service (with_local scope w Str) b (local_names rest ++ more)
    × AreApart service (behind_each scope w b) rest more
AreApart service scope (show p rs rest) more = IsApart service scope (show p rs rest) more × AreApart service scope rest more
AreApart service scope (exit p rest) more = IsApart service scope (exit p rest) more × AreApart service scope rest more

-- so it is with each session of a service that is well typed
abbrev pub LocalsAreApart : Type 0
LocalsAreApart = (service : Service) → ∥ IsReadable service ∥₁ → IsWellTyped service → All (λ s. AreApart service no_locals s.body []) service.sessions
