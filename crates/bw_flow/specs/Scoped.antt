-- Services whose names are declared once, and before they are used.
use Rattle.std.specs.Prelude.{◌≡◌, Bool, true, false, ℕ, List, [], is_some}
use Rattle.std.specs.List.{All}
use Rattle.std.specs.Option.{option_or}
use Rattle.bw_lang.specs.declared.service.Service.{Service}
use Rattle.bw_lang.specs.declared.stmt.Kind.TheVariants as kinds
use Rattle.bw_lang.specs.Service.Code.{Code, done, declare, assign, if_then, if_else, while_loop, block, for_each, show, exit}
use Rattle.bw_types.specs.Scopes.{shared_kind}
use Rattle.bw_types.specs.Typing.{IsTypedService}
use Rattle.bw_flow.specs.declared.point.Local.{Local}
use Rattle.bw_flow.specs.Scopes.{kind_in, with_local}
use Rattle.bw_lang.specs.Service.Order.{IsWoven}

-- whether the name is that of a local in scope or of a shared variable
abbrev pub is_known : Service → List Local → List ℕ → Bool
is_known service scope w = is_some (option_or (kind_in scope w) (shared_kind service w))

-- With these locals in scope in front of the statements: what is declared is no local in scope and no shared variable,
-- and what is assigned is one.
abbrev pub IsScoped : Service → Code → List Local → Type 0
IsScoped service done scope = Unit {0}
IsScoped service (declare k w e rest) scope = (is_known service scope w ≡ false) × IsScoped service rest (with_local scope w k)
IsScoped service (assign w e rest) scope = (is_known service scope w ≡ true) × IsScoped service rest scope
IsScoped service (if_then e y rest) scope = IsScoped service y scope × IsScoped service rest scope
IsScoped service (if_else e y o rest) scope = IsScoped service y scope × IsScoped service o scope × IsScoped service rest scope
IsScoped service (while_loop e b rest) scope = IsScoped service b scope × IsScoped service rest scope
IsScoped service (block b rest) scope = IsScoped service b scope × IsScoped service rest scope
IsScoped service (for_each w e b rest) scope =
    (is_known service scope w ≡ false) × IsScoped service b (with_local scope w kinds.Str) × IsScoped service rest scope
IsScoped service (show p rs rest) scope = IsScoped service rest scope
IsScoped service (exit p rest) scope = IsScoped service rest scope

-- the sessions of a service that is typed are so
abbrev pub TypedIsScoped : Type 0
TypedIsScoped = (service : Service) → IsWoven service → IsTypedService service → All (λ s. IsScoped service s.body []) service.sessions
