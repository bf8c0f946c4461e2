-- What a show receives: by the statements, with the kinds of its targets, and by the flow.
use Rattle.std.specs.Prelude.{◌≡◌, ℕ, ◌+◌, ◌==◌, ◌≤◌, ◌<◌, if◌then◌else◌, List, [], ◌++◌}
use Rattle.bw_lang.specs.declared.service.Service.{Service}
use Rattle.bw_lang.specs.declared.stmt.Kind.TheVariants as kinds
use Rattle.bw_lang.specs.Service.Code.{Code, done, declare, assign, if_then, if_else, while_loop, block, for_each, show, exit, numbered}
use Rattle.bw_lang.specs.Service.Numbers.{first_number}
use Rattle.bw_lang.specs.Service.Term.{Term}
use Rattle.bw_meaning.specs.GoOn.{body_of}
use Rattle.bw_flow.specs.declared.point.Local.{Local}
use Rattle.bw_flow.specs.declared.point.Received.{Received}
use Rattle.bw_flow.specs.Layout.{plan_of, receives}
use Rattle.bw_flow.specs.Scopes.{with_local}
use Rattle.bw_flow.specs.Stands.{IsAt}
use Rattle.bw_flow.specs.Steps.{Step, shows}
use Rattle.bw_model.specs.Received.{receives_of}

-- the locals in scope at the show of number k, among statements of which the first has number n and these locals in scope
abbrev pub scope_at : Code → ℕ → List Local → ℕ → List Local
scope_at done n scope k = []
scope_at (declare kind w e rest) n scope k = scope_at rest (n + 1) (with_local scope w kind) k
scope_at (assign w e rest) n scope k = scope_at rest (n + 1) scope k
scope_at (if_then t y rest) n scope k = scope_at y (n + 1) scope k ++ scope_at rest (n + 1 + numbered y) scope k
scope_at (if_else t y z rest) n scope k =
    scope_at y (n + 1) scope k ++ (scope_at z (n + 1 + numbered y) scope k ++ scope_at rest (n + 1 + numbered y + numbered z) scope k)
scope_at (while_loop t b rest) n scope k = scope_at b (n + 1) scope k ++ scope_at rest (n + 1 + numbered b) scope k
scope_at (block b rest) n scope k = scope_at b n scope k ++ scope_at rest (n + numbered b) scope k
scope_at (for_each w e b rest) n scope k =
    scope_at b (n + 1) (with_local scope w kinds.Str) k ++ scope_at rest (n + 1 + numbered b) scope k
scope_at (show p rs rest) n scope k = (if n == k then scope else []) ++ scope_at rest (n + 1) scope k
scope_at (exit p rest) n scope k = scope_at rest (n + 1) scope k

-- the locals in scope at a show of a session
abbrev pub scope_of : Service → ℕ → ℕ → List Local
scope_of service session at = scope_at (body_of service session) (first_number service session) [] at

-- what that show receives, as the world's meaning has it, with the kinds of the targets
abbrev pub received_of : Service → ℕ → ℕ → List Received
received_of service session at = receives service (scope_of service session at) (receives_of service session at)

-- What a show of the flow receives is what the statement of its number receives, in whichever session that stands.
abbrev pub ShowsReceive : Type 0
ShowsReceive =
    (service : Service) (session p : ℕ) (x : Step) (e : Term) (rs : List Received) → IsAt (plan_of service).steps p x → x.act ≡ shows e rs →
    first_number service session ≤ x.number → x.number < first_number service session + numbered (body_of service session) →
    rs ≡ received_of service session x.number
