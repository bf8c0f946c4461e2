-- A world as contracts see it.
use Rattle.std.specs.Prelude.{ℕ, List, [], ◌∷◌, ◌==◌, ◌&&◌, if◌then◌else◌, Option, Some, None}
use Rattle.bw_eval.specs.declared.value.Value.{Value}
use Rattle.bw_lang.specs.declared.service.Service.{Service}
use Rattle.bw_world.specs.declared.suspended.Suspended.{Suspended}

-- the service, the shared variables, the next session's number, the number of a first turn, and the live sessions by their
-- numbers, the most recently used first
pub record Seen : Type 0 where
  pub service : Service
  pub shared : List (List ℕ × Value)
  pub next : ℕ
  pub first : ℕ
  pub live : List (ℕ × Suspended)

-- the live session of this number and key
abbrev pub found : ℕ → ℕ → List (ℕ × Suspended) → Option Suspended
found number key [] = None
found number key (x ∷ live) = if x.1.number == number && x.1.key == key then Some x.1 else found number key live
