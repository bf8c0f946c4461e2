-- A flow in the making.
use Rattle.std.specs.Prelude.{ℕ, zero, suc, ◌+◌, List, [], ◌∷◌, ◌++◌, length}
use Rattle.bw_lang.specs.Service.Code.{Code, numbered}
use Rattle.bw_lang.specs.declared.service.Service.{Service}
use Rattle.bw_flow.specs.declared.point.Local.{Local}
use Rattle.bw_flow.specs.Steps.{Act, Step}
use Rattle.bw_flow.specs.Layout.{step, steps, after}

-- the points so far, the number of the next statement, and the locals in scope in front of it
pub record Drawn : Type 0 where
  pub steps : List Step
  pub number : ℕ
  pub scope : List Local

-- no point yet
abbrev pub empty : Drawn
empty = record { steps = []; number = 1; scope = [] }

-- with one point more
abbrev pub with_step : Drawn → Step → Drawn
with_step d x = record d { steps = d.steps ++ x ∷ [] }

-- the point of the next statement
abbrev pub with_statement : Drawn → ℕ → Act → List ℕ → Drawn
with_statement d inside act next = record { steps = d.steps ++ step d.number d.scope inside act next ∷ []; number = d.number + 1; scope = d.scope }

-- with the points of statements, which lead to place q at their end
unfoldable pub with_code : Service → Drawn → Code → ℕ → ℕ → Drawn
with_code service d c inside q = record {
  steps = d.steps ++ steps service c d.number d.scope inside (length d.steps) q;
  number = d.number + numbered c;
  scope =
      after c d.scope;
}

-- with those of a block, whose locals are out of scope behind it
abbrev pub with_block : Service → Drawn → Code → ℕ → ℕ → Drawn
with_block service d c inside q = record (with_code service d c inside q) { scope = d.scope }

-- the place where something of so many points from place p on begins, with q behind it
abbrev pub first_of : (points place behind : ℕ) → ℕ
first_of zero p q = q
first_of (suc n) p q = p
