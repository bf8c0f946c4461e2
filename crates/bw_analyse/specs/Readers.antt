-- The cells whose transfers look at a cell.
use Rattle.std.specs.Prelude.{ℕ, zero, suc, ◌+◌, List, [], ◌∷◌, ◌++◌, length, filter, nat_lt, Option, Some, None, slice_get}
use Rattle.bw_lang.specs.declared.service.Service.{Service}
use Rattle.bw_flow.specs.Steps.{Step}
use Rattle.bw_flow.specs.Layout.{flow_of}

-- the numbers below n
abbrev pub all_below : ℕ → List ℕ
all_below zero = []
all_below (suc n) = all_below n ++ n ∷ []

-- at a point of a flow of n points look those that it leads to, and the shared variables; at the shared variables all
abbrev pub readers_at : ℕ → Option Step → List ℕ
readers_at n None = all_below (n + 1)
readers_at n (Some x) = filter (λ q. nat_lt q n) x.next ++ n ∷ []

abbrev pub readers_of : Service → ℕ → List ℕ
readers_of service cell = readers_at (length (flow_of service)) (slice_get (flow_of service) cell)
