-- How many cells wait.
use Rattle.std.proofs.Common.{◌≡◌, ℕ, ◌+◌, ◌<◌, Bool, List, length, arith}
use Rattle.std.specs.List.{count_by}
use Rattle.std.proofs.lemmas.List.Sums.{count_by-le-length}

-- how many flags are on
abbrev pub waits : List Bool → ℕ
waits w = count_by (λ b. b) w

pub waits_few : (w v : List Bool) (cells : ℕ) → length v ≡ cells → waits v < waits w + (cells + 1)
waits_few w v cells h = omega (arith, count_by-le-length (λ b. b) v)
