-- How a row of flags was changed, column by column.
use Rattle.std.specs.Prelude.{◌≡◌, ℕ, ◌+◌, ◌<◌, min, Bool, ◌||◌, ◌&&◌, List, length, slice_index_or}
use Rattle.bw_shape.specs.Rows.Rows.{flag}

-- the flags of the columns that pass the test were set
pub record Sets (old new : List Bool) (test : ℕ → Bool) : Type 0 where
  pub len : length new ≡ length old
  pub each : (c : ℕ) → c < length old → flag new c ≡ (flag old c || test c)

-- those of the columns that fail the test were cleared
pub record Clears (old new : List Bool) (test : ℕ → Bool) : Type 0 where
  pub len : length new ≡ length old
  pub each : (c : ℕ) → c < length old → flag new c ≡ (flag old c && test c)

-- each number rose by so much, where 2 stands for more too
pub record Rises (old new : List ℕ) (by : ℕ → ℕ) : Type 0 where
  pub len : length new ≡ length old
  pub each : (c : ℕ) → c < length old → min (slice_index_or new c 0) 2 ≡ min (slice_index_or old c 0 + by c) 2
