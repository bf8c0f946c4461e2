-- A part of a source that is at hand.
use Rattle.std.specs.Prelude.{◌≡◌, ◌⊎◌, ◌≤◌, ℕ, List, [], Bool, true, false, length, Option}
use Rattle.std.specs.Io.KnownBytes.{IsAtEnd}

-- a window: the bytes at hand, whether the source has ended behind them, and how many bytes there is room for
pub record Hand : Type 0 where
  pub bytes : List ℕ
  pub ended : Bool
  pub size : ℕ

-- nothing was read
abbrev pub fresh : ℕ → Hand
fresh size = record { bytes = []; ended = false; size = size }

-- so many bytes are at hand, or as many as there are
abbrev pub Holds : Hand → ℕ → Type 0
Holds hand need = (hand.ended ≡ true) ⊎ (need ≤ length hand.bytes)

-- where the window says so, the source has ended
abbrev pub KnowsEnd : Hand → Option (List ℕ) → Type 0
KnowsEnd hand left = hand.ended ≡ true → IsAtEnd left
