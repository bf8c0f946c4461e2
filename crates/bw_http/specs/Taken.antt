-- What an intake takes from its source, where the source tells what is left.
use Rattle.std.specs.Prelude.{◌≡◌, ℕ, List, ◌++◌}
use Rattle.std.specs.declared.option.Option.{Option}
use Rattle.std.specs.Io.KnownBytes.{Consumes}

-- the bytes now held are those before and then some that the source gave
abbrev pub IsFilled : Option (List ℕ) → Option (List ℕ) → List ℕ → List ℕ → Type 0
IsFilled before after held now = (taken : List ℕ) × Consumes before after taken × (now ≡ held ++ taken)
