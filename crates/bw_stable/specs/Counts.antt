-- How many links of a door are out.
use Rattle.std.specs.Prelude.{◌≡◌, ◌+◌, ℕ, None, Some}
use Rattle.std.specs.declared.option.Option.{Option}

-- one more is out, where one came
abbrev pub CountsOut : {Link : Type 0} → ℕ → ℕ → Option Link → Type 0
CountsOut before now None = now ≡ before
CountsOut before now (Some link) = now ≡ before + 1
