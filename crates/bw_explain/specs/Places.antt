-- The elements of templates by their places.
use Rattle.std.specs.Prelude.{ℕ}
use Rattle.bw_lang.specs.declared.items.Element.{Element}
use Rattle.bw_lang.specs.Document.Forest.{Forest}
use Rattle.bw_judge.specs.Faults.{At}

-- the element stands at that place
abbrev pub IsThere : Forest → ℕ → Element → Type 0
IsThere t k e = At t k e.tag e.attrs e.items
