-- What is checked of pieces before items are built.
-- It only follows the steps of the code: nothing is promised by it.
use Rattle.std.specs.Prelude.{◌≡◌, ◌≤◌, ◌<◌, ℕ, true, false, List, Some, None}
use Rattle.bw_lang.specs.declared.pieces.Piece.{Piece}
use Rattle.bw_tmpl.specs.declared.fault.TmplFault.{TmplFault}
use Rattle.bw_tmpl.specs.declared.fault.TmplFault.TheVariants as fault
use Rattle.bw_lang.specs.Template.RepeatedAttributes.{repeats}
use Rattle.bw_tmpl.specs.Nesting.{depth}

-- the pieces only want building
abbrev pub Passes : ℕ → List Piece → Type 0
Passes most ps = (repeats ps ≡ false) × ((n : ℕ) × (depth ps ≡ Some n) × (n ≤ most))

-- why they can't be built
abbrev pub Fails : ℕ → List Piece → TmplFault → Type 0
Fails most ps fault.Malformed = ⊥
Fails most ps fault.RepeatedAttribute = repeats ps ≡ true
Fails most ps fault.Mismatched = (repeats ps ≡ false) × (depth ps ≡ None)
Fails most ps fault.Nesting = (repeats ps ≡ false) × ((n : ℕ) × (depth ps ≡ Some n) × (most < n))
Fails most ps fault.Memory = Unit {0}
