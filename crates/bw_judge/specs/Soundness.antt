-- What the absence of faults means.
use Rattle.std.specs.Prelude.{◌≡◌, ℕ, Bool, true, List}
use Rattle.bw_lang.specs.declared.items.Attr.{Attr}
use Rattle.bw_lang.specs.Document.Forest.{Forest}
use Rattle.bw_lang.specs.Document.Documents.{close}
use Rattle.bw_schema.specs.declared.schema.Schema.{Schema}
use Rattle.bw_schema.specs.Needs.{Needs}
use Rattle.bw_schema.specs.Validity.{Valid, holds}
use Rattle.bw_faults.specs.declared.fault.Fault.{Fault}
use Rattle.bw_sum.specs.Graph.{Graph}
use Rattle.bw_sum.specs.Unfolding.{FillsAttrs, Fills, Unfolds}
use Rattle.bw_judge.specs.Faults.{Sure, IsFault}
use Rattle.bw_judge.specs.Pages.{IsWrapper}

-- a formula that is sure holds in each unfolding
abbrev pub SureHolds : Type 0
SureHolds = (templates : ℕ → Forest) (G : Graph) (n : ℕ) (a b : List Attr) (i j : Forest) → FillsAttrs G n a b → Fills templates G n i j
    → (all : Bool) (needs : Needs) → Sure templates G n a i all needs → holds all needs b j ≡ true

-- without faults each unfolding, closed, is valid
abbrev pub NoFaultIsValid : Type 0
NoFaultIsValid = (templates : ℕ → Forest) (G : Graph) (root : ℕ) (s : Schema) (point : ℕ) → IsWrapper (templates root)
    → ((f : Fault) → IsFault templates G root s point f → ⊥) → (d : Forest) → Unfolds templates G root d → Valid s (close d)
