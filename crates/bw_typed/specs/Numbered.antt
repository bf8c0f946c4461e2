-- The gaps of the templates of a service that was read.
use Rattle.std.specs.Prelude.{◌<◌, ℕ, List, length, map}
use Rattle.std.specs.List.{All, Contains}
use Rattle.bw_lang.specs.declared.service.Service.{Service}
use Rattle.bw_lang.specs.Service.Reads.{IsReadable}
use Rattle.bw_types.specs.declared.fault.GapKind.{GapKind}
use Rattle.bw_types.specs.Gaps.{gap_uses, template_uses}

-- the numbers of gaps that are used
abbrev pub numbers : List (ℕ × GapKind) → List ℕ
numbers uses = map (λ x. x.0) uses

-- each gap that stands in a template has a number of the table of gaps
abbrev pub GapsAreNumbered : Type 0
GapsAreNumbered = (service : Service) → ∥ IsReadable service ∥₁ → All (λ t. All (λ x. x.0 < length service.gaps) (gap_uses t.items)) service.templates

-- each number of the table stands in some template
abbrev pub NumbersAreGaps : Type 0
NumbersAreGaps = (service : Service) → ∥ IsReadable service ∥₁ → (g : ℕ) → g < length service.gaps → Contains (numbers (template_uses service.templates)) g
