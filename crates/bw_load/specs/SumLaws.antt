-- What is known of a saved value covers it.
use Rattle.std.specs.Prelude.{◌≡◌, ◌<◌, ◌≤◌, ◌^◌, ◌+◌, ℕ, false, true, Some, length, nat_lt}
use Rattle.bw_analyse.specs.Abstracts as abstracts
use Rattle.bw_analyse.specs.declared.abstracts.Abstract.{Abstract}
use Rattle.bw_analyse.specs.Facts.{AreFacts}
use Rattle.bw_analyse.specs.declared.facts.Facts.{Facts}
use Rattle.bw_analyse.specs.Fits.{Fits}
use Rattle.bw_cover.specs.Abstracts.{covers}
use Rattle.bw_doc.specs.Made.{Made, tree}
use Rattle.bw_eval.specs.declared.value.Value.{Value}
use Rattle.bw_eval.specs.View.{value}
use Rattle.bw_lang.specs.declared.service.Service.{Service}
use Rattle.bw_lang.specs.declared.stmt.Kind.{Kind}
use Rattle.bw_load.specs.Sums.{sum_of, known}
use Rattle.bw_saved.specs.Documents.Demands.{IsBuilt}
use Rattle.bw_saved.specs.Values.Demands.{IsValue}
use Rattle.bw_sound.specs.Found.Seen.{seen}
use Rattle.bw_strings.specs.Literals.{literals_of}
use Rattle.bw_sum.specs.Graph.{graph}
use Rattle.bw_sum.specs.Opening.{has_hole}
use Rattle.bw_sum.specs.Small.{IsWellFormed}
use Rattle.bw_sum.specs.Templates.{HasKnownGaps, template_items}
use Rattle.bw_sum.specs.Unfolding.{Covers}
use Rattle.bw_types.specs.declared.fault.GapKind.TheVariants.{Content}
use Rattle.bw_types.specs.declared.typed.Typed.{Typed}
use Rattle.bw_types.specs.Gaps.{kind_of_number}

-- The numbers of templates, gaps and literals fit 32 bits, each open gap of a template is known, and a gap that takes documents
-- stands in no attribute.
pub record IsLawful (service : Service) : Type 0 where
  pub templates : length service.templates < 2 ^ 32
  pub gaps : length service.gaps + 3 ≤ 2 ^ 32
  pub known : (n : ℕ) → HasKnownGaps (length service.gaps) (template_items service n)
  pub content : (g : ℕ) → g < length service.gaps → kind_of_number service g ≡ Some Content → (n : ℕ) → has_hole g (template_items service n) ≡ false
  pub literals : length (literals_of service) < 2 ^ 32

-- so it is with each service of which there are facts
abbrev pub TypedIsLawful : Type 0
TypedIsLawful = (t : Typed) (facts : Facts) → AreFacts t.service facts → IsLawful t.service

-- a document that is built is one of those that its summary stands for
pub record SumCovers (service : Service) (d : Made) : Type 0 where
  pub formed : IsWellFormed (sum_of service d)
  pub covers : Covers (template_items service) (λ g. nat_lt g (length service.gaps)) (graph (literals_of service) (sum_of service d)) (tree d)

abbrev pub SumsCover : Type 0
SumsCover = (service : Service) → IsLawful service → (d : Made) → IsBuilt service d → SumCovers service d

-- a value of a kind is covered by each cell of that kind that what is known of it is below
abbrev pub BelowCovers : Type 0
BelowCovers =
    (service : Service) → IsLawful service → (kind : Kind) (v : Value) (cell : Abstract) → IsValue service kind v → Fits kind cell →
    abstracts.is_below (known service v) cell ≡ true → covers service (seen service cell) (value v)
