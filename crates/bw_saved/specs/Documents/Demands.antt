-- Which documents may stand in a file.
use Rattle.std.specs.Prelude.{◌≡◌, ◌<◌, ◌≤◌, ◌^◌, ℕ, length, Some}
use Rattle.bw_doc.specs.Made.{Made, constant, plug, plug_text, tree, measure}
use Rattle.bw_doc.specs.Operations.{items_at, operations}
use Rattle.bw_lang.specs.declared.measure.TheConstants.{MAX_WEIGHT}
use Rattle.bw_lang.specs.declared.service.Service.{Service}
use Rattle.bw_lang.specs.Document.Documents.{count}
use Rattle.bw_lang.specs.Document.Measures.{IsWithin}
use Rattle.bw_saved.specs.Fields.Spelling.{IsText}
use Rattle.bw_types.specs.declared.fault.GapKind.TheVariants.{Content}
use Rattle.bw_types.specs.Gaps.{kind_of_number}

-- d fills the gap g of b: it is one of the service's and open in b, and d is within the measures
pub record IsPlug (service : Service) (b : Made) (g : ℕ) (d : Made) : Type 0 where
  pub known : g < length service.gaps
  pub opens : 1 ≤ count g (tree b)
  pub within : IsWithin (measure d)

-- a document's constants are templates of the service, and its plugs fill open gaps: documents fill content gaps alone
abbrev pub IsBuilt : Service → Made → Type 0
IsBuilt service (constant n items) = (n < length service.templates) × (items ≡ items_at service.templates n)
IsBuilt service (plug b g a) = IsBuilt service b × IsBuilt service a × (kind_of_number service g ≡ Some Content) × IsPlug service b g (plug b g a)
IsBuilt service (plug_text b g s) = IsBuilt service b × IsText s × IsPlug service b g (plug_text b g s)

-- a document that is built of the service and weighs no more than it may, whose number of operations fits its four bytes
pub record IsDocument (service : Service) (d : Made) : Type 0 where
  pub built : IsBuilt service d
  pub weight : (measure d).weight ≤ MAX_WEIGHT
  pub counted : length (operations d) < 2 ^ 32

-- numbers of templates and gaps fit two bytes
pub record IsSmall (service : Service) : Type 0 where
  pub templates : length service.templates ≤ 2 ^ 16
  pub gaps : length service.gaps ≤ 2 ^ 16
