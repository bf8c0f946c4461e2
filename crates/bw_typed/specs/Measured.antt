-- The measures of the templates of a service that was read.
use Rattle.std.specs.Prelude.{◌≤◌}
use Rattle.std.specs.List.{All}
use Rattle.bw_lang.specs.declared.service.Service.{Service}
use Rattle.bw_lang.specs.Document.Forest.{Forest}
use Rattle.bw_lang.specs.Document.Measures.{constant_weight, constant_measure, nest, IsWithin}
use Rattle.bw_lang.specs.Service.Reads.{IsReadable}
use Rattle.bw_lang.specs.declared.limits.TheConstants.{MAX_TEMPLATE_NEST, MAX_TEMPLATE_WEIGHT}

-- the constant of these items is small, and so within the limits of documents
pub record IsMeasured (items : Forest) : Type 0 where
  pub weight : constant_weight items ≤ MAX_TEMPLATE_WEIGHT
  pub nest : nest items ≤ MAX_TEMPLATE_NEST
  pub within : IsWithin (constant_measure items)

abbrev pub TemplatesAreMeasured : Type 0
TemplatesAreMeasured = (service : Service) → ∥ IsReadable service ∥₁ → All (λ t. IsMeasured t.items) service.templates
