-- The templates of a service are within the limits of documents.
use Rattle.std.proofs.Common.{◌≡◌, ℕ, List, subst, Some, slice_get}
use Rattle.std.specs.List.{All}
use Rattle.std.proofs.lemmas.List.Elements.{All-get_or}
use Rattle.std.proofs.lemmas.Option.{get_or_from_slice_get, slice_get_within}
use Rattle.bw_lang.specs.declared.service.Service.{Service}
use Rattle.bw_lang.specs.declared.service.Template.{Template}
use Rattle.bw_lang.specs.Document.Measures.{IsWithin, constant_measure}
use Rattle.bw_lang.specs.Service.Reads.{IsReadable}
use Rattle.bw_typed.specs.Measured.{IsMeasured}
use Rattle.bw_typed.proofs.Services.{templates_are_measured}

measured_at : (templates : List Template) (n : ℕ) (t : Template) → slice_get templates n ≡ Some t → All (λ t. IsMeasured t.items) templates → IsMeasured t.items
measured_at templates n t at all =
    subst (λ (x : Template). IsMeasured x.items) (get_or_from_slice_get templates n t t at)
    (All-get_or (λ t. IsMeasured t.items) templates n t (slice_get_within templates n t at) all)

-- the constant of a template that was read is within the limits
pub template_within : (service : Service) (n : ℕ) (t : Template) → slice_get service.templates n ≡ Some t → ∥ IsReadable service ∥₁
    → IsWithin (constant_measure t.items)
template_within service n t at readable = (measured_at service.templates n t at (templates_are_measured service readable)).within
