-- What every service is that some bytes read as.
use Rattle.std.specs.Prelude.{◌≤◌, length, flat_map}
use Rattle.std.specs.List.{All}
use Rattle.bw_lang.specs.declared.service.Service.{Service}
use Rattle.bw_lang.specs.Service.CodeNames.{local_names}
use Rattle.bw_lang.specs.Service.Limits.{declared_fields, different}
use Rattle.bw_lang.specs.Service.Order.{declarations_of, IsWoven}
use Rattle.bw_lang.specs.Service.Reads.{IsReadable}
use Rattle.bw_lang.specs.declared.limits.TheConstants.{MAX_FIELDS, MAX_GAPS, MAX_LOCALS, MAX_SESSIONS, MAX_SHARED, MAX_TEMPLATES}

-- weaving its declarations loses none
abbrev pub ReadableIsWoven : Type 0
ReadableIsWoven = (service : Service) → ∥ IsReadable service ∥₁ → IsWoven service

-- how much a service may declare: the limits on counts
pub record IsSmall (service : Service) : Type 0 where
  pub templates : length service.templates ≤ MAX_TEMPLATES
  pub sessions : length service.sessions ≤ MAX_SESSIONS
  pub shared : length service.shared ≤ MAX_SHARED
  pub gaps : length service.gaps ≤ MAX_GAPS
  pub fields : different (flat_map declared_fields (declarations_of service)) ≤ MAX_FIELDS
  pub locals : All (λ s. length (local_names s.body) ≤ MAX_LOCALS) service.sessions

abbrev pub ReadableIsSmall : Type 0
ReadableIsSmall = (service : Service) → ∥ IsReadable service ∥₁ → IsSmall service
