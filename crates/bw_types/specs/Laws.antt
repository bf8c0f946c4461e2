-- Laws of names and kinds.
use Rattle.std.specs.Prelude.{◌≡◌, ◌≢◌, ◌⊎◌, Some}
use Rattle.std.specs.List.{All, AllPairs, Contains}
use Rattle.bw_lang.specs.declared.service.Service.{Service}
use Rattle.bw_lang.specs.Service.CodeNames.{local_names}
use Rattle.bw_lang.specs.Service.Reads.{IsReadable}
use Rattle.bw_types.specs.declared.fault.TypeFault.{TypeFault}
use Rattle.bw_types.specs.Faults.{IsWellTyped, first_fault}
use Rattle.bw_types.specs.Scopes.{declared_names}
use Rattle.bw_types.specs.Typing.{IsTypedService}

-- a service in which no test fails is typed
abbrev pub WellTypedIsTyped : Type 0
WellTypedIsTyped = (service : Service) → ∥ IsReadable service ∥₁ → IsWellTyped service → IsTypedService service

-- in a service that is typed no test fails
abbrev pub TypedIsWellTyped : Type 0
TypedIsWellTyped = (service : Service) → ∥ IsReadable service ∥₁ → IsTypedService service → IsWellTyped service

-- the locals of one session have names of their own, which no declaration of the service has
abbrev pub LocalsDiffer : Type 0
LocalsDiffer = (service : Service) → ∥ IsReadable service ∥₁ → IsWellTyped service
    → All (λ s. AllPairs (λ v w. v ≢ w) (local_names s.body) × All (λ w. ¬ (Contains (declared_names service) w)) (local_names s.body)) service.sessions

-- a service is well typed, or there is a first fault
abbrev pub AnswersOne : Type 0
AnswersOne = (service : Service) → IsWellTyped service ⊎ ((fault : TypeFault) × (first_fault service ≡ Some fault))

-- and not both
abbrev pub NotBoth : Type 0
NotBoth = (service : Service) (fault : TypeFault) → IsWellTyped service → first_fault service ≡ Some fault → ⊥
