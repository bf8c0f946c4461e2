-- Worlds are covered by facts about the places of the service's own flow.
use Rattle.std.specs.Prelude.{ℕ}
use Rattle.bw_http.specs.declared.request.Request.{Request}
use Rattle.bw_lang.specs.declared.service.Service.{Service}
use Rattle.bw_lang.specs.Service.Reads.{IsReadable}
use Rattle.bw_model.specs.Sessions.{World}
use Rattle.bw_model.specs.Steps.{step}
use Rattle.bw_types.specs.Faults.{IsWellTyped}
use Rattle.bw_cover.specs.Facts.{Facts}
use Rattle.bw_cover.specs.Flows.{ObeysService}
use Rattle.bw_cover.specs.Worlds.{CoversWorld, CoversNext, CoversEmpty, CoversReached}

-- the service was read and is well typed, and the facts obey its flow
pub record AcceptsPlaces (service : Service) (f : Facts ℕ) : Type 0 where
  pub readable : ∥ IsReadable service ∥₁
  pub typed : IsWellTyped service
  pub obeys : ObeysService service f

-- the empty world is covered
abbrev pub FlowEmptyIsCovered : Type 0
FlowEmptyIsCovered = (service : Service) (f : Facts ℕ) → AcceptsPlaces service f → CoversEmpty service f

-- each request keeps a world covered, in which what comes next is covered
abbrev pub FlowStepsKeepCovering : Type 0
FlowStepsKeepCovering =
    (service : Service) (f : Facts ℕ) (w : World) (request : Request) (key : ℕ) → AcceptsPlaces service f → CoversWorld service f w →
    CoversWorld service f (step service w request key).world × CoversNext service f w

-- so every world that requests reach is covered, and what comes next
abbrev pub FlowWorldsAreCovered : Type 0
FlowWorldsAreCovered = (service : Service) (f : Facts ℕ) → AcceptsPlaces service f → CoversReached service f
