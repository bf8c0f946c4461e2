-- What holds of the flow of each service that `resolve` answers.
use Rattle.std.specs.Prelude.{◌≡◌, ◌<◌, ℕ, [], Some, length, slice_get}
use Rattle.std.specs.List.{All}
use Rattle.bw_types.specs.declared.typed.Typed.{Typed}
use Rattle.bw_flow.specs.Layout.{plan_of}
use Rattle.bw_flow.specs.Places.{Among}
use Rattle.bw_flow.specs.Scoped.{IsScoped}
use Rattle.bw_flow.specs.Stands.{IsAt}
use Rattle.bw_flow.specs.Steps.{Step}
use Rattle.bw_flow.specs.TypedFlow.{IsTypedFlow}

-- its points are typed
abbrev pub PointsAreTyped : Type 0
PointsAreTyped = (typed : Typed) → IsTypedFlow typed.service (plan_of typed.service).steps

-- its names are declared once, and before they are used
abbrev pub NamesAreScoped : Type 0
NamesAreScoped = (typed : Typed) → All (λ s. IsScoped typed.service s.body []) typed.service.sessions

-- each point that comes next stands in it
abbrev pub NextsAreInside : Type 0
NextsAreInside =
    (typed : Typed) (p q : ℕ) (x : Step) → let plan = plan_of typed.service in IsAt plan.steps p x → Among q x.next → q < length plan.steps

-- and each first point
abbrev pub FirstsAreInside : Type 0
FirstsAreInside = (typed : Typed) (k q : ℕ) → let plan = plan_of typed.service in slice_get plan.firsts k ≡ Some q → q < length plan.steps
