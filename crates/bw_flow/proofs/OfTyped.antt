-- What holds of the flow of each service that `resolve` answers.
use Rattle.std.proofs.Common.{◌≡◌, true}
use Rattle.std.specs.List.{All}
use Rattle.std.proofs.lemmas.List.Elements.{All-weaker}
use Rattle.bw_lang.proofs.Small.{readable_is_woven}
use Rattle.bw_lang.specs.Service.Order.{IsWoven}
use Rattle.bw_types.specs.declared.typed.Typed.{Typed}
use Rattle.bw_types.specs.Faults.{ends_in_exit}
use Rattle.bw_types.specs.Typing.{IsTypedService, IsTypedSession}
use Rattle.bw_types.proofs.WellTyped.{typed as typed_from}
use Rattle.bw_flow.specs.OfTyped.{PointsAreTyped, NamesAreScoped, NextsAreInside, FirstsAreInside}
use Rattle.bw_flow.proofs.Given.{flows_are_typed}
use Rattle.bw_flow.proofs.Scoped.{typed_is_scoped}
use Rattle.bw_flow.proofs.Shut.{is_shut}

woven : (t : Typed) → IsWoven t.service
woven t = readable_is_woven t.service t.readable

is_typed : (t : Typed) → IsTypedService t.service
is_typed t = typed_from t.service (woven t) t.well_typed

all_end : (t : Typed) → All (λ s. ends_in_exit s.body ≡ true) t.service.sessions
all_end t = All-weaker (IsTypedSession t.service) (λ s. ends_in_exit s.body ≡ true) (λ s h. h.1) t.service.sessions (is_typed t).sessions

pub points_are_typed : PointsAreTyped
points_are_typed t = flows_are_typed t.service (woven t) (is_typed t)

pub names_are_scoped : NamesAreScoped
names_are_scoped t = typed_is_scoped t.service (woven t) (is_typed t)

pub nexts_are_inside : NextsAreInside
nexts_are_inside t = (is_shut t.service (all_end t)).0

pub firsts_are_inside : FirstsAreInside
firsts_are_inside t = (is_shut t.service (all_end t)).1
