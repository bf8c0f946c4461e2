-- The system of each service that is typed is lawful.
use Rattle.std.specs.Prelude.{◌^◌, ◌<◌, List, length}
use Rattle.std.proofs.Common.{arith}
use Rattle.bw_lang.proofs.Small.{readable_is_small, readable_is_woven}
use Rattle.bw_solve.specs.System.{IsSystem}
use Rattle.bw_strings.specs.Literals.{literals_of}
use Rattle.bw_types.specs.declared.typed.Typed.{Typed}
use Rattle.bw_types.proofs.WellTyped.{typed}
use Rattle.bw_typed.proofs.Named.{shared_begin}
use Rattle.bw_flow.proofs.Names.{shared_is}
use Rattle.bw_flow.proofs.OfTyped.{points_are_typed}
use Rattle.bw_analyse.specs.declared.abstracts.Abstract.{Abstract}
use Rattle.bw_analyse.specs.Abstracts.{AreAlike, is_below, rank_of}
use Rattle.bw_analyse.specs.Fits.{FitsCell, rank_bound}
use Rattle.bw_flow.specs.Layout.{flow_of}
use Rattle.bw_analyse.specs.Least.{rows}
use Rattle.bw_analyse.specs.Readers.{readers_of}
use Rattle.bw_analyse.specs.Rounds.{empty, round}
use Rattle.bw_analyse.specs.Rows.{EachAlike, each_below, all_sizes}
use Rattle.bw_analyse.specs.Lawful.StepLaws.{HasFew}
use Rattle.bw_analyse.specs.Lawful.SystemLaws.{service_system}

pub few_of : (t : Typed) → length (literals_of t.service) < 2 ^ 32 → HasFew t.service
few_of t l = let s = readable_is_small t.service t.readable in
    record { templates = omega (arith, s.templates); gaps = omega (arith, s.gaps); literals = l }

pub typed_system : (t : Typed) → length (literals_of t.service) < 2 ^ 32
    → IsSystem {V = List Abstract} (EachAlike AreAlike) (each_below is_below) (all_sizes rank_of) (rows t.service) (FitsCell t.service) (rank_bound t.service)
    (empty t.service (flow_of t.service)) (readers_of t.service) (round t.service (flow_of t.service))
typed_system t l =
    let woven = readable_is_woven t.service t.readable in
    service_system t.service (few_of t l) (points_are_typed t) (shared_begin t.service t.readable t.well_typed)
    (shared_is t.service woven (typed t.service woven t.well_typed))
