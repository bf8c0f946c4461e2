use Rattle.std.proofs.Common.{sym, subst}
use Rattle.bw_analyse.specs.Pages.{HasPage}
use Rattle.bw_check.specs.Faults.{IsPageFault}
use Rattle.bw_check.proofs.Some.{of_none, of_more, of_all}
use Rattle.bw_check.proofs.pieces.judge_in_turn.Goals as goal

pub loop-place-init : goal.loop-place-init
loop-place-init g c =
    of_none (IsPageFault c.args.bench.basis.now.typed.now.service c.args.bench.basis.now.schema.now c.args.bench.facts.now)
    c.new-faults.result c.new-faults.ensures

pub judge_piece-requires-clause-page : goal.judge_piece-requires-clause-page
judge_piece-requires-clause-page g c κs k =
    subst (HasPage c.args.bench.basis.now.typed.now.service) (sym c.place-item.is)
    (c.requires.pages c.loop-place.place-index c.place-item.result c.loop-place-test.true)

pub loop-place-preserved : goal.loop-place-preserved
loop-place-preserved g c =
    of_more (IsPageFault c.args.bench.basis.now.typed.now.service c.args.bench.basis.now.schema.now c.args.bench.facts.now)
    c.args.pieces.now c.loop-place.place-index
    c.place-item.result c.loop-place.faults c.in_ok-judge_piece.field-0 c.join.new.self c.place-item.is c.loop-place-test.true
    c.in_ok-join.ensures c.loop-place.invariant c.in_ok-judge_piece.ensures

pub returns : goal.returns
returns g c =
    of_all (IsPageFault c.args.bench.basis.now.typed.now.service c.args.bench.basis.now.schema.now c.args.bench.facts.now)
    c.args.pieces.now c.loop-place.place-index
    c.loop-place.faults c.loop-place-test.false c.loop-place.invariant
