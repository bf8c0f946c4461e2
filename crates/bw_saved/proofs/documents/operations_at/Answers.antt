use Rattle.std.proofs.Common.{◌≡◌, ◌∙◌, [], ap}
use Rattle.std.proofs.lemmas.Result.{err_from_is_err_and}
use Rattle.bw_saved.specs.Documents.Reading.{operations_at}
use Rattle.bw_saved.proofs.DocumentLaws.{loop_ends, loop_goes_on, loop_is_done}
use Rattle.bw_saved.proofs.documents.operations_at.Goals as goal

pub returns-in_err-rest : goal.returns-in_err-rest
returns-in_err-rest c =
    let p = err_from_is_err_and c.from_residual.result c.from_residual.ensures.1 in
    rw (p.1, p.2) (loop_ends c.args.typed.now.service c.in_err-rest.field-0.0 c.args.count c.loop.counter c.loop.stack c.loop.rest.now
    (operations_at c.args.typed.now.service c.args.count [] c.args.bytes.now) c.loop-test.true c.in_err-rest.ensures c.loop.invariant)

pub loop-preserved : goal.loop-preserved
loop-preserved c =
    loop_goes_on c.args.typed.now.service c.args.count c.loop.counter c.loop.stack c.loop.rest.now c.operation_at.new.stack c.in_ok-rest.rest.now
    (operations_at c.args.typed.now.service c.args.count [] c.args.bytes.now) c.loop-test.true c.in_ok-rest.ensures c.loop.invariant

pub returns-in-Some : goal.returns-in-Some
returns-in-Some c =
    loop_is_done c.args.typed.now.service c.args.count c.loop.counter c.loop.stack c.loop.rest.now
    (operations_at c.args.typed.now.service c.args.count [] c.args.bytes.now) c.loop-test.false c.loop.invariant ∙ c.in-Some.ensures c.loop.rest.now

pub returns-in-None : goal.returns-in-None
returns-in-None c =
    loop_is_done c.args.typed.now.service c.args.count c.loop.counter c.loop.stack c.loop.rest.now
    (operations_at c.args.typed.now.service c.args.count [] c.args.bytes.now) c.loop-test.false c.loop.invariant ∙ c.in-None.ensures c.loop.rest.now
