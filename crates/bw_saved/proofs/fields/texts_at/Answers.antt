use Rattle.std.proofs.Common.{◌≡◌, ◌++◌, ◌∷◌, []}
use Rattle.std.proofs.lemmas.Result.{err_from_is_err_and}
use Rattle.bw_saved.specs.Fields.Reading.{text_at, repeated}
use Rattle.bw_saved.proofs.Loop.{goes_on, ends, is_done}
use Rattle.bw_saved.proofs.fields.texts_at.Goals as goal

pub returns-in_err-text : goal.returns-in_err-text
returns-in_err-text c =
    let p = err_from_is_err_and c.from_residual.result c.from_residual.ensures.1 in
    rw (p.1, p.2) (ends text_at c.in_err-text.field-0.0 c.loop.texts c.args.count c.loop.counter c.loop.rest.now
    (repeated text_at c.args.count c.args.bytes.now)
    c.loop-test.true c.in_err-text.ensures.exact c.loop.invariant)

pub loop-preserved : goal.loop-preserved
loop-preserved c =
    rw c.in_ok-push.ensures.ok (goes_on text_at c.loop.texts c.args.count c.loop.counter c.loop.rest.now c.in_ok-text.text c.in_ok-text.after.now
    (repeated text_at c.args.count c.args.bytes.now) c.loop-test.true c.in_ok-text.ensures.exact c.loop.invariant)

pub returns : goal.returns
returns c = is_done text_at c.loop.texts c.args.count c.loop.counter c.loop.rest.now (repeated text_at c.args.count c.args.bytes.now) c.loop-test.false
    c.loop.invariant
