use Rattle.std.proofs.Common.{◌≡◌, ◌++◌, ◌∷◌, []}
use Rattle.std.proofs.lemmas.Result.{err_from_is_err_and}
use Rattle.bw_saved.specs.Fields.Reading.{strings_at, repeated}
use Rattle.bw_saved.proofs.Loop.{goes_on, ends, is_done}
use Rattle.bw_saved.proofs.sessions.rests_at.Goals as goal

pub returns-in_err-strings : goal.returns-in_err-strings
returns-in_err-strings c =
    let p = err_from_is_err_and c.from_residual.result c.from_residual.ensures.1 in
    rw (p.1, p.2) (ends strings_at c.in_err-strings.field-0.0 c.loop.rests c.args.count c.loop.counter c.loop.rest.now
    (repeated strings_at c.args.count c.args.bytes.now)
    c.loop-test.true c.in_err-strings.ensures c.loop.invariant)

pub loop-preserved : goal.loop-preserved
loop-preserved c =
    rw c.in_ok-push.ensures.ok
    (rw c.of.ensures (goes_on strings_at c.loop.rests c.args.count c.loop.counter c.loop.rest.now c.in_ok-strings.strings c.in_ok-strings.after.now
    (repeated strings_at c.args.count c.args.bytes.now) c.loop-test.true c.in_ok-strings.ensures c.loop.invariant))

pub returns : goal.returns
returns c = is_done strings_at c.loop.rests c.args.count c.loop.counter c.loop.rest.now (repeated strings_at c.args.count c.args.bytes.now) c.loop-test.false
    c.loop.invariant
