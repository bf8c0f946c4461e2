use Rattle.std.proofs.Common.{◌≡◌, ◌++◌, ◌∷◌, []}
use Rattle.std.proofs.lemmas.Result.{err_from_is_err_and}
use Rattle.bw_saved.specs.Fields.Reading.{repeated}
use Rattle.bw_saved.specs.Sessions.Reading.{session_at}
use Rattle.bw_saved.proofs.Loop.{goes_on, ends, is_done}
use Rattle.bw_saved.proofs.sessions.sessions_at.Goals as goal

pub returns-in_err-record : goal.returns-in_err-record
returns-in_err-record c =
    let p = err_from_is_err_and c.from_residual.result c.from_residual.ensures.1 in
    rw (p.1, p.2) (ends (session_at c.args.typed.now.service c.args.flow.now c.args.next) c.in_err-record.field-0.0 c.loop.records c.args.count c.loop.counter
    c.loop.rest.now (repeated (session_at c.args.typed.now.service c.args.flow.now c.args.next) c.args.count c.args.bytes.now)
    c.loop-test.true c.in_err-record.ensures c.loop.invariant)

pub loop-preserved : goal.loop-preserved
loop-preserved c =
    rw c.in_ok-push.ensures.ok
    (goes_on (session_at c.args.typed.now.service c.args.flow.now c.args.next) c.loop.records c.args.count c.loop.counter c.loop.rest.now
    c.in_ok-record.record c.in_ok-record.after.now
    (repeated (session_at c.args.typed.now.service c.args.flow.now c.args.next) c.args.count c.args.bytes.now) c.loop-test.true c.in_ok-record.ensures
    c.loop.invariant)

pub returns : goal.returns
returns c = is_done (session_at c.args.typed.now.service c.args.flow.now c.args.next) c.loop.records c.args.count c.loop.counter c.loop.rest.now
    (repeated (session_at c.args.typed.now.service c.args.flow.now c.args.next) c.args.count c.args.bytes.now) c.loop-test.false c.loop.invariant
