use Rattle.std.proofs.Common.{arith}
use Rattle.bw_load.proofs.Lawful.{typed_is_small}
use Rattle.bw_save.proofs.Fits.{shared_fit, sessions_fit, told_light}
use Rattle.bw_save.proofs.Saved.{written, loads_again}
use Rattle.bw_saved.specs.Sessions.Weights.{total_weight}
use Rattle.bw_save.proofs.saving.save.Goals as goal

pub put_file-requires-clause-few : goal.put_file-requires-clause-few
put_file-requires-clause-few c = omega (arith, c.requires.written.few)

pub put_file-requires-clause-shared : goal.put_file-requires-clause-shared
put_file-requires-clause-shared c =
    let t = c.args.checked.now.typed in
    shared_fit t.service (typed_is_small t) c.args.saved.now c.requires.written.filled
    (told_light (total_weight c.args.saved.now) c.total_weight-weight.result c.total_weight-weight.ensures c.if-weight-gt-MAX_SAVED_WEIGHT.false)

pub put_file-requires-clause-sessions : goal.put_file-requires-clause-sessions
put_file-requires-clause-sessions c =
    let t = c.args.checked.now.typed in
    sessions_fit t.service (typed_is_small t) c.args.saved.now c.requires.written.sessions c.requires.written.filled
    (told_light (total_weight c.args.saved.now) c.total_weight-weight.result c.total_weight-weight.ensures c.if-weight-gt-MAX_SAVED_WEIGHT.false)

pub returns-clause-file : goal.returns-clause-file
returns-clause-file c =
    written c.args.checked.now.typed c.flow.result.now c.args.checked.now.flow c.args.text.now c.new-out.result.items c.put_file.new.out.items
    c.args.saved.now c.flow.ensures c.args.checked.now.lowered c.new-out.ensures.items c.in_ok-put_file.ensures

pub returns-clause-light : goal.returns-clause-light
returns-clause-light c =
    told_light (total_weight c.args.saved.now) c.total_weight-weight.result c.total_weight-weight.ensures c.if-weight-gt-MAX_SAVED_WEIGHT.false

pub returns-clause-loads : goal.returns-clause-loads
returns-clause-loads c =
    loads_again c.saved_is_loaded.ensures c.args.checked.now.typed c.args.checked.now.facts c.args.text.now c.put_file.new.out.items c.args.saved.now
    (written c.args.checked.now.typed c.flow.result.now c.args.checked.now.flow c.args.text.now c.new-out.result.items c.put_file.new.out.items
    c.args.saved.now c.flow.ensures c.args.checked.now.lowered c.new-out.ensures.items c.in_ok-put_file.ensures)
    c.requires.text (told_light (total_weight c.args.saved.now) c.total_weight-weight.result c.total_weight-weight.ensures c.if-weight-gt-MAX_SAVED_WEIGHT.false)
