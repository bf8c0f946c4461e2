use Rattle.std.proofs.Common.{◌≡◌, ◌∙◌, ap, arith, length, sym}
use Rattle.bw_recall.proofs.Begun.{taken_few}
use Rattle.bw_recall.proofs.starting.take_saved.Goals as goal

pub returns-in-Ok-clause-mark : goal.returns-in-Ok-clause-mark
returns-in-Ok-clause-mark c =
    let found = c.in-Some.found in
    let few = taken_few c.args.start.sum found.sum c.bytes.result.now found.saved.now found.rest.now c.in-Some.ensures in
    let same : length c.bytes-in-Some.result.now ≡ length c.bytes.result.now = ap length (c.bytes-in-Some.ensures.value ∙ sym c.bytes.ensures.value) in
    omega (arith, few.1, same, c.requires)
