use Rattle.bw_diagnose.proofs.Marked.{same_marks}
use Rattle.bw_places.specs.Drafted.{drafts_of}
use Rattle.bw_questions.proofs.sight.sight_of.Goals as goal

pub returns-clause-marked : goal.returns-clause-marked
returns-clause-marked c =
    let ds = drafts_of c.in_ok-known.known.declarations.items in
    (ds, c.in_ok-known.ensures.drafts, λ f. same_marks c.args.seen.name.now c.args.seen.told.text.now ds c.in_ok-marks.marks f c.in_ok-marks.ensures)
