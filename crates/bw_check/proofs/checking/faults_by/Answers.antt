use Rattle.std.proofs.Common.{ap, ◌∙◌}
use Rattle.std.proofs.lemmas.Result.{IfOk-weaker}
use Rattle.bw_check.specs.Pieces.{pages_from}
use Rattle.bw_check.proofs.PagePlaces.{pieces_have_pages}
use Rattle.bw_check.proofs.Whole.{service_listed}
use Rattle.bw_check.proofs.checking.faults_by.Goals as goal

pub judge_pieces-pages-requires-clause-pages : goal.judge_pieces-pages-requires-clause-pages
judge_pieces-pages-requires-clause-pages g c κs within =
    pieces_have_pages c.args.bench.basis.now.typed.now.service c.as_slice.result.now
    (c.as_slice.ensures.value ∙ c.in_ok-pieces.ensures ∙ ap (λ f. pages_from 0 f.steps) c.args.bench.lowered)

pub returns-in-Ok-gap_faults : goal.returns-in-Ok-gap_faults
returns-in-Ok-gap_faults g c =
    IfOk-weaker c.joined.result _ _ (λ all e. service_listed c.args.bench.basis.now.typed.now.service c.args.bench.basis.now.schema.now c.args.bench.facts.now
    c.as_slice.result.now c.in-Ok.faults c.in-Ok-gap_faults.gaps all
    (c.as_slice.ensures.value ∙ c.in_ok-pieces.ensures ∙ ap (λ f. pages_from 0 f.steps) c.args.bench.lowered)
    e c.in-Ok.ensures c.in-Ok-gap_faults.ensures) c.joined.ensures
