use Rattle.bw_lang.specs.Service.TermView.{term}
use Rattle.bw_meaning.specs.Expressions.{eval}
use Rattle.bw_eval.specs.View.{values}
use Rattle.bw_eval.proofs.Fills.{ok_document}
use Rattle.bw_run.proofs.standing.begins.Goals as goal

pub returns-clause-documents : goal.returns-clause-documents
returns-clause-documents g c h =
    let s = c.args.standing.now in
    ok_document c.eval.result c.eval.new.units
    (eval c.args.typed.now.service (values s.locals) (values s.shared) (term c.args.expr.now) c.take_unit.new.units) c.eval.ensures.value
    (h c.take_unit.new.units)
