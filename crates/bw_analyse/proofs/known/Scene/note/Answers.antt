use Rattle.std.proofs.Common.{Some, sym, ap, ◌∙◌}
use Rattle.bw_lang.specs.Service.TermView.{term}
use Rattle.bw_analyse.specs.Known.{look}
use Rattle.bw_analyse.specs.Noting.{noted_term}
use Rattle.bw_analyse.proofs.BareLaws.{term_bare}
use Rattle.bw_analyse.proofs.known.Scene.note.Goals as goal

pub returns-in_ok-noted : goal.returns-in_ok-noted
returns-in_ok-noted c =
    let scene = c.args.self.now in
    let service = scene.ground.now.typed.now.service in
    let names = look service scene.scope.now scene.locals.now scene.shared.now in
    c.in_ok-noted.ensures.faults ∙ term_bare service names c.args.statement (Some (term c.in-Some.expr.now)) c.args.faults.now
    ∙ ap (λ t. noted_term service names c.args.statement t c.args.faults.now) (sym c.in-Some.ensures)
