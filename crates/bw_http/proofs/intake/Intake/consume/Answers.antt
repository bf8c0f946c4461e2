use Rattle.std.proofs.Common.{take, drop, ap, sym, ◌∙◌}
use Rattle.std.proofs.lemmas.List.{drop-drop}
use Rattle.bw_http.proofs.intake.Intake.consume.Goals as goal

pub returns : goal.returns
returns c =
    let s = c.self.inside in
    sym (drop-drop c.args.count s.start (take s.end s.buffer.items)) ∙ ap (drop c.args.count) c.self.view_is
