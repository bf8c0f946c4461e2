use Rattle.std.proofs.Common.{take, drop, ap, sym, ◌∙◌}
use Rattle.std.proofs.lemmas.List.{drop-drop}
use Rattle.bw_recall.proofs.window.Window.consume.Goals as goal

pub returns-clause-bytes : goal.returns-clause-bytes
returns-clause-bytes c =
    let s = c.self.inside in
    sym (drop-drop c.args.count s.start (take s.end s.buffer.items)) ∙ ap (λ v. drop c.args.count v.bytes) c.self.view_is
