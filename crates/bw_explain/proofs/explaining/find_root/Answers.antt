use Rattle.std.proofs.lemmas.Result.{IfOk-weaker}
use Rattle.bw_explain.specs.Aims.{IsPlain}
use Rattle.bw_explain.proofs.Best.{best_at}
use Rattle.bw_explain.proofs.explaining.find_root.Goals as goal

pub returns : goal.returns
returns c = IfOk-weaker c.found_at-found.result _ _ (λ f h. best_at (IsPlain c.args.page.now) c.in_ok-plain.plain c.args.root f.size f.doc
    c.in_ok-plain.ensures h) c.found_at-found.ensures
