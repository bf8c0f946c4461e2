use Rattle.std.proofs.Common.{List, ℕ, subst, sym}
use Rattle.std.specs.Result.{OnErr}
use Rattle.std.proofs.lemmas.Result.{on_err_weaker}
use Rattle.bw_stable.specs.Deeds.{DoesFirst}
use Rattle.bw_stable.specs.Replacing.{replacing}
use Rattle.bigwig.specs.Finding.{begun_by}
use Rattle.bigwig.proofs.HalfBegun.{none_done, on_err_so, one_done}
use Rattle.bigwig.proofs.beginning.begin.Goals as goal

pub returns-in_err-cut-in-Head-clause-failed : goal.returns-in_err-cut-in-Head-clause-failed
returns-in_err-cut-in-Head-clause-failed g c = on_err_so _ (none_done _ _ _ c.in_err-cut-in-Head.ensures.untold)

pub returns-in_ok-cut-in-Head-clause-failed : goal.returns-in_ok-cut-in-Head-clause-failed
returns-in_ok-cut-in-Head-clause-failed g c =
    let deeds = g.J.Journal.deeds in
    subst (λ o. OnErr c.keep.result (DoesFirst (deeds c.args.journal.now) (deeds c.keep.new.self)
    (begun_by o (g.D.Door.returned c.args.door.now) (g.W.Channel.held c.args.out.now)))) (sym c.in-Head.is)
    (on_err_weaker c.keep.result (one_done _ _ _ _ _ c.in_ok-cut-in-Head.ensures.done) c.keep.ensures.untold)

pub returns-in-Cut-clause-failed : goal.returns-in-Cut-clause-failed
returns-in-Cut-clause-failed g c = on_err_weaker c.cut-in-Cut.result (none_done _ _ _) c.cut-in-Cut.ensures.untold

pub returns-in-Anew-clause-failed : goal.returns-in-Anew-clause-failed
returns-in-Anew-clause-failed g c =
    let deeds = g.J.Journal.deeds in
    subst (λ o. OnErr c.replace.result (DoesFirst (deeds c.args.journal.now) (deeds c.replace.new.journal)
    (begun_by o (g.D.Door.returned c.args.door.now) (g.W.Channel.held c.args.out.now)))) (sym c.in-Anew.is)
    (subst (λ (bytes : List ℕ). OnErr c.replace.result (DoesFirst (deeds c.args.journal.now) (deeds c.replace.new.journal) (replacing bytes)))
    c.deref-in-Anew.ensures.value c.replace.ensures.begun)
