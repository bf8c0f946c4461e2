use Rattle.std.proofs.Common.{IfNone, IfOk, IfSome, subst}
use Rattle.bw_save.specs.Frozen.{saved_of}
use Rattle.bw_save.specs.Onward.{IsFileAgain, IsNoFile}
use Rattle.bw_world.specs.Seen.{Seen}
use Rattle.bw_save.proofs.onward.freeze_on.Goals as goal

pub returns-clause-some : goal.returns-clause-some
returns-clause-some c =
    subst (λ (w : Seen). IfOk c.freeze_on_parts.result (λ f. IfSome f.file (λ v. IsFileAgain w.service c.args.text.now (saved_of w) v.items)))
    c.in_ok-parts.ensures.same c.freeze_on_parts.ensures.some

pub returns-clause-none : goal.returns-clause-none
returns-clause-none c =
    subst (λ (w : Seen). IfOk c.freeze_on_parts.result (λ f. IfNone f.file (IsNoFile w.service c.args.text.now (saved_of w))))
    c.in_ok-parts.ensures.same c.freeze_on_parts.ensures.none
