use Rattle.std.proofs.Common.{◌∙◌, ℕ, Option, refl, inl, inr, subst, sym}
use Rattle.bigwig.specs.Finding.{IsRead}
use Rattle.bigwig.specs.Keeping.IsKept.{stopped}
use Rattle.bigwig.proofs.keeping.keep_brought.Goals as goal

pub returns-in-Err-clause-keeps : goal.returns-in-Err-clause-keeps
returns-in-Err-clause-keeps g c ruled content x is t f = stopped (inr refl) refl (inl refl)

pub returns-in-Ok-clause-keeps : goal.returns-in-Ok-clause-keeps
returns-in-Ok-clause-keeps g c ruled content x is p f =
    let ready = c.in-Ok.ready in
    let was = c.in-Ok.ensures in
    c.do_task-status.ensures.keeps ruled c.args.text.now content x (is.0 ∙ sym was.service, is.1, is.2 ∙ sym was.formats) p
    (subst (λ (r : Option ℕ). IsRead ruled c.args.text.now content r ready.server.world ready.opening) c.rotate_of.ensures (was.read ruled content is f))
