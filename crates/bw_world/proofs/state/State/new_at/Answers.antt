use Rattle.std.proofs.Common.{rules, subst}
use Rattle.bw_run.specs.Fit.{AreShared}
use Rattle.bw_types.specs.declared.typed.Typed.{Typed}
use Rattle.bw_world.proofs.Keeping.{kept_empty}
use Rattle.bw_world.proofs.state.State.new_at.Goals as goal

pub invariant_of-result : goal.invariant_of-result
invariant_of-result c =
    kept_empty c.args.checked.typed c.in-Ok.shared
    (subst (λ (t : Typed). AreShared t.service c.in-Ok.shared) c.typed.ensures c.in-Ok.ensures.fit) c.args.next c.args.first
    c.in-Ok-new.live _ c.in-Ok-new.ensures (search rules)
