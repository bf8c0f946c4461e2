use Rattle.std.proofs.Common.{◌≡◌, IfOk, subst}
use Rattle.bw_save.specs.Frozen.{saved_of}
use Rattle.bw_flow.specs.Layout.{flow_of}
use Rattle.bw_saved.specs.Sessions.Layout.{file}
use Rattle.bw_world.specs.Seen.{Seen}
use Rattle.bw_save.proofs.freezing.freeze.Goals as goal

pub returns-clause-file : goal.returns-clause-file
returns-clause-file c =
    subst (λ (w : Seen). IfOk c.freeze_parts.result (λ v. v.items ≡ file (flow_of w.service) c.args.text.now (saved_of w)))
    c.in_ok-parts.ensures.same c.freeze_parts.ensures.file
