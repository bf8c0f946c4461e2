use Rattle.std.proofs.Common.{◌≡◌, take, map}
use Rattle.bw_flow.specs.Layout.{received}
use Rattle.bw_flow.proofs.draft.Draft.receives.Given as goal

abbrev pub invariant-loop-receive : goal.invariant-loop-receive
invariant-loop-receive l = l.fields.items ≡ map (received l.typed.service l.self.scope) (take l.receive-index l.list)
