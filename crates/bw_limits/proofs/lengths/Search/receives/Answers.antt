use Rattle.bw_limits.proofs.Firsts.{looked_at, by_elements}
use Rattle.std.proofs.Common.{◌++◌}
use Rattle.bw_lang.specs.Service.Limits.{name_length}
use Rattle.bw_limits.proofs.lengths.Search.receives.Goals as goal

pub returns-in-Some : goal.returns-in-Some
returns-in-Some c =
    looked_at c.args.self.most (by_elements (λ r. name_length c.args.self.leaf r.target ++ name_length c.args.self.leaf r.field)) _ _ _ _ _
    c.receive-item.is c.loop-receive-test.true c.in-Some.ensures c.loop-receive.invariant

pub loop-receive-preserved : goal.loop-receive-preserved
loop-receive-preserved c =
    looked_at c.args.self.most (by_elements (λ r. name_length c.args.self.leaf r.target ++ name_length c.args.self.leaf r.field)) _ _ _ _ _
    c.receive-item.is c.loop-receive-test.true c.in_default.ensures c.loop-receive.invariant
