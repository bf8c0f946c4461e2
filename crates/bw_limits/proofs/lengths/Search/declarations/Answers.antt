use Rattle.bw_limits.proofs.Firsts.{looked_at, by_elements}
use Rattle.bw_lang.specs.Service.Limits.{declaration_lengths}
use Rattle.bw_limits.proofs.lengths.Search.declarations.Goals as goal

pub returns-in-Some : goal.returns-in-Some
returns-in-Some c =
    looked_at c.args.self.most (by_elements (declaration_lengths c.args.self.leaf c.args.gaps.now)) _ _ _ _ _ c.declaration-item.is
    c.loop-declaration-test.true c.in-Some.ensures c.loop-declaration.invariant

pub loop-declaration-preserved : goal.loop-declaration-preserved
loop-declaration-preserved c =
    looked_at c.args.self.most (by_elements (declaration_lengths c.args.self.leaf c.args.gaps.now)) _ _ _ _ _ c.declaration-item.is
    c.loop-declaration-test.true c.in_default.ensures c.loop-declaration.invariant
