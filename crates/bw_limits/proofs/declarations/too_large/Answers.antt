use Rattle.bw_limits.proofs.Options.{four}
use Rattle.bw_limits.proofs.declarations.too_large.Goals as goal

pub returns : goal.returns
returns c =
    let whole =
    four c.passed.result c.passed-2.result c.passed-3.result c.passed-4.result c.or.result c.or-2.result c.or-3.result c.or.ensures c.or-2.ensures
    c.or-3.ensures in cc
