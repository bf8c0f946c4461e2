use Rattle.bw_strings.proofs.Walks.{noted, by_declarations}
use Rattle.bw_strings.proofs.reading.add_strings.Goals as goal

pub loop-declaration-preserved : goal.loop-declaration-preserved
loop-declaration-preserved c =
    noted by_declarations _ _ _ _ _ _ c.declaration-item.is c.loop-declaration-test.true c.in_ok-note_declaration.ensures c.loop-declaration.invariant
