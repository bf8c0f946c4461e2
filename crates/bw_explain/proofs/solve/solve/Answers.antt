use Rattle.bw_explain.proofs.solve.solve.Goals as goal

pub solve_all-tables-requires : goal.solve_all-tables-requires
solve_all-tables-requires c = record {
  few = c.requires.few;
  cost = c.requires.cost;
  goal = c.requires.goal;
  deep = c.requires.deep;
  plain = c.requires.plain;
  fair = c.requires.fair;
}
