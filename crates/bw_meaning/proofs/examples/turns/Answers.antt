use Rattle.std.proofs.Common.{refl}
use Rattle.std.specs.Fmt.{digits}
use Rattle.bw_meaning.proofs.examples.turns.Goals as goal

pub returns-clause-picks : goal.returns-clause-picks
unfolding digits
returns-clause-picks c = record {
  waits = refl;
  first_cost = refl;
  both = refl;
  both_cost = refl;
  neither = refl;
  one = refl;
  rest = refl;
  other = refl;
  last_rest = refl;
  ends = refl;
}

pub returns-clause-loops : goal.returns-clause-loops
unfolding digits
returns-clause-loops c = record {
  numbered_rows = refl;
  counted = refl;
  counted_again = refl;
  loop_cost = refl;
  cost_again = refl;
  goes_on = refl;
  goes_on_cost = refl;
}
