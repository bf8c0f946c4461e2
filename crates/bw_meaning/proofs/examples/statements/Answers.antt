use Rattle.std.proofs.Common.{refl}
use Rattle.std.specs.Fmt.{digits}
use Rattle.bw_meaning.proofs.examples.statements.Goals as goal

pub returns-clause-steps : goal.returns-clause-steps
unfolding digits
returns-clause-steps c = record {
  declares = refl;
  assigns = refl;
  assigns_shared = refl;
  leaves_block = refl;
}

pub returns-clause-choices : goal.returns-clause-choices
unfolding digits
returns-clause-choices c = record {
  holds = refl;
  fails = refl;
  first = refl;
  second = refl;
}

pub returns-clause-loops : goal.returns-clause-loops
unfolding digits
returns-clause-loops c = record {
  counts_down = refl;
  goes_over = refl;
  list_once = refl;
}

pub returns-clause-shows : goal.returns-clause-shows
unfolding digits
returns-clause-shows c = record {
  waits = refl;
  in_a_loop = refl;
  receives = refl;
  receives_none = refl;
  shared_first = refl;
  exits = refl;
}
