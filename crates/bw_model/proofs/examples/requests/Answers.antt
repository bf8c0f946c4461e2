use Rattle.std.proofs.Common.{refl}
use Rattle.std.specs.Fmt.{digits}
use Rattle.bw_model.proofs.examples.requests.Goals as goal

pub returns-clause-starts : goal.returns-clause-starts
unfolding digits
returns-clause-starts c = record {
  index = refl;
  no_session = refl;
  no_form_yet = refl;
  first_page = refl;
  cost = refl;
  one_lives = refl;
  next_number = refl;
}

pub returns-clause-turns : goal.returns-clause-turns
unfolding digits
returns-clause-turns c = record {
  other_key = refl;
  other_turn = refl;
  other_method = refl;
  again = refl;
  lacking = refl;
  repeated = refl;
  last_page = refl;
  cost = refl;
  gone = refl;
  no_number_left = refl;
}
