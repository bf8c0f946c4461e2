use Rattle.std.proofs.Common.{refl}
use Rattle.std.specs.Fmt.{digits}
use Rattle.bw_meaning.proofs.examples.expressions.Goals as goal

pub returns-clause-nodes : goal.returns-clause-nodes
unfolding digits
returns-clause-nodes c = record {
  a_number = refl;
  a_truth = refl;
  a_string = refl;
  an_empty_list = refl;
  a_local = refl;
  a_shared_variable = refl;
  a_template = refl;
  a_parenthesis = refl;
  nested = refl;
  first_ones = refl;
}

pub returns-clause-operators : goal.returns-clause-operators
unfolding digits
returns-clause-operators c = record {
  negated = refl;
  opposite = refl;
  difference = refl;
  down_to_least = refl;
  quotient = refl;
  remainder = refl;
  joins = refl;
  equal_numbers = refl;
  equal_truths = refl;
  equal_strings = refl;
  different = refl;
  less = refl;
  at_most = refl;
  greater = refl;
  at_least = refl;
  decided_and = refl;
  decided_or = refl;
  both_hold = refl;
  one_holds = refl;
}

pub returns-clause-functions : goal.returns-clause-functions
unfolding digits
returns-clause-functions c = record {
  text_of_number = refl;
  number_of_text = refl;
  no_number = refl;
  spells_number = refl;
  spells_none = refl;
  count_two = refl;
  count_none = refl;
  spells = refl;
  too_big = refl;
  no_digit = refl;
  plus = refl;
  blank = refl;
}

pub returns-clause-plugs : goal.returns-clause-plugs
unfolding digits
returns-clause-plugs c = record {
  a_constant = refl;
  a_string = refl;
  string_measure = refl;
  a_document = refl;
  document_measure = refl;
  pairs = refl;
  older_first = refl;
  an_attribute = refl;
  attribute_measure = refl;
  elsewhere = refl;
  elsewhere_measure = refl;
}
