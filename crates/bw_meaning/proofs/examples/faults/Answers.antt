use Rattle.std.proofs.Common.{ℕ, ◌+◌, Option, None, refl, ap}
use Rattle.std.specs.Option.{option_or}
use Rattle.bw_lang.specs.declared.turn.TurnFault.{TurnFault}
use Rattle.bw_lang.specs.declared.turn.TurnFault.TheVariants.{PageTooLong, SessionHeavy, SharedHeavy}
use Rattle.bw_meaning.specs.Pages.{over}
use Rattle.bw_meaning.specs.Values.{Document, Values, weights}
use Rattle.std.specs.Fmt.{digits}
use Rattle.bw_meaning.proofs.examples.faults.Goals as goal

pub returns-clause-units : goal.returns-clause-units
unfolding digits
returns-clause-units c = record {
  enough = refl;
  spent = refl;
  no_unit = refl;
  one_unit = refl;
}

pub returns-clause-numbers : goal.returns-clause-numbers
unfolding digits
returns-clause-numbers c = record {
  divided = refl;
  no_remainder = refl;
  sum = refl;
  product = refl;
  opposite = refl;
  quotient = refl;
  remainder = refl;
  fails = refl;
}

pub returns-clause-sizes : goal.returns-clause-sizes
unfolding digits
returns-clause-sizes c = record {
  longest = refl;
  too_long = refl;
  one_more = refl;
  once = refl;
  three_times = refl;
  heavy = refl;
  deepest = refl;
  deep = refl;
  nested = refl;
  weight_first = refl;
  depth_second = refl;
}

-- the tests behind that of the page's length
abbrev later : Document → Values → ℕ → Values → Option TurnFault
later e values around values1 = option_or (over 1048576 SessionHeavy (weights values + around + e.measure.weight)) (over 8388608 SharedHeavy (weights values1))

pub returns-clause-pages : goal.returns-clause-pages
unfolding digits
returns-clause-pages c = record {
  longest_page = λ e h. ap (λ n. option_or (over 4194304 PageTooLong n) None) h;
  long_page = λ e values h. ap (λ n. option_or (over 4194304 PageTooLong n) (over 8388608 SharedHeavy (weights values))) h;
  long_shown = λ e values values1 around h. ap (λ n. option_or (over 4194304 PageTooLong n) (later e values around values1)) h;
  carried = refl;
  rests = refl;
  heavy_rests = refl;
  not_carried = refl;
  shared_heavy = refl;
  session_first = refl;
}
