use Rattle.bw_format.proofs.ReadLaws.{none_read, some_read}
use Rattle.bw_format.proofs.Written.{usable}
use Rattle.std.proofs.Common.{arith, rules, ◌≤◌, length, chars}
use Rattle.bw_format.proofs.line.format_of.Goals as goal

pub returns-in-None-clause-parts : goal.returns-in-None-clause-parts
returns-in-None-clause-parts c = none_read _ c.args.field.now c.args.rest.now c.in-None.is c.in_ok-read_pattern.ensures

pub returns-in_ok-field-in-Some-clause-parts : goal.returns-in_ok-field-in-Some-clause-parts
returns-in_ok-field-in-Some-clause-parts c = (
  c.in_ok-field-in-Some.ensures,
  (λ e. search rules),
  omega
      (arith, c.char_count.ensures, c.if-char_count-gt-MAX_PATTERN_CHARS.false),
  some_read _ _ _ c.in-Some.is c.in_ok-read_pattern.ensures,
)

pub returns-in_ok-field-in-Some-clause-usable : goal.returns-in_ok-field-in-Some-clause-usable
returns-in_ok-field-in-Some-clause-usable c =
    let few : length (chars c.args.rest.now) ≤ 256 = omega (arith, c.char_count.ensures, c.if-char_count-gt-MAX_PATTERN_CHARS.false) in
    usable _ _ c.utf8.rest few (some_read _ _ _ c.in-Some.is c.in_ok-read_pattern.ensures)
