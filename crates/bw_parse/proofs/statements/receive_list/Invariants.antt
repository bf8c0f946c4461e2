use Rattle.std.proofs.Common.{◌≡◌, ◌≤◌, length, []}
use Rattle.bw_parse.specs.Steps.Statements.{parse_list}
use Rattle.bw_parse.proofs.statements.receive_list.Given as goal

abbrev pub invariant-receives : goal.invariant-receives
invariant-receives l = record {
  shorter : length l.rest ≤ length l.fn.lexemes;
  value : parse_list [] l.fn.lexemes ≡ parse_list l.list.items l.rest;
}

abbrev pub decreases-receives : goal.decreases-receives
decreases-receives l = length l.rest
