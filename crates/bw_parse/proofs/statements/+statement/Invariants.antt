use Rattle.std.proofs.Common.{◌≡◌, ◌≤◌, ◌+◌, ◌*◌, length}
use Rattle.bw_lang.specs.Service.CodeView.{code}
use Rattle.bw_parse.specs.Steps.Statements.{parse_code, with_code}
use Rattle.bw_parse.proofs.statements.+statement.Given as goal

abbrev pub decreases-braces : goal.decreases-braces
decreases-braces l = 4 * length l.lexemes.now + 3

abbrev pub decreases-block : goal.decreases-block
decreases-block l = 4 * length l.lexemes.now + 2

abbrev pub decreases-statement : goal.decreases-statement
decreases-statement l = 4 * length l.lexemes.now + 1

abbrev pub decreases-if_statement : goal.decreases-if_statement
decreases-if_statement l = 4 * length l.lexemes.now + 4

abbrev pub decreases-while_statement : goal.decreases-while_statement
decreases-while_statement l = 4 * length l.lexemes.now + 4

abbrev pub decreases-each_statement : goal.decreases-each_statement
decreases-each_statement l = 4 * length l.lexemes.now + 4

abbrev pub invariant-block-statements : goal.invariant-block-statements
invariant-block-statements l = record {
  shorter : length l.rest ≤ length l.fn.lexemes;
  value : parse_code l.fn.lexemes ≡ with_code (code l.list.items) (parse_code l.rest);
}

abbrev pub decreases-block-statements : goal.decreases-block-statements
decreases-block-statements l = length l.rest
