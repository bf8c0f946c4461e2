use Rattle.std.proofs.Common.{◌≡◌, drop}
use Rattle.bw_lex.specs.Pieces.{template}
use Rattle.bw_lex.proofs.pieces.template.Given as goal

abbrev pub invariant-loop-n : goal.invariant-loop-n
invariant-loop-n l = template l.bad 6 (drop 6 l.bytes) ≡ template l.bad l.n (drop l.n l.bytes)
