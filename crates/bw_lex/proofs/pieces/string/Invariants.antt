use Rattle.std.proofs.Common.{◌≡◌, ◌+◌, ◌++◌, ◌∷◌, [], drop, false, if◌then◌else◌}
use Rattle.std.specs.Str.{IsUtf8}
use Rattle.bw_lex.specs.Pieces.{string}
use Rattle.bw_lex.proofs.pieces.string.Given as goal

abbrev pub invariant-loop-n : goal.invariant-loop-n
invariant-loop-n l = record {
  value : string l.bad false [] 1 l.bytes ≡ string l.bad l.escaped l.text.items (l.n + 1) (drop l.n l.bytes);
  utf8 : IsUtf8 (l.text.items ++ (if l.escaped then 92 ∷ drop l.n l.bytes else drop l.n l.bytes));
}
