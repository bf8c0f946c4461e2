-- Each part of an expression is smaller than the expression.
use Rattle.std.specs.Prelude.{◌≤◌, List, [], ◌∷◌}
use Rattle.std.proofs.Common.{arith}
use denote.Param.Weighed.{most}
use Rattle.bw_lang.specs.declared.expr.Expr.{Expr}
use Rattle.bw_lang.specs.declared.expr.Expr.TheVariants.{Int, Bool, Str, Name, Paren, Not, Neg, Binary, Call, Plug, Nothing}
use Rattle.bw_lang.specs.declared.expr.Pair.{Pair}
use Rattle.bw_lang.specs.declared.expr.Pairs.TheDeep.{deep-Expr, deep-Pair}
use Rattle.bw_lang.specs.Service.Term.{nodes, nodes_in}
use Rattle.bw_lang.specs.Service.TermView.{term, fillings}

pub deep_le-nodes : (e : Expr) → deep-Expr e ≤ nodes (term e)
deep_le-nodes (Int n) = omega arith
deep_le-nodes (Bool b) = omega arith
deep_le-nodes (Str s) = omega arith
deep_le-nodes (Name w) = omega arith
deep_le-nodes (Paren e) = omega arith
deep_le-nodes (Not e) = omega arith
deep_le-nodes (Neg e) = omega arith
deep_le-nodes (Binary op l r) = omega arith
deep_le-nodes (Call f e) = omega arith
deep_le-nodes (Plug b ps) = omega arith
deep_le-nodes Nothing = omega arith

pub most_le-nodes_in : (pairs : List Pair) → most (λ p. deep-Pair p) pairs ≤ nodes_in (fillings pairs)
most_le-nodes_in [] = omega arith
most_le-nodes_in (p ∷ ps) = omega (arith, deep_le-nodes p.value, most_le-nodes_in ps)
