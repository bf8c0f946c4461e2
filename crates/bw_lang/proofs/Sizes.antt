-- What was read is smaller than what it was read from.
use Rattle.std.proofs.Common.{◌≡◌, ℕ, ◌<◌, ◌≤◌, List, length, get_or, refl, arith}
use denote.Param.Weighed.{at_most}
use Rattle.bw_lang.specs.declared.expr.Pair.{Pair}
use Rattle.bw_lang.specs.declared.expr.Pairs.TheDeep.{deep-Pair}
use Rattle.bw_lang.specs.declared.stmt.Stmt.{Stmt}
use Rattle.bw_lang.specs.declared.stmt.Block.TheDeep.{deep-Stmt}
use Rattle.bw_lang.specs.Service.Code.{code_size}
use Rattle.bw_lang.specs.Encoding.CodeFalls.{most_le-code_size}
use Rattle.bw_lang.specs.Service.CodeView.{code}
use Rattle.bw_lang.specs.Service.Term.{nodes_in}
use Rattle.bw_lang.specs.Encoding.TermFalls.{most_le-nodes_in, deep_le-nodes}
use Rattle.bw_lang.specs.Service.TermView.{fillings}
use Rattle.bw_lang.proofs.Forests.{size_at_read}

pub pair_at_read : (xs : List Pair) (i : ℕ) (d : Pair) → i < length xs → (get_or xs i d ≡ get_or xs i d) × (deep-Pair (get_or xs i d) ≤ nodes_in (fillings xs))
pair_at_read xs i d h = (refl, omega (arith, at_most (λ y. deep-Pair y) xs i d h, most_le-nodes_in xs))

pub statement_at_read : (xs : List Stmt) (i : ℕ) (d : Stmt) → i < length xs → (get_or xs i d ≡ get_or xs i d)
    × (deep-Stmt (get_or xs i d) ≤ code_size (code xs))
statement_at_read xs i d h = (refl, omega (arith, at_most (λ y. deep-Stmt y) xs i d h, most_le-code_size xs))

pub ruleset size_steps = (deep_le-nodes, pair_at_read, statement_at_read, size_at_read)
