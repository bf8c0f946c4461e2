-- Each statement of a block is smaller than the block.
use Rattle.std.specs.Prelude.{◌≤◌, List, [], ◌∷◌, Some, None}
use Rattle.std.proofs.Common.{arith}
use denote.Param.Weighed.{most}
use Rattle.bw_lang.specs.declared.stmt.Stmt.{Stmt}
use Rattle.bw_lang.specs.declared.stmt.Stmt.TheVariants.{Declare, Assign, If, While, Block, Each, Show, Exit}
use Rattle.bw_lang.specs.declared.stmt.Block.TheDeep.{deep-Stmt}
use Rattle.bw_lang.specs.Service.Code.{code_size}
use Rattle.bw_lang.specs.Service.CodeView.{code}

pub most_le-code_size : (ss : List Stmt) → most (λ s. deep-Stmt s) ss ≤ code_size (code ss)
most_le-code_size [] = omega arith
most_le-code_size (Declare t w e ∷ ss) = omega (arith, most_le-code_size ss)
most_le-code_size (Assign w e ∷ ss) = omega (arith, most_le-code_size ss)
most_le-code_size (If t y None ∷ ss) = omega (arith, most_le-code_size ss)
most_le-code_size (If t y (Some n) ∷ ss) = omega (arith, most_le-code_size ss)
most_le-code_size (While t b ∷ ss) = omega (arith, most_le-code_size ss)
most_le-code_size (Block b ∷ ss) = omega (arith, most_le-code_size ss)
most_le-code_size (Each w e b ∷ ss) = omega (arith, most_le-code_size ss)
most_le-code_size (Show p rs ∷ ss) = omega (arith, most_le-code_size ss)
most_le-code_size (Exit p ∷ ss) = omega (arith, most_le-code_size ss)
