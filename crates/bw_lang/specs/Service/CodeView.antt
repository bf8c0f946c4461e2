-- What the code's statements stand for.
use Rattle.std.specs.Prelude.{List, [], ◌∷◌, Some, None}
use Rattle.bw_lang.specs.declared.stmt.Stmt.{Stmt}
use Rattle.bw_lang.specs.declared.stmt.Stmt.TheVariants.{Declare, Assign, If, While, Block, Each, Show, Exit}
use Rattle.bw_lang.specs.Service.TermView.{term}
use Rattle.bw_lang.specs.Service.Code.{Code, done, declare, assign, if_then, if_else, while_loop, block, for_each, show, exit}

-- the statement, and then what follows it
abbrev pub before : Stmt → Code → Code
before (Declare t w e) rest = declare t w (term e) rest
before (Assign w e) rest = assign w (term e) rest
before (If t y None) rest = if_then (term t) y rest
before (If t y (Some n)) rest = if_else (term t) y n rest
before (While t b) rest = while_loop (term t) b rest
before (Block b) rest = block b rest
before (Each w e b) rest = for_each w (term e) b rest
before (Show p rs) rest = show (term p) rs rest
before (Exit p) rest = exit (term p) rest

abbrev pub code : List Stmt → Code
code [] = done
code (s ∷ ss) = before s (code ss)
