-- The statements of a block. In each case but done the last part is what follows the first statement.
use Rattle.std.specs.Prelude.{ℕ, ◌+◌, List}
use Rattle.bw_lang.specs.declared.stmt.Kind.{Kind}
use Rattle.bw_lang.specs.declared.stmt.Receive.{Receive}
use Rattle.bw_lang.specs.Service.Term.{Term}

pub data Code : Type 0 where
  done : Code
  declare : Kind → List ℕ → Term → Code → Code
  assign : List ℕ → Term → Code → Code
  if_then : Term → Code → Code → Code
  if_else : Term → Code → Code → Code → Code
  while_loop : Term → Code → Code → Code
  block : Code → Code → Code
  for_each : List ℕ → Term → Code → Code → Code
  show : Term → List Receive → Code → Code
  exit : Term → Code → Code

-- how many statements it has at all levels
abbrev pub code_size : Code → ℕ
code_size done = 0
code_size (declare t w e rest) = 1 + code_size rest
code_size (assign w e rest) = 1 + code_size rest
code_size (if_then t y rest) = 1 + code_size y + code_size rest
code_size (if_else t y n rest) = 1 + code_size y + code_size n + code_size rest
code_size (while_loop t b rest) = 1 + code_size b + code_size rest
code_size (block b rest) = 1 + code_size b + code_size rest
code_size (for_each w e b rest) = 1 + code_size b + code_size rest
code_size (show p rs rest) = 1 + code_size rest
code_size (exit p rest) = 1 + code_size rest

-- the statements of one and then those of the other
abbrev pub append : Code → Code → Code
append done d = d
append (declare t w e rest) d = declare t w e (append rest d)
append (assign w e rest) d = assign w e (append rest d)
append (if_then t y rest) d = if_then t y (append rest d)
append (if_else t y n rest) d = if_else t y n (append rest d)
append (while_loop t b rest) d = while_loop t b (append rest d)
append (block b rest) d = block b (append rest d)
append (for_each w e b rest) d = for_each w e b (append rest d)
append (show p rs rest) d = show p rs (append rest d)
append (exit p rest) d = exit p (append rest d)

-- how many statements there are at all levels, blocks not counted: each has a number, in source order
abbrev pub numbered : Code → ℕ
numbered done = 0
numbered (declare kind w e rest) = 1 + numbered rest
numbered (assign w e rest) = 1 + numbered rest
numbered (if_then t y rest) = 1 + numbered y + numbered rest
numbered (if_else t y z rest) = 1 + numbered y + numbered z + numbered rest
numbered (while_loop t b rest) = 1 + numbered b + numbered rest
numbered (block b rest) = numbered b + numbered rest
numbered (for_each w e b rest) = 1 + numbered b + numbered rest
numbered (show p rs rest) = 1 + numbered rest
numbered (exit p rest) = 1 + numbered rest
