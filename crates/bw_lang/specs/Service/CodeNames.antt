-- The names that the statements of a session bring in.
use Rattle.std.specs.Prelude.{ℕ, List, [], ◌∷◌, ◌++◌, map}
use Rattle.bw_lang.specs.Service.Code.{Code, done, declare, assign, if_then, if_else, while_loop, block, for_each, show, exit}

-- the names of the locals that statements declare at all levels, in source order
abbrev pub local_names : Code → List (List ℕ)
local_names done = []
local_names (declare t w e rest) = w ∷ local_names rest
local_names (assign w e rest) = local_names rest
local_names (if_then t y rest) = local_names y ++ local_names rest
local_names (if_else t y n rest) = local_names y ++ (local_names n ++ local_names rest)
local_names (while_loop t b rest) = local_names b ++ local_names rest
local_names (block b rest) = local_names b ++ local_names rest
local_names (for_each w e b rest) = w ∷ (local_names b ++ local_names rest)
local_names (show p rs rest) = local_names rest
local_names (exit p rest) = local_names rest

-- the fields that are received at all levels, in source order
abbrev pub received_fields : Code → List (List ℕ)
received_fields done = []
received_fields (declare t w e rest) = received_fields rest
received_fields (assign w e rest) = received_fields rest
received_fields (if_then t y rest) = received_fields y ++ received_fields rest
received_fields (if_else t y n rest) = received_fields y ++ (received_fields n ++ received_fields rest)
received_fields (while_loop t b rest) = received_fields b ++ received_fields rest
received_fields (block b rest) = received_fields b ++ received_fields rest
received_fields (for_each w e b rest) = received_fields b ++ received_fields rest
received_fields (show p rs rest) = map (λ r. r.field) rs ++ received_fields rest
received_fields (exit p rest) = received_fields rest
