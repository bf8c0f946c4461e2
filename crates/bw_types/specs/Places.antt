-- The scopes of a session's places.
use Rattle.std.specs.Prelude.{ℕ, ◌-◌, length, drop}
use Rattle.bw_lang.specs.Service.Code.{Code, done, declare, assign, if_then, if_else, while_loop, block, for_each, show, exit}
use Rattle.bw_types.specs.Scopes.{Scope, with_local, scope_behind, behind_each}

-- the scope behind these statements, in their block
abbrev pub after : Scope → Code → Scope
after scope done = scope
after scope (declare kind w e rest) = after (with_local scope w kind) rest
after scope (assign w e rest) = after scope rest
after scope (if_then t y rest) = after (scope_behind scope y) rest
after scope (if_else t y n rest) = after (scope_behind (scope_behind scope y) n) rest
after scope (while_loop t b rest) = after (scope_behind scope b) rest
after scope (block b rest) = after (scope_behind scope b) rest
after scope (for_each w e b rest) = after (behind_each scope w b) rest
after scope (show p rs rest) = after scope rest
after scope (exit p rest) = after scope rest

-- the scope with its oldest locals alone, so many of them
abbrev pub outside : ℕ → Scope → Scope
outside n scope = record { locals = drop (length scope.locals - n) scope.locals; taken = scope.taken }
