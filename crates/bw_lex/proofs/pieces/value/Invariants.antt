use Rattle.std.proofs.Common.{◌≡◌, ◌≤◌, take}
use Rattle.bw_lang.specs.Text.TokenForms.{value}
use Rattle.bw_lex.proofs.pieces.value.Given as goal

abbrev pub invariant-loop-b : goal.invariant-loop-b
invariant-loop-b l = record { within : l.value ≤ 9_223_372_036_854_775_807; so_far : l.value ≡ value (take l.b-index l.digits) }
