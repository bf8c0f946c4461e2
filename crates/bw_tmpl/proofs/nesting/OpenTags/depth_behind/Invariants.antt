use Rattle.std.proofs.Common.{◌≡◌, drop, Some}
use Rattle.bw_tmpl.specs.Nesting.{tags_after_all}
use Rattle.bw_tmpl.proofs.nesting.OpenTags.depth_behind.Given as goal

abbrev pub invariant-loop-piece : goal.invariant-loop-piece
invariant-loop-piece l = tags_after_all (Some l.self) (drop l.piece-index l.pieces) ≡ tags_after_all (Some l.fn.self) l.pieces
