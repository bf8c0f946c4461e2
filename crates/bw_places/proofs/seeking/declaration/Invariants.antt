use Rattle.std.proofs.Common.{◌≡◌, ◌+◌, drop}
use Rattle.bw_places.specs.Counts.{drafts_tokens}
use Rattle.bw_places.specs.Drafted.{drafts_of}
use Rattle.bw_places.specs.Seeking.{declared_at}
use Rattle.bw_places.proofs.seeking.declaration.Given as goal

abbrev pub invariant-loop-one : goal.invariant-loop-one
invariant-loop-one l = record {
  ends : l.at + drafts_tokens (drafts_of (drop l.one-index l.declarations)) ≡ 3 + drafts_tokens (drafts_of l.declarations);
  seeks : declared_at (drafts_of l.declarations) l.number 3 ≡ declared_at (drafts_of (drop l.one-index l.declarations)) l.left l.at;
}
