use Rattle.std.proofs.Common.{◌≡◌, ◌+◌, ◌++◌, drop}
use Rattle.bw_places.specs.Counts.{drafts_tokens}
use Rattle.bw_places.specs.Drafted.{drafts_of}
use Rattle.bw_diagnose.specs.Marks.{insides_of}
use Rattle.bw_diagnose.proofs.marks.insides_of.Given as goal

abbrev pub invariant-loop-one : goal.invariant-loop-one
invariant-loop-one l = record {
  ends : l.at + drafts_tokens (drafts_of (drop l.one-index l.declarations)) ≡ 3 + drafts_tokens (drafts_of l.declarations);
  pushed : l.list.items ++ insides_of (drafts_of (drop l.one-index l.declarations)) l.at ≡ insides_of (drafts_of l.declarations) 3;
}
