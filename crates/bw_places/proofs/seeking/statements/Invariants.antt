use Rattle.std.proofs.Common.{◌≡◌, ◌+◌, ◌++◌, drop}
use Rattle.bw_places.specs.Counts.{drafts_tokens}
use Rattle.bw_places.specs.Drafted.{drafts_of}
use Rattle.bw_places.specs.Seeking.{spans_of}
use Rattle.bw_places.proofs.seeking.statements.Given as goal

abbrev pub invariant-loop-one : goal.invariant-loop-one
invariant-loop-one l = record {
  ends : l.place + drafts_tokens (drafts_of (drop l.one-index l.declarations)) ≡ 3 + drafts_tokens (drafts_of l.declarations);
  pushed : l.list.items ++ spans_of (drafts_of (drop l.one-index l.declarations)) l.place ≡ spans_of (drafts_of l.declarations) 3;
}
