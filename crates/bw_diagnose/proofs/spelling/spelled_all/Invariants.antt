use Rattle.std.proofs.Common.{◌≡◌, ◌+◌, ◌++◌, drop, map}
use Rattle.bw_lang.specs.Service.Order.{seen}
use Rattle.bw_places.specs.Counts.{drafts_tokens}
use Rattle.bw_places.specs.Drafted.{drafts_of}
use Rattle.bw_diagnose.specs.Spelling.{drafted_all}
use Rattle.bw_diagnose.proofs.spelling.spelled_all.Given as goal

abbrev pub invariant-loop-one : goal.invariant-loop-one
invariant-loop-one l = record {
  ends : l.at + drafts_tokens (drafted_all l.lexemes l.at (map seen (drop l.one-index l.declared)))
      ≡ 3 + drafts_tokens (drafted_all l.lexemes 3 (map seen l.declared));
  spells : drafts_of l.list.items ++ drafted_all l.lexemes l.at (map seen (drop l.one-index l.declared))
      ≡ drafted_all l.lexemes 3 (map seen l.declared);
}
