use Rattle.std.proofs.Common.{◌≡◌, ◌++◌, []}
use Rattle.bw_lang.specs.Service.Reads.{AreRead}
use Rattle.bw_syntax.proofs.templates.read_all.Given as goal

abbrev pub invariant-loop-draft : goal.invariant-loop-draft
invariant-loop-draft l = record {
  read : AreRead [] l.yielded l.declarations.items l.gaps;
  parts : l.fn.drafts.items ≡ l.yielded ++ l.draft-iterator.rest.items;
}
