use Rattle.std.proofs.Common.{◌≡◌, ◌+◌, ◌*◌, ◌++◌, length, take}
use Rattle.bw_faults.specs.Lists.{Lists}
use Rattle.bw_check.specs.Faults.{IsFaultOfSome}
use Rattle.bw_check.proofs.pieces.judge_pieces.Given as goal

abbrev pub invariant-loop-list : goal.invariant-loop-list
invariant-loop-list g l = record {
  joined : Lists
      (IsFaultOfSome l.fn.bench.basis.now.typed.now.service l.fn.bench.basis.now.schema.now l.fn.bench.facts.now (take (length l.yielded * l.size) l.pieces)) l.faults;
  count : length l.yielded + l.list-iterator.rest.len ≡ l.initial.list-iterator.rest.len;
  parts : l.initial.list-iterator.rest.items ≡ l.yielded ++ l.list-iterator.rest.items;
}
