use Rattle.std.proofs.Common.{◌≡◌, ◌++◌, drop, map}
use Rattle.bw_lang.specs.Service.Order.{rest_of, seen, declarations_of}
use Rattle.bw_lang.proofs.service.Service.declarations.Given as goal

abbrev pub invariant-loop-sort : goal.invariant-loop-sort
invariant-loop-sort l = map seen l.list.items ++ rest_of l.fn.self l.passed (drop l.sort-index l.fn.self.order) ≡ declarations_of l.fn.self
