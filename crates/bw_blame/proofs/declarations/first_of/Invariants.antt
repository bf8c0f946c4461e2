use Rattle.std.proofs.Common.{◌≡◌, drop, map}
use Rattle.bw_lang.specs.Service.Order.{seen}
use Rattle.bw_blame.specs.Blames.{AreShort, first_blamed}
use Rattle.bw_blame.proofs.declarations.first_of.Given as goal

abbrev pub invariant-loop-index : goal.invariant-loop-index
invariant-loop-index l = record {
  short : AreShort (map seen (drop l.index l.declarations));
  rest : first_blamed l.names.service.now l.fn.earlier 0 (map seen l.declarations)
      ≡ first_blamed l.names.service.now l.earlier l.index (map seen (drop l.index l.declarations));
}
