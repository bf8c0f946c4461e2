use Rattle.std.proofs.Common.{◌≡◌, drop, find, flat_map}
use Rattle.std.specs.Prelude.{nat_lt}
use Rattle.bw_lang.specs.Service.Limits.{declaration_lengths}
use Rattle.bw_limits.proofs.lengths.Search.declarations.Given as goal

abbrev pub invariant-loop-declaration : goal.invariant-loop-declaration
invariant-loop-declaration l =
    find (nat_lt l.self.most) (flat_map (declaration_lengths l.self.leaf l.gaps) (drop l.declaration-index l.declarations))
    ≡ find (nat_lt l.self.most) (flat_map (declaration_lengths l.self.leaf l.gaps) l.declarations)
