use Rattle.std.proofs.Common.{◌≡◌, take, map, flat_map}
use Rattle.bw_lang.specs.Service.Limits.{declared_fields}
use Rattle.bw_lang.specs.Table.Names.{with_names}
use Rattle.bw_lang.specs.Service.Order.{seen}
use Rattle.bw_types.proofs.typed.add_fields.Given as goal

abbrev pub invariant-loop-declaration : goal.invariant-loop-declaration
invariant-loop-declaration l = l.names ≡ with_names l.initial.names (flat_map declared_fields (map seen (take l.declaration-index l.declarations)))
