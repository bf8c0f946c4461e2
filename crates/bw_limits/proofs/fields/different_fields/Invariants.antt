use Rattle.std.proofs.Common.{◌≡◌, flat_map, take, []}
use Rattle.bw_lang.specs.Service.Limits.{declared_fields}
use Rattle.bw_lang.specs.Table.Names.{with_names}
use Rattle.bw_limits.proofs.fields.different_fields.Given as goal

abbrev pub invariant-loop-declaration : goal.invariant-loop-declaration
invariant-loop-declaration l = l.names ≡ with_names [] (flat_map declared_fields (take l.declaration-index l.declarations))
