use Rattle.std.proofs.Common.{◌≡◌, drop, map, flat_map}
use Rattle.bw_lang.specs.Table.Names.{with_names}
use Rattle.bw_lang.specs.Service.Order.{declarations_of, seen}
use Rattle.bw_strings.specs.Literals.{declaration_strings}
use Rattle.bw_strings.proofs.reading.add_strings.Given as goal

abbrev pub invariant-loop-declaration : goal.invariant-loop-declaration
invariant-loop-declaration l =
    with_names l.texts (flat_map declaration_strings (map seen (drop l.declaration-index l.declaration-items)))
    ≡ with_names l.initial.texts (flat_map declaration_strings (declarations_of l.service))
