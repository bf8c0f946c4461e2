use Rattle.std.proofs.Common.{ap, length, arith}
use Rattle.bw_lang.proofs.Small.{readable_is_small}
use Rattle.bw_types.proofs.typed.fields_of.Goals as goal

pub of-requires : goal.of-requires
of-requires c = omega (arith, ap length c.in_ok-names.ensures, (readable_is_small c.args.service.now c.requires.readable).fields)
