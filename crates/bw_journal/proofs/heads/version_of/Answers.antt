use Rattle.std.proofs.Common.{◌≡◌, ◌==◌, false, length, arith, refl}
use Rattle.std.proofs.lemmas.Bool.{eqb-false}
use Rattle.bw_journal.proofs.HeadParts.{version_is}
use Rattle.bw_journal.proofs.heads.version_of.Goals as goal

pub returns : goal.returns
returns c =
    let some : (length c.args.bytes.now == 0) ≡ false = cc in
    version_is c.args.bytes.now _ (omega (arith, eqb-false (length c.args.bytes.now) 0 some)) refl (omega (arith, c.if-digit-lt50.false))
    (omega (arith, c.if-digit-gt57.false))
