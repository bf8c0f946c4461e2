use Rattle.std.proofs.Common.{refl, subst}
use Rattle.bw_lang.specs.Service.Reads.{IsInside}
use Rattle.bw_syntax.proofs.Declared.{inside_read}
use Rattle.bw_syntax.proofs.templates.read_one.Goals as goal

pub returns-in-Ok-clause-read : goal.returns-in-Ok-clause-read
returns-in-Ok-clause-read c =
    rw c.in-Template.is (
      refl,
      subst (λ b. IsInside c.args.gaps.now b c.in-Ok.items c.read_template.new.gaps) c.as_slice.ensures
          (inside_read _ _ _ _ c.in-Ok.ensures.items c.in-Ok.ensures.names),
    )
