use Rattle.std.proofs.Common.{◌∙◌, Option, subst, sym}
use Rattle.bw_blame.specs.declared.site.Blamed.{Blamed}
use Rattle.bw_blame.proofs.Short.{readable_is_short}
use Rattle.bw_diagnose.specs.Aims.{IsAim}
use Rattle.bw_diagnose.proofs.Read.{drafts_read}
use Rattle.bw_questions.proofs.sight.aim_of.Goals as goal

pub blame-requires-clause-short : goal.blame-requires-clause-short
blame-requires-clause-short c = readable_is_short c.args.service.now (c.args.seen.told.text.now, c.requires)

-- no test fails
pub returns-in-None : goal.returns-in-None
returns-in-None c =
    let text = c.args.seen.told.text.now in
    let ds = c.requires.drafts in (
      ds,
      drafts_read text c.args.service.now c.requires,
      subst (λ (b : Option Blamed). IsAim text ds b c.no_aim.result) (sym c.in-None.is ∙ c.in_ok-blamed.ensures) (c.no_aim.ensures ds),
    )
