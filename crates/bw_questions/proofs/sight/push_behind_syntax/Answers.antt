use Rattle.std.proofs.Common.{subst, sym}
use Rattle.bw_diagnose.specs.Known.{IsLent}
use Rattle.bw_diagnose.proofs.Read.{front_lent}
use Rattle.bw_questions.proofs.sight.push_behind_syntax.Goals as goal

pub push_syntax_block-requires : goal.push_syntax_block-requires
push_syntax_block-requires c =
    subst (λ t. IsLent t c.args.told.now c.args.fault.now) (sym c.front_of.ensures.text)
    (front_lent c.args.paper.text.now c.args.told.now c.args.fault.now c.requires)
