use Rattle.std.proofs.Common.{IfOk, List, subst}
use Rattle.bw_lang.specs.declared.service.Service.{Service}
use Rattle.bw_analyse.specs.declared.abstracts.Abstract.{Abstract}
use Rattle.bw_analyse.specs.Least.{IsTooLarge}
use Rattle.bw_analyse.proofs.analysis.solved.Goals as goal

pub returns-clause-within : goal.returns-clause-within
returns-clause-within c =
    subst (λ (z : Service). IfOk c.least.result (λ (s : List (List Abstract)). IsTooLarge z 2000000 → ⊥)) c.in_ok-equations.ensures
    c.least.ensures.within
