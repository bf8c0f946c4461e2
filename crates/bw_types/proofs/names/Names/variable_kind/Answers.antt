use Rattle.std.proofs.Common.{ap, ◌∙◌}
use Rattle.std.specs.Option.{option_or}
use Rattle.bw_types.specs.Scopes.{shared_kind}
use Rattle.bw_types.proofs.Known.{knows_shared}
use Rattle.bw_types.proofs.names.Names.variable_kind.Goals as goal

pub returns-in-None : goal.returns-in-None
returns-in-None c =
    let n = c.args.self.now in let w = c.args.name.now in
    c.get.ensures ∙ knows_shared n.service.now n.known w ∙ ap (λ o. option_or o (shared_kind n.service.now w)) c.in-None.ensures
