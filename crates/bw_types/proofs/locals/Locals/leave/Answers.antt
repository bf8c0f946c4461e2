use Rattle.std.proofs.Common.{ap, map, ◌∙◌}
use Rattle.std.specs.Prelude.{reverse}
use Rattle.bw_types.specs.Places.{outside}
use Rattle.bw_types.proofs.LocalLaws.{named, oldest}
use Rattle.bw_types.proofs.locals.Locals.leave.Goals as goal

pub returns : goal.returns
returns c =
    let taken = c.self.inside.taken in
    ap (λ xs. record { locals = reverse (map named xs); taken = taken }) c.truncate.ensures.items
    ∙ ap (λ l. record { locals = l; taken = taken }) (oldest c.args.depth c.self.inside.in_scope.items) ∙ ap (outside c.args.depth) c.self.view_is
