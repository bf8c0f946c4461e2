use Rattle.std.proofs.Common.{◌≡◌, ◌++◌, ◌∷◌, [], refl, ap, ◌∙◌, rules}
use Rattle.bw_doc.specs.Spots.{at, closed}
use Rattle.bw_doc.proofs.TableLaws.{at_padded}
use Rattle.bw_doc.proofs.spots.reach.Goals as goal

pub loop-list-init : goal.loop-list-init
loop-list-init c = λ g. refl

pub loop-list-preserved : goal.loop-list-preserved
loop-list-preserved c = λ g.
    let pushed : c.push.new.self.items ≡ c.loop-list.list.items ++ closed ∷ [] = search rules in
    ap (λ t. at t g) pushed ∙ at_padded c.loop-list.list.items g ∙ c.loop-list.invariant g
