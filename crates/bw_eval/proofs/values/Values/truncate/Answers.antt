use Rattle.std.proofs.Common.{◌≡◌, ℕ, zero, suc, List, [], ◌∷◌, take, map, refl, ap, ◌∙◌}
use Rattle.bw_eval.specs.declared.values.Variable.{Variable}
use Rattle.bw_eval.proofs.Lookups.{pair}
use Rattle.bw_eval.proofs.values.Values.truncate.Goals as goal

map_take : (n : ℕ) (xs : List Variable) → map pair (take n xs) ≡ take n (map pair xs)
map_take zero xs = refl
map_take (suc n) [] = refl
map_take (suc n) (x ∷ xs) = ap (λ l. pair x ∷ l) (map_take n xs)

pub returns : goal.returns
returns c = ap (map pair) c.truncate.ensures.items ∙ map_take c.args.count c.self.inside.list.items ∙ ap (take c.args.count) c.self.view_is
