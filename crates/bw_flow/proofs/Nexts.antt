-- How many points come next.
use Rattle.std.proofs.Common.{◌≡◌, ℕ, zero, suc, ◌+◌, List, [], ◌∷◌, ◌++◌, Some, refl, subst}
use Rattle.std.specs.Prelude.{slice_get}
use Rattle.bw_lang.specs.declared.service.Service.{Service}
use Rattle.bw_lang.specs.declared.service.Session.{Session}
use Rattle.bw_lang.specs.declared.stmt.Kind.TheVariants as kinds
use Rattle.bw_lang.specs.Service.Code.{Code, done, declare, assign, if_then, if_else, while_loop, for_each, block, show, exit, numbered}
use Rattle.bw_flow.specs.declared.point.Local.{Local}
use Rattle.bw_flow.specs.Layout.{count, enter, steps, points, session_steps}
use Rattle.bw_flow.specs.Places.{HasNexts, AllHaveNexts}
use Rattle.bw_flow.specs.Scopes.{with_local}
use Rattle.bw_flow.specs.Steps.{Step}

abbrev Each : List Step → Type 0
Each [] = Unit {0}
Each (x ∷ xs) = HasNexts x.act x.next × Each xs

parts : (xs ys : List Step) → Each xs → Each ys → Each (xs ++ ys)
parts [] ys a b = b
parts (x ∷ xs) ys a b = (a.0, parts xs ys a.1 b)

each : (service : Service) (c : Code) (n : ℕ) (sc : List Local) (d p q : ℕ) → Each (steps service c n sc d p q)
each service done n sc d p q = tt
each service (declare k w e rest) n sc d p q = ((enter rest (p + 1) q, refl), each service rest (n + 1) (with_local sc w k) d (p + 1) q)
each service (assign w e rest) n sc d p q = ((enter rest (p + 1) q, refl), each service rest (n + 1) sc d (p + 1) q)
each service (if_then e y rest) n sc d p q =
    let join = p + 1 + count y in (
      (enter y (p + 1) join, join, refl),
      parts (steps service y (n + 1) sc d (p + 1) join) _ (each service y (n + 1) sc d (p + 1) join)
          ((enter rest (join + 1) q, refl), each service rest (n + 1 + numbered y) sc d (join + 1) q),
    )
each service (if_else e y o rest) n sc d p q =
    let other = p + 1 + count y in let join = other + count o in (
      (enter y (p + 1) join, enter o other join, refl),
      parts (steps service y (n + 1) sc d (p + 1) join) _ (each service y (n + 1) sc d (p + 1) join)
          (parts (steps service o (n + 1 + numbered y) sc d other join) _ (each service o (n + 1 + numbered y) sc d other join)
          ((enter rest (join + 1) q, refl), each service rest (n + 1 + numbered y + numbered o) sc d (join + 1) q)),
    )
each service (while_loop e y rest) n sc d p q =
    let behind = p + 1 + count y in (
      (enter y (p + 1) p, enter rest behind q, refl),
      parts (steps service y (n + 1) sc d (p + 1) p) _ (each service y (n + 1) sc d (p + 1) p) (each service rest (n + 1 + numbered y) sc d behind q),
    )
each service (for_each w e y rest) n sc d p q =
    let behind = p + 1 + count y in let inner = with_local sc w kinds.Str in (
      (enter y (p + 1) p, enter rest behind q, refl),
      parts (steps service y (n + 1) inner (d + 1) (p + 1) p) _ (each service y (n + 1) inner (d + 1) (p + 1) p)
          (each service rest (n + 1 + numbered y) sc d behind q),
    )
each service (block y rest) n sc d p q =
    let behind = p + count y in let r = enter rest behind q in
    parts (steps service y n sc d p r) _ (each service y n sc d p r) (each service rest (n + numbered y) sc d behind q)
each service (show e rs rest) n sc d p q = ((enter rest (p + 1) q, refl), each service rest (n + 1) sc d (p + 1) q)
each service (exit e rest) n sc d p q = (refl, each service rest (n + 1) sc d (p + 1) q)

each_session : (service : Service) (ss : List Session) (n p out : ℕ) → Each (session_steps service ss n p out)
each_session service [] n p out = tt
each_session service (s ∷ ss) n p out =
    parts (steps service s.body n [] 0 p out) _ (each service s.body n [] 0 p out) (each_session service ss (n + numbered s.body) (p + count s.body) out)

each_at : (xs : List Step) (p : ℕ) (x : Step) → Each xs → slice_get xs p ≡ Some x → HasNexts x.act x.next
each_at [] p x h e = cc
each_at (y ∷ ys) zero x h e = subst (λ (z : Step). HasNexts z.act z.next) (let f : y ≡ x = cc in f) h.0
each_at (y ∷ ys) (suc p) x h e = each_at ys p x h.1 e

pub all_have_nexts : AllHaveNexts
all_have_nexts service p x at =
    each_at (session_steps service service.sessions 1 0 (points service.sessions)) p x (each_session service service.sessions 1 0 (points service.sessions)) at
