-- The flow stands for its service.
use Rattle.std.proofs.Common.{◌≡◌, ℕ, ◌+◌, List, [], ◌∷◌, ◌++◌, length, refl, ap, sym, subst, arith}
use Rattle.std.proofs.lemmas.List.{length-append}
use Rattle.bw_lang.specs.declared.service.Session.{Session}
use Rattle.bw_lang.specs.declared.stmt.Kind.TheVariants as kinds
use Rattle.bw_lang.specs.Service.Code.{Code, done, declare, assign, if_then, if_else, while_loop, for_each, block, show, exit, numbered}
use Rattle.bw_lang.specs.declared.service.Service.{Service}
use Rattle.bw_flow.specs.declared.point.Local.{Local}
use Rattle.bw_flow.specs.Layout.{count, enter, step, steps, points, session_steps, session_firsts}
use Rattle.bw_flow.specs.Scopes.{with_local}
use Rattle.bw_flow.specs.Steps.{joins, Step}
use Rattle.bw_flow.specs.Stands.{Lowered, AllLowered, StandsForAll}
use Rattle.bw_flow.proofs.Layouts.{length_steps}
use Rattle.bw_flow.proofs.Parts.{Holds, holds_at, holds_parts, holds_self}

pub stands : (service : Service) (flow : List Step) (c : Code) (n : ℕ) (sc : List Local) (d p q : ℕ) → Holds flow p (steps service c n sc d p q) →
    Lowered service flow c n sc d (enter c p q) q
stands service flow done n sc d p q h = refl
stands service flow (declare k w e rest) n sc d p q h = (enter rest (p + 1) q, h.0, stands service flow rest (n + 1) (with_local sc w k) d (p + 1) q h.1)
stands service flow (assign w e rest) n sc d p q h = (enter rest (p + 1) q, h.0, stands service flow rest (n + 1) sc d (p + 1) q h.1)
stands service flow (if_then e y rest) n sc d p q h =
    let join = p + 1 + count y in
    let ys = steps service y (n + 1) sc d (p + 1) join in
    let more = step n sc d joins (enter rest (join + 1) q ∷ []) ∷ steps service rest (n + 1 + numbered y) sc d (join + 1) q in
    let a = holds_parts flow (p + 1) ys more h.1 in
    let b = holds_at flow (p + 1 + length ys) join more (ap (λ l. p + 1 + l) (length_steps service y (n + 1) sc d (p + 1) join)) a.1 in (
      enter y (p + 1) join,
      join,
      enter rest (join + 1) q,
      h.0,
      b.0,
      stands service flow y (n + 1) sc d (p + 1) join a.0,
      stands service flow rest (n + 1 + numbered y) sc d (join + 1) q b.1,
    )
stands service flow (if_else e y o rest) n sc d p q h =
    let other = p + 1 + count y in let join = other + count o in
    let ys = steps service y (n + 1) sc d (p + 1) join in
    let os = steps service o (n + 1 + numbered y) sc d other join in
    let more = step n sc d joins (enter rest (join + 1) q ∷ []) ∷ steps service rest (n + 1 + numbered y + numbered o) sc d (join + 1) q in
    let a = holds_parts flow (p + 1) ys (os ++ more) h.1 in
    let b = holds_parts flow other os more (holds_at flow (p + 1 + length ys) other (os ++ more)
    (ap (λ l. p + 1 + l) (length_steps service y (n + 1) sc d (p + 1) join)) a.1) in
    let c = holds_at flow (other + length os) join more (ap (λ l. other + l) (length_steps service o (n + 1 + numbered y) sc d other join)) b.1 in (
      enter y (p + 1) join,
      enter o other join,
      join,
      enter rest (join + 1) q,
      h.0,
      c.0,
      stands service flow y (n + 1) sc d (p + 1) join a.0,
      stands service flow o (n + 1 + numbered y) sc d other join b.0,
      stands service flow rest (n + 1 + numbered y + numbered o) sc d (join + 1) q c.1,
    )
stands service flow (while_loop e y rest) n sc d p q h =
    let behind = p + 1 + count y in
    let ys = steps service y (n + 1) sc d (p + 1) p in
    let more = steps service rest (n + 1 + numbered y) sc d behind q in
    let a = holds_parts flow (p + 1) ys more h.1 in
    let b = holds_at flow (p + 1 + length ys) behind more (ap (λ l. p + 1 + l) (length_steps service y (n + 1) sc d (p + 1) p)) a.1 in (
      enter y (p + 1) p,
      enter rest behind q,
      h.0,
      stands service flow y (n + 1) sc d (p + 1) p a.0,
      stands service flow rest (n + 1 + numbered y) sc d behind q b,
    )
stands service flow (for_each w e y rest) n sc d p q h =
    let behind = p + 1 + count y in let inner = with_local sc w kinds.Str in
    let ys = steps service y (n + 1) inner (d + 1) (p + 1) p in
    let more = steps service rest (n + 1 + numbered y) sc d behind q in
    let a = holds_parts flow (p + 1) ys more h.1 in
    let b = holds_at flow (p + 1 + length ys) behind more (ap (λ l. p + 1 + l) (length_steps service y (n + 1) inner (d + 1) (p + 1) p)) a.1 in (
      enter y (p + 1) p,
      enter rest behind q,
      h.0,
      stands service flow y (n + 1) inner (d + 1) (p + 1) p a.0,
      stands service flow rest (n + 1 + numbered y) sc d behind q b,
    )
stands service flow (block y rest) n sc d p q h =
    let behind = p + count y in let r = enter rest behind q in
    let ys = steps service y n sc d p r in
    let more = steps service rest (n + numbered y) sc d behind q in
    let a = holds_parts flow p ys more h in
    let b = holds_at flow (p + length ys) behind more (ap (λ l. p + l) (length_steps service y n sc d p r)) a.1 in
    (r, stands service flow y n sc d p r a.0, stands service flow rest (n + numbered y) sc d behind q b)
stands service flow (show e rs rest) n sc d p q h = (enter rest (p + 1) q, h.0, stands service flow rest (n + 1) sc d (p + 1) q h.1)
stands service flow (exit e rest) n sc d p q h = (enter rest (p + 1) q, h.0, stands service flow rest (n + 1) sc d (p + 1) q h.1)

pub length_sessions : (service : Service) (ss : List Session) (n p out : ℕ) → length (session_steps service ss n p out) ≡ points ss
length_sessions service [] n p out = refl
length_sessions service (s ∷ ss) n p out =
    let body = steps service s.body n [] 0 p out in
    let more = session_steps service ss (n + numbered s.body) (p + count s.body) out in
    omega (arith, length-append body more, length_steps service s.body n [] 0 p out, length_sessions service ss (n + numbered s.body) (p + count s.body) out)

all_stand : (service : Service) (flow : List Step) (ss : List Session) (n p out : ℕ) → Holds flow p (session_steps service ss n p out) →
    AllLowered service flow ss (session_firsts ss p out) n out
all_stand service flow [] n p out h = tt
all_stand service flow (s ∷ ss) n p out h =
    let body = steps service s.body n [] 0 p out in
    let more = session_steps service ss (n + numbered s.body) (p + count s.body) out in
    let a = holds_parts flow p body more h in
    let b = holds_at flow (p + length body) (p + count s.body) more (ap (λ l. p + l) (length_steps service s.body n [] 0 p out)) a.1 in
    (stands service flow s.body n [] 0 p out a.0, all_stand service flow ss (n + numbered s.body) (p + count s.body) out b)

pub stands_for_all : StandsForAll
stands_for_all service =
    let out = points service.sessions in let flow = session_steps service service.sessions 1 0 out in
    subst (λ m. AllLowered service flow service.sessions (session_firsts service.sessions 0 out) 1 m) (sym (length_sessions service service.sessions 1 0 out))
    (all_stand service flow service.sessions 1 0 out (holds_self flow))
