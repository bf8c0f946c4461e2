-- Each point is one of some session's.
use Rattle.std.proofs.Common.{◌≡◌, ◌⊎◌, ℕ, zero, suc, ◌+◌, ◌<◌, ◌≤◌, List, [], ◌∷◌, ◌++◌, map, take, Some, subst, inl}
use Rattle.std.proofs.Common.{inr, arith}
use Rattle.std.specs.Prelude.{slice_get, unwrap_or}
use Rattle.std.proofs.lemmas.List.Sums.{sum_by-cons}
use Rattle.bw_lang.specs.declared.service.Service.{Service}
use Rattle.bw_lang.specs.declared.service.Session.{Session}
use Rattle.bw_lang.specs.Service.Code.{Code, done, declare, assign, if_then, if_else, while_loop, block, for_each, show, exit, numbered}
use Rattle.bw_lang.specs.Service.Numbers.{statements}
use Rattle.bw_flow.specs.declared.point.Local.{Local}
use Rattle.bw_flow.specs.Layout.{count, enter, steps, session_steps, points, plan_of}
use Rattle.bw_flow.specs.Steps.{Step}
use Rattle.bw_run.specs.Follow.Laws.{IsOf}
use Rattle.bw_flow.proofs.Spots.{Within, within_parts}

within_at : (lo hi : ℕ) (xs : List Step) (p : ℕ) (x : Step) → Within lo hi xs → slice_get xs p ≡ Some x → (lo ≤ x.number) × (x.number < hi)
within_at lo hi [] p x w e = cc
within_at lo hi (y ∷ ys) zero x w e = subst (λ (z : Step). (lo ≤ z.number) × (z.number < hi)) (let f : y ≡ x = cc in f) (w.0, w.1)
within_at lo hi (y ∷ ys) (suc p) x w e = within_at lo hi ys p x w.2 e

module _ (service : Service) where
  mutual
    rest_within : (c : Code) (n m hi : ℕ) (sc : List Local) (d p q : ℕ) → n ≤ m → m + numbered c ≤ hi → Within n hi (steps service c m sc d p q)
    rest_within done n m hi sc d p q a b = tt
    rest_within (declare k w e rest) n m hi sc d p q a b = (omega arith, omega arith, rest_within rest n (m + 1) hi _ d (p + 1) q (omega arith) (omega arith))
    rest_within (assign w e rest) n m hi sc d p q a b = (omega arith, omega arith, rest_within rest n (m + 1) hi sc d (p + 1) q (omega arith) (omega arith))
    rest_within (show e rs rest) n m hi sc d p q a b = (omega arith, omega arith, rest_within rest n (m + 1) hi sc d (p + 1) q (omega arith) (omega arith))
    rest_within (exit e rest) n m hi sc d p q a b = (omega arith, omega arith, rest_within rest n (m + 1) hi sc d (p + 1) q (omega arith) (omega arith))
    rest_within (if_then e y rest) n m hi sc d p q a b =
        let join = p + 1 + count y in (
          omega arith,
          omega arith,
          within_parts n hi (steps service y (m + 1) sc d (p + 1) join) _ (rest_within y n (m + 1) hi sc d (p + 1) join (omega arith) (omega arith))
              (omega arith, omega arith, rest_within rest n (m + 1 + numbered y) hi sc d (join + 1) q (omega arith) (omega arith)),
        )
    rest_within (if_else e y o rest) n m hi sc d p q a b =
        let other = p + 1 + count y in let join = other + count o in (
          omega arith,
          omega arith,
          within_parts n hi (steps service y (m + 1) sc d (p + 1) join) _ (rest_within y n (m + 1) hi sc d (p + 1) join (omega arith) (omega arith))
              (within_parts n hi (steps service o (m + 1 + numbered y) sc d other join) _
              (rest_within o n (m + 1 + numbered y) hi sc d other join (omega arith) (omega arith))
              (omega arith, omega arith, rest_within rest n (m + 1 + numbered y + numbered o) hi sc d (join + 1) q (omega arith) (omega arith))),
        )
    rest_within (while_loop e y rest) n m hi sc d p q a b = (
      omega arith,
      omega arith,
      within_parts n hi (steps service y (m + 1) sc d (p + 1) p) _ (rest_within y n (m + 1) hi sc d (p + 1) p (omega arith) (omega arith))
          (rest_within rest n (m + 1 + numbered y) hi sc d (p + 1 + count y) q (omega arith) (omega arith)),
    )
    rest_within (for_each w e y rest) n m hi sc d p q a b = (
      omega arith,
      omega arith,
      within_parts n hi (steps service y (m + 1) _ (d + 1) (p + 1) p) _ (rest_within y n (m + 1) hi _ (d + 1) (p + 1) p (omega arith) (omega arith))
          (rest_within rest n (m + 1 + numbered y) hi sc d (p + 1 + count y) q (omega arith) (omega arith)),
    )
    rest_within (block y rest) n m hi sc d p q a b =
        let r = enter rest (p + count y) q in
        within_parts n hi (steps service y m sc d p r) _ (rest_within y n m hi sc d p r (omega arith) (omega arith))
        (rest_within rest n (m + numbered y) hi sc d (p + count y) q (omega arith) (omega arith))

  -- the point at a place of some sessions is one of them
  pub record OwnedBy (ss : List Session) (n number : ℕ) : Type 0 where
    pub session : ℕ
    pub from : n + statements (take session ss) ≤ number
    pub below : number < n + statements (take session ss) + numbered (unwrap_or (slice_get (map (λ s. s.body) ss) session) done)

either_part : (xs ys : List Step) (i : ℕ) (x : Step) → slice_get (xs ++ ys) i ≡ Some x → (slice_get xs i ≡ Some x) ⊎ ((j : ℕ) × (slice_get ys j ≡ Some x))
either_part [] ys i x e = inr (i, e)
either_part (z ∷ xs) ys zero x e = inl e
either_part (z ∷ xs) ys (suc i) x e = either_part xs ys i x e

owned : (service : Service) (ss : List Session) (n p out i : ℕ) (x : Step) → slice_get (session_steps service ss n p out) i ≡ Some x →
    OwnedBy service ss n x.number
owned service [] n p out i x e = cc
owned service (s ∷ ss) n p out i x e =
    by_part (either_part (steps service s.body n [] 0 p out) (session_steps service ss (n + numbered s.body) (p + count s.body) out) i x e)
    (λ j h. owned service ss (n + numbered s.body) (p + count s.body) out j x h)
  where
    by_part : (slice_get (steps service s.body n [] 0 p out) i ≡ Some x) ⊎
        ((j : ℕ) × (slice_get (session_steps service ss (n + numbered s.body) (p + count s.body) out) j ≡ Some x))
        → ((j : ℕ) → slice_get (session_steps service ss (n + numbered s.body) (p + count s.body) out) j ≡ Some x →
        OwnedBy service ss (n + numbered s.body) x.number) → OwnedBy service (s ∷ ss) n x.number
    by_part (inl h) more =
        let w = within_at n (n + numbered s.body) (steps service s.body n [] 0 p out) i x
        (rest_within service s.body n n (n + numbered s.body) [] 0 p out (omega arith) (omega arith)) h in
        let l = w.0 in let u = w.1 in
        record { session = 0; from = omega arith; below = omega arith }
    by_part (inr h) more =
        let o = more h.0 h.1 in
        let sum : statements (s ∷ take o.session ss) ≡ numbered s.body + statements (take o.session ss) = sum_by-cons (λ z. numbered z.body) s
        (take o.session ss) in
        let l = o.from in let u = o.below in
        record { session = suc o.session; from = omega arith; below = omega arith }

pub own_session : (service : Service) (p : ℕ) (x : Step) → slice_get (plan_of service).steps p ≡ Some x → (session : ℕ) × IsOf service session x.number
own_session service p x e =
    let o = owned service service.sessions 1 0 (points service.sessions) p x e in
    (o.session, record { from = o.from; below = o.below })
