-- No point leads out of the flow.
use Rattle.std.proofs.Common.{◌≡◌, ◌⊎◌, ℕ, zero, suc, ◌+◌, ◌<◌, ◌≤◌, Bool, true, false, List, [], ◌∷◌, ◌++◌, length, refl, sym, subst, inl, inr, arith}
use Rattle.bw_lang.specs.declared.service.Session.{Session}
use Rattle.bw_lang.specs.declared.stmt.Kind.TheVariants as kinds
use Rattle.bw_lang.specs.Service.Code.{Code, done, declare, assign, if_then, if_else, while_loop, for_each, block, show, exit, numbered}
use Rattle.bw_lang.specs.declared.service.Service.{Service}
use Rattle.bw_flow.specs.declared.point.Local.{Local}
use Rattle.bw_flow.specs.Drawing.{first_of}
use Rattle.bw_flow.specs.Layout.{count, enter, steps, points, session_steps, session_firsts}
use Rattle.bw_flow.specs.Scopes.{with_local}
use Rattle.bw_flow.specs.Places.{Among, IsShut, FirstsAreAll}
use Rattle.bw_flow.specs.Steps.{Step}
use Rattle.bw_types.specs.Faults.{ends_in_exit}
use Rattle.std.specs.Prelude.{slice_get, Some}
use Rattle.std.specs.List.{All}
use Rattle.std.proofs.lemmas.List.Elements.{All-head, All-tail}
use Rattle.bw_flow.proofs.Layouts.{first_of_is}
use Rattle.bw_flow.proofs.Joins.{never}
use Rattle.bw_flow.proofs.Stands.{length_sessions}

-- whether the last statement is an `exit`; b is the answer for none
abbrev pub closes : Bool → Code → Bool
closes b done = b
closes b (declare k w e rest) = closes false rest
closes b (assign w e rest) = closes false rest
closes b (if_then e y rest) = closes false rest
closes b (if_else e y o rest) = closes false rest
closes b (while_loop e y rest) = closes false rest
closes b (for_each w e y rest) = closes false rest
closes b (block y rest) = closes false rest
closes b (show e rs rest) = closes false rest
closes b (exit e rest) = closes true rest

-- each session ends in `exit`
abbrev AllClose : List Session → Type 0
AllClose [] = Unit {0}
AllClose (s ∷ ss) = (closes false s.body ≡ true) × AllClose ss

abbrev AllBelow : ℕ → List ℕ → Type 0
AllBelow b [] = Unit {0}
AllBelow b (q ∷ qs) = (q < b) × AllBelow b qs

-- the points that come next stand below this place
abbrev NextsBelow : ℕ → List Step → Type 0
NextsBelow b [] = Unit {0}
NextsBelow b (x ∷ xs) = AllBelow b x.next × NextsBelow b xs

-- what comes behind these statements stands below b, or they end in `exit`
abbrev Safe : Code → ℕ → ℕ → Type 0
Safe c q b = (q < b) ⊎ (closes false c ≡ true)

closed_has : (c : Code) → closes false c ≡ true → 1 ≤ count c
closed_has done h = never h
closed_has (declare k w e rest) h = omega arith
closed_has (assign w e rest) h = omega arith
closed_has (if_then e y rest) h = omega arith
closed_has (if_else e y o rest) h = omega arith
closed_has (while_loop e y rest) h = omega arith
closed_has (for_each w e y rest) h = omega arith
closed_has (block y rest) h = let k = closed_has rest h in omega arith
closed_has (show e rs rest) h = omega arith
closed_has (exit e rest) h = omega arith

first_below : (n r q b : ℕ) → r + n ≤ b → (q < b) ⊎ (1 ≤ n) → first_of n r q < b
first_below zero r q b le (inl h) = h
first_below zero r q b le (inr h) = absurd (omega arith)
first_below (suc n) r q b le h = omega arith

has_or : (c : Code) (q b : ℕ) → Safe c q b → (q < b) ⊎ (1 ≤ count c)
has_or c q b (inl h) = inl h
has_or c q b (inr h) = inr (closed_has c h)

enter_below : (c : Code) (r q b : ℕ) → r + count c ≤ b → Safe c q b → enter c r q < b
enter_below c r q b le h = subst (λ m. m < b) (first_of_is c r q) (first_below (count c) r q b le (has_or c q b h))

below_parts : (b : ℕ) (xs ys : List Step) → NextsBelow b xs → NextsBelow b ys → NextsBelow b (xs ++ ys)
below_parts b [] ys h k = k
below_parts b (x ∷ xs) ys h k = (h.0, below_parts b xs ys h.1 k)

none_behind : (c : Code) → closes true c ≡ true → (c ≡ done) ⊎ (closes false c ≡ true)
none_behind done h = inl refl
none_behind (declare k w e rest) h = inr h
none_behind (assign w e rest) h = inr h
none_behind (if_then e y rest) h = inr h
none_behind (if_else e y o rest) h = inr h
none_behind (while_loop e y rest) h = inr h
none_behind (for_each w e y rest) h = inr h
none_behind (block y rest) h = inr h
none_behind (show e rs rest) h = inr h
none_behind (exit e rest) h = inr h

behind_exit : (c : Code) (q b : ℕ) → (q < b) ⊎ (closes true c ≡ true) → (c ≡ done) ⊎ Safe c q b
behind_exit c q b (inl h) = inr (inl h)
behind_exit c q b (inr h) = by (none_behind c h)
  where
    by : (c ≡ done) ⊎ (closes false c ≡ true) → (c ≡ done) ⊎ Safe c q b
    by (inl k) = inl k
    by (inr k) = inr (inr k)

below : (service : Service) (c : Code) (n : ℕ) (sc : List Local) (d p q b : ℕ) → p + count c ≤ b → Safe c q b → NextsBelow b (steps service c n sc d p q)
below service done n sc d p q b le h = tt
below service (declare k w e rest) n sc d p q b le h =
    ((enter_below rest (p + 1) q b (omega arith) h, tt), below service rest (n + 1) (with_local sc w k) d (p + 1) q b (omega arith) h)
below service (assign w e rest) n sc d p q b le h =
    ((enter_below rest (p + 1) q b (omega arith) h, tt), below service rest (n + 1) sc d (p + 1) q b (omega arith) h)
below service (if_then e y rest) n sc d p q b le h =
    let join = p + 1 + count y in
    let j : join < b = omega arith in (
      (enter_below y (p + 1) join b (omega arith) (inl j), (j, tt)),
      below_parts b (steps service y (n + 1) sc d (p + 1) join) _ (below service y (n + 1) sc d (p + 1) join b (omega arith) (inl j))
          ((enter_below rest (join + 1) q b (omega arith) h, tt), below service rest (n + 1 + numbered y) sc d (join + 1) q b (omega arith) h),
    )
below service (if_else e y o rest) n sc d p q b le h =
    let other = p + 1 + count y in let join = other + count o in
    let j : join < b = omega arith in (
      (enter_below y (p + 1) join b (omega arith) (inl j), (enter_below o other join b (omega arith) (inl j), tt)),
      below_parts b (steps service y (n + 1) sc d (p + 1) join) _ (below service y (n + 1) sc d (p + 1) join b (omega arith) (inl j))
          (below_parts b (steps service o (n + 1 + numbered y) sc d other join) _ (below service o (n + 1 + numbered y) sc d other join b (omega arith) (inl j))
          ((enter_below rest (join + 1) q b (omega arith) h, tt), below service rest (n + 1 + numbered y + numbered o) sc d (join + 1) q b (omega arith) h)),
    )
below service (while_loop e y rest) n sc d p q b le h =
    let behind = p + 1 + count y in
    let j : p < b = omega arith in (
      (enter_below y (p + 1) p b (omega arith) (inl j), (enter_below rest behind q b (omega arith) h, tt)),
      below_parts b (steps service y (n + 1) sc d (p + 1) p) _ (below service y (n + 1) sc d (p + 1) p b (omega arith) (inl j))
          (below service rest (n + 1 + numbered y) sc d behind q b (omega arith) h),
    )
below service (for_each w e y rest) n sc d p q b le h =
    let behind = p + 1 + count y in let inner = with_local sc w kinds.Str in
    let j : p < b = omega arith in (
      (enter_below y (p + 1) p b (omega arith) (inl j), (enter_below rest behind q b (omega arith) h, tt)),
      below_parts b (steps service y (n + 1) inner (d + 1) (p + 1) p) _ (below service y (n + 1) inner (d + 1) (p + 1) p b (omega arith) (inl j))
          (below service rest (n + 1 + numbered y) sc d behind q b (omega arith) h),
    )
below service (block y rest) n sc d p q b le h =
    let behind = p + count y in let r = enter rest behind q in
    below_parts b (steps service y n sc d p r) _ (below service y n sc d p r b (omega arith) (inl (enter_below rest behind q b (omega arith) h)))
    (below service rest (n + numbered y) sc d behind q b (omega arith) h)
below service (show e rs rest) n sc d p q b le h =
    ((enter_below rest (p + 1) q b (omega arith) h, tt), below service rest (n + 1) sc d (p + 1) q b (omega arith) h)
below service (exit e rest) n sc d p q b le h = (tt, by (behind_exit rest q b h) (below service rest (n + 1) sc d (p + 1) q b (omega arith)))
  where
    by : (rest ≡ done) ⊎ Safe rest q b → (Safe rest q b → NextsBelow b (steps service rest (n + 1) sc d (p + 1) q)) →
        NextsBelow b (steps service rest (n + 1) sc d (p + 1) q)
    by (inl k) go = subst (λ c. NextsBelow b (steps service c (n + 1) sc d (p + 1) q)) (sym k) tt
    by (inr k) go = go k

sessions_below : (service : Service) (ss : List Session) (n p out b : ℕ) → AllClose ss → p + points ss ≤ b → NextsBelow b (session_steps service ss n p out)
sessions_below service [] n p out b h le = tt
sessions_below service (s ∷ ss) n p out b h le =
    below_parts b (steps service s.body n [] 0 p out) _ (below service s.body n [] 0 p out b (omega arith) (inr h.0))
    (sessions_below service ss (n + numbered s.body) (p + count s.body) out b h.1 (omega arith))

firsts_below : (ss : List Session) (p out b : ℕ) → AllClose ss → p + points ss ≤ b → AllBelow b (session_firsts ss p out)
firsts_below [] p out b h le = tt
firsts_below (s ∷ ss) p out b h le = (enter_below s.body p out b (omega arith) (inr h.0), firsts_below ss (p + count s.body) out b h.1 (omega arith))

closes_is : (c : Code) → ends_in_exit c ≡ true → closes false c ≡ true
closes_is done h = never h
closes_is (declare k w e rest) h = closes_is rest h
closes_is (assign w e rest) h = closes_is rest h
closes_is (if_then e y rest) h = closes_is rest h
closes_is (if_else e y o rest) h = closes_is rest h
closes_is (while_loop e y rest) h = closes_is rest h
closes_is (for_each w e y rest) h = closes_is rest h
closes_is (block y rest) h = closes_is rest h
closes_is (show e rs rest) h = closes_is rest h
closes_is (exit e done) h = refl
closes_is (exit e (declare k w v rest)) h = closes_is (declare k w v rest) h
closes_is (exit e (assign w v rest)) h = closes_is (assign w v rest) h
closes_is (exit e (if_then v y rest)) h = closes_is (if_then v y rest) h
closes_is (exit e (if_else v y o rest)) h = closes_is (if_else v y o rest) h
closes_is (exit e (while_loop v y rest)) h = closes_is (while_loop v y rest) h
closes_is (exit e (for_each w v y rest)) h = closes_is (for_each w v y rest) h
closes_is (exit e (block y rest)) h = closes_is (block y rest) h
closes_is (exit e (show v rs rest)) h = closes_is (show v rs rest) h
closes_is (exit e (exit v rest)) h = closes_is (exit v rest) h

all_close : (ss : List Session) → All (λ s. ends_in_exit s.body ≡ true) ss → AllClose ss
all_close [] h = tt
all_close (s ∷ ss) h =
    (closes_is s.body (All-head (λ z. ends_in_exit z.body ≡ true) s ss h), all_close ss (All-tail (λ z. ends_in_exit z.body ≡ true) s ss h))

among_below : (b q : ℕ) (qs : List ℕ) → AllBelow b qs → Among q qs → q < b
among_below b q [] h i = absurd i
among_below b q (r ∷ qs) h (inl e) = subst (λ m. m < b) (sym e) h.0
among_below b q (r ∷ qs) h (inr i) = among_below b q qs h.1 i

nexts_at : (b p : ℕ) (xs : List Step) (x : Step) → NextsBelow b xs → slice_get xs p ≡ Some x → AllBelow b x.next
nexts_at b p [] x h e = cc
nexts_at b zero (y ∷ ys) x h e = subst (λ (z : Step). AllBelow b z.next) (let f : y ≡ x = cc in f) h.0
nexts_at b (suc p) (y ∷ ys) x h e = nexts_at b p ys x h.1 e

first_at : (b k q : ℕ) (qs : List ℕ) → AllBelow b qs → slice_get qs k ≡ Some q → q < b
first_at b k q [] h e = cc
first_at b zero q (r ∷ qs) h e = subst (λ m. m < b) (let f : r ≡ q = cc in f) h.0
first_at b (suc k) q (r ∷ qs) h e = first_at b k q qs h.1 e

pub is_shut : IsShut
is_shut service h =
    let ss = service.sessions in
    let out = points ss in
    let flow = session_steps service ss 1 0 out in
    let b = length flow in
    let closed = all_close ss h in
    let len = length_sessions service ss 1 0 out in
    let nexts = sessions_below service ss 1 0 out b closed (omega arith) in
    let firsts = firsts_below ss 0 out b closed (omega arith) in
    (λ p q x at i. among_below b q x.next (nexts_at b p flow x nexts at) i, λ k q e. first_at b k q (session_firsts ss 0 out) firsts e)

-- ---- how many first places and next points there are

pub length_firsts : (ss : List Session) (p out : ℕ) → length (session_firsts ss p out) ≡ length ss
length_firsts [] p out = refl
length_firsts (s ∷ ss) p out = let e = length_firsts ss (p + count s.body) out in omega (arith, e)

pub firsts_are_all : FirstsAreAll
firsts_are_all service = length_firsts service.sessions 0 (points service.sessions)
