-- From a join to a join places rise.
use Rattle.std.proofs.Common.{◌≡◌, ◌⊎◌, ℕ, zero, suc, ◌+◌, ◌<◌, ◌≤◌, true, false, List, [], ◌∷◌, ◌++◌, length, ap, sym, subst, inl, inr, arith, Some, None}
use Rattle.std.specs.Prelude.{slice_get}
use Rattle.bw_lang.specs.declared.service.Session.{Session}
use Rattle.bw_lang.specs.declared.stmt.Kind.TheVariants as kinds
use Rattle.bw_lang.specs.Service.Code.{Code, done, declare, assign, if_then, if_else, while_loop, for_each, block, show, exit, numbered}
use Rattle.bw_lang.specs.declared.service.Service.{Service}
use Rattle.bw_flow.specs.declared.point.Local.{Local}
use Rattle.bw_flow.specs.Drawing.{first_of}
use Rattle.bw_flow.specs.Flows.{is_join}
use Rattle.bw_flow.specs.Layout.{count, enter, step, steps, points, session_steps}
use Rattle.bw_flow.specs.Scopes.{with_local}
use Rattle.bw_flow.specs.Steps.{joins, Step}
use Rattle.bw_flow.specs.Places.{join_of, AllJoinsRise}
use Rattle.bw_flow.proofs.Layouts.{first_of_is, length_steps}
use Rattle.bw_flow.proofs.Parts.{Holds, holds_at, holds_parts, holds_self}
use Rattle.bw_flow.proofs.Numbered.{cons_head}

-- q is the end of these points or behind it, or no join stands there
abbrev Ok : List Step → ℕ → ℕ → Type 0
Ok flow end q = (end ≤ q) ⊎ (join_of (slice_get flow q) ≡ false)

first_ok : (flow : List Step) (n r q : ℕ) → Ok flow (r + n) q → Ok flow r (first_of n r q)
first_ok flow zero r q ok = let e : r + 0 ≡ r = omega arith in subst (λ m. Ok flow m q) e ok
first_ok flow (suc n) r q ok = inl (omega arith)

enter_ok : (flow : List Step) (c : Code) (r q : ℕ) → Ok flow (r + count c) q → Ok flow r (enter c r q)
enter_ok flow c r q ok = subst (λ m. Ok flow r m) (first_of_is c r q) (first_ok flow (count c) r q ok)

ok_at : (flow : List Step) (a b q : ℕ) → a ≡ b → Ok flow a q → Ok flow b q
ok_at flow a b q e ok = subst (λ m. Ok flow m q) e ok

rises_at : (flow : List Step) (p q : ℕ) → Ok flow (p + 1) q → (p < q) ⊎ (join_of (slice_get flow q) ≡ false)
rises_at flow p q (inl h) = inl (omega arith)
rises_at flow p q (inr h) = inr h

abbrev Rises : List Step → ℕ → Step → Type 0
Rises flow p x = (q : ℕ) → is_join x.act ≡ true → x.next ≡ q ∷ [] → (p < q) ⊎ (join_of (slice_get flow q) ≡ false)

abbrev EachRises : List Step → ℕ → List Step → Type 0
EachRises flow p [] = Unit {0}
EachRises flow p (x ∷ xs) = Rises flow p x × EachRises flow (p + 1) xs

each_parts : (flow : List Step) (p : ℕ) (xs ys : List Step) → EachRises flow p xs → EachRises flow (p + length xs) ys → EachRises flow p (xs ++ ys)
each_parts flow p [] ys a b = let e : p + 0 ≡ p = omega arith in subst (λ m. EachRises flow m ys) e b
each_parts flow p (x ∷ xs) ys a b =
    let e : p + length (x ∷ xs) ≡ p + 1 + length xs = omega arith in (a.0, each_parts flow (p + 1) xs ys a.1 (subst (λ m. EachRises flow m ys) e b))

each_at : (flow : List Step) (p i : ℕ) (xs : List Step) (x : Step) → EachRises flow p xs → slice_get xs i ≡ Some x → Rises flow (p + i) x
each_at flow p i [] x h at = absurd (let f : None ≡ Some x = at in cc)
each_at flow p zero (y ∷ xs) x h at =
    let f : y ≡ x = cc in let e : p ≡ p + 0 = omega arith in subst (λ m. Rises flow m x) e (subst (λ z. Rises flow p z) f h.0)
each_at flow p (suc i) (y ∷ xs) x h at = let e : p + 1 + i ≡ p + suc i = omega arith in subst (λ m. Rises flow m x) e (each_at flow (p + 1) i xs x h.1 at)

pub never : {A : Type 0} → false ≡ true → A
never e = absurd (cc)

join_rises : (flow : List Step) (p q n : ℕ) (sc : List Local) (d : ℕ) → Ok flow (p + 1) q → Rises flow p (step n sc d joins (q ∷ []))
join_rises flow p q n sc d ok r b e = let f : q ≡ r = (cons_head q r [] [] e).0 in
    subst (λ m. (p < m) ⊎ (join_of (slice_get flow m) ≡ false)) f (rises_at flow p q ok)

rises : (service : Service) (flow : List Step) (c : Code) (n : ℕ) (sc : List Local) (d p q : ℕ) → Holds flow p (steps service c n sc d p q) →
    Ok flow (p + count c) q → EachRises flow p (steps service c n sc d p q)
rises service flow done n sc d p q h ok = tt
rises service flow (declare k w e rest) n sc d p q h ok =
    (λ r b e. never b, rises service flow rest (n + 1) (with_local sc w k) d (p + 1) q h.1 (ok_at flow _ _ q (omega arith) ok))
rises service flow (assign w e rest) n sc d p q h ok =
    (λ r b e. never b, rises service flow rest (n + 1) sc d (p + 1) q h.1 (ok_at flow _ _ q (omega arith) ok))
rises service flow (if_then e y rest) n sc d p q h ok =
    let join = p + 1 + count y in
    let ys = steps service y (n + 1) sc d (p + 1) join in
    let more = step n sc d joins (enter rest (join + 1) q ∷ []) ∷ steps service rest (n + 1 + numbered y) sc d (join + 1) q in
    let l : p + 1 + length ys ≡ join = ap (λ l. p + 1 + l) (length_steps service y (n + 1) sc d (p + 1) join) in
    let a = holds_parts flow (p + 1) ys more h.1 in
    let b = holds_at flow (p + 1 + length ys) join more l a.1 in
    let ok2 = ok_at flow (p + (2 + count y + count rest)) (join + 1 + count rest) q (omega arith) ok in
    let one = rises service flow y (n + 1) sc d (p + 1) join a.0 (inl (omega arith)) in
    let two = rises service flow rest (n + 1 + numbered y) sc d (join + 1) q b.1 ok2 in
    let j = join_rises flow join (enter rest (join + 1) q) n sc d (enter_ok flow rest (join + 1) q ok2) in
    (λ r b e. never b, each_parts flow (p + 1) ys more one (subst (λ m. EachRises flow m more) (sym l) (j, two)))
rises service flow (if_else e y o rest) n sc d p q h ok =
    let other = p + 1 + count y in let join = other + count o in
    let ys = steps service y (n + 1) sc d (p + 1) join in
    let os = steps service o (n + 1 + numbered y) sc d other join in
    let more = step n sc d joins (enter rest (join + 1) q ∷ []) ∷ steps service rest (n + 1 + numbered y + numbered o) sc d (join + 1) q in
    let l : p + 1 + length ys ≡ other = ap (λ l. p + 1 + l) (length_steps service y (n + 1) sc d (p + 1) join) in
    let m : other + length os ≡ join = ap (λ l. other + l) (length_steps service o (n + 1 + numbered y) sc d other join) in
    let a = holds_parts flow (p + 1) ys (os ++ more) h.1 in
    let b = holds_parts flow other os more (holds_at flow (p + 1 + length ys) other (os ++ more) l a.1) in
    let c = holds_at flow (other + length os) join more m b.1 in
    let ok2 = ok_at flow (p + (2 + count y + count o + count rest)) (join + 1 + count rest) q (omega arith) ok in
    let one = rises service flow y (n + 1) sc d (p + 1) join a.0 (inl (omega arith)) in
    let two = rises service flow o (n + 1 + numbered y) sc d other join b.0 (inl (omega arith)) in
    let three = rises service flow rest (n + 1 + numbered y + numbered o) sc d (join + 1) q c.1 ok2 in
    let j = join_rises flow join (enter rest (join + 1) q) n sc d (enter_ok flow rest (join + 1) q ok2) in
    let tail = each_parts flow other os more two (subst (λ m. EachRises flow m more) (sym m) (j, three)) in
    (λ r b e. never b, each_parts flow (p + 1) ys (os ++ more) one (subst (λ m. EachRises flow m (os ++ more)) (sym l) tail))
rises service flow (while_loop e y rest) n sc d p q h ok =
    let behind = p + 1 + count y in
    let ys = steps service y (n + 1) sc d (p + 1) p in
    let more = steps service rest (n + 1 + numbered y) sc d behind q in
    let l : p + 1 + length ys ≡ behind = ap (λ l. p + 1 + l) (length_steps service y (n + 1) sc d (p + 1) p) in
    let a = holds_parts flow (p + 1) ys more h.1 in
    let b = holds_at flow (p + 1 + length ys) behind more l a.1 in
    let one = rises service flow y (n + 1) sc d (p + 1) p a.0 (inr (ap join_of h.0)) in
    let two = rises service flow rest (n + 1 + numbered y) sc d behind q b
    (ok_at flow (p + (1 + count y + count rest)) (behind + count rest) q (omega arith) ok) in
    (λ r b e. never b, each_parts flow (p + 1) ys more one (subst (λ m. EachRises flow m more) (sym l) two))
rises service flow (for_each w e y rest) n sc d p q h ok =
    let behind = p + 1 + count y in let inner = with_local sc w kinds.Str in
    let ys = steps service y (n + 1) inner (d + 1) (p + 1) p in
    let more = steps service rest (n + 1 + numbered y) sc d behind q in
    let l : p + 1 + length ys ≡ behind = ap (λ l. p + 1 + l) (length_steps service y (n + 1) inner (d + 1) (p + 1) p) in
    let a = holds_parts flow (p + 1) ys more h.1 in
    let b = holds_at flow (p + 1 + length ys) behind more l a.1 in
    let one = rises service flow y (n + 1) inner (d + 1) (p + 1) p a.0 (inr (ap join_of h.0)) in
    let two = rises service flow rest (n + 1 + numbered y) sc d behind q b
    (ok_at flow (p + (1 + count y + count rest)) (behind + count rest) q (omega arith) ok) in
    (λ r b e. never b, each_parts flow (p + 1) ys more one (subst (λ m. EachRises flow m more) (sym l) two))
rises service flow (block y rest) n sc d p q h ok =
    let behind = p + count y in let r = enter rest behind q in
    let ys = steps service y n sc d p r in
    let more = steps service rest (n + numbered y) sc d behind q in
    let l : p + length ys ≡ behind = ap (λ l. p + l) (length_steps service y n sc d p r) in
    let a = holds_parts flow p ys more h in
    let b = holds_at flow (p + length ys) behind more l a.1 in
    let ok2 = ok_at flow (p + (count y + count rest)) (behind + count rest) q (omega arith) ok in
    let one = rises service flow y n sc d p r a.0 (enter_ok flow rest behind q ok2) in
    let two = rises service flow rest (n + numbered y) sc d behind q b ok2 in
    each_parts flow p ys more one (subst (λ m. EachRises flow m more) (sym l) two)
rises service flow (show e rs rest) n sc d p q h ok = (λ r b e. never b, rises service flow rest (n + 1) sc d (p + 1) q h.1 (ok_at flow _ _ q (omega arith) ok))
rises service flow (exit e rest) n sc d p q h ok = (λ r b e. never b, rises service flow rest (n + 1) sc d (p + 1) q h.1 (ok_at flow _ _ q (omega arith) ok))

sessions_rise : (service : Service) (flow : List Step) (ss : List Session) (n p out : ℕ) → p + points ss ≤ out →
    Holds flow p (session_steps service ss n p out) → EachRises flow p (session_steps service ss n p out)
sessions_rise service flow [] n p out le h = tt
sessions_rise service flow (s ∷ ss) n p out le h =
    let body = steps service s.body n [] 0 p out in
    let more = session_steps service ss (n + numbered s.body) (p + count s.body) out in
    let l : p + length body ≡ p + count s.body = ap (λ l. p + l) (length_steps service s.body n [] 0 p out) in
    let a = holds_parts flow p body more h in
    let b = holds_at flow (p + length body) (p + count s.body) more l a.1 in
    each_parts flow p body more (rises service flow s.body n [] 0 p out a.0 (inl (omega arith)))
    (subst (λ m. EachRises flow m more) (sym l) (sessions_rise service flow ss (n + numbered s.body) (p + count s.body) out (omega arith) b))

pub all_joins_rise : AllJoinsRise
all_joins_rise service p q x at j e =
    let flow = session_steps service service.sessions 1 0 (points service.sessions) in
    let h = sessions_rise service flow service.sessions 1 0 (points service.sessions) (omega arith) (holds_self flow) in
    let z : 0 + p ≡ p = omega arith in
    subst (λ m. (m < q) ⊎ (join_of (slice_get flow q) ≡ false)) z (each_at flow 0 p flow x h at q j e)
