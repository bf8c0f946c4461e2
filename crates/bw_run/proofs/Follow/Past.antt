-- Behind a foreach the locals in scope are those in front of it, or fewer; and a session begins with none.
use Rattle.std.proofs.Common.{◌≡◌, ℕ, zero, suc, ◌+◌, List, [], ◌∷◌, ◌++◌, length, Some, ap, sym, subst}
use Rattle.std.specs.Prelude.{slice_get}
use Rattle.bw_lang.specs.declared.service.Service.{Service}
use Rattle.bw_lang.specs.declared.service.Session.{Session}
use Rattle.bw_lang.specs.declared.stmt.Kind.TheVariants as kinds
use Rattle.bw_lang.specs.Service.Code.{Code, done, declare, assign, if_then, if_else, while_loop, block, for_each, show, exit, numbered}
use Rattle.bw_lang.specs.Service.Term.{Term}
use Rattle.bw_flow.specs.declared.point.Local.{Local}
use Rattle.bw_flow.specs.Layout.{count, enter, after, step, steps, session_steps, points, plan_of}
use Rattle.bw_flow.specs.Scopes.{with_local}
use Rattle.bw_flow.specs.Stands.{IsAt, Lowered}
use Rattle.bw_flow.specs.Steps.{Act, Step}
use Rattle.bw_flow.specs.Steps as acts
use Rattle.bw_flow.proofs.Layouts.{length_steps}
use Rattle.bw_flow.proofs.Parts.{Holds, holds_at, holds_parts, holds_self}
use Rattle.bw_flow.proofs.Stands.{length_sessions}
use Rattle.bw_flow.proofs.Ways.{Ends, ends_at, ends_more, ends_after, entry}
use Rattle.bw_run.specs.Follow.Runs.{second_of}
use Rattle.bw_flow.proofs.Given.{nothing_behind}

-- from a foreach, which goes on behind it at its second place
abbrev GoesPast : List Step → Act → List Local → List ℕ → Type 0
GoesPast flow (acts.goes_over w e) scope next = Ends flow (second_of next) scope
GoesPast flow (acts.sets w e) scope next = Unit {0}
GoesPast flow (acts.tests e) scope next = Unit {0}
GoesPast flow (acts.shows e rs) scope next = Unit {0}
GoesPast flow (acts.exits e) scope next = Unit {0}
GoesPast flow acts.joins scope next = Unit {0}

abbrev AllGoPast : List Step → List Step → Type 0
AllGoPast flow [] = Unit {0}
AllGoPast flow (x ∷ xs) = GoesPast flow x.act x.scope x.next × AllGoPast flow xs

parts_go_past : (flow xs ys : List Step) → AllGoPast flow xs → AllGoPast flow ys → AllGoPast flow (xs ++ ys)
parts_go_past flow [] ys a b = b
parts_go_past flow (x ∷ xs) ys a b = (a.0, parts_go_past flow xs ys a.1 b)

goes_past_at : (flow xs : List Step) (p : ℕ) (x : Step) → AllGoPast flow xs → slice_get xs p ≡ Some x → GoesPast flow x.act x.scope x.next
goes_past_at flow [] p x h e = cc
goes_past_at flow (y ∷ ys) zero x h e = subst (λ z. GoesPast flow z.act z.scope z.next) (let f : y ≡ x = cc in f) h.0
goes_past_at flow (y ∷ ys) (suc p) x h e = goes_past_at flow ys p x h.1 e

module _ (service : Service) (flow : List Step) where
  past : (c : Code) (n : ℕ) (sc : List Local) (d p q : ℕ) → Holds flow p (steps service c n sc d p q) → Ends flow q (after c sc) →
      AllGoPast flow (steps service c n sc d p q)
  past done n sc d p q h e = tt
  past (declare k w v rest) n sc d p q h e = (tt, past rest (n + 1) (with_local sc w k) d (p + 1) q h.1 e)
  past (assign w v rest) n sc d p q h e = (tt, past rest (n + 1) sc d (p + 1) q h.1 e)
  past (show v rs rest) n sc d p q h e = (tt, past rest (n + 1) sc d (p + 1) q h.1 e)
  past (exit v rest) n sc d p q h e = (tt, past rest (n + 1) sc d (p + 1) q h.1 e)
  past (if_then v y rest) n sc d p q h e =
      let join = p + 1 + count y in
      let ys = steps service y (n + 1) sc d (p + 1) join in
      let meet = step n sc d acts.joins (enter rest (join + 1) q ∷ []) in
      let more = meet ∷ steps service rest (n + 1 + numbered y) sc d (join + 1) q in
      let a = holds_parts flow (p + 1) ys more h.1 in
      let b = holds_at flow (p + 1 + length ys) join more (ap (λ l. p + 1 + l) (length_steps service y (n + 1) sc d (p + 1) join)) a.1 in (
        tt,
        parts_go_past flow ys more (past y (n + 1) sc d (p + 1) join a.0 (ends_after flow join y sc (ends_at flow join meet b.0)))
            (tt, past rest (n + 1 + numbered y) sc d (join + 1) q b.1 e),
      )
  past (if_else v y o rest) n sc d p q h e =
      let other = p + 1 + count y in let join = other + count o in
      let ys = steps service y (n + 1) sc d (p + 1) join in
      let os = steps service o (n + 1 + numbered y) sc d other join in
      let meet = step n sc d acts.joins (enter rest (join + 1) q ∷ []) in
      let more = meet ∷ steps service rest (n + 1 + numbered y + numbered o) sc d (join + 1) q in
      let a = holds_parts flow (p + 1) ys (os ++ more) h.1 in
      let b = holds_parts flow other os more (holds_at flow (p + 1 + length ys) other (os ++ more)
      (ap (λ l. p + 1 + l) (length_steps service y (n + 1) sc d (p + 1) join)) a.1) in
      let c = holds_at flow (other + length os) join more (ap (λ l. other + l) (length_steps service o (n + 1 + numbered y) sc d other join)) b.1 in
      let at_join = ends_at flow join meet c.0 in (
        tt,
        parts_go_past flow ys (os ++ more) (past y (n + 1) sc d (p + 1) join a.0 (ends_after flow join y sc at_join))
            (parts_go_past flow os more (past o (n + 1 + numbered y) sc d other join b.0 (ends_after flow join o sc at_join))
            (tt, past rest (n + 1 + numbered y + numbered o) sc d (join + 1) q c.1 e)),
      )
  past (while_loop v y rest) n sc d p q h e =
      let after_body = p + 1 + count y in
      let ys = steps service y (n + 1) sc d (p + 1) p in
      let more = steps service rest (n + 1 + numbered y) sc d after_body q in
      let a = holds_parts flow (p + 1) ys more h.1 in
      let b = holds_at flow (p + 1 + length ys) after_body more (ap (λ l. p + 1 + l) (length_steps service y (n + 1) sc d (p + 1) p)) a.1 in (
        tt,
        parts_go_past flow ys more (past y (n + 1) sc d (p + 1) p a.0 (ends_after flow p y sc (ends_at flow p _ h.0)))
            (past rest (n + 1 + numbered y) sc d after_body q b e),
      )
  past (for_each w v y rest) n sc d p q h e =
      let after_body = p + 1 + count y in
      let l : Local = record { name = w; kind = kinds.Str } in
      let inner = with_local sc w kinds.Str in
      let ys = steps service y (n + 1) inner (d + 1) (p + 1) p in
      let more = steps service rest (n + 1 + numbered y) sc d after_body q in
      let a = holds_parts flow (p + 1) ys more h.1 in
      let b = holds_at flow (p + 1 + length ys) after_body more (ap (λ i. p + 1 + i) (length_steps service y (n + 1) inner (d + 1) (p + 1) p)) a.1 in
      let inside = ends_after flow p y inner (ends_more flow p sc (l ∷ []) (ends_at flow p _ h.0)) in (
        entry service flow rest (n + 1 + numbered y) sc d after_body q b e,
        parts_go_past flow ys more (past y (n + 1) inner (d + 1) (p + 1) p a.0 inside) (past rest (n + 1 + numbered y) sc d after_body q b e),
      )
  past (block y rest) n sc d p q h e =
      let after_body = p + count y in let r = enter rest after_body q in
      let ys = steps service y n sc d p r in
      let more = steps service rest (n + numbered y) sc d after_body q in
      let a = holds_parts flow p ys more h in
      let b = holds_at flow (p + length ys) after_body more (ap (λ l. p + l) (length_steps service y n sc d p r)) a.1 in
      parts_go_past flow ys more (past y n sc d p r a.0 (ends_after flow r y sc (entry service flow rest (n + numbered y) sc d after_body q b e)))
      (past rest (n + numbered y) sc d after_body q b e)

  sessions_past : (ss : List Session) (n p out : ℕ) → Ends flow out [] → Holds flow p (session_steps service ss n p out) →
      AllGoPast flow (session_steps service ss n p out)
  sessions_past [] n p out e h = tt
  sessions_past (s ∷ ss) n p out e h =
      let body = steps service s.body n [] 0 p out in
      let more = session_steps service ss (n + numbered s.body) (p + count s.body) out in
      let a = holds_parts flow p body more h in
      let b = holds_at flow (p + length body) (p + count s.body) more (ap (λ l. p + l) (length_steps service s.body n [] 0 p out)) a.1 in
      parts_go_past flow body more (past s.body n [] 0 p out a.0 (ends_after flow out s.body [] e))
      (sessions_past ss (n + numbered s.body) (p + count s.body) out e b)

  -- where statements begin that are laid out, what is in scope in front of them is, or less where they have no point
  pub begins_with : (c : Code) (n : ℕ) (sc : List Local) (d p q : ℕ) → Lowered service flow c n sc d p q → Ends flow q (after c sc) → Ends flow p sc
  begins_with done n sc d p q low e = subst (λ m. Ends flow m sc) (sym low) e
  begins_with (declare k w v rest) n sc d p q low e = ends_at flow p _ low.1
  begins_with (assign w v rest) n sc d p q low e = ends_at flow p _ low.1
  begins_with (if_then t y rest) n sc d p q low e = ends_at flow p _ low.3
  begins_with (if_else t y o rest) n sc d p q low e = ends_at flow p _ low.4
  begins_with (while_loop t y rest) n sc d p q low e = ends_at flow p _ low.2
  begins_with (for_each w v y rest) n sc d p q low e = ends_at flow p _ low.2
  begins_with (show v rs rest) n sc d p q low e = ends_at flow p _ low.1
  begins_with (exit v rest) n sc d p q low e = ends_at flow p _ low.1
  begins_with (block y rest) n sc d p q low e =
      begins_with y n sc d p low.0 low.1 (ends_after flow low.0 y sc (begins_with rest (n + numbered y) sc d low.0 q low.2 e))

-- no point stands behind the last one
pub ends_out : (flow : List Step) (scope : List Local) → Ends flow (length flow) scope
ends_out flow scope y e = absurd (nothing_behind flow y e)

-- from a foreach of the flow of a service, which goes on behind it
pub goes_past : (service : Service) (p : ℕ) (x : Step) (w : List ℕ) (e : Term) → IsAt (plan_of service).steps p x → x.act ≡ acts.goes_over w e →
    Ends (plan_of service).steps (second_of x.next) x.scope
goes_past service p x w e at is =
    let flow = (plan_of service).steps in
    let out = points service.sessions in
    let len = length_sessions service service.sessions 1 0 out in
    let all = sessions_past service flow service.sessions 1 0 out
    (λ y h. absurd (nothing_behind flow y (subst (λ m. slice_get flow m ≡ Some y) (sym len) h))) (holds_self flow) in
    subst (λ a. GoesPast flow a x.scope x.next) is (goes_past_at flow flow p x all at)
