-- The points of statements that are typed are typed.
use Rattle.std.proofs.Common.{◌≡◌, ℕ, zero, suc, ◌+◌, List, [], ◌∷◌, ◌++◌, length, Some, refl, ap, sym, ◌∙◌, subst, inl, inr}
use Rattle.std.specs.Prelude.{slice_get}
use Rattle.std.specs.List.{All}
use Rattle.std.specs.Option.{option_or}
use Rattle.std.proofs.lemmas.List.Elements.{All-nil, All-cons, All-head, All-tail}
use Rattle.bw_lang.specs.declared.service.Service.{Service}
use Rattle.bw_lang.specs.declared.service.Session.{Session}
use Rattle.bw_lang.specs.declared.stmt.Kind.{Kind}
use Rattle.bw_lang.specs.declared.stmt.Kind.TheVariants as kinds
use Rattle.bw_lang.specs.declared.stmt.Receive.{Receive}
use Rattle.bw_lang.specs.Service.Code.{Code, done, declare, assign, if_then, if_else, while_loop, for_each, block, show, exit, numbered}
use Rattle.bw_lang.specs.Service.CodeNames.{local_names}
use Rattle.bw_types.specs.Scopes as names
use Rattle.bw_types.specs.Scopes.{Scope, no_locals, shared_kind, scope_behind, behind_each}
use Rattle.bw_types.specs.Typing.{IsReceived, IsTypedCode, IsTypedSession}
use Rattle.bw_flow.specs.declared.point.Local.{Local}
use Rattle.bw_flow.specs.Layout.{count, enter, after, step, steps, received, receives, session_steps}
use Rattle.bw_flow.specs.Scopes.{with_local, kind_in, kind_or_string}
use Rattle.bw_flow.specs.Steps.{sets, tests, goes_over, shows, exits, joins, Step}
use Rattle.bw_flow.specs.TypedFlow.{kind_at, AreNames, IsTypedReceive, IsTypedAct}
use Rattle.bw_lang.specs.Service.Order.{IsWoven}
use Rattle.bw_flow.proofs.Layouts.{length_steps}
use Rattle.bw_flow.proofs.Names.{Matches, matches_nothing, matches_more, matches_new, kind_in_is, kind_at_is, new_at, has_kind}
use Rattle.bw_flow.proofs.Parts.{Holds, holds_at, holds_parts}
use Rattle.bw_flow.proofs.Ways.{Ends, ends_at, ends_more, ends_after, entry, AllFollow, no_next, next_kept, next_brought}

-- names, what the point does, and what comes next
pub record GoesWell (service : Service) (flow : List Step) (x : Step) : Type 0 where
  pub names : AreNames service x.scope
  pub acts : IsTypedAct service x.scope x.act
  pub follows : AllFollow service flow x x.next

abbrev pub AllGoWell : Service → List Step → List Step → Type 0
AllGoWell service flow [] = Unit {0}
AllGoWell service flow (x ∷ xs) = GoesWell service flow x × AllGoWell service flow xs

parts_go_well : (service : Service) (flow xs ys : List Step) → AllGoWell service flow xs → AllGoWell service flow ys → AllGoWell service flow (xs ++ ys)
parts_go_well service flow [] ys a b = b
parts_go_well service flow (x ∷ xs) ys a b = (a.0, parts_go_well service flow xs ys a.1 b)

pub goes_well_at : (service : Service) (flow xs : List Step) (p : ℕ) (x : Step) → AllGoWell service flow xs → slice_get xs p ≡ Some x → GoesWell service flow x
goes_well_at service flow [] p x h e = cc
goes_well_at service flow (y ∷ ys) zero x h e = subst (λ z. GoesWell service flow z) (let f : y ≡ x = cc in f) h.0
goes_well_at service flow (y ∷ ys) (suc p) x h e = goes_well_at service flow ys p x h.1 e

-- ---- receives

kind_of_target : (service : Service) (sc : List Local) (w : List ℕ) (k : Kind) → kind_at service sc w ≡ Some k →
    kind_or_string (option_or (kind_in sc w) (shared_kind service w)) ≡ k
kind_of_target service sc w k e = ap kind_or_string (ap (λ o. option_or o (shared_kind service w)) (sym (kind_in_is sc w)) ∙ e)

receive_typed : (service : Service) (scope : Scope) (sc : List Local) (r : Receive) → Matches service scope sc → IsReceived service scope r
    → IsTypedReceive service sc (received service sc r)
receive_typed service scope sc r m (inl e) =
    let at = sym (kind_at_is service scope sc r.target m) ∙ e in
    let k = kind_of_target service sc r.target kinds.Str at in (at ∙ ap Some (sym k), inl k)
receive_typed service scope sc r m (inr e) =
    let at = sym (kind_at_is service scope sc r.target m) ∙ e in
    let k = kind_of_target service sc r.target kinds.Strs at in (at ∙ ap Some (sym k), inr k)

receives_typed : (service : Service) (scope : Scope) (sc : List Local) (rs : List Receive) → Matches service scope sc → All (IsReceived service scope) rs
    → All (IsTypedReceive service sc) (receives service sc rs)
receives_typed service scope sc [] m h = All-nil (IsTypedReceive service sc)
receives_typed service scope sc (r ∷ rs) m h =
    All-cons (IsTypedReceive service sc) (received service sc r) (receives service sc rs)
    (receive_typed service scope sc r m (All-head (IsReceived service scope) r rs h))
    (receives_typed service scope sc rs m (All-tail (IsReceived service scope) r rs h))

-- ---- statements

module _ (service : Service) (flow : List Step) (woven : IsWoven service) where
  pub typed : (c : Code) (n : ℕ) (sc : List Local) (d p q : ℕ) (scope : Scope) → Matches service scope sc → IsTypedCode service scope c
      → Holds flow p (steps service c n sc d p q) → Ends flow q (after c sc) → AllGoWell service flow (steps service c n sc d p q)
  typed done n sc d p q scope m t h e = tt
  typed (declare k w v rest) n sc d p q scope m t h e =
      let l : Local = record { name = w; kind = k } in
      let r = enter rest (p + 1) q in
      let fresh = new_at service scope sc w woven m t.0 in
      let value = has_kind service scope sc v k m t.1 in
      let here = step n sc d (sets w v) (r ∷ []) in (
        record {
          names = m.names;
          acts = (k, value, inr fresh);
          follows = next_brought service flow here l r [] (refl, value, fresh)
              (entry service flow rest (n + 1) (with_local sc w k) d (p + 1) q h.1 e) (no_next service flow here);
        },
        typed rest (n + 1) (with_local sc w k) d (p + 1) q (names.with_local scope w k) (matches_new service scope sc w k woven m t.0) t.2 h.1 e,
      )
  typed (assign w v rest) n sc d p q scope m t h e =
      let r = enter rest (p + 1) q in
      let a = t.0 in
      let here = step n sc d (sets w v) (r ∷ []) in (
        record {
          names = m.names;
          acts = (a.0, has_kind service scope sc v a.0 m a.2, inl (sym (kind_at_is service scope sc w m) ∙ a.1));
          follows = next_kept service flow here r [] (entry service flow rest (n + 1) sc d (p + 1) q h.1 e) (no_next service flow here);
        },
        typed rest (n + 1) sc d (p + 1) q scope m t.1 h.1 e,
      )
  typed (if_then v y rest) n sc d p q scope m t h e =
      let join = p + 1 + count y in
      let ys = steps service y (n + 1) sc d (p + 1) join in
      let r = enter rest (join + 1) q in
      let meet = step n sc d joins (r ∷ []) in
      let more = meet ∷ steps service rest (n + 1 + numbered y) sc d (join + 1) q in
      let a = holds_parts flow (p + 1) ys more h.1 in
      let b = holds_at flow (p + 1 + length ys) join more (ap (λ l. p + 1 + l) (length_steps service y (n + 1) sc d (p + 1) join)) a.1 in
      let at_join = ends_at flow join meet b.0 in
      let inside = ends_after flow join y sc at_join in
      let here = step n sc d (tests v) (enter y (p + 1) join ∷ join ∷ []) in (
        record {
          names = m.names;
          acts = has_kind service scope sc v kinds.Bool m t.0;
          follows = next_kept service flow here (enter y (p + 1) join) (join ∷ [])
              (entry service flow y (n + 1) sc d (p + 1) join a.0 inside) (next_kept service flow here join [] at_join (no_next service flow here));
        },
        parts_go_well service flow ys more (typed y (n + 1) sc d (p + 1) join scope m t.1 a.0 inside) (
          record {
            names = m.names;
            acts = tt;
            follows = next_kept service flow meet r [] (entry service flow rest (n + 1 + numbered y) sc d (join + 1) q b.1 e) (no_next service flow meet);
          },
          typed rest (n + 1 + numbered y) sc d (join + 1) q (scope_behind scope y) (matches_more service scope sc (local_names y) m) t.2 b.1 e,
        ),
      )
  typed (if_else v y o rest) n sc d p q scope m t h e =
      let other = p + 1 + count y in let join = other + count o in
      let ys = steps service y (n + 1) sc d (p + 1) join in
      let os = steps service o (n + 1 + numbered y) sc d other join in
      let r = enter rest (join + 1) q in
      let meet = step n sc d joins (r ∷ []) in
      let more = meet ∷ steps service rest (n + 1 + numbered y + numbered o) sc d (join + 1) q in
      let a = holds_parts flow (p + 1) ys (os ++ more) h.1 in
      let b = holds_parts flow other os more (holds_at flow (p + 1 + length ys) other (os ++ more)
      (ap (λ l. p + 1 + l) (length_steps service y (n + 1) sc d (p + 1) join)) a.1) in
      let c = holds_at flow (other + length os) join more (ap (λ l. other + l) (length_steps service o (n + 1 + numbered y) sc d other join)) b.1 in
      let at_join = ends_at flow join meet c.0 in
      let first = ends_after flow join y sc at_join in
      let second = ends_after flow join o sc at_join in
      let m1 = matches_more service scope sc (local_names y) m in
      let m2 = matches_more service (scope_behind scope y) sc (local_names o) m1 in
      let here = step n sc d (tests v) (enter y (p + 1) join ∷ enter o other join ∷ []) in (
        record {
          names = m.names;
          acts = has_kind service scope sc v kinds.Bool m t.0;
          follows = next_kept service flow here (enter y (p + 1) join) (enter o other join ∷ [])
              (entry service flow y (n + 1) sc d (p + 1) join a.0 first)
              (next_kept service flow here (enter o other join) [] (entry service flow o (n + 1 + numbered y) sc d other join b.0 second)
              (no_next service flow here));
        },
        parts_go_well service flow ys (os ++ more) (typed y (n + 1) sc d (p + 1) join scope m t.1 a.0 first)
            (parts_go_well service flow os more (typed o (n + 1 + numbered y) sc d other join (scope_behind scope y) m1 t.2 b.0 second) (
              record {
                names = m.names;
                acts = tt;
                follows = next_kept service flow meet r [] (entry service flow rest (n + 1 + numbered y + numbered o) sc d (join + 1) q c.1 e)
                    (no_next service flow meet);
              },
              typed rest (n + 1 + numbered y + numbered o) sc d (join + 1) q (scope_behind (scope_behind scope y) o) m2 t.3 c.1 e,
            )),
      )
  typed (while_loop v y rest) n sc d p q scope m t h e =
      let after_body = p + 1 + count y in
      let ys = steps service y (n + 1) sc d (p + 1) p in
      let more = steps service rest (n + 1 + numbered y) sc d after_body q in
      let a = holds_parts flow (p + 1) ys more h.1 in
      let b = holds_at flow (p + 1 + length ys) after_body more (ap (λ l. p + 1 + l) (length_steps service y (n + 1) sc d (p + 1) p)) a.1 in
      let inside = ends_after flow p y sc (ends_at flow p _ h.0) in
      let first = enter y (p + 1) p in let past = enter rest after_body q in
      let here = step n sc d (tests v) (first ∷ past ∷ []) in (
        record {
          names = m.names;
          acts = has_kind service scope sc v kinds.Bool m t.0;
          follows = next_kept service flow here first (past ∷ [])
              (entry service flow y (n + 1) sc d (p + 1) p a.0 inside)
              (next_kept service flow here past [] (entry service flow rest (n + 1 + numbered y) sc d after_body q b e) (no_next service flow here));
        },
        parts_go_well service flow ys more (typed y (n + 1) sc d (p + 1) p scope m t.1 a.0 inside)
            (typed rest (n + 1 + numbered y) sc d after_body q (scope_behind scope y) (matches_more service scope sc (local_names y) m) t.2 b e),
      )
  typed (for_each w v y rest) n sc d p q scope m t h e =
      let after_body = p + 1 + count y in
      let l : Local = record { name = w; kind = kinds.Str } in
      let inner = with_local sc w kinds.Str in
      let ys = steps service y (n + 1) inner (d + 1) (p + 1) p in
      let more = steps service rest (n + 1 + numbered y) sc d after_body q in
      let a = holds_parts flow (p + 1) ys more h.1 in
      let b = holds_at flow (p + 1 + length ys) after_body more (ap (λ i. p + 1 + i) (length_steps service y (n + 1) inner (d + 1) (p + 1) p)) a.1 in
      let inside = ends_after flow p y inner (ends_more flow p sc (l ∷ []) (ends_at flow p _ h.0)) in
      let first = enter y (p + 1) p in let past = enter rest after_body q in
      let fresh = new_at service scope sc w woven m t.0 in
      let here = step n sc d (goes_over w v) (first ∷ past ∷ []) in (
        record {
          names = m.names;
          acts = (fresh, has_kind service scope sc v kinds.Strs m t.1);
          follows = next_brought service flow here l first (past ∷ []) (refl, refl, fresh)
              (entry service flow y (n + 1) inner (d + 1) (p + 1) p a.0 inside)
              (next_kept service flow here past [] (entry service flow rest (n + 1 + numbered y) sc d after_body q b e) (no_next service flow here));
        },
        parts_go_well service flow ys more
            (typed y (n + 1) inner (d + 1) (p + 1) p (names.with_local scope w kinds.Str) (matches_new service scope sc w kinds.Str woven m t.0) t.2 a.0 inside)
            (typed rest (n + 1 + numbered y) sc d after_body q (behind_each scope w y) (matches_more service scope sc (w ∷ local_names y) m) t.3 b e),
      )
  typed (block y rest) n sc d p q scope m t h e =
      let after_body = p + count y in let r = enter rest after_body q in
      let ys = steps service y n sc d p r in
      let more = steps service rest (n + numbered y) sc d after_body q in
      let a = holds_parts flow p ys more h in
      let b = holds_at flow (p + length ys) after_body more (ap (λ l. p + l) (length_steps service y n sc d p r)) a.1 in
      parts_go_well service flow ys more
      (typed y n sc d p r scope m t.0 a.0 (ends_after flow r y sc (entry service flow rest (n + numbered y) sc d after_body q b e)))
      (typed rest (n + numbered y) sc d after_body q (scope_behind scope y) (matches_more service scope sc (local_names y) m) t.1 b e)
  typed (show v rs rest) n sc d p q scope m t h e =
      let r = enter rest (p + 1) q in
      let here = step n sc d (shows v (receives service sc rs)) (r ∷ []) in (
        record {
          names = m.names;
          acts = (has_kind service scope sc v kinds.Html m t.0, receives_typed service scope sc rs m t.1);
          follows = next_kept service flow here r []
              (entry service flow rest (n + 1) sc d (p + 1) q h.1 e) (no_next service flow here);
        },
        typed rest (n + 1) sc d (p + 1) q scope m t.2 h.1 e,
      )
  typed (exit v rest) n sc d p q scope m t h e = (
    record { names = m.names; acts = has_kind service scope sc v kinds.Html m t.0; follows = no_next service flow (step n sc d (exits v) []) },
    typed rest (n + 1) sc d (p + 1) q scope m t.1 h.1 e,
  )

  pub sessions_typed : (ss : List Session) (n p out : ℕ) → All (IsTypedSession service) ss → Ends flow out [] → Holds flow p (session_steps service ss n p out)
      → AllGoWell service flow (session_steps service ss n p out)
  sessions_typed [] n p out t e h = tt
  sessions_typed (s ∷ ss) n p out t e h =
      let body = steps service s.body n [] 0 p out in
      let more = session_steps service ss (n + numbered s.body) (p + count s.body) out in
      let a = holds_parts flow p body more h in
      let b = holds_at flow (p + length body) (p + count s.body) more (ap (λ l. p + l) (length_steps service s.body n [] 0 p out)) a.1 in
      let one = All-head (IsTypedSession service) s ss t in
      parts_go_well service flow body more
      (typed s.body n [] 0 p out no_locals (matches_nothing service) one.0 a.0 (ends_after flow out s.body [] e))
      (sessions_typed ss (n + numbered s.body) (p + count s.body) out (All-tail (IsTypedSession service) s ss t) e b)
