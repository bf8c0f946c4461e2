-- The least cells of a typed service are accepted, and cover every world that requests reach.
use Rattle.std.proofs.Common.{◌≡◌, ℕ, ◌+◌, true, List, Some, None, refl, ap, subst, arith}
use Rattle.std.specs.Prelude.{◌≢◌}
use Rattle.std.specs.List.{All, AllPairs, Contains}
use Rattle.std.proofs.lemmas.Bool.{false≢true, eqb-true}
use Rattle.std.proofs.lemmas.List.Elements.{All-weaker, All-nil}
use Rattle.bw_lang.specs.declared.service.Service.{Service}
use Rattle.bw_lang.specs.declared.service.Session.{Session}
use Rattle.bw_lang.specs.declared.stmt.Kind.{Kind}
use Rattle.bw_lang.specs.Service.Code.{Code, done, declare, assign, if_then, if_else, while_loop, block, for_each, show, exit, numbered}
use Rattle.bw_lang.specs.Service.CodeNames.{local_names}
use Rattle.bw_lang.specs.Table.Names.{beside}
use Rattle.bw_lang.specs.Service.Reads.{IsReadable}
use Rattle.bw_lang.proofs.Small.{readable_is_woven}
use Rattle.bw_meaning.specs.GoOn.{body_of}
use Rattle.bw_lang.specs.Service.Numbers.{first_number}
use Rattle.bw_types.specs.Scopes.{Scope, no_locals, declared_names, with_local, scope_behind, behind_each}
use Rattle.bw_types.specs.Typing.{IsTypedCode}
use Rattle.bw_types.specs.Faults.{IsWellTyped}
use Rattle.bw_types.proofs.Differing.{none_differ}
use Rattle.bw_types.proofs.OwnLocals.{locals_own}
use Rattle.bw_types.proofs.Services.{Walked}
use Rattle.bw_types.proofs.Sorted.{sessions_none}
use Rattle.bw_types.proofs.WellTyped.{typed}
use Rattle.bw_typed.proofs.Named.{gaps_have_numbers}
use Rattle.bw_cover.specs.Facts.{Facts}
use Rattle.bw_cover.specs.Kinds.{LocalsAreOf, CellsAreOf, GapsAreThere, IsChecked}
use Rattle.bw_cover.specs.Least.{with_cells, same_spot, service_edges}
use Rattle.bw_cover.specs.LeastKinds.{Sees, SolvedIsAccepted, SolvedWorldsAreCovered}
use Rattle.bw_cover.specs.Spots.{Spot, statement, meeting, out}
use Rattle.bw_cover.proofs.Laying.{distinct}
use Rattle.bw_cover.proofs.Checked.{at_body, bodies_typed, checked_is_accepted}
use Rattle.bw_cover.proofs.LeastKinds.{least_kinded}
use Rattle.bw_cover.proofs.Literals.{typed_literals}
use Rattle.bw_cover.proofs.Worlds.{empty_is_covered, worlds_are_covered}
use Rattle.bw_lang.specs.declared.stmt.Kind.TheVariants as kinds
use Rattle.bw_cover.proofs.TypedEdges.{typed_edges, all_edges}

-- the cells that statements see
module _ (sees : Spot → Scope) where
  cells_of : (f : Facts Spot) → ((q : Spot) → LocalsAreOf f q (sees q)) → (c : Code) (n : ℕ) (scope : Scope) → Sees sees c n scope → CellsAreOf f c n scope
  cells_of f h done n scope s = tt
  cells_of f h (declare kind w e rest) n scope s =
      (subst (LocalsAreOf f (statement n)) s.0 (h (statement n)), cells_of f h rest (n + 1) (with_local scope w kind) s.1)
  cells_of f h (assign w e rest) n scope s = (subst (LocalsAreOf f (statement n)) s.0 (h (statement n)), cells_of f h rest (n + 1) scope s.1)
  cells_of f h (if_then t y rest) n scope s = (
    subst (LocalsAreOf f (statement n)) s.0 (h (statement n)),
    cells_of f h y (n + 1) scope s.2,
    cells_of f h rest (n + 1 + numbered y)
        (scope_behind scope y) s.3,
  )
  cells_of f h (if_else t y z rest) n scope s = (
    subst (LocalsAreOf f (statement n)) s.0 (h (statement n)),
    cells_of f h y (n + 1) scope s.2,
    cells_of f h z (n + 1 + numbered y) (scope_behind scope y) s.3,
    cells_of f h rest (n + 1 + numbered y + numbered z) (scope_behind (scope_behind scope y) z) s.4,
  )
  cells_of f h (while_loop t b rest) n scope s = (
    subst (LocalsAreOf f (statement n)) s.0 (h (statement n)),
    cells_of f h b (n + 1) scope s.1,
    cells_of f h rest (n + 1 + numbered b)
        (scope_behind scope b) s.2,
  )
  cells_of f h (block b rest) n scope s = (cells_of f h b n scope s.0, cells_of f h rest (n + numbered b) (scope_behind scope b) s.1)
  cells_of f h (for_each w e b rest) n scope s = (
    subst (LocalsAreOf f (statement n)) s.0 (h (statement n)),
    cells_of f h b (n + 1) (with_local scope w kinds.Str) s.1,
    cells_of f h rest (n + 1 + numbered b) (behind_each scope w b) s.2,
  )
  cells_of f h (show p rs rest) n scope s = (subst (LocalsAreOf f (statement n)) s.0 (h (statement n)), cells_of f h rest (n + 1) scope s.1)
  cells_of f h (exit p rest) n scope s = (subst (LocalsAreOf f (statement n)) s.0 (h (statement n)), cells_of f h rest (n + 1) scope s.1)

spots_agree : (p q : Spot) → same_spot p q ≡ true → p ≡ q
spots_agree (statement m) (statement n) h = ap statement (eqb-true m n h)
spots_agree (statement m) (meeting n) h = absurd (false≢true h)
spots_agree (statement m) out h = absurd (false≢true h)
spots_agree (meeting m) (statement n) h = absurd (false≢true h)
spots_agree (meeting m) (meeting n) h = ap meeting (eqb-true m n h)
spots_agree (meeting m) out h = absurd (false≢true h)
spots_agree out (statement n) h = absurd (false≢true h)
spots_agree out (meeting n) h = absurd (false≢true h)
spots_agree out out h = refl

-- what reading and typing give
pub gaps_are_there : (service : Service) → ∥ IsReadable service ∥₁ → GapsAreThere service
gaps_are_there service h w kind e = (gaps_have_numbers service h w kind e).inside

pub locals_differ : (service : Service) → ∥ IsReadable service ∥₁ → IsWellTyped service
    → All (λ (s : Session). AllPairs (λ v w. v ≢ w) (local_names s.body)) service.sessions
locals_differ service r h =
    All-weaker (Walked service) (λ (s : Session). AllPairs (λ v w. v ≢ w) (local_names s.body))
    (λ x f. (locals_own service no_locals x.body f.body
    (record { differ = none_differ; apart = All-nil (λ w. ¬ (Contains (declared_names service) w)) })).differ)
    service.sessions (sessions_none service (readable_is_woven service r) h)

pub solved_is_accepted : SolvedIsAccepted
solved_is_accepted service f sees empty c h =
    let woven = readable_is_woven service h.readable in
    let typed_service = typed service woven h.typed in
    let there = gaps_are_there service h.readable in
    let locals = locals_differ service h.readable h.typed in
    let differ = λ (k : ℕ). at_body (λ x. AllPairs (λ v w. v ≢ w) (local_names x)) (λ i j d lt l. absurd (omega arith)) service.sessions locals k in
    let edges_typed = all_edges service woven sees service.sessions 1 (λ k.
    typed_edges service woven sees (body_of service k) (first_number service k) no_locals out (distinct (local_names (body_of service k)) (differ k))
    (λ w k i. absurd (cc))
    (at_body (λ x. IsTypedCode service no_locals x) tt service.sessions (bodies_typed service typed_service) k) (h.sees_code k)
    (λ w kind i. absurd (nothing_there w kind (subst (λ l. beside w l ≡ Some kind) h.sees_nothing i)))) in
    let kinded = least_kinded same_spot spots_agree service typed_service.gaps there f sees h.agree (service_edges service.sessions 1) edges_typed
    (typed_literals service woven typed_service) empty h.empties c h.least in
    let all : IsChecked service f empty c = record {
      typed = typed_service;
      differ = locals;
      there = there;
      scoped = h.scoped;
      shows = h.shows;
      cells = λ k. cells_of sees (with_cells f c) kinded.locals (body_of service k) (first_number service k) no_locals (h.sees_code k);
      shared = kinded.shared;
      least = h.least;
      gaps = h.gaps;
    } in
    checked_is_accepted service f empty c all
  where
    nothing_there : (w : List ℕ) (kind : Kind) → None ≡ Some kind → ⊥
    nothing_there w kind e = cc

pub solved_worlds_are_covered : SolvedWorldsAreCovered
solved_worlds_are_covered service f sees empty c h =
    let a = solved_is_accepted service f sees empty c h in
    (empty_is_covered service (with_cells f c) a, worlds_are_covered service (with_cells f c) a)
