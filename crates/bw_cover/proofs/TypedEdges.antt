-- Each edge of a typed session leads to a point whose locals have the same kinds.
use Rattle.std.proofs.Common.{◌≡◌, ℕ, suc, ◌+◌, Bool, true, false, List, [], ◌∷◌, ◌++◌, map, take, Option, Some, None, refl, sym, ap, ◌∙◌, subst, arith}
use Rattle.std.specs.Prelude.{if◌then◌else◌, sum_by, slice_get, unwrap_or}
use Rattle.std.specs.List.{All, AllByRecursion}
use Rattle.std.specs.Option.{option_or}
use Rattle.std.proofs.lemmas.Bool.{false≢true, or_parts}
use Rattle.std.proofs.lemmas.List.Folds.{list_any-append}
use Rattle.std.proofs.lemmas.List.Sums.{sum_by-cons}
use Rattle.bw_lang.specs.declared.service.Service.{Service}
use Rattle.bw_lang.specs.declared.service.Session.{Session}
use Rattle.bw_lang.specs.declared.stmt.Kind.{Kind}
use Rattle.bw_lang.specs.declared.stmt.Receive.{Receive}
use Rattle.bw_lang.specs.Service.Code.{Code, done, declare, assign, if_then, if_else, while_loop, block, for_each, show, exit, numbered}
use Rattle.bw_lang.specs.Service.CodeNames.{local_names}
use Rattle.bw_lang.specs.Table.Names.{same, beside}
use Rattle.bw_lang.specs.Service.Order.{IsWoven}
use Rattle.bw_meaning.specs.Statements.{declared}
use Rattle.bw_types.specs.Scopes.{Scope, no_locals, shared_kinds, with_local, scope_behind, is_among, behind_each}
use Rattle.bw_types.specs.Typing.{IsReceived, IsTypedCode, IsNew}
use Rattle.bw_flow.proofs.Names.{matches_nothing, new_at}
use Rattle.bw_cover.specs.Facts.{What, keeps, sets, brings, takes, Edge, edge}
use Rattle.bw_cover.specs.Least.{service_edges}
use Rattle.bw_cover.specs.LeastKinds.{Sees, TypedStep, EachTyped}
use Rattle.bw_cover.specs.Spots.{Spot, statement, meeting, out, starts, edges}
use Rattle.bw_lang.proofs.Options.{some_is}
use Rattle.bw_cover.proofs.Names.{beside-cons}
use Rattle.bw_lang.proofs.SameNames.{same_is}
use Rattle.bw_cover.proofs.Laying.{Distinct, distinct_append, declared_local}
use Rattle.bw_lang.specs.declared.stmt.Kind.TheVariants as kinds

abbrev Locals : Type 0
Locals = List (List ℕ × Kind)

-- the locals in scope behind statements, the newest first
abbrev locals_after : Code → Locals → Locals
locals_after done l = l
locals_after (declare kind w e rest) l = locals_after rest ((w, kind) ∷ l)
locals_after (assign w e rest) l = locals_after rest l
locals_after (if_then t y rest) l = locals_after rest l
locals_after (if_else t y z rest) l = locals_after rest l
locals_after (while_loop t b rest) l = locals_after rest l
locals_after (block b rest) l = locals_after rest l
locals_after (for_each w e b rest) l = locals_after rest l
locals_after (show p rs rest) l = locals_after rest l
locals_after (exit p rest) l = locals_after rest l

pick : (s : Bool) (x k : Kind) (o : Option Kind) → s ≡ false → o ≡ Some k → (if s then Some x else o) ≡ Some k
pick true x k o e h = absurd (false≢true (sym e))
pick false x k o e h = h

-- a local that isn't declared again keeps its kind
still : (c : Code) (l : Locals) (w : List ℕ) (k : Kind) → is_among w (declared c) ≡ false → beside w l ≡ Some k → beside w (locals_after c l) ≡ Some k
still done l w k n h = h
still (declare kind v e rest) l w k n h =
    let r = or_parts (same w v) (is_among w (declared rest)) n in
    still rest ((v, kind) ∷ l) w k r.1 (beside-cons w v kind l ∙ pick (same w v) kind k (beside w l) r.0 h)
still (assign v e rest) l w k n h = still rest l w k n h
still (if_then t y rest) l w k n h = still rest l w k n h
still (if_else t y z rest) l w k n h = still rest l w k n h
still (while_loop t b rest) l w k n h = still rest l w k n h
still (block b rest) l w k n h = still rest l w k n h
still (for_each v e b rest) l w k n h = still rest l w k n h
still (show p rs rest) l w k n h = still rest l w k n h
still (exit p rest) l w k n h = still rest l w k n h

-- no local in scope is among these
abbrev Fresh : Locals → List (List ℕ) → Type 0
Fresh l names = (w : List ℕ) (k : Kind) → beside w l ≡ Some k → is_among w names ≡ false

fresh_append : (l : Locals) (xs ys : List (List ℕ)) → Fresh l (xs ++ ys) → Fresh l xs × Fresh l ys
fresh_append l xs ys h =
    let both = λ (w : List ℕ) (k : Kind) (i : beside w l ≡ Some k). or_parts (is_among w xs) (is_among w ys)
    (sym (list_any-append (same w) xs ys) ∙ h w k i) in
    (λ w k i. (both w k i).0, λ w k i. (both w k i).1)

-- of what is found in front of the others or among them
first_or : (v w : List ℕ) (kind k : Kind) (l : Locals) → beside v ((w, kind) ∷ l) ≡ Some k → (same v w ≡ true → k ≡ kind)
    × (same v w ≡ false → beside v l ≡ Some k)
first_or v w kind k l h = by_test (same v w) (sym (beside-cons v w kind l) ∙ h)
  where
    by_test : (s : Bool) → (if s then Some kind else beside v l) ≡ Some k → (s ≡ true → k ≡ kind) × (s ≡ false → beside v l ≡ Some k)
    by_test true e = (λ t. sym (some_is kind k e), λ t. absurd (false≢true (sym t)))
    by_test false e = (λ t. absurd (false≢true t), λ t. e)

fresh_next : (l : Locals) (w : List ℕ) (kind : Kind) (names : List (List ℕ)) → is_among w names ≡ false → Fresh l (w ∷ names) → Fresh ((w, kind) ∷ l) names
fresh_next l w kind names d h v k i = by_test (same v w) refl (first_or v w kind k l i)
  where
    by_test : (s : Bool) → same v w ≡ s → (same v w ≡ true → k ≡ kind) × (same v w ≡ false → beside v l ≡ Some k) → is_among v names ≡ false
    by_test true t r = ap (λ z. is_among z names) (same_is v w t) ∙ d
    by_test false t r = (or_parts (same v w) (is_among v names) (h v k (r.1 t))).1

module _ (service : Service) (woven : IsWoven service) (sees : Spot → Scope) where
  -- the locals that q sees are among these, with the same kinds
  abbrev Behind : Spot → Locals → Type 0
  Behind q l = (w : List ℕ) (k : Kind) → beside w (sees q).locals ≡ Some k → beside w l ≡ Some k

  at_point : (q : Spot) (scope : Scope) → sees q ≡ scope → Behind q scope.locals
  at_point q scope s w k i = subst (λ z. beside w z.locals ≡ Some k) s i

  -- behind a block's body too
  behind_still : (q : Spot) (b : Code) (l : Locals) → Fresh l (local_names b) → Behind q l → Behind q (locals_after b l)
  behind_still q b l f h w k i = still b l w k (declared_local w b (f w k (h w k i))) (h w k i)

  start_behind : (c : Code) (n : ℕ) (scope : Scope) (q : Spot) → Sees sees c n scope → Fresh scope.locals (local_names c)
      → Behind q (locals_after c scope.locals) → Behind (starts c n q) scope.locals
  start_behind done n scope q s f h = h
  start_behind (declare kind w e rest) n scope q s f h = at_point (statement n) scope s.0
  start_behind (assign w e rest) n scope q s f h = at_point (statement n) scope s.0
  start_behind (if_then t y rest) n scope q s f h = at_point (statement n) scope s.0
  start_behind (if_else t y z rest) n scope q s f h = at_point (statement n) scope s.0
  start_behind (while_loop t b rest) n scope q s f h = at_point (statement n) scope s.0
  start_behind (block b rest) n scope q s f h =
      let ff = fresh_append scope.locals (local_names b) (local_names rest) f in
      let r = starts rest (n + numbered b) q in
      start_behind b n scope (starts rest (n + numbered b) q) s.0 ff.0
      (behind_still (starts rest (n + numbered b) q) b scope.locals ff.0 (start_behind rest (n + numbered b) (scope_behind scope b) q s.1 ff.1 h))
  start_behind (for_each w e b rest) n scope q s f h = at_point (statement n) scope s.0
  start_behind (show p rs rest) n scope q s f h = at_point (statement n) scope s.0
  start_behind (exit p rest) n scope q s f h = at_point (statement n) scope s.0

  -- what is new is no shared variable
  new_unshared : (scope : Scope) (w : List ℕ) (k : Kind) → IsNew service scope w → beside w (shared_kinds service) ≡ Some k → ⊥
  new_unshared scope w k new e =
      none_is k (sym (new_at service no_locals [] w woven (matches_nothing service) (new.0, λ c. let lt = c.1 in absurd (omega arith))) ∙ e)
    where
      none_is : (k : Kind) → None ≡ Some k → ⊥
      none_is k e = cc

  typed_append : (a b : List (Edge Spot)) → EachTyped service sees a → EachTyped service sees b → EachTyped service sees (a ++ b)
  typed_append [] b h k = k
  typed_append (e ∷ a) b h k = (h.0, typed_append a b h.1 k)

  from : (p q : Spot) (scope : Scope) (what : What) → sees p ≡ scope → TypedStep service scope what (sees q) → TypedStep service (sees p) what (sees q)
  from p q scope what e h = subst (λ z. TypedStep service z what (sees q)) (sym e) h

  received : (scope : Scope) (rs : List Receive) → All (IsReceived service scope) rs → AllByRecursion (IsReceived service scope) rs
  received scope [] h = tt
  received scope (r ∷ rs) h = (h 0 r (omega arith), received scope rs (λ i d lt. h (suc i) d (omega arith)))

  pub typed_edges : (c : Code) (n : ℕ) (scope : Scope) (q : Spot) → Distinct (local_names c) → Fresh scope.locals (local_names c)
      → IsTypedCode service scope c
      → Sees sees c n scope → Behind q (locals_after c scope.locals)
      → EachTyped service sees (edges c n q)
  typed_edges done n scope q d f t s h = tt
  typed_edges (declare kind w e rest) n scope q d f t s h =
      let g = starts rest (n + 1) q in
      let f2 = fresh_next scope.locals w kind (local_names rest) d.0 f in
      let b = start_behind rest (n + 1) (with_local scope w kind) q s.1 f2 h in (
        from (statement n) (starts rest (n + 1) q) scope (sets w e) s.0
            (kind, t.1, λ v k i. first_or v w kind k scope.locals (b v k i), λ k i j. absurd (new_unshared scope w k t.0 j)),
        typed_edges rest (n + 1) (with_local scope w kind) q d.1 f2 t.2 s.1 h,
      )
  typed_edges (assign w e rest) n scope q d f t s h =
      let b = start_behind rest (n + 1) scope q s.1 f h in (
        from (statement n) (starts rest (n + 1) q) scope (sets w e) s.0 (
          t.0.0,
          t.0.2,
          λ v k i. (
            λ m. some_is k t.0.0
                (sym (ap (λ o. option_or o (beside w (shared_kinds service))) (ap (λ z. beside z scope.locals) (sym (same_is v w m)) ∙ b v k i)) ∙ t.0.1),
            λ m. b v k i,
          ),
          λ k i j. some_is k t.0.0 (sym (ap (λ o. option_or o (beside w (shared_kinds service))) i ∙ j) ∙ t.0.1),
        ),
        typed_edges rest (n + 1) scope q d f t.1 s.1 h,
      )
  typed_edges (if_then x y rest) n scope q d f t s h =
      let m = n + 1 + numbered y in
      let dd = distinct_append (local_names y) (local_names rest) d in
      let ff = fresh_append scope.locals (local_names y) (local_names rest) f in
      let join = at_point (meeting n) scope s.1 in
      let inner = behind_still (meeting n) y scope.locals ff.0 join in (
        from (statement n) (starts y (n + 1) (meeting n)) scope keeps s.0 (start_behind y (n + 1) scope (meeting n) s.2 ff.0 inner),
        (
          from (statement n) (meeting n) scope keeps s.0 join,
          typed_append (edges y (n + 1) (meeting n)) (edge (meeting n) keeps (starts rest m q) ∷ edges rest m q)
              (typed_edges y (n + 1) scope (meeting n) dd.0 ff.0 t.1 s.2 inner) (
                from (meeting n) (starts rest m q) scope keeps s.1 (start_behind rest m (scope_behind scope y) q s.3 ff.1 h),
                typed_edges rest m (scope_behind scope y) q dd.1 ff.1 t.2 s.3 h,
              ),
        ),
      )
  typed_edges (if_else x y z rest) n scope q d f t s h =
      let j = n + 1 + numbered y in
      let m = j + numbered z in
      let dd = distinct_append (local_names y) (local_names z ++ local_names rest) d in
      let de = distinct_append (local_names z) (local_names rest) dd.1 in
      let ff = fresh_append scope.locals (local_names y) (local_names z ++ local_names rest) f in
      let fe = fresh_append scope.locals (local_names z) (local_names rest) ff.1 in
      let join = at_point (meeting n) scope s.1 in
      let iy = behind_still (meeting n) y scope.locals ff.0 join in
      let iz = behind_still (meeting n) z scope.locals fe.0 join in (
        from (statement n) (starts y (n + 1) (meeting n)) scope keeps s.0 (start_behind y (n + 1) scope (meeting n) s.2 ff.0 iy),
        (
          from (statement n) (starts z j (meeting n)) scope keeps s.0 (start_behind z j (scope_behind scope y) (meeting n) s.3 fe.0 iz),
          typed_append (edges y (n + 1) (meeting n)) (edges z j (meeting n) ++ edge (meeting n) keeps (starts rest m q) ∷ edges rest m q)
              (typed_edges y (n + 1) scope (meeting n) dd.0 ff.0 t.1 s.2 iy)
              (typed_append (edges z j (meeting n)) (edge (meeting n) keeps (starts rest m q) ∷ edges rest m q)
              (typed_edges z j (scope_behind scope y) (meeting n) de.0 fe.0 t.2 s.3 iz) (
                from (meeting n) (starts rest m q) scope keeps s.1 (start_behind rest m (scope_behind (scope_behind scope y) z) q s.4 fe.1 h),
                typed_edges rest m (scope_behind (scope_behind scope y) z) q de.1 fe.1 t.3 s.4 h,
              )),
        ),
      )
  typed_edges (while_loop x b rest) n scope q d f t s h =
      let m = n + 1 + numbered b in
      let dd = distinct_append (local_names b) (local_names rest) d in
      let ff = fresh_append scope.locals (local_names b) (local_names rest) f in
      let inner = behind_still (statement n) b scope.locals ff.0 (at_point (statement n) scope s.0) in (
        from (statement n) (starts b (n + 1) (statement n)) scope keeps s.0 (start_behind b (n + 1) scope (statement n) s.1 ff.0 inner),
        (
          from (statement n) (starts rest m q) scope keeps s.0 (start_behind rest m (scope_behind scope b) q s.2 ff.1 h),
          typed_append (edges b (n + 1) (statement n)) (edges rest m q) (typed_edges b (n + 1) scope (statement n) dd.0 ff.0 t.1 s.1 inner)
              (typed_edges rest m (scope_behind scope b) q dd.1 ff.1 t.2 s.2 h),
        ),
      )
  typed_edges (block b rest) n scope q d f t s h =
      let m = n + numbered b in
      let dd = distinct_append (local_names b) (local_names rest) d in
      let ff = fresh_append scope.locals (local_names b) (local_names rest) f in
      let r = start_behind rest m (scope_behind scope b) q s.1 ff.1 h in
      typed_append (edges b n (starts rest m q)) (edges rest m q)
      (typed_edges b n scope (starts rest m q) dd.0 ff.0 t.0 s.0 (behind_still (starts rest m q) b scope.locals ff.0 r))
      (typed_edges rest m (scope_behind scope b) q dd.1 ff.1 t.1 s.1 h)
  typed_edges (for_each w e b rest) n scope q d f t s h =
      let m = n + 1 + numbered b in
      let own = with_local scope w kinds.Str in
      let after : Scope = behind_each scope w b in
      let dd = distinct_append (local_names b) (local_names rest) d.1 in
      let fn = fresh_next scope.locals w kinds.Str (local_names b ++ local_names rest) d.0 f in
      let fb = (fresh_append ((w, kinds.Str) ∷ scope.locals) (local_names b) (local_names rest) fn).0 in
      let fr = (fresh_append scope.locals (local_names b) (local_names rest)
      (λ v k i. (or_parts (same v w) (is_among v (local_names b ++ local_names rest)) (f v k i)).1)).1 in
      let head = λ (v : List ℕ) (k : Kind) (i : beside v (sees (statement n)).locals ≡ Some k).
      let j = at_point (statement n) scope s.0 v k i in
      beside-cons v w kinds.Str scope.locals
      ∙ pick (same v w) kinds.Str k (beside v scope.locals) (or_parts (same v w) (is_among v (local_names b ++ local_names rest)) (f v k j)).0 j in
      let inner = behind_still (statement n) b ((w, kinds.Str) ∷ scope.locals) fb head in
      let body = start_behind b (n + 1) (with_local scope w kinds.Str) (statement n) s.1 fb inner in (
        from (statement n) (starts b (n + 1) (statement n)) scope (brings w) s.0 (λ v k i. first_or v w kinds.Str k scope.locals (body v k i)),
        (
          from (statement n) (starts rest m q) scope keeps s.0 (start_behind rest m after q s.2 fr h),
          typed_append (edges b (n + 1) (statement n)) (edges rest m q)
              (typed_edges b (n + 1) (with_local scope w kinds.Str) (statement n) dd.0 fb t.2 s.1 inner) (typed_edges rest m after q dd.1 fr t.3 s.2 h),
        ),
      )
  typed_edges (show e rs rest) n scope q d f t s h =
      let b = start_behind rest (n + 1) scope q s.1 f h in
      (from (statement n) (starts rest (n + 1) q) scope (takes rs) s.0 (b, received scope rs t.1), typed_edges rest (n + 1) scope q d f t.2 s.1 h)
  typed_edges (exit e rest) n scope q d f t s h = typed_edges rest (n + 1) scope q d f t.1 s.1 h

  -- the edges of all sessions
  pub all_edges : (ss : List Session) (n : ℕ)
      → ((k : ℕ) → EachTyped service sees
      (edges (unwrap_or (slice_get (map (λ (s : Session). s.body) ss) k) done) (n + sum_by (λ (s : Session). numbered s.body) (take k ss)) out))
      → EachTyped service sees (service_edges ss n)
  all_edges [] n h = tt
  all_edges (s ∷ ss) n h =
      let e : n + sum_by (λ (x : Session). numbered x.body) [] ≡ n = omega arith in
      typed_append (edges s.body n out) (service_edges ss (n + numbered s.body)) (subst (λ m. EachTyped service sees (edges s.body m out)) e (h 0))
      (all_edges ss (n + numbered s.body) (λ k.
      let c = sum_by-cons (λ (x : Session). numbered x.body) s (take k ss) in
      let i : n + sum_by (λ (x : Session). numbered x.body) (s ∷ take k ss) ≡ n + numbered s.body + sum_by (λ (x : Session). numbered x.body) (take k ss) =
      omega (arith, c) in
      subst (λ m. EachTyped service sees (edges (unwrap_or (slice_get (map (λ (x : Session). x.body) ss) k) done) m out)) i (h (suc k))))
