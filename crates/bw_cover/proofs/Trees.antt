-- Statements are found by their numbers.
use Rattle.std.proofs.Common.{◌≡◌, ℕ, zero, suc, ◌+◌, ◌<◌, ◌≤◌, Bool, true, false, List, [], ◌∷◌, map, take, refl, ap, ◌∙◌, subst, arith}
use Rattle.std.specs.Prelude.{◌==◌, nat_lt, if◌then◌else◌, is_some, sum_by, slice_get, unwrap_or}
use Rattle.std.proofs.lemmas.Bool.{false≢true, eqb-true, eq-eqb, lt-ltb, ltb-true}
use Rattle.std.proofs.lemmas.List.Sums.{sum_by-cons}
use Rattle.bw_lang.specs.declared.service.Service.{Service}
use Rattle.bw_lang.specs.declared.service.Session.{Session}
use Rattle.bw_lang.specs.declared.stmt.Kind.{Kind}
use Rattle.bw_lang.specs.Service.Code.{Code, done, declare, assign, if_then, if_else, while_loop, block, for_each, show, exit, numbered}
use Rattle.bw_lang.specs.Table.Names.{beside}
use Rattle.bw_lang.specs.Service.Term.{Term}
use Rattle.bw_meaning.specs.GoOn.{body_of}
use Rattle.bw_lang.specs.Service.Numbers.{first_number}
use Rattle.bw_types.specs.Scopes.{Scope, no_locals, with_local, scope_behind, is_among, behind_each}
use Rattle.bw_cover.specs.Abstracts.{known}
use Rattle.bw_cover.specs.Facts.{Facts, look}
use Rattle.bw_cover.specs.Kinds.{Shows, summary_of}
use Rattle.bw_cover.specs.Least.{Cells}
use Rattle.bw_cover.specs.LeastKinds.{Sees, IsSolved}
use Rattle.bw_cover.specs.Spots.{Spot, statement, Scoped}
use Rattle.bw_cover.specs.Trees.{Place, place, place_in, place_of, tree_sees, in_order, tree_facts, AnsweredIsAccepted, AnsweredWorldsAreCovered}
use Rattle.bw_cover.proofs.Checked.{agree_next}
use Rattle.bw_cover.proofs.SolvedLaws.{solved_is_accepted}
use Rattle.bw_cover.proofs.Worlds.{empty_is_covered, worlds_are_covered}
use Rattle.bw_lang.specs.declared.stmt.Kind.TheVariants as kinds

if_on : {A : Type 0} (b : Bool) (x y : A) → b ≡ true → (if b then x else y) ≡ x
if_on true x y h = refl
if_on false x y h = absurd (false≢true h)

if_off : {A : Type 0} (b : Bool) (x y : A) → (b ≡ true → ⊥) → (if b then x else y) ≡ y
if_off true x y h = absurd (h refl)
if_off false x y h = refl

at : {A : Type 0} (n : ℕ) (x y : A) → (if n == n then x else y) ≡ x
at n x y = if_on (n == n) x y (eq-eqb n n refl)

past : {A : Type 0} (k n : ℕ) (x y : A) → n + 1 ≤ k → (if k == n then x else y) ≡ y
past k n x y le = if_off (k == n) x y (λ e. let i = eqb-true k n e in omega arith)

below : {A : Type 0} (k m : ℕ) (x y : A) → k < m → (if nat_lt k m then x else y) ≡ x
below k m x y lt = if_on (nat_lt k m) x y (lt-ltb k m lt)

above : {A : Type 0} (k m : ℕ) (x y : A) → m ≤ k → (if nat_lt k m then x else y) ≡ y
above k m x y le = if_off (nat_lt k m) x y (λ e. let lt = ltb-true k m e in omega arith)

module _ (info : ℕ → Place) where
  -- each statement is found where its number says
  abbrev Found : Code → ℕ → Scope → Type 0
  Found done n scope = Unit {0}
  Found (declare kind w e rest) n scope = (info n ≡ place scope e false) × Found rest (n + 1) (with_local scope w kind)
  Found (assign w e rest) n scope = (info n ≡ place scope e false) × Found rest (n + 1) scope
  Found (if_then t y rest) n scope = (info n ≡ place scope t false) × Found y (n + 1) scope × Found rest (n + 1 + numbered y) (scope_behind scope y)
  Found (if_else t y z rest) n scope =
      (info n ≡ place scope t false) × Found y (n + 1) scope × Found z (n + 1 + numbered y) (scope_behind scope y)
      × Found rest (n + 1 + numbered y + numbered z) (scope_behind (scope_behind scope y) z)
  Found (while_loop t b rest) n scope = (info n ≡ place scope t false) × Found b (n + 1) scope × Found rest (n + 1 + numbered b) (scope_behind scope b)
  Found (block b rest) n scope = Found b n scope × Found rest (n + numbered b) (scope_behind scope b)
  Found (for_each w e b rest) n scope = (info n ≡ place scope e false) × Found b (n + 1) (with_local scope w kinds.Str)
      × Found rest (n + 1 + numbered b) (behind_each scope w b)
  Found (show p rs rest) n scope = (info n ≡ place scope p false) × Found rest (n + 1) scope
  Found (exit p rest) n scope = (info n ≡ place scope p true) × Found rest (n + 1) scope

  -- in the range of these statements' numbers
  abbrev Agrees : Code → ℕ → Scope → Type 0
  Agrees c n scope = (k : ℕ) → n ≤ k → k < n + numbered c → info k ≡ place_in c n scope k

  found : (c : Code) (n : ℕ) (scope : Scope) → Agrees c n scope → Found c n scope
  found done n scope h = tt
  found (declare kind w e rest) n scope h = (
    h n (omega arith) (omega arith) ∙ at n (place scope e false) (place_in rest (n + 1) (with_local scope w kind) n),
    found rest (n + 1) (with_local scope w kind) (λ k le lt. h k (omega arith) (omega arith)
        ∙ past k n (place scope e false) (place_in rest (n + 1) (with_local scope w kind) k) le),
  )
  found (assign w e rest) n scope h = (
    h n (omega arith) (omega arith) ∙ at n (place scope e false) (place_in rest (n + 1) scope n),
    found rest (n + 1) scope (λ k le lt. h k (omega arith) (omega arith) ∙ past k n (place scope e false) (place_in rest (n + 1) scope k) le),
  )
  found (show e rs rest) n scope h = (
    h n (omega arith) (omega arith) ∙ at n (place scope e false) (place_in rest (n + 1) scope n),
    found rest (n + 1) scope (λ k le lt. h k (omega arith) (omega arith) ∙ past k n (place scope e false) (place_in rest (n + 1) scope k) le),
  )
  found (exit e rest) n scope h = (
    h n (omega arith) (omega arith) ∙ at n (place scope e true) (place_in rest (n + 1) scope n),
    found rest (n + 1) scope (λ k le lt. h k (omega arith) (omega arith) ∙ past k n (place scope e true) (place_in rest (n + 1) scope k) le),
  )
  found (block b rest) n scope h =
      let m = n + numbered b in
      let r = scope_behind scope b in (
        found b n scope (λ k le lt. h k le (omega arith) ∙ below k m (place_in b n scope k) (place_in rest m r k) lt),
        found rest m r (λ k le lt. h k (omega arith) (omega arith) ∙ above k m (place_in b n scope k) (place_in rest m r k) le),
      )
  found (if_then t y rest) n scope h =
      let m = n + 1 + numbered y in
      let r = scope_behind scope y in
      let i = place scope t false in
      let o = λ (k : ℕ). if nat_lt k m then place_in y (n + 1) scope k else place_in rest m r k in (
        h n (omega arith) (omega arith) ∙ at n i (o n),
        found y (n + 1) scope (λ k le lt. h k (omega arith) (omega arith) ∙ past k n i (o k) le
            ∙ below k m (place_in y (n + 1) scope k) (place_in rest m r k) lt),
        found rest m r (λ k le lt. h k (omega arith) (omega arith) ∙ past k n i (o k) (omega arith)
            ∙ above k m (place_in y (n + 1) scope k) (place_in rest m r k) le),
      )
  found (while_loop t y rest) n scope h =
      let m = n + 1 + numbered y in
      let r = scope_behind scope y in
      let i = place scope t false in
      let o = λ (k : ℕ). if nat_lt k m then place_in y (n + 1) scope k else place_in rest m r k in (
        h n (omega arith) (omega arith) ∙ at n i (o n),
        found y (n + 1) scope (λ k le lt. h k (omega arith) (omega arith) ∙ past k n i (o k) le
            ∙ below k m (place_in y (n + 1) scope k) (place_in rest m r k) lt),
        found rest m r (λ k le lt. h k (omega arith) (omega arith) ∙ past k n i (o k) (omega arith)
            ∙ above k m (place_in y (n + 1) scope k) (place_in rest m r k) le),
      )
  found (for_each w e y rest) n scope h =
      let m = n + 1 + numbered y in
      let r = behind_each scope w y in
      let s = with_local scope w kinds.Str in
      let i = place scope e false in
      let o = λ (k : ℕ). if nat_lt k m then place_in y (n + 1) s k else place_in rest m r k in (
        h n (omega arith) (omega arith) ∙ at n i (o n),
        found y (n + 1) s (λ k le lt. h k (omega arith) (omega arith) ∙ past k n i (o k) le ∙ below k m (place_in y (n + 1) s k) (place_in rest m r k) lt),
        found rest m r (λ k le lt. h k (omega arith) (omega arith) ∙ past k n i (o k) (omega arith)
            ∙ above k m (place_in y (n + 1) s k) (place_in rest m r k) le),
      )
  found (if_else t y z rest) n scope h =
      let j = n + 1 + numbered y in
      let m = j + numbered z in
      let s = scope_behind scope y in
      let r = scope_behind (scope_behind scope y) z in
      let i = place scope t false in
      let u = λ (k : ℕ). if nat_lt k m then place_in z j s k else place_in rest m r k in
      let o = λ (k : ℕ). if nat_lt k j then place_in y (n + 1) scope k else u k in (
        h n (omega arith) (omega arith) ∙ at n i (o n),
        found y (n + 1) scope (λ k le lt. h k (omega arith) (omega arith) ∙ past k n i (o k) le ∙ below k j (place_in y (n + 1) scope k) (u k) lt),
        found z j s (λ k le lt. h k (omega arith) (omega arith) ∙ past k n i (o k) (omega arith) ∙ above k j (place_in y (n + 1) scope k) (u k) le
            ∙ below k m (place_in z j s k) (place_in rest m r k) lt),
        found rest m r (λ k le lt. h k (omega arith) (omega arith) ∙ past k n i (o k) (omega arith)
            ∙ above k j (place_in y (n + 1) scope k) (u k) (omega arith) ∙ above k m (place_in z j s k) (place_in rest m r k) le),
      )

  -- of the session at a place
  session_found : (ss : List Session) (n s : ℕ) → ((k : ℕ) → n ≤ k → info k ≡ place_of ss n k)
      → Found (unwrap_or (slice_get (map (λ (x : Session). x.body) ss) s) done) (n + sum_by (λ (x : Session). numbered x.body) (take s ss)) no_locals
  session_found [] n zero h = tt
  session_found [] n (suc s) h = tt
  session_found (x ∷ ss) n zero h =
      let e : n ≡ n + sum_by (λ (y : Session). numbered y.body) [] = omega arith in
      subst (λ m. Found x.body m no_locals) e
      (found x.body n no_locals
      (λ k le lt. h k le ∙ below k (n + numbered x.body) (place_in x.body n no_locals k) (place_of ss (n + numbered x.body) k) lt))
  session_found (x ∷ ss) n (suc s) h =
      let c = sum_by-cons (λ (y : Session). numbered y.body) x (take s ss) in
      let e : n + numbered x.body + sum_by (λ (y : Session). numbered y.body) (take s ss) ≡ n + sum_by (λ (y : Session). numbered y.body) (x ∷ take s ss) =
      omega (arith, c) in
      subst (λ m. Found (unwrap_or (slice_get (map (λ (y : Session). y.body) ss) s) done) m no_locals) e
      (session_found ss (n + numbered x.body) s
      (λ k le. h k (omega arith) ∙ above k (n + numbered x.body) (place_in x.body n no_locals k) (place_of ss (n + numbered x.body) k) le))

module _ (service : Service) (c : Cells Spot) where
  abbrev info : ℕ → Place
  info k = place_of service.sessions 1 k

  abbrev F : Facts Spot
  F = tree_facts service c

  sees : (b : Code) (n : ℕ) (scope : Scope) → Found info b n scope → Sees (tree_sees service) b n scope
  sees done n scope h = tt
  sees (declare kind w e rest) n scope h = (ap (λ x. x.scope) h.0, sees rest (n + 1) (with_local scope w kind) h.1)
  sees (assign w e rest) n scope h = (ap (λ x. x.scope) h.0, sees rest (n + 1) scope h.1)
  sees (if_then t y rest) n scope h =
      (ap (λ x. x.scope) h.0, ap (λ x. x.scope) h.0, sees y (n + 1) scope h.1, sees rest (n + 1 + numbered y) (scope_behind scope y) h.2)
  sees (if_else t y z rest) n scope h = (
    ap (λ x. x.scope) h.0,
    ap (λ x. x.scope) h.0,
    sees y (n + 1) scope h.1,
    sees z (n + 1 + numbered y) (scope_behind scope y) h.2,
    sees rest (n + 1 + numbered y + numbered z) (scope_behind (scope_behind scope y) z) h.3,
  )
  sees (while_loop t b rest) n scope h = (ap (λ x. x.scope) h.0, sees b (n + 1) scope h.1, sees rest (n + 1 + numbered b) (scope_behind scope b) h.2)
  sees (block b rest) n scope h = (sees b n scope h.0, sees rest (n + numbered b) (scope_behind scope b) h.1)
  sees (for_each w e b rest) n scope h =
      (ap (λ x. x.scope) h.0, sees b (n + 1) (with_local scope w kinds.Str) h.1, sees rest (n + 1 + numbered b) (behind_each scope w b) h.2)
  sees (show p rs rest) n scope h = (ap (λ x. x.scope) h.0, sees rest (n + 1) scope h.1)
  sees (exit p rest) n scope h = (ap (λ x. x.scope) h.0, sees rest (n + 1) scope h.1)

  abbrev order : Place → List (List ℕ)
  order x = in_order x.scope.locals

  scoped : (b : Code) (n : ℕ) (scope : Scope) → Found info b n scope → Scoped F b n (in_order scope.locals)
  scoped done n scope h = tt
  scoped (declare kind w e rest) n scope h = (ap order h.0, scoped rest (n + 1) (with_local scope w kind) h.1)
  scoped (assign w e rest) n scope h = (ap order h.0, scoped rest (n + 1) scope h.1)
  scoped (if_then t y rest) n scope h = (ap order h.0, ap order h.0, scoped y (n + 1) scope h.1, scoped rest (n + 1 + numbered y) (scope_behind scope y) h.2)
  scoped (if_else t y z rest) n scope h = (
    ap order h.0,
    ap order h.0,
    scoped y (n + 1) scope h.1,
    scoped z (n + 1 + numbered y) (scope_behind scope y) h.2,
    scoped rest (n + 1 + numbered y + numbered z) (scope_behind (scope_behind scope y) z) h.3,
  )
  scoped (while_loop t b rest) n scope h = (ap order h.0, scoped b (n + 1) scope h.1, scoped rest (n + 1 + numbered b) (scope_behind scope b) h.2)
  scoped (block b rest) n scope h = (scoped b n scope h.0, scoped rest (n + numbered b) (scope_behind scope b) h.1)
  scoped (for_each w e b rest) n scope h =
      (ap order h.0, scoped b (n + 1) (with_local scope w kinds.Str) h.1, scoped rest (n + 1 + numbered b) (behind_each scope w b) h.2)
  scoped (show p rs rest) n scope h = (ap order h.0, scoped rest (n + 1) scope h.1)
  scoped (exit p rest) n scope h = (ap order h.0, scoped rest (n + 1) scope h.1)

  shown_as : (n : ℕ) (scope : Scope) (e : Term) (b : Bool) → info n ≡ place scope e b
      → F.shown (statement n) ≡ summary_of (known service (look service F (statement n)) e)
  shown_as n scope e b h = ap (λ (x : Place). summary_of (known service (look service F (statement n)) x.term)) h

  shows : (b : Code) (n : ℕ) (scope : Scope) → Found info b n scope → Shows service F b n
  shows done n scope h = tt
  shows (declare kind w e rest) n scope h = shows rest (n + 1) (with_local scope w kind) h.1
  shows (assign w e rest) n scope h = shows rest (n + 1) scope h.1
  shows (if_then t y rest) n scope h = (shows y (n + 1) scope h.1, shows rest (n + 1 + numbered y) (scope_behind scope y) h.2)
  shows (if_else t y z rest) n scope h = (
    shows y (n + 1) scope h.1,
    shows z (n + 1 + numbered y) (scope_behind scope y) h.2,
    shows rest (n + 1 + numbered y + numbered z)
        (scope_behind (scope_behind scope y) z) h.3,
  )
  shows (while_loop t b rest) n scope h = (shows b (n + 1) scope h.1, shows rest (n + 1 + numbered b) (scope_behind scope b) h.2)
  shows (block b rest) n scope h = (shows b n scope h.0, shows rest (n + numbered b) (scope_behind scope b) h.1)
  shows (for_each w e b rest) n scope h = (shows b (n + 1) (with_local scope w kinds.Str) h.1, shows rest (n + 1 + numbered b) (behind_each scope w b) h.2)
  shows (show p rs rest) n scope h = (shown_as n scope p false h.0, refl, shows rest (n + 1) scope h.1)
  shows (exit p rest) n scope h = (shown_as n scope p true h.0, ap (λ x. x.exits) h.0, shows rest (n + 1) scope h.1)

  found_in : (s : ℕ) → Found info (body_of service s) (first_number service s) no_locals
  found_in s = session_found info service.sessions 1 s (λ k le. refl)

  agree : (taken : List (List ℕ)) (ls : List (List ℕ × Kind)) (w : List ℕ) → is_some (beside w ls) ≡ is_among w (in_order ls)
  agree taken [] w = refl
  agree taken ((v, k) ∷ ls) w = agree_next (record { locals = ls; taken = taken }) (in_order ls) v k (λ x. agree taken ls x) w

pub answered_is_accepted : AnsweredIsAccepted
answered_is_accepted service empty c h =
    let solved : IsSolved service (tree_facts service c) (tree_sees service) empty c = record {
      readable = h.readable;
      typed = h.typed;
      scoped = λ s. scoped service c (body_of service s) (first_number service s) no_locals (found_in service c s);
      sees_code = λ s. sees service c (body_of service s) (first_number service s) no_locals (found_in service c s);
      sees_nothing = refl;
      agree = λ q w. agree service c [] (tree_sees service q).locals w;
      shows = λ s. shows service c (body_of service s) (first_number service s) no_locals (found_in service c s);
      empties = record { locals = h.empties.locals; shared = h.empties.shared };
      least = h.least;
      gaps = h.gaps;
    } in
    solved_is_accepted service (tree_facts service c) (tree_sees service) empty c solved

pub answered_worlds_are_covered : AnsweredWorldsAreCovered
answered_worlds_are_covered service empty c h =
    let a = answered_is_accepted service empty c h in
    (empty_is_covered service (tree_facts service c) a, worlds_are_covered service (tree_facts service c) a)
