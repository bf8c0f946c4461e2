-- The system of a typed service is lawful: its transfers keep kinds, and don't fall where what they look at doesn't fall.
use Rattle.std.specs.Prelude.{◌≡◌, ℕ, zero, suc, ◌+◌, ◌<◌, ◌≤◌, ◌==◌, Bool, true, false, List, [], ◌∷◌, ◌++◌, map, length, filter, nat_lt}
use Rattle.std.specs.Prelude.{Option, Some, None, cond, slice_get}
use Rattle.std.proofs.Common.{refl, sym, ap, subst, inl, inr, arith, ◌⊎◌}
use Rattle.std.specs.List.{All, AllByRecursion, Contains}
use Rattle.std.proofs.lemmas.Bool.{lt-ltb, eqb-true, and_from, cases_Bool}
use Rattle.std.proofs.lemmas.Bool.Decides.{nat_tests}
use Rattle.std.proofs.lemmas.List.Elements.{Contains-append_left, Contains-append_right, Contains-push}
use Rattle.bw_lang.specs.declared.service.Literal.{Literal}
use Rattle.bw_lang.specs.declared.service.Literal.TheVariants as literals
use Rattle.bw_lang.specs.declared.service.Service.{Service}
use Rattle.bw_lang.specs.declared.service.Shared.{Shared}
use Rattle.bw_lang.specs.declared.stmt.Kind.{Kind}
use Rattle.bw_solve.specs.System.{IsSystem}
use Rattle.bw_types.specs.Scopes.{shared_kind}
use Rattle.bw_typed.specs.Named.{IsLiteral}
use Rattle.bw_flow.specs.declared.point.Local.{Local}
use Rattle.bw_flow.specs.Places.{Among}
use Rattle.bw_flow.specs.Steps.{Step}
use Rattle.bw_flow.specs.TypedFlow.{IsTypedFlow}
use Rattle.bw_analyse.specs.declared.abstracts.Abstract.{Abstract}
use Rattle.bw_analyse.specs.declared.arrows.Arrow.{Arrow}
use Rattle.bw_analyse.specs.Abstracts.{AreAlike, is_below, both, rank_of, least_of}
use Rattle.bw_analyse.specs.Lawful.ArrowLaws.{Comes, arrows_come}
use Rattle.bw_analyse.specs.Fits.{AllFit, kinds_of, FitsCell, rank_bound}
use Rattle.bw_analyse.specs.Lawful.KindLaws.{Up, up_itself, up_both, least_fits, least_below, AllUp, all_alike, all_few, all_up, all_itself, up_fits, up_below}
use Rattle.bw_analyse.specs.Lawful.KnownLaws.{string_up, nothing_up}
use Rattle.bw_analyse.specs.Known.{of_literal}
use Rattle.bw_flow.specs.Layout.{flow_of}
use Rattle.bw_analyse.specs.Least.{rows}
use Rattle.bw_analyse.specs.Readers.{all_below, readers_at, readers_of}
use Rattle.bw_analyse.specs.Rounds.{left_at, added_by, next_local, next_shared, Placed, placed, arrows_to, empty_row, next_row, empty, round}
use Rattle.bw_analyse.specs.Rows.{EachAlike, each_below, all_sizes}
use Rattle.bw_analyse.specs.Lawful.StepLaws.{HasFew, TwoUp, left_up, added_up, named_up, joined_up}

-- ---- lists

pub get_below : {X : Type 0} (xs : List X) (i : ℕ) (x : X) → slice_get xs i ≡ Some x → i < length xs
get_below [] i x e = absurd (cc)
get_below (y ∷ xs) zero x e = omega arith
get_below (y ∷ xs) (suc i) x e = omega (arith, get_below xs i x e)

pub behind_all : {X : Type 0} (xs : List X) → slice_get xs (length xs) ≡ None
behind_all [] = refl
behind_all (x ∷ xs) = behind_all xs

map_map : {X Y Z : Type 0} (f : X → Y) (g : Y → Z) (xs : List X) → map g (map f xs) ≡ map (λ x. g (f x)) xs
map_map f g [] = refl
map_map f g (x ∷ xs) = ap (λ r. g (f x) ∷ r) (map_map f g xs)

-- two values of the kind of each of these
abbrev EachUp : {X : Type 0} → (X → Kind) → (X → Abstract) → (X → Abstract) → List X → Type 0
EachUp {X} kind f g xs = AllByRecursion (λ (x : X). Up (kind x) (f x) (g x)) xs

maps_up : {X : Type 0} (kind : X → Kind) (f g : X → Abstract) (xs : List X) → EachUp kind f g xs → AllUp (map kind xs) (map f xs) (map g xs)
maps_up kind f g [] h = tt
maps_up kind f g (x ∷ xs) h = (h.0, maps_up kind f g xs h.1)

-- what holds at each place holds of all
by_places : {X : Type 0} (P : X → Type 0) (all xs : List X) (p : ℕ) → ((i m : ℕ) → m ≡ p + i → slice_get all m ≡ slice_get xs i)
    → ((i : ℕ) (x : X) → slice_get all i ≡ Some x → P x) → AllByRecursion P xs
by_places P all [] p h k = tt
by_places P all (x ∷ xs) p h k = (k p x (h 0 p (omega arith)), by_places P all xs (p + 1) (λ i m e. h (suc i) m (omega arith)) k)

pub all_places : {X : Type 0} (P : X → Type 0) (xs : List X) → ((i : ℕ) (x : X) → slice_get xs i ≡ Some x → P x) → AllByRecursion P xs
all_places P xs k = by_places P xs xs 0 (λ i m e. ap (slice_get xs) (let d : m ≡ i = omega arith in d)) k

all_map : {X : Type 0} (P Q : X → Type 0) (xs : List X) → ((x : X) → P x → Q x) → AllByRecursion P xs → AllByRecursion Q xs
all_map P Q [] f h = tt
all_map P Q (x ∷ xs) f h = (f x h.0, all_map P Q xs f h.1)

-- the points of a flow with their places
abbrev pub IsPlaced : List Step → Placed → Type 0
IsPlaced flow x = slice_get flow x.place ≡ Some x.step

placed_from : (flow : List Step) (p : ℕ) (xs : List Step) → ((i m : ℕ) → m ≡ p + i → slice_get flow m ≡ slice_get xs i)
    → AllByRecursion (IsPlaced flow) (placed p xs)
placed_from flow p [] h = tt
placed_from flow p (x ∷ xs) h = (h 0 p (omega arith), placed_from flow (p + 1) xs (λ i m e. h (suc i) m (omega arith)))

pub all_placed : (flow : List Step) → AllByRecursion (IsPlaced flow) (placed 0 flow)
all_placed flow = placed_from flow 0 flow (λ i m e. ap (slice_get flow) (let d : m ≡ i = omega arith in d))

pub all_at : {X : Type 0} (P : X → Type 0) (xs : List X) → All P xs → (i : ℕ) (x : X) → slice_get xs i ≡ Some x → P x
all_at P [] h i x e = absurd (cc)
all_at P (y ∷ xs) h zero x e = let k : y ≡ x = cc in subst P k (h 0 y (omega arith))
all_at P (y ∷ xs) h (suc i) x e = all_at P xs (λ j d l. h (suc j) d (omega arith)) i x e

none_there : {X : Type 0} (xs : List X) (c : ℕ) → slice_get xs c ≡ None → c ≤ length xs → c ≡ length xs
none_there [] zero e l = refl
none_there [] (suc c) e l = absurd (omega arith)
none_there (x ∷ xs) zero e l = absurd (cc)
none_there (x ∷ xs) (suc c) e l = omega (arith, none_there xs c e (omega arith))

leasts : {X : Type 0} (xs : List X) (kind : X → Kind) → AllFit (map kind xs) (map (λ x. least_of (kind x)) xs)
leasts [] kind = tt
leasts (x ∷ xs) kind = (least_fits (kind x), leasts xs kind)

leasts_below : {X : Type 0} (xs : List X) (kind : X → Kind) (row : List Abstract) → AllFit (map kind xs) row
    → each_below is_below (map (λ x. least_of (kind x)) xs) row ≡ true
leasts_below [] kind [] h = refl
leasts_below (x ∷ xs) kind (a ∷ row) h = and_from (is_below (least_of (kind x)) a) (each_below is_below (map (λ y. least_of (kind y)) xs) row)
    (least_below (kind x) a h.0) (leasts_below xs kind row h.1)
leasts_below [] kind (a ∷ row) h = absurd h
leasts_below (x ∷ xs) kind [] h = absurd h

-- ---- readers

apart : (q n : ℕ) → q < suc n → (q == n) ≡ false → q < n
apart q n h e = grind (arith, nat_tests)

below_there : (n q : ℕ) → q < n → Contains (all_below n) q
below_there zero q h = absurd (omega arith)
below_there (suc n) q h = by_test (cases_Bool (q == n)) (λ l. below_there n q l)
  where
    by_test : ((q == n) ≡ true) ⊎ ((q == n) ≡ false) → (q < n → Contains (all_below n) q) → Contains (all_below n ++ n ∷ []) q
    by_test (inl e) ih = subst (λ m. Contains (all_below n ++ n ∷ []) m) (sym (eqb-true q n e)) (Contains-push (all_below n) n)
    by_test (inr e) ih = Contains-append_left (all_below n) (n ∷ []) q (ih (apart q n h e))

next_there : (n q : ℕ) (next : List ℕ) → q < n → Among q next → Contains (filter (λ m. nat_lt m n) next) q
next_there n q [] l h = absurd h
next_there n q (m ∷ ms) l (inl e) = subst (λ b. Contains (cond b (m ∷ filter (λ k. nat_lt k n) ms) (filter (λ k. nat_lt k n) ms)) q)
    (sym (lt-ltb m n (subst (λ k. k < n) e l))) (0, omega arith, sym e)
next_there n q (m ∷ ms) l (inr a) = by_test (nat_lt m n) (next_there n q ms l a)
  where
    by_test : (b : Bool) → Contains (filter (λ k. nat_lt k n) ms) q → Contains (cond b (m ∷ filter (λ k. nat_lt k n) ms) (filter (λ k. nat_lt k n) ms)) q
    by_test true h = Contains-append_right (m ∷ []) (filter (λ k. nat_lt k n) ms) q h
    by_test false h = h

-- ---- a typed service

module _ (service : Service) (few : HasFew service) (typed : IsTypedFlow service (flow_of service))
    (begins : All (λ v. IsLiteral service v.init v.kind) service.shared)
    (found : (j : ℕ) (v : Shared) → slice_get service.shared j ≡ Some v → shared_kind service v.name ≡ Some v.kind) where
  abbrev flow : List Step
  flow = flow_of service

  abbrev n : ℕ
  n = length flow

  pub literal_up : (l : Literal) (k : Kind) → IsLiteral service l k → Up k (of_literal service l) (of_literal service l)
  literal_up (literals.Int z) k h = nothing_up k (inl h)
  literal_up (literals.Bool b) k h = nothing_up k (inr h)
  literal_up (literals.Str s) k h = subst (λ x. Up x (of_literal service (literals.Str s)) (of_literal service (literals.Str s))) (sym h)
      (string_up service few.literals s)
  literal_up (literals.Tmpl w) k h = subst (λ x. Up x (of_literal service (literals.Tmpl w)) (of_literal service (literals.Tmpl w))) (sym h.0)
      (named_up service few w h.1)

  -- the rows of a cell are of its kinds, and the second is above the first
  abbrev CellUp : ℕ → (ℕ → List Abstract) → (ℕ → List Abstract) → Type 0
  CellUp cell f g = AllUp (kinds_of service (slice_get flow cell)) (f cell) (g cell)

  module _ (f g : ℕ → List Abstract) where
    -- at a point to which these lead
    local_cells_up : (q : ℕ) (y : Step) → slice_get flow q ≡ Some y → ((p : ℕ) (x : Step) → slice_get flow p ≡ Some x → Among q x.next → CellUp p f g)
        → CellUp n f g
        → (i : ℕ) (l : Local) → slice_get y.scope i ≡ Some l
        → Up l.kind (next_local service flow f (arrows_to q 0 flow) l) (next_local service flow g (arrows_to q 0 flow) l)
    local_cells_up q y e points shared i l s =
        joined_up l.kind (λ a. left_at service flow f l.name a (slice_get flow a.from)) (λ a. left_at service flow g l.name a (slice_get flow a.from))
        (arrows_to q 0 flow) (least_of l.kind) (least_of l.kind)
        (all_map (Comes flow q) (λ (a : Arrow). TwoUp l.kind (left_at service flow f l.name a (slice_get flow a.from))
        (left_at service flow g l.name a (slice_get flow a.from)))
        (arrows_to q 0 flow) one (arrows_come flow q)) (up_itself l.kind (least_of l.kind) (least_fits l.kind))
      where
        one : (a : Arrow) → Comes flow q a
            → TwoUp l.kind (left_at service flow f l.name a (slice_get flow a.from)) (left_at service flow g l.name a (slice_get flow a.from))
        one a (x, at, leads) =
            subst (λ o. TwoUp l.kind (left_at service flow f l.name a o) (left_at service flow g l.name a o)) (sym at)
            (left_up service few x.scope (f a.from) (g a.from) (f n) (g n)
            (subst (λ o. AllUp (kinds_of service o) (f a.from) (g a.from)) at (points a.from x at leads))
            (subst (λ o. AllUp (kinds_of service o) (f n) (g n)) (behind_all flow) shared)
            x.act a.is_first l.name l.kind x (typed.acts a.from x at) refl
            (typed.locals a.from q i x y l at e leads s) (typed.kept a.from q i x y l at e leads s))

    shared_cells_up : ((p : ℕ) (x : Step) → slice_get flow p ≡ Some x → CellUp p f g) → CellUp n f g → (j : ℕ) (v : Shared)
        → slice_get service.shared j ≡ Some v
        → Up v.kind (next_shared service flow f v) (next_shared service flow g v)
    shared_cells_up points shared j v s =
        joined_up v.kind (λ (x : Placed). added_by service x.step.scope (f x.place) (f n) v.name x.step.act)
        (λ (x : Placed). added_by service x.step.scope (g x.place) (g n) v.name x.step.act)
        (placed 0 flow) (both (of_literal service v.init) (least_of v.kind)) (both (of_literal service v.init) (least_of v.kind))
        (all_map (IsPlaced flow) (λ (x : Placed). TwoUp v.kind (added_by service x.step.scope (f x.place) (f n) v.name x.step.act)
        (added_by service x.step.scope (g x.place) (g n) v.name x.step.act))
        (placed 0 flow) one (all_placed flow))
        (up_both v.kind (of_literal service v.init) (of_literal service v.init) (least_of v.kind) (least_of v.kind)
        (literal_up v.init v.kind (literal_at j v s)) (up_itself v.kind (least_of v.kind) (least_fits v.kind)))
      where
        literal_at : (j : ℕ) (v : Shared) → slice_get service.shared j ≡ Some v → IsLiteral service v.init v.kind
        literal_at j v e = all_at (λ (v : Shared). IsLiteral service v.init v.kind) service.shared begins j v e

        one : (x : Placed) → IsPlaced flow x
            → TwoUp v.kind (added_by service x.step.scope (f x.place) (f n) v.name x.step.act) (added_by service x.step.scope (g x.place)
            (g n) v.name x.step.act)
        one x at =
            added_up service few x.step.scope (f x.place) (g x.place) (f n) (g n)
            (subst (λ o. AllUp (kinds_of service o) (f x.place) (g x.place)) at (points x.place x.step at))
            (subst (λ o. AllUp (kinds_of service o) (f n) (g n)) (behind_all flow) shared)
            x.step.act v.name v.kind x.step (typed.acts x.place x.step at) refl (found j v s) (typed.shared x.place j x.step v at s)

    -- the next row of a cell, where those at which it looks are so
    next_up : (cell : ℕ) (o : Option Step) → slice_get flow cell ≡ o → cell < rows service
        → ((p : ℕ) → p < rows service → Contains (readers_of service p) cell → CellUp p f g)
        → AllUp (kinds_of service o) (next_row service flow f cell o) (next_row service flow g cell o)
    next_up cell (Some y) e l h =
        maps_up (λ (l : Local). l.kind) (next_local service flow f (arrows_to cell 0 flow)) (next_local service flow g (arrows_to cell 0 flow)) y.scope
        (all_places (λ (l : Local). Up l.kind (next_local service flow f (arrows_to cell 0 flow) l)
        (next_local service flow g (arrows_to cell 0 flow) l)) y.scope
        (local_cells_up cell y e
        (λ p x at leads. let b = get_below flow p x at in h p (omega arith)
        (subst (λ z. Contains (readers_at n z) cell) (sym at) (Contains-append_left (filter (λ q. nat_lt q n) x.next) (n ∷ []) cell
        (next_there n cell x.next (get_below flow cell y e) leads))))
        (h n (omega arith) (subst (λ z. Contains (readers_at n z) cell) (sym (behind_all flow)) (below_there (n + 1) cell l)))))
    next_up cell None e l h =
        maps_up (λ (v : Shared). v.kind) (next_shared service flow f) (next_shared service flow g) service.shared
        (all_places (λ (v : Shared). Up v.kind (next_shared service flow f v) (next_shared service flow g v)) service.shared
        (shared_cells_up
        (λ p x at. let b = get_below flow p x at in h p (omega arith)
        (subst (λ z. Contains (readers_at n z) cell) (sym at) (Contains-append_right (filter (λ q. nat_lt q n) x.next)
        (n ∷ []) cell (0, omega arith, sym (is_last cell e l)))))
        (h n (omega arith) (subst (λ z. Contains (readers_at n z) cell) (sym (behind_all flow)) (below_there (n + 1) cell l)))))
      where
        is_last : (c : ℕ) → slice_get flow c ≡ None → c < rows service → c ≡ n
        is_last c e l = none_there flow c e (omega arith)

  empty_fits : (o : Option Step) → AllFit (kinds_of service o) (empty_row service o)
  empty_fits None = leasts service.shared (λ v. v.kind)
  empty_fits (Some x) = leasts x.scope (λ l. l.kind)

  empty_least : (o : Option Step) (row : List Abstract) → AllFit (kinds_of service o) row → each_below is_below (empty_row service o) row ≡ true
  empty_least None row h = leasts_below service.shared (λ v. v.kind) row h
  empty_least (Some x) row h = leasts_below x.scope (λ l. l.kind) row h

  pub service_system : IsSystem {V = List Abstract} (EachAlike AreAlike) (each_below is_below) (all_sizes rank_of) (rows service) (FitsCell service)
      (rank_bound service)
      (empty service flow) (readers_of service) (round service flow)
  service_system = record {
    fits_alike = λ cell a b l p q. all_alike (kinds_of service (slice_get flow cell)) a b p q;
    fits_bound = λ cell a l p. all_few (kinds_of service (slice_get flow cell)) a p;
    empty_fits = λ cell l. empty_fits (slice_get flow cell);
    empty_least = λ cell a l p. empty_least (slice_get flow cell) a p;
    transfer_fits = λ cell f l h. up_fits (kinds_of service (slice_get flow cell)) (round service flow cell f) (round service flow cell f)
        (next_up f f cell (slice_get flow cell) refl l (λ p b c. all_itself (kinds_of service (slice_get flow p)) (f p) (h p b)));
    monotone = λ cell f g l h k m. up_below (kinds_of service (slice_get flow cell)) (round service flow cell f) (round service flow cell g)
        (next_up f g cell (slice_get flow cell) refl l (λ p b c. all_up (kinds_of service (slice_get flow p)) (f p) (g p) (h p b) (k p b) (m p b c)));
  }
