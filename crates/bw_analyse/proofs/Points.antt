-- The points of a flow, and what contracts see of them.
use Rattle.std.proofs.Common.{◌≡◌, ℕ, zero, suc, ◌+◌, ◌<◌, ◌++◌, List, [], ◌∷◌, length, get_or, drop, append_assoc, map, Option, Some, None, refl}
use Rattle.std.proofs.Common.{sym, ap, ◌∙◌, arith, ◌≤◌, take}
use Rattle.std.specs.Prelude.{slice_get}
use Rattle.std.proofs.lemmas.List.{append-nil, at_drop_all, at_drop_more, map_more}
use Rattle.bw_flow.specs.declared.point.Point.{Point}
use Rattle.bw_flow.specs.Steps.{Step}
use Rattle.bw_flow.specs.View.{seen}
use Rattle.bw_analyse.specs.declared.abstracts.Abstract.{Abstract}
use Rattle.bw_analyse.specs.Rounds.{join_some, joined, Placed, placed}

seen_count : (points : List Point) → length (map seen points) ≡ length points
seen_count [] = refl
seen_count (p ∷ ps) = omega (arith, seen_count ps)

seen_get : (points : List Point) (i : ℕ) (p : Point) → slice_get points i ≡ Some p → slice_get (map seen points) i ≡ Some (seen p)
seen_get [] i p e = absurd (cc)
seen_get (q ∷ ps) zero p e = let k : q ≡ p = cc in ap (λ (z : Point). Some (seen z)) k
seen_get (q ∷ ps) (suc i) p e = seen_get ps i p e

seen_none : (points : List Point) (i : ℕ) → slice_get points i ≡ None → slice_get (map seen points) i ≡ None
seen_none [] i e = refl
seen_none (q ∷ ps) zero e = absurd (cc)
seen_none (q ∷ ps) (suc i) e = seen_none ps i e

seen_scopes : (points : List Point) → map (λ (p : Point). p.scope) points ≡ map (λ (x : Step). x.scope) (map seen points)
seen_scopes [] = refl
seen_scopes (p ∷ ps) = ap (λ r. p.scope ∷ r) (seen_scopes ps)

module _ (points : List Point) (flow : List Step) (is : map seen points ≡ flow) where
  pub count_is : length points ≡ length flow
  count_is = sym (seen_count points) ∙ ap length is

  pub point_at : (i : ℕ) (p : Point) → slice_get points i ≡ Some p → slice_get flow i ≡ Some (seen p)
  point_at i p e = ap (λ xs. slice_get xs i) (sym is) ∙ seen_get points i p e

  pub no_point : (i : ℕ) → slice_get points i ≡ None → slice_get flow i ≡ None
  no_point i e = ap (λ xs. slice_get xs i) (sym is) ∙ seen_none points i e

  pub scopes_are : map (λ (p : Point). p.scope) points ≡ map (λ (x : Step). x.scope) flow
  scopes_are = seen_scopes points ∙ ap (map (λ (x : Step). x.scope)) is

-- what is made of one point more
pub placed_more : {Y : Type 0} (f : Placed → Y) (points : List Point) (i : ℕ) (x : Point) (items target : List Y) (y : Y) → i < length points
    → x ≡ get_or points i x
    → y ≡ f (record { place = i; step = seen x }) → items ++ map f (placed i (map seen (drop i points))) ≡ target
    → (items ++ y ∷ []) ++ map f (placed (i + 1) (map seen (drop (i + 1) points))) ≡ target
placed_more f points i x items target y l e made h =
    append_assoc items (y ∷ []) (map f (placed (i + 1) (map seen (drop (i + 1) points))))
    ∙ ap (λ z. items ++ z ∷ map f (placed (i + 1) (map seen (drop (i + 1) points)))) made
    ∙ ap (λ (p : Point). items ++ map f (placed i (map seen (p ∷ drop (i + 1) points)))) e
    ∙ sym (at_drop_more (λ ps. items ++ map f (placed i (map seen ps))) points i x l) ∙ h

-- and of no more
pub placed_end : {Y : Type 0} (f : Placed → Y) (points : List Point) (flow : List Step) (i : ℕ) (items : List Y) → map seen points ≡ flow
    → length points ≤ i → items ++ map f (placed i (map seen (drop i points))) ≡ map f (placed 0 (map seen points)) → items ≡ map f (placed 0 flow)
placed_end f points flow i items is l h =
    sym (append-nil items) ∙ sym (at_drop_all (λ ps. items ++ map f (placed i (map seen ps))) points i l) ∙ h
    ∙ ap (λ xs. map f (placed 0 xs)) is

-- what stands at a place in a list
there : {X : Type 0} (xs : List X) (i : ℕ) → i < length xs → (x : X) × (slice_get xs i ≡ Some x) × (drop i xs ≡ x ∷ drop (i + 1) xs)
there [] i l = absurd (omega arith)
there (x ∷ xs) zero l = (x, refl, refl)
there (y ∷ ys) (suc i) l =
    let r = there ys i (omega arith) in
    let k : suc i + 1 ≡ suc (i + 1) = omega arith in
    (r.0, r.1, r.2 ∙ ap (λ n. r.0 ∷ drop n (y ∷ ys)) (sym k))

-- the join with what one element more gives, from the last one on
pub joined_more : {X : Type 0} (of : X → Option Abstract) (xs : List X) (i j : ℕ) (x : X) (last new old : Abstract) → j ≡ i + 1 → i < length xs
    → x ≡ get_or xs i x → new ≡ join_some (of x) old → old ≡ joined of (drop j xs) last → new ≡ joined of (drop i xs) last
joined_more of xs i j x last new old k l e made h =
    made ∙ ap (join_some (of x)) (h ∙ ap (λ n. joined of (drop n xs) last) k)
    ∙ ap (λ y. join_some (of y) (joined of (drop (i + 1) xs) last)) e ∙ sym (at_drop_more (λ ys. joined of ys last) xs i x l)

-- the same of the points of a flow
pub added_more : (of : Placed → Option Abstract) (flow : List Step) (i j : ℕ) (last new old : Abstract) → j ≡ i + 1 → i < length flow
    → ((x : Step) → slice_get flow i ≡ Some x → new ≡ join_some (of (record { place = i; step = x })) old)
    → old ≡ joined of (placed j (drop j flow)) last → new ≡ joined of (placed i (drop i flow)) last
added_more of flow i j last new old k l made h =
    let r = there flow i l in
    made r.0 r.1 ∙ ap (join_some (of (record { place = i; step = r.0 }))) (h ∙ ap (λ n. joined of (placed n (drop n flow)) last) k)
    ∙ ap (λ xs. joined of (placed i xs) last) (sym r.2)

-- ---- elements

pub get_is : {X : Type 0} (xs : List X) (i : ℕ) (x : X) → i < length xs → x ≡ get_or xs i x → slice_get xs i ≡ Some x
get_is [] i x l e = absurd (omega arith)
get_is (y ∷ ys) zero x l e = ap Some (sym e)
get_is (y ∷ ys) (suc i) x l e = get_is ys i x (omega arith) e

pub get_none : {X : Type 0} (xs : List X) (i : ℕ) → length xs ≤ i → slice_get xs i ≡ None
get_none [] i l = refl
get_none (y ∷ ys) zero l = absurd (omega arith)
get_none (y ∷ ys) (suc i) l = get_none ys i (omega arith)

-- a list of what is made of each element, with one element more
pub map_next : {X Y : Type 0} (f : X → Y) (xs : List X) (i : ℕ) (x : X) (old new : List Y) (y : Y) → i < length xs → x ≡ get_or xs i x → y ≡ f x
    → new ≡ old ++ y ∷ [] → old ≡ map f (take i xs) → new ≡ map f (take (i + 1) xs)
map_next f xs i x old new y l e made pushed h =
    pushed ∙ ap (λ ys. ys ++ y ∷ []) h ∙ ap (λ z. map f (take i xs) ++ z ∷ []) (made ∙ ap f e) ∙ sym (map_more f xs i x l)
