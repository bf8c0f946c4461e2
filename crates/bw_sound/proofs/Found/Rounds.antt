-- The rounds of rows are the rounds of the least cells over the edges of the flow.
use Rattle.std.specs.Prelude.{◌≡◌, ℕ, suc, ◌+◌, ◌==◌, ◌||◌, Bool, true, false, if◌then◌else◌, List, [], ◌∷◌, ◌++◌}
use Rattle.std.specs.Prelude.{map, length, is_some, option_map, slice_get, Option, Some, None}
use Rattle.std.proofs.Common.{refl, sym, ap, ◌∙◌, subst, inl, inr, arith}
use Rattle.std.proofs.lemmas.Bool.{false≢true, eqb-true}
use Rattle.bw_lang.specs.declared.service.Service.{Service}
use Rattle.bw_lang.specs.declared.service.Shared.{Shared}
use Rattle.bw_lang.specs.declared.stmt.Kind.{Kind}
use Rattle.bw_lang.specs.Table.Names.{same}
use Rattle.bw_types.specs.Scopes.{is_among}
use Rattle.bw_lang.proofs.SameNames.{same_is}
use Rattle.bw_flow.specs.declared.point.Local.{Local}
use Rattle.bw_flow.specs.Places.{Among, HasNexts}
use Rattle.bw_flow.specs.Steps.{Act, sets, tests, goes_over, shows, exits, joins, Step}
use Rattle.bw_cover.specs.Abstracts as cover
use Rattle.bw_cover.specs.Facts as facts
use Rattle.bw_cover.specs.Facts.{Facts, Edge}
use Rattle.bw_cover.specs.Flows.{written, edges_to, act_edges, flow_edges}
use Rattle.bw_cover.specs.Least as least
use Rattle.bw_cover.specs.Least.{join_if, joined_local, joined_shared}
use Rattle.bw_analyse.specs.declared.abstracts.Abstract.{Abstract}
use Rattle.bw_analyse.specs.declared.arrows.Arrow.{Arrow}
use Rattle.bw_analyse.specs.Fits.{Fits, AllFit}
use Rattle.bw_analyse.specs.Lawful.KindLaws.{both_fits}
use Rattle.bw_analyse.specs.Known.{local_names, shared_names, of_name, of_local, of_shared}
use Rattle.bw_analyse.specs.Rounds.{arrows_from, arrows_to, join_some, joined}
use Rattle.bw_sound.specs.Found.Seen.{seen}
use Rattle.bw_sound.proofs.Found.Seen.{seen_both}

-- ---- rows by names

row_there : (names : List (List ℕ)) (row : List Abstract) (w : List ℕ) → length names ≡ length row → is_some (of_name names row w) ≡ is_among w names
row_there [] row w e = refl
row_there (n ∷ ns) [] w e = absurd (omega arith)
row_there (n ∷ ns) (a ∷ row) w e = by_test (same w n) (row_there ns row w (omega arith))
  where
    by_test : (b : Bool) → is_some (of_name ns row w) ≡ is_among w ns → is_some (if b then Some a else of_name ns row w) ≡ (b || is_among w ns)
    by_test true h = refl
    by_test false h = h

pub fit_length : (ks : List Kind) (row : List Abstract) → AllFit ks row → length ks ≡ length row
fit_length [] [] h = refl
fit_length (k ∷ ks) (a ∷ row) h = omega (arith, fit_length ks row h.1)
fit_length [] (a ∷ row) h = absurd h
fit_length (k ∷ ks) [] h = absurd h

length_maps : {X Y Z : Type 0} (f : X → Y) (g : X → Z) (xs : List X) → length (map f xs) ≡ length (map g xs)
length_maps f g [] = refl
length_maps f g (x ∷ xs) = omega (arith, length_maps f g xs)

pub locals_there : (scope : List Local) (row : List Abstract) (w : List ℕ) → AllFit (map (λ l. l.kind) scope) row
    → is_some (of_local scope row w) ≡ is_among w (local_names scope)
locals_there scope row w h = row_there (local_names scope) row w (length_maps (λ (l : Local). l.name) (λ l. l.kind) scope
    ∙ fit_length (map (λ l. l.kind) scope) row h)

pub variables_there : (vs : List Shared) (row : List Abstract) (w : List ℕ) → AllFit (map (λ v. v.kind) vs) row
    → is_some (of_shared vs row w) ≡ is_among w (shared_names vs)
variables_there vs row w h = row_there (shared_names vs) row w (length_maps (λ (v : Shared). v.name) (λ v. v.kind) vs ∙ fit_length (map (λ v. v.kind) vs) row h)

-- a row that is made of what the names stand for
pub of_made : {X : Type 0} (name : X → List ℕ) (xs : List X) (w : List ℕ) → is_among w (map name xs) ≡ true
    → (i : ℕ) × (x : X) × (slice_get xs i ≡ Some x) × (w ≡ name x) × ((f : X → Abstract) → of_name (map name xs) (map f xs) w ≡ Some (f x))
of_made name [] w h = absurd (false≢true h)
of_made {X = X} name (x ∷ xs) w h = by_test (same w (name x)) refl h (of_made name xs w)
  where
    by_test : (b : Bool) → same w (name x) ≡ b → (b || is_among w (map name xs)) ≡ true
        → (is_among w (map name xs) ≡ true
        → (i : ℕ) × (y : X) × (slice_get xs i ≡ Some y) × (w ≡ name y) × ((f : X → Abstract) → of_name (map name xs) (map f xs) w ≡ Some (f y)))
        → (i : ℕ) × (y : X) × (slice_get (x ∷ xs) i ≡ Some y) × (w ≡ name y)
        × ((f : X → Abstract) → of_name (name x ∷ map name xs) (f x ∷ map f xs) w ≡ Some (f y))
    by_test true t k ih = (0, x, refl, same_is w (name x) t, λ f. ap (λ b. if b then Some (f x) else of_name (map name xs) (map f xs) w) t)
    by_test false t k ih = let r = ih k in
        (suc r.0, r.1, r.2, r.3, λ f. ap (λ b. if b then Some (f x) else of_name (map name xs) (map f xs) w) t ∙ r.4 f)

-- ---- joins, one after the other

local_append : {K : Type 0} (is_same : K → K → Bool) (service : Service) (f : Facts K) (a b : List (Edge K)) (q : K) (w : List ℕ) (e : cover.Abstract)
    → joined_local is_same service f (a ++ b) q w e ≡ joined_local is_same service f a q w (joined_local is_same service f b q w e)
local_append is_same service f [] b q w e = refl
local_append is_same service f (x ∷ a) b q w e = ap (join_if (is_same x.to q) (facts.left service f x.from x.what w)) (local_append is_same service f a b q w e)

pub shared_append : {K : Type 0} (service : Service) (f : Facts K) (a b : List (Edge K)) (w : List ℕ) (e : cover.Abstract)
    → joined_shared service f (a ++ b) w e ≡ joined_shared service f a w (joined_shared service f b w e)
shared_append service f [] b w e = refl
shared_append service f (x ∷ a) b w e = ap (join_if true (least.added service f x.from x.what w)) (shared_append service f a b w e)

joined_append : {X : Type 0} (of : X → Option Abstract) (xs ys : List X) (last : Abstract) → joined of (xs ++ ys) last ≡ joined of xs (joined of ys last)
joined_append of [] ys last = refl
joined_append of (x ∷ xs) ys last = ap (join_some (of x)) (joined_append of xs ys last)

-- a value of the kind, if there is one
abbrev pub OneFits : Kind → Option Abstract → Type 0
OneFits k None = Unit {0}
OneFits k (Some a) = Fits k a

-- what a point does to the locals, where it leads to the first of its next points or to another
abbrev pub what_of : Act → Bool → facts.What
what_of (sets v e) b = facts.sets v e
what_of (tests e) b = facts.keeps
what_of (goes_over v e) true = facts.brings v
what_of (goes_over v e) false = facts.keeps
what_of (shows e rs) b = facts.takes (written rs)
what_of (exits e) b = facts.keeps
what_of joins b = facts.keeps

module _ (service : Service) where
  -- the join of one more, where the others are so far
  pub joined_one : (k : Kind) (o : Option Abstract) (u : Option cover.Abstract) (a : Abstract) (x : cover.Abstract) → option_map (seen service) o ≡ u
      → OneFits k o → Fits k a → x ≡ seen service a → (join_if true u x ≡ seen service (join_some o a)) × Fits k (join_some o a)
  joined_one k None u a x e h g r = (ap (λ z. join_if true z x) (sym e) ∙ r, g)
  joined_one k (Some b) u a x e h g r =
      (ap (λ z. join_if true z x) (sym e) ∙ ap (least.join (seen service b)) r ∙ seen_both service k b a h g, both_fits k b a h g)

  module _ (f : Facts ℕ) (q : ℕ) (w : List ℕ) (k : Kind) (of : Arrow → Option Abstract) where
    abbrev IsSeen : List (Edge ℕ) → List Arrow → Type 0
    IsSeen es xs = (e : Abstract) → Fits k e
        → (joined_local (λ a b. a == b) service f es q w (seen service e) ≡ seen service (joined of xs e)) × Fits k (joined of xs e)

    -- from a point that does this to some that come next
    next_seen : (p : ℕ) (what : facts.What) (first : Bool) (next : List ℕ)
        → option_map (seen service) (of (record { from = p; is_first = first })) ≡ facts.left service f p what w
        → option_map (seen service) (of (record { from = p; is_first = false })) ≡ facts.left service f p what w
        → ((b : Bool) → Among q next → OneFits k (of (record { from = p; is_first = b })))
        → IsSeen (edges_to p what next) (arrows_from q p first next)
    next_seen p what first [] s t h e g = (refl, g)
    next_seen p what first (n ∷ ns) s t h e g = by_test (n == q) refl (next_seen p what false ns t t (λ b a. h b (inr a)) e g)
      where
        R : cover.Abstract
        R = joined_local (λ a b. a == b) service f (edges_to p what ns) q w (seen service e)

        X : List Arrow
        X = arrows_from q p false ns

        by_test : (b : Bool) → (n == q) ≡ b → (R ≡ seen service (joined of X e)) × Fits k (joined of X e)
            → (join_if b (facts.left service f p what w) R ≡ seen service (joined of (if b then record { from = p; is_first = first } ∷ X else X) e))
            × Fits k (joined of (if b then record { from = p; is_first = first } ∷ X else X) e)
        by_test true u r = joined_one k (of (record { from = p; is_first = first })) (facts.left service f p what w) (joined of X e) R s
            (h first (inl (sym (eqb-true n q u)))) r.1 r.0
        by_test false u r = r

    -- from a point to all that come next
    point_seen : (p : ℕ) (act : Act) (next : List ℕ) → HasNexts act next
        → ((b : Bool) → option_map (seen service) (of (record { from = p; is_first = b })) ≡ facts.left service f p (what_of act b) w)
        → ((b : Bool) → Among q next → OneFits k (of (record { from = p; is_first = b })))
        → IsSeen (act_edges p act next) (arrows_from q p true next)
    point_seen p (sets v x) next m s h = next_seen p (facts.sets v x) true next (s true) (s false) h
    point_seen p (tests x) next m s h = next_seen p facts.keeps true next (s true) (s false) h
    point_seen p (shows x rs) next m s h = next_seen p (facts.takes (written rs)) true next (s true) (s false) h
    point_seen p joins next m s h = next_seen p facts.keeps true next (s true) (s false) h
    point_seen p (exits x) next m s h = subst (λ ns. IsSeen [] (arrows_from q p true ns)) (sym m) (λ e g. (refl, g))
    point_seen p (goes_over v x) [] m s h = λ e g. (refl, g)
    point_seen p (goes_over v x) (y ∷ ys) m s h = λ e g. by_test e (y == q) refl (next_seen p facts.keeps false ys (s false) (s false) (λ b a. h b (inr a)) e g)
      where
        by_test : (e : Abstract) (b : Bool) → (y == q) ≡ b
            → (joined_local (λ a b. a == b) service f (edges_to p facts.keeps ys) q w (seen service e) ≡ seen service (joined of (arrows_from q p false ys) e))
            × Fits k (joined of (arrows_from q p false ys) e)
            → (join_if b (facts.left service f p (facts.brings v) w) (joined_local (λ a b. a == b) service f (edges_to p facts.keeps ys) q w (seen service e))
            ≡ seen service (joined of (if b then record { from = p; is_first = true } ∷ arrows_from q p false ys else arrows_from q p false ys) e))
            × Fits k (joined of (if b then record { from = p; is_first = true } ∷ arrows_from q p false ys else arrows_from q p false ys) e)
        by_test e true u r = joined_one k (of (record { from = p; is_first = true })) (facts.left service f p (facts.brings v) w)
            (joined of (arrows_from q p false ys) e)
            (joined_local (λ a b. a == b) service f (edges_to p facts.keeps ys) q w (seen service e)) (s true)
            (h true (inl (sym (eqb-true y q u)))) r.1 r.0
        by_test e false u r = r

    -- of all points
    pub flow_seen : (flow : List Step)
        → ((p : ℕ) (x : Step) → slice_get flow p ≡ Some x → HasNexts x.act x.next)
        → ((p : ℕ) (x : Step) → slice_get flow p ≡ Some x → (b : Bool)
        → option_map (seen service) (of (record { from = p; is_first = b })) ≡ facts.left service f p (what_of x.act b) w)
        → ((p : ℕ) (x : Step) → slice_get flow p ≡ Some x → (b : Bool) → Among q x.next → OneFits k (of (record { from = p; is_first = b })))
        → (p : ℕ) (xs : List Step) → ((i m : ℕ) → m ≡ p + i → slice_get flow m ≡ slice_get xs i) → IsSeen (flow_edges xs p) (arrows_to q p xs)
    flow_seen flow m s h p [] at = λ e g. (refl, g)
    flow_seen flow m s h p (x ∷ xs) at = λ e g.
        let here = at 0 p (omega arith) in
        let rest = flow_seen flow m s h (p + 1) xs (λ i n d. at (suc i) n (omega arith)) e g in
        let one = point_seen p x.act x.next (m p x here) (s p x here) (h p x here) (joined of (arrows_to q (p + 1) xs) e) rest.1 in (
          local_append (λ a b. a == b) service f (act_edges p x.act x.next) (flow_edges xs (p + 1)) q w (seen service e)
              ∙ ap (joined_local (λ a b. a == b) service f (act_edges p x.act x.next) q w) rest.0 ∙ one.0
              ∙ ap (seen service) (sym (joined_append of (arrows_from q p true x.next) (arrows_to q (p + 1) xs) e)),
          subst (Fits k) (sym (joined_append of (arrows_from q p true x.next) (arrows_to q (p + 1) xs) e)) one.1,
        )
