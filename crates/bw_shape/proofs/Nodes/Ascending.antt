-- Links in the order of their gaps: those of one gap stand together, and edges in their order give such links.
use Rattle.std.proofs.Common.{◌≡◌, inl, inr, ℕ, zero, suc, ◌+◌, ◌-◌, ◌<◌, ◌≤◌, ◌==◌, Bool, true, false, ◌||◌, ◌&&◌, if◌then◌else◌, leb, ltb, List, [], ◌∷◌}
use Rattle.std.proofs.Common.{◌++◌, length, length-take, get_or, take, drop, refl, ap, sym, ◌∙◌, subst, arith}
use Rattle.std.specs.List.{list_any, All, AllWithin, AllByRecursion}
use Rattle.std.specs.List.Sorted.{IsPartitionPoint}
use Rattle.std.specs.declared.cmp.Ordering.{Ordering}
use Rattle.std.specs.declared.cmp.Ordering.TheVariants.{Less, Equal, Greater}
use Rattle.std.specs.Ordering.{nat_cmp, ordering_then}
use Rattle.std.proofs.lemmas.Bool.{cases_Bool}
use Rattle.std.proofs.lemmas.Bool.Decides.{nat_tests}
use Rattle.std.proofs.lemmas.Cmp.{ranked}
use Rattle.std.proofs.lemmas.List.{get_or-take}
use Rattle.std.proofs.lemmas.List.Elements.{All-cons, All-nil}
use Rattle.std.proofs.lemmas.List.Folds.{list_any_none}
use Rattle.std.proofs.lemmas.List.Sorted.{IsNonDecreasingBy-push}
use borrow.Author.Tests.{eqb-true}
use Rattle.bw_solve.specs.Sets.{IsSet}
use Rattle.bw_sum.specs.Edges.{edge_cmp}
use Rattle.bw_shape.specs.Nodes.Nodes.{Node, no_node, node_at, Ascends}
use Rattle.bw_shape.specs.Nodes.Parts.{links_of, link_part, GrowsNodes}

-- how many links stand before those of the gap, and how many before those of higher gaps
abbrev pub StartsAt : ℕ → List (ℕ × ℕ) → ℕ → Type 0
StartsAt gap = IsPartitionPoint (λ l. ltb l.0 gap ≡ true) (λ l. ltb l.0 gap ≡ false)

abbrev pub EndsAt : ℕ → List (ℕ × ℕ) → ℕ → Type 0
EndsAt gap = IsPartitionPoint (λ l. leb l.0 gap ≡ true) (λ l. leb l.0 gap ≡ false)

-- what the tests of two gaps say of whether they are equal
lower : (x g : ℕ) → ltb x g ≡ true → (x == g) ≡ false
lower x g h = grind (arith, nat_tests)

alike : (x g : ℕ) → ltb x g ≡ false → leb x g ≡ true → (x == g) ≡ true
alike x g h k = grind (arith, nat_tests)

higher : (x g : ℕ) → leb x g ≡ false → (x == g) ≡ false
higher x g h = grind (arith, nat_tests)

-- a test that only members of a window pass, where they pass another test alike
any_within : {X : Type 0} (p q : X → Bool) (a n : ℕ) (xs : List X) → a + n ≤ length xs → AllWithin (λ x. p x ≡ false) xs 0 a
    → AllWithin (λ x. q x ≡ p x) xs a (a + n) → AllWithin (λ x. p x ≡ false) xs (a + n) (length xs) → list_any q (take n (drop a xs)) ≡ list_any p xs
any_within p q zero zero xs l f s b = sym (list_any_none p xs (λ k d m. b k d (omega arith) m))
any_within p q zero (suc n) [] l f s b = absurd (omega arith)
any_within p q zero (suc n) (x ∷ xs) l f s b =
    ap (λ c. c || list_any q (take n xs)) (s 0 x (omega arith) (omega arith))
    ∙ ap (λ c. p x || c) (any_within p q zero n xs (omega (arith, l)) (λ k d m o. absurd (omega (arith, o)))
    (λ k d m o. s (suc k) d (omega arith) (omega (arith, o))) (λ k d m o. b (suc k) d (omega (arith, m)) (omega (arith, o))))
any_within p q (suc a) n [] l f s b = absurd (omega arith)
any_within p q (suc a) n (x ∷ xs) l f s b =
    any_within p q a n xs (omega (arith, l)) (λ k d m o. f (suc k) d (omega arith) (omega (arith, o)))
    (λ k d m o. s (suc k) d (omega (arith, m)) (omega (arith, o))) (λ k d m o. b (suc k) d (omega (arith, m)) (omega (arith, o)))
    ∙ sym (ap (λ c. c || list_any p xs) (f 0 x (omega arith) (omega arith)))

-- the links between the two places are those of the gap
pub led_between : (known : ℕ → Bool) (gap start end : ℕ) (links : List (ℕ × ℕ)) → end ≤ length links → start ≤ end → StartsAt gap (take end links) start
    → EndsAt gap links end → list_any (λ l. known l.1) (take (end - start) (drop start links)) ≡ list_any (λ l. (l.0 == gap) && known l.1) links
led_between known gap start end links h o s e =
    any_within (λ l. (l.0 == gap) && known l.1) (λ l. known l.1) start (end - start) links (omega (arith, o, h))
    (λ k d m n. test k d false (lower (get_or links k d).0 gap (at k d (omega (arith, n, o)) ∙ s.0 k d m n)))
    (λ k d m n. let b : k < end = omega (arith, n, o) in
    sym (test k d true (alike (get_or links k d).0 gap (at k d b ∙ s.1 k d m (omega (arith, b, h, length-take end links))) (e.0 k d (omega arith) b))))
    (λ k d m n. test k d false (higher (get_or links k d).0 gap (e.1 k d (omega (arith, m, o)) n)))
  where
    at : (k : ℕ) (d : ℕ × ℕ) → k < end → ltb (get_or links k d).0 gap ≡ ltb (get_or (take end links) k d).0 gap
    at k d b = ap (λ l. ltb l.0 gap) (sym (get_or-take end links k d b))

    test : (k : ℕ) (d : ℕ × ℕ) (b : Bool) → ((get_or links k d).0 == gap) ≡ b
        → (((get_or links k d).0 == gap) && known (get_or links k d).1) ≡ (b && known (get_or links k d).1)
    test k d b = ap (λ c. c && known (get_or links k d).1)

-- a link at a gap that is no lower than the others goes to the end
pub link_more : (links : List (ℕ × ℕ)) (gap to : ℕ) → Ascends links → All (λ l. l.0 ≤ gap) links → Ascends (links ++ (gap, to) ∷ [])
link_more links gap to s h = IsNonDecreasingBy-push (λ l. l.0) links (gap, to) s (λ d m. h (length links - 1) d (omega (arith, m)))

-- of two edges from one template in their order, the second has no lower gap; o and p are how the templates and the gaps compare
gap_rises : (a b c e f g : ℕ) → a ≡ e → (o p : Ordering) → o ≡ nat_cmp a e → p ≡ nat_cmp b f → ordering_then (ordering_then o p) (nat_cmp c g) ≡ Less → b ≤ f
gap_rises a b c e f g same Less p m n h = let r : a < e = ranked a e Less m in absurd (omega (arith, r, same))
gap_rises a b c e f g same Greater p m n h = let r : e < a = ranked a e Greater m in absurd (omega (arith, r, same))
gap_rises a b c e f g same Equal Less m n h = let r : b < f = ranked b f Less n in omega (arith, r)
gap_rises a b c e f g same Equal Equal m n h = let r : b ≡ f = ranked b f Equal n in omega (arith, r)
gap_rises a b c e f g same Equal Greater m n h = cc

-- what holds of all members holds of the one at a place
pick : {X : Type 0} (P : X → Type 0) (xs : List X) (i : ℕ) (d : X) → i < length xs → AllByRecursion P xs → P (get_or xs i d)
pick P [] i d l h = absurd (omega arith)
pick P (x ∷ xs) zero d l h = h.0
pick P (x ∷ xs) (suc i) d l h = pick P xs i d (omega (arith, l)) h.1

-- an edge has no lower gap than the links that the edges before it give its template
links_lower : (xs : List (ℕ × ℕ × ℕ)) (i : ℕ) (d : ℕ × ℕ × ℕ) → i < length xs → IsSet edge_cmp xs
    → All (λ l. l.0 ≤ (get_or xs i d).1) (links_of (get_or xs i d).0 (take i xs))
links_lower [] i d h s = absurd (omega arith)
links_lower (x ∷ xs) zero d h s = All-nil (λ l. l.0 ≤ x.1)
links_lower (x ∷ xs) (suc i) d h s =
    let y : ℕ × ℕ × ℕ = get_or xs i d in
    let rest = links_lower xs i d (omega (arith, h)) s.1 in
    elim (cases_Bool (x.0 == y.0)) [
      | inl it ↦ subst (λ b. All (λ l. l.0 ≤ y.1) (if b then (x.1, x.2) ∷ links_of y.0 (take i xs) else links_of y.0 (take i xs))) (sym it)
          (All-cons (λ l. l.0 ≤ y.1) (x.1, x.2) (links_of y.0 (take i xs))
          (gap_rises x.0 x.1 x.2 y.0 y.1 y.2 (eqb-true x.0 y.0 it) (nat_cmp x.0 y.0) (nat_cmp x.1 y.1) refl refl
          (pick (λ z. edge_cmp x z ≡ Less) xs i d (omega (arith, h)) s.0)) rest)
      | inr isnt ↦ subst (λ b. All (λ l. l.0 ≤ y.1) (if b then (x.1, x.2) ∷ links_of y.0 (take i xs) else links_of y.0 (take i xs))) (sym isnt) rest
    ]

-- so too where the nodes had no links before the edges
pub edge_after : (xs : List (ℕ × ℕ × ℕ)) (i : ℕ) (x : ℕ × ℕ × ℕ) (a b : List Node) → x ≡ get_or xs i x → i < length xs → IsSet edge_cmp xs
    → All (λ n. n.links ≡ []) a → All (λ y. y.0 < length a) xs → GrowsNodes a b (link_part (take i xs)) → All (λ l. l.0 ≤ x.1) (node_at b x.0).links
edge_after xs i x a b e h s f r g =
    let m : x.0 < length a = subst (λ y. y.0 < length a) (sym e) (r i x h) in
    subst (λ ls. All (λ l. l.0 ≤ x.1) ls)
    (sym (ap (λ n. n.links) (g.each x.0 m) ∙ ap (λ ls. ls ++ links_of x.0 (take i xs)) (f x.0 no_node m)))
    (subst (λ y. All (λ l. l.0 ≤ y.1) (links_of y.0 (take i xs))) (sym e) (links_lower xs i x h s))
