-- One item more of a walk.
use Rattle.std.proofs.Common.{◌≡◌, ℕ, zero, suc, ◌+◌, ◌<◌, ◌≤◌, List, [], ◌∷◌, length, get_or, take, drop, refl, ap, sym, ◌∙◌, arith}
use Rattle.bw_lang.specs.declared.items.Item.{Item}
use Rattle.bw_lang.specs.declared.items.Item.TheVariants as items
use Rattle.bw_lang.specs.Document.Forest.{none}
use Rattle.bw_lang.specs.Document.Documents.{elements}
use Rattle.bw_lang.specs.Document.View.{forest, before}
use Rattle.bw_lang.proofs.Forests.{forest_steps, forest-split, forest-take}
use Rattle.bw_explain.specs.declared.reach.Reach.{Reach}
use Rattle.bw_explain.specs.Walks.{Walk, moves_of, next_reach, walk, item_cost}
use Rattle.bw_lang.proofs.Counts.{elements-append}
use Rattle.bw_explain.proofs.WalkLaws.{walk-append}

pub walk_item : (u : Walk) (n k : ℕ) (r : Reach) (x : Item) → walk u n k r (before x none) ≡ next_reach r (moves_of (item_cost u n k (before x none)))
walk_item u n k r (items.Text s) = refl
walk_item u n k r (items.Gap g) = refl
walk_item u n k r (items.Element e) = refl

-- one item more
pub walk_step : (u : Walk) (n k j : ℕ) (r : Reach) (xs : List Item) (i : ℕ) (x : Item) → x ≡ get_or xs i x → i < length xs
    → j ≡ k + elements (forest (take i xs))
    → walk u n k r (forest (take (i + 1) xs)) ≡ next_reach (walk u n k r (forest (take i xs))) (moves_of (item_cost u n j (before x none)))
walk_step u n k j r xs i x e l at =
    ap (walk u n k r) (forest-take xs i x e l) ∙ walk-append u n k r (forest (take i xs)) (before x none)
    ∙ ap (λ q. walk u n q (walk u n k r (forest (take i xs))) (before x none)) (sym at) ∙ walk_item u n j (walk u n k r (forest (take i xs))) x

pub elements_step : (xs : List Item) (i : ℕ) (x : Item) → x ≡ get_or xs i x → i < length xs → elements (forest (take (i + 1) xs))
    ≡ elements (forest (take i xs)) + elements (before x none)
elements_step xs i x e l = ap elements (forest-take xs i x e l) ∙ elements-append (forest (take i xs)) (before x none)

pub elements_within : (xs : List Item) (i : ℕ) → elements (forest (take i xs)) ≤ elements (forest xs)
elements_within xs i = let e = ap elements (sym (forest-split xs i)) ∙ elements-append (forest (take i xs)) (forest (drop i xs)) in omega (arith, e)

same_read : (xs : List Item) (i : ℕ) (d e : Item) → i < length xs → get_or xs i d ≡ get_or xs i e
same_read [] i d e l = absurd (omega (arith, l))
same_read (x ∷ xs) zero d e l = refl
same_read (x ∷ xs) (suc i) d e l = same_read xs i d e (omega (arith, l))

pub elements_at_read : (xs : List Item) (i : ℕ) (d : Item) → i < length xs → (get_or xs i d ≡ get_or xs i d)
    × (elements (forest (take i xs)) + elements (before (get_or xs i d) none) ≤ elements (forest xs))
elements_at_read xs i d l =
    let e = ap elements (forest-take xs i (get_or xs i d) (get_or_same xs i d l) l) ∙ elements-append (forest (take i xs)) (before (get_or xs i d) none) in
    let h = elements_within xs (i + 1) in
    (refl, omega (arith, e, h))
  where
    get_or_same : (xs : List Item) (i : ℕ) (d : Item) → i < length xs → get_or xs i d ≡ get_or xs i (get_or xs i d)
    get_or_same xs i d l = same_read xs i d (get_or xs i d) l

pub ruleset walk_steps = (forest_steps, elements-append, elements_at_read)
