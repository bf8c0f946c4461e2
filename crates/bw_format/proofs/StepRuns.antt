-- Steps that are taken one after another.
use Rattle.std.proofs.Common.{◌≡◌, ◌<◌, ◌≤◌, ℕ, ◌+◌, List, ◌∷◌, map, length, drop, get_or, ap, sym, ◌∙◌}
use Rattle.std.proofs.lemmas.List.{at_drop_more, at_drop_all}
use Rattle.bw_format.specs.declared.steps.Step.{Step}
use Rattle.bw_format.specs.declared.walking.Walk.{Walk}
use Rattle.bw_format.specs.Steps.{op, stepped, run}

-- one of them
pub step_taken : (c : ℕ) (steps : List Step) (i : ℕ) (x : Step) (w : Walk) → i < length steps → x ≡ get_or steps i x
    → run c (map op (drop i steps)) w ≡ run c (map op (drop (i + 1) steps)) (stepped c (op x) w)
step_taken c steps i x w h is =
    at_drop_more (λ l. run c (map op l) w) steps i x h ∙ ap (λ y. run c (map op (y ∷ drop (i + 1) steps)) w) (sym is)

-- all of them
pub all_taken : (c : ℕ) (steps : List Step) (i : ℕ) (w : Walk) → length steps ≤ i → run c (map op (drop i steps)) w ≡ w
all_taken c steps i w h = at_drop_all (λ l. run c (map op l) w) steps i h
