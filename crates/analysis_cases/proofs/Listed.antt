-- The faults of a list that has exactly those of a page graph.
use Rattle.std.proofs.Common.{◌≡◌, ℕ, zero, suc, ◌<◌, true, List, [], ◌∷◌, length, get_or, refl, ap, sym, subst, arith}
use Rattle.std.specs.List.{All}
use Rattle.std.specs.Ordering.{is_eq}
use Rattle.std.proofs.lemmas.Bool.{or_left, or_right}
use Rattle.std.proofs.lemmas.Cmp.{tied_itself}
use Rattle.bw_lang.specs.Document.Forest.{Forest}
use Rattle.bw_faults.specs.declared.fault.Fault.{Fault}
use Rattle.bw_faults.specs.Lists.{Lists}
use Rattle.bw_faults.specs.Order.{fault_cmp, fault_total}
use Rattle.bw_judge.specs.Faults.{IsFault, wrong_root, breaks}
use Rattle.bw_schema.specs.declared.schema.Schema.{Schema}
use Rattle.bw_solve.specs.Sets.{has}
use Rattle.bw_sum.specs.Graph.{Graph}

has_at : (xs : List Fault) (i : ℕ) (d : Fault) → i < length xs → has fault_cmp xs (get_or xs i d) ≡ true
has_at [] i d l = absurd (omega (arith, l))
has_at (x ∷ xs) zero d l = or_left (is_eq (fault_cmp x x)) (has fault_cmp xs x) (ap is_eq (tied_itself fault_total x))
has_at (x ∷ xs) (suc i) d l = or_right (is_eq (fault_cmp x (get_or xs i d))) (has fault_cmp xs (get_or xs i d)) (has_at xs i d (omega (arith, l)))

-- a fault of a point has that point
point_is : (templates : ℕ → Forest) (G : Graph) (root : ℕ) (s : Schema) (point : ℕ) (f : Fault) → IsFault templates G root s point f → f.point ≡ point
point_is templates G root s point _ (wrong_root e h) = refl
point_is templates G root s point _ (breaks w at rule b) = refl

pub each_is_fault : (templates : ℕ → Forest) (G : Graph) (root : ℕ) (s : Schema) (point : ℕ) (xs : List Fault) → Lists (IsFault templates G root s point) xs
    → All (λ f. IsFault templates G root s f.point f) xs
each_is_fault templates G root s point xs is = λ i d l.
    let f = get_or xs i d in
    let h = is.sound f (has_at xs i d l) in
    subst (λ p. IsFault templates G root s p f) (sym (point_is templates G root s point f h)) h
