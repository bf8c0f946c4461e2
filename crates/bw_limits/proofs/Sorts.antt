-- The declarations of a sort.
use Rattle.std.proofs.Common.{◌≡◌, ℕ, zero, suc, ◌+◌, ◌<◌, List, [], ◌∷◌, ◌++◌, length, get_or, map, Option, Some, None, refl, sym, subst, ◌∙◌, arith}
use Rattle.std.proofs.Common.{cond, count_by}
use Rattle.std.specs.List.{filter_map, cons_option, All}
use Rattle.std.specs.Option.{is_some, option_to_list, IfSome}
use Rattle.std.proofs.lemmas.List.Sums.{sum_by-cons}
use Rattle.std.proofs.lemmas.List.Elements.{All-head, All-tail}

one_more : {Y : Type 0} (o : Option Y) (ys : List Y) (n : ℕ) → n ≡ length ys → cond (is_some o) 1 0 + n ≡ length (cons_option o ys)
one_more None ys n e = omega arith
one_more (Some y) ys n e = omega arith

-- how many there are of a sort
pub sort_counted : {X Y : Type 0} (h : X → Option Y) (xs : List X) → count_by (λ x. is_some (h x)) xs ≡ length (filter_map h xs)
sort_counted h [] = refl
sort_counted {X} {Y} h (x ∷ xs) =
    sum_by-cons (λ (y : X). cond (is_some (h y)) 1 0) x xs ∙ one_more (h x) (filter_map h xs) (count_by (λ y. is_some (h y)) xs) (sort_counted h xs)

of_first : {Y : Type 0} (P : Y → Type 0) (o : Option Y) (ys : List Y) → All P (cons_option o ys) → IfSome o P
of_first P None ys a = _
of_first P (Some y) ys a = All-head P y ys a

of_others : {Y : Type 0} (P : Y → Type 0) (o : Option Y) (ys : List Y) → All P (cons_option o ys) → All P ys
of_others P None ys a = a
of_others P (Some y) ys a = All-tail P y ys a

sort_at : {X Y : Type 0} (h : X → Option Y) (P : Y → Type 0) (xs : List X) (i : ℕ) (d : X) → All P (filter_map h xs) → i < length xs
    → IfSome (h (get_or xs i d)) P
sort_at h P [] i d a lt = absurd (omega arith)
sort_at h P (x ∷ xs) zero d a lt = of_first P (h x) (filter_map h xs) a
sort_at h P (x ∷ xs) (suc i) d a lt = sort_at h P xs i d (of_others P (h x) (filter_map h xs) a) (omega arith)

-- what holds of all of a sort holds of the one that was read, where it is of that sort
pub sort_read : {X Y : Type 0} (h : X → Option Y) (P : Y → Type 0) (xs : List X) (i : ℕ) (x : X) → All P (filter_map h xs) → x ≡ get_or xs i x
    → i < length xs → IfSome (h x) P
sort_read h P xs i x a is lt = subst (λ y. IfSome (h y) P) (sym is) (sort_at h P xs i x a lt)

-- the numbers of those of a sort are those of the first element and then those of the others
pub sort_numbers : {Y : Type 0} (f : Y → ℕ) (o : Option Y) (ys : List Y) → map f (cons_option o ys) ≡ map f (option_to_list o) ++ map f ys
sort_numbers f None ys = refl
sort_numbers f (Some y) ys = refl
