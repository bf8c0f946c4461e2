-- Lists of values that are filtered, mapped or searched, and measures that are tested.
use Rattle.std.proofs.Common.{◌≡◌, ◌≤◌, ℕ, Bool, true, false, cond, List, [], ◌∷◌, map, filter, Option, Some, None, refl, arith}
use Rattle.std.specs.Prelude.{nat_lt, find, unwrap_or, if◌then◌else◌, Ok, Err}
use Rattle.std.specs.List.{AllByRecursion}
use Rattle.std.specs.Option.{option_map, option_or}
use Rattle.std.proofs.lemmas.Bool.Decides.{nat_tests}
use Rattle.bw_lang.specs.declared.measure.Measure.{Measure}
use Rattle.bw_lang.specs.declared.measure.MeasureFault.TheVariants.{Heavy, Deep, Nested}
use Rattle.bw_lang.specs.Document.Measures.{tested, IsWithin}

-- ---- lists

pub all_filter : {A : Type 0} (P : A → Type 0) (f : A → Bool) (xs : List A) → AllByRecursion P xs → AllByRecursion P (filter f xs)
all_filter P f [] h = tt
all_filter P f (x ∷ xs) h = by_test (f x) (all_filter P f xs h.1)
  where
    by_test : (b : Bool) → AllByRecursion P (filter f xs) → AllByRecursion P (cond b (x ∷ filter f xs) (filter f xs))
    by_test true k = (h.0, k)
    by_test false k = k

pub all_map : {A B : Type 0} (P : B → Type 0) (f : A → B) (xs : List A) → AllByRecursion (λ x. P (f x)) xs → AllByRecursion P (map f xs)
all_map P f [] h = tt
all_map P f (x ∷ xs) h = (h.0, all_map P f xs h.1)

-- what is found is one of them
abbrev pub IfSome : {A : Type 0} → (A → Type 0) → Option A → Type 0
IfSome P None = Unit {0}
IfSome P (Some x) = P x

pub all_find : {A : Type 0} (P : A → Type 0) (f : A → Bool) (xs : List A) → AllByRecursion P xs → IfSome P (find f xs)
all_find P f [] h = tt
all_find P f (x ∷ xs) h = by_test (f x) (all_find P f xs h.1)
  where
    by_test : (b : Bool) → IfSome P (find f xs) → IfSome P (cond b (Some x) (find f xs))
    by_test true k = h.0
    by_test false k = k

pub some_map : {A B : Type 0} (P : B → Type 0) (f : A → B) (o : Option A) → IfSome (λ x. P (f x)) o → IfSome P (option_map f o)
some_map P f None h = tt
some_map P f (Some x) h = h

pub some_or : {A : Type 0} (P : A → Type 0) (a b : Option A) → IfSome P a → IfSome P b → IfSome P (option_or a b)
some_or P None b h k = k
some_or P (Some x) b h k = h

pub some_else : {A : Type 0} (P : A → Type 0) (o : Option A) (d : A) → IfSome P o → P d → P (unwrap_or o d)
some_else P None d h k = k
some_else P (Some x) d h k = h

-- ---- measures

-- a measure that passes the tests is the one that was tested, and it is within the limits
pub tested_within : (m x : Measure) → tested m ≡ Ok x → (m ≡ x) × IsWithin m
tested_within m x h = by_tests (nat_lt 1048576 m.weight) (nat_lt 4000 m.depth) (nat_lt 500 m.nest) refl refl refl h
  where
    below : (a b : ℕ) → nat_lt a b ≡ false → b ≤ a
    below a b e = grind (arith, nat_tests)

    by_tests : (w d n : Bool) → nat_lt 1048576 m.weight ≡ w → nat_lt 4000 m.depth ≡ d → nat_lt 500 m.nest ≡ n
        → (if w then Err (Heavy m.weight) else (if d then Err (Deep m.depth) else (if n then Err (Nested m.nest) else Ok m))) ≡ Ok x → (m ≡ x) × IsWithin m
    by_tests true d n p q r e = absurd (cc)
    by_tests false true n p q r e = absurd (cc)
    by_tests false false true p q r e = absurd (cc)
    by_tests false false false p q r e = (cc, record { weight = below 1048576 m.weight p; depth = below 4000 m.depth q; nest = below 500 m.nest r })
