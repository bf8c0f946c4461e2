-- What holds of all elements of parts.
use Rattle.std.proofs.Common.{◌≡◌, List, [], ◌∷◌, ◌++◌, flat_map, refl}
use Rattle.std.specs.List.{All}
use Rattle.std.proofs.lemmas.List.Elements.{All-cons, All-nil, All-head, All-tail, All-append}

-- lists of faults that are empty
pub nothing_first : {A : Type 0} (a b : List A) → a ++ b ≡ [] → a ≡ []
nothing_first [] b h = refl
nothing_first (x ∷ a) b h = absurd (cc)

pub nothing_behind : {A : Type 0} (a b : List A) → a ++ b ≡ [] → b ≡ []
nothing_behind [] b h = h
nothing_behind (x ∷ a) b h = absurd (cc)

pub none_of_both : {A : Type 0} (a b : List A) → a ≡ [] → b ≡ [] → a ++ b ≡ []
none_of_both a b p q = rw (p, q)

module _ {X : Type 0} (P : X → Type 0) where
  pub all_first : (xs ys : List X) → All P (xs ++ ys) → All P xs
  all_first [] ys a = All-nil P
  all_first (x ∷ xs) ys a = All-cons P x xs (All-head P x (xs ++ ys) a) (all_first xs ys (All-tail P x (xs ++ ys) a))

  pub all_behind : (xs ys : List X) → All P (xs ++ ys) → All P ys
  all_behind [] ys a = a
  all_behind (x ∷ xs) ys a = all_behind xs ys (All-tail P x (xs ++ ys) a)

module _ {X Y : Type 0} (f : X → List Y) (P : Y → Type 0) where
  -- the parts of all
  pub all_parts : (xs : List X) → All (λ x. All P (f x)) xs → All P (flat_map f xs)
  all_parts [] a = All-nil P
  all_parts (x ∷ xs) a = All-append P (f x) (flat_map f xs) (All-head (λ y. All P (f y)) x xs a) (all_parts xs (All-tail (λ y. All P (f y)) x xs a))

  pub parts_of_all : (xs : List X) → All P (flat_map f xs) → All (λ x. All P (f x)) xs
  parts_of_all [] a = All-nil (λ x. All P (f x))
  parts_of_all (x ∷ xs) a = All-cons (λ y. All P (f y)) x xs (all_first P (f x) (flat_map f xs) a) (parts_of_all xs (all_behind P (f x) (flat_map f xs) a))

-- faults of each that are none
module _ {X Y : Type 0} (f : X → List Y) where
  pub each_none : (xs : List X) → flat_map f xs ≡ [] → All (λ x. f x ≡ []) xs
  each_none [] h = All-nil (λ x. f x ≡ [])
  each_none (x ∷ xs) h = All-cons (λ y. f y ≡ []) x xs (nothing_first (f x) (flat_map f xs) h) (each_none xs (nothing_behind (f x) (flat_map f xs) h))

  pub none_of_each : (xs : List X) → All (λ x. f x ≡ []) xs → flat_map f xs ≡ []
  none_of_each [] a = refl
  none_of_each (x ∷ xs) a = none_of_both (f x) (flat_map f xs) (All-head (λ y. f y ≡ []) x xs a) (none_of_each xs (All-tail (λ y. f y ≡ []) x xs a))

-- what follows of one that holds
pub all_so : {X : Type 0} (P Q : X → Type 0) → ((x : X) → P x → Q x) → (xs : List X) → All P xs → All Q xs
all_so P Q f xs a = λ i d h. f _ (a i d h)
