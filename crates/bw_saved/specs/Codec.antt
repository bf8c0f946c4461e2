-- Reading that gives back what was spelled.
use Rattle.std.specs.Prelude.{◌≡◌, ◌<◌, ℕ, List, [], ◌∷◌, ◌++◌, slice_index_or, Option, Some}

-- each of them is a byte
abbrev pub IsBytes : List ℕ → Type 0
IsBytes bytes = (i : ℕ) → slice_index_or bytes i 0 < 256

-- this text stands in front of the rest
pub record Takes (bytes text rest : List ℕ) : Type 0 where
  pub parts : bytes ≡ text ++ rest
  pub rest_fits : IsBytes rest

-- What is read stands in front, spelled so, and is allowed; and what is allowed, spelled in front of any bytes, is read.
pub record IsCodec {A : Type 0} (spell : A → List ℕ) (Fits : A → Type 0) (read : List ℕ → Option (A × List ℕ)) : Type 0 where
  pub takes : (bytes : List ℕ) (x : A × List ℕ) → IsBytes bytes → read bytes ≡ Some x → Takes bytes (spell x.0) x.1 × Fits x.0
  pub again : (x : A) (rest : List ℕ) → Fits x → read (spell x ++ rest) ≡ Some (x, rest)

-- there is a value for each key, allowed for it, in order
abbrev pub EachFits : {K A : Type 0} → (K → A → Type 0) → List K → List A → Type 0
EachFits F [] [] = Unit {0}
EachFits F [] (x ∷ xs) = ⊥
EachFits F (k ∷ ks) [] = ⊥
EachFits F (k ∷ ks) (x ∷ xs) = F k x × EachFits F ks xs
