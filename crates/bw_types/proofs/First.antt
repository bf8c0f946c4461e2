-- The first of several faults.
use Rattle.std.proofs.Common.{◌≡◌, ◌⊎◌, ℕ, suc, ◌+◌, ◌<◌, List, [], ◌∷◌, ◌++◌, length, get_or, drop, Some, Result, Ok, Err, ap, sym, ◌∙◌, inl, inr, add-one}
use Rattle.std.proofs.Common.{drop-cons}
use Rattle.std.specs.Result.{IsErrAnd, IfErr, OnOk}
use Rattle.bw_types.specs.declared.fault.TypeFault.{TypeFault}
use Rattle.bw_types.specs.declared.fault.TypeFault.TheVariants.{Memory}
use Rattle.bw_types.specs.Faults.{first_member}
use Rattle.bw_types.specs.First.{IsFirst}

first_in : (a b : List TypeFault) (e : TypeFault) → first_member a ≡ Some e → first_member (a ++ b) ≡ Some e
first_in [] b e h = absurd (cc)
first_in (f ∷ a) b e h = h

-- the first of the faults here is the first of all
pub first_of : (e : TypeFault) (here rest whole : List TypeFault) → IsFirst e here → whole ≡ here ++ rest → IsFirst e whole
first_of e here rest whole h w = record { why = elim h.why [ inl m ↦ inl m | inr f ↦ inr (ap first_member w ∙ first_in here rest e f) ] }

-- a fault of what the list is
pub first_is : (e : TypeFault) (all here : List TypeFault) → all ≡ here → first_member here ≡ Some e → IsFirst e all
first_is e all here w h = record { why = inr (ap first_member w ∙ h) }

-- the first fault of a list that is the same
pub first_in_same : (e : TypeFault) (all here : List TypeFault) → all ≡ here → IsFirst e here → IsFirst e all
first_in_same e all here w h = rw w h

-- two places without a fault
pub both : (a b : List TypeFault) → a ≡ [] → b ≡ [] → a ++ b ≡ []
both a b h g = ap (λ l. l ++ b) h ∙ g

-- what a last call says, of values that are the same
pub on_ok_same : {X Y : Type 0} {a b x y : Y} (r : Result X TypeFault) → x ≡ a → OnOk r (a ≡ b) → b ≡ y → OnOk r (x ≡ y)
on_ok_same (Ok v) left h right = left ∙ h ∙ right
on_ok_same (Err e) left h right = tt

-- the same of the fault that it gives
pub if_err_same : {X : Type 0} (r : Result X TypeFault) (all here : List TypeFault) → all ≡ here → IfErr r (λ e. IsFirst e here)
    → IfErr r (λ e. IsFirst e all)
if_err_same (Ok x) all here w h = tt
if_err_same (Err y) all here w h = first_in_same y all here w h

-- the fault that is answered
pub told : {X : Type 0} (r : Result X TypeFault) (e : TypeFault) (all : List TypeFault) → IsErrAnd r (λ y. y ≡ e) → IsFirst e all
    → IfErr r (λ y. (y ≡ Memory) ⊎ (first_member all ≡ Some y))
told (Ok x) e all q h = tt
told (Err y) e all q h = rw q h.why

pub told_memory : {X : Type 0} (r : Result X TypeFault) (all : List TypeFault) → IsErrAnd r (λ y. y ≡ Memory)
    → IfErr r (λ y. (y ≡ Memory) ⊎ (first_member all ≡ Some y))
told_memory (Ok x) all q = tt
told_memory (Err y) all q = inl q

-- an exit that passes the fault here on
pub exits : {X : Type 0} (r : Result X TypeFault) (e : TypeFault) (here rest whole : List TypeFault)
    → IsErrAnd r (λ y. y ≡ e) → IsFirst e here → whole ≡ here ++ rest → IfErr r (λ y. IsFirst y whole)
exits (Ok x) e here rest whole q h w = tt
exits (Err y) e here rest whole q h w = rw q (first_of e here rest whole h w)

-- a place without a fault is passed
pub passed : (whole here rest : List TypeFault) → whole ≡ here ++ rest → here ≡ [] → whole ≡ rest
passed whole here rest w h = w ∙ ap (λ l. l ++ rest) h

-- what is left of a list, one element further
pub drop_more : {X : Type 0} (xs : List X) (i : ℕ) (x : X) → x ≡ get_or xs i x → i < length xs → drop i xs ≡ x ∷ drop (i + 1) xs
drop_more xs i x e h = rw (add-one, drop-cons xs i x h) (ap (λ y. y ∷ drop (suc i) xs) (sym e))

-- A walk over a list, whose faults are those of the first element and then those of the others.
module _ {X : Type 0} (F : List X → List TypeFault) (f : X → List TypeFault) (step : (x : X) (xs : List X) → F (x ∷ xs) ≡ f x ++ F xs) where
  -- at an element in front of which there is none
  pub at_element : (xs : List X) (i : ℕ) (x : X) (whole : List TypeFault) → whole ≡ F (drop i xs) → x ≡ get_or xs i x → i < length xs → whole ≡ f x
      ++ F (drop (i + 1) xs)
  at_element xs i x whole w e h = w ∙ ap F (drop_more xs i x e h) ∙ step x (drop (i + 1) xs)
