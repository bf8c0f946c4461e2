-- Those in their places.
use Rattle.std.specs.Prelude.{◌≡◌, ℕ, Bool, false, IfSome}
use Rattle.slab.specs.Slab.{Slab, get}

-- none of those in their places is so
abbrev pub NoneIs : {T : Type 0} → (T → Bool) → Slab T → Type 0
NoneIs test slab = (place : ℕ) → IfSome (get slab place) (λ one. test one ≡ false)
