-- A test that cannot fail, and what stays of an outcome.
use Rattle.std.proofs.Common.{◌≡◌, Bool, true, false, Result, Ok, Err, refl}
use Rattle.std.specs.Prelude.{IfOk, OnOk}

-- a test that cannot fail holds
pub sure : (b : Bool) → (b ≡ false → ⊥) → b ≡ true
sure true h = refl
sure false h = absurd (h refl)

-- what follows from what holds of a value that was made
pub if_ok : {T E : Type 0} {P Q : T → Type 0} (r : Result T E) → ((x : T) → P x → Q x) → IfOk r P → IfOk r Q
if_ok (Ok x) f h = f x h
if_ok (Err e) f h = h

-- what follows from what holds where nothing failed
pub on_ok : {T E : Type 0} {P Q : Type 0} (r : Result T E) → (P → Q) → OnOk r P → OnOk r Q
on_ok (Ok x) f h = f h
on_ok (Err e) f h = h
