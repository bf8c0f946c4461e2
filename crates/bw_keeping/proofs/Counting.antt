-- How many links are out, and how many wait.
use Rattle.std.proofs.Common.{◌≡◌, ◌+◌, ℕ, List, [], ◌∷◌, ◌++◌, length, Option, None, Some, Result, Ok, Err, ap, ◌∙◌, subst, length-append}
use Rattle.std.specs.Prelude.{OnOk}
use Rattle.bw_stable.specs.Counts.{CountsOut}

pub none_out : {Link : Type 0} (before now : ℕ) (next : Option Link) → next ≡ None → CountsOut before now next → now ≡ before
none_out {Link} before now next none counts = subst (λ (x : Option Link). CountsOut before now x) none counts

pub one_out : {Link : Type 0} (before now : ℕ) (next : Option Link) (link : Link) → next ≡ Some link → CountsOut before now next → now ≡ before + 1
one_out {Link} before now next link some counts = subst (λ (x : Option Link). CountsOut before now x) some counts

pub one_longer : {X : Type 0} (xs now : List X) (x : X) → now ≡ xs ++ x ∷ [] → length now ≡ length xs + 1
one_longer xs now x pushed = ap length pushed ∙ length-append xs (x ∷ [])

-- what follows where a call succeeded
pub on_ok : {T E P Q : Type 0} (result : Result T E) → (P → Q) → OnOk result P → OnOk result Q
on_ok (Ok t) f p = f p
on_ok (Err e) f p = tt
