-- Fields received one after another.
use Rattle.std.proofs.Common.{◌≡◌, ℕ, zero, suc, ◌+◌, ◌<◌, List, [], ◌∷◌, length, get_or, drop, map, ap, sym, ◌∙◌, arith}
use Rattle.bw_flow.specs.declared.point.Received.{Received}
use Rattle.bw_lang.specs.Service.Submissions.{values_of}
use Rattle.bw_meaning.specs.Forms.{received_value}
use Rattle.bw_meaning.specs.States.{Form, State}
use Rattle.bw_meaning.specs.Statements.{store, variable, received}
use Rattle.bw_run.specs.Follow.Runs.{plain}

pub drop_at : {A : Type 0} (xs : List A) (i : ℕ) (x : A) → x ≡ get_or xs i x → i < length xs → drop i xs ≡ x ∷ drop (i + 1) xs
drop_at [] i x e h = absurd (omega arith)
drop_at (y ∷ xs) zero x e h = ap (λ z. z ∷ xs) (sym e)
drop_at (y ∷ xs) (suc i) x e h = let k : suc i + 1 ≡ suc (i + 1) = omega arith in drop_at xs i x e (omega arith) ∙ ap (λ n. x ∷ drop n (y ∷ xs)) (sym k)

pub received_next : (xs : List Received) (i : ℕ) (x : Received) (form : Form) (st st1 all : State) → x ≡ get_or xs i x → i < length xs →
    st1 ≡ store x.target (received_value (variable x.target st) (values_of x.field form)) st → received (map plain (drop i xs)) form st ≡ all →
    received (map plain (drop (i + 1) xs)) form st1 ≡ all
received_next xs i x form st st1 all e h s r =
    ap (received (map plain (drop (i + 1) xs)) form) s ∙ ap (λ l. received (map plain l) form st) (sym (drop_at xs i x e h)) ∙ r
