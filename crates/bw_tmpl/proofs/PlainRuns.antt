-- Bytes at the front that stand for themselves.
use Rattle.std.proofs.Common.{◌≡◌, ◌-◌, ℕ, suc, Bool, true, false, List, [], ◌∷◌, take, drop, length, Option, Some, None, refl, sym, ap, ◌∙◌, arith}
use Rattle.std.proofs.lemmas.List.{take_all, length-drop}
use Rattle.std.specs.Prelude.{if◌then◌else◌, ◌||◌, ◌&&◌, ◌==◌, not}
use Rattle.bw_tmpl.specs.Steps.Reading.{leading, is_plain, ref_at, char_at, each}
use Rattle.bw_tmpl.proofs.Many.{put, onto, each_more}
use Rattle.bw_tmpl.proofs.Characters.{char_shrinks}

by_tests : {A : Type 0} (x y z : Bool) (r s : Option A) → (not x && (not y && not z)) ≡ true → (if x then r else if y || z then None else s) ≡ s
by_tests true y z r s h = absurd (cc)
by_tests false true z r s h = absurd (cc)
by_tests false false true r s h = absurd (cc)
by_tests false false false r s h = refl

plain_char : (stop b : ℕ) (bs : List ℕ) → is_plain stop b ≡ true → char_at stop (b ∷ bs) ≡ Some (b, bs)
plain_char stop b bs h = by_tests (b == 38) (b == 60) (b == stop) (ref_at (b ∷ bs)) (Some (b, bs)) h

front_when : (stop b : ℕ) (bs : List ℕ) (v : Bool) → is_plain stop b ≡ v
    → onto (take (leading (is_plain stop) bs) bs) (each (char_at stop) (drop (leading (is_plain stop) bs) bs)) ≡ each (char_at stop) bs
    → (let n = if v then suc (leading (is_plain stop) bs) else 0 in
    onto (take n (b ∷ bs)) (each (char_at stop) (drop n (b ∷ bs))) ≡ each (char_at stop) (b ∷ bs))
front_when stop b bs true e ih =
    ap (put b) ih ∙ sym (each_more (char_at stop) (char_shrinks stop) (b ∷ bs) (b, bs) (plain_char stop b bs e))
front_when stop b bs false e ih = refl

-- they are the first characters, and reading goes on behind them
pub plain_front : (stop : ℕ) (bytes : List ℕ)
    → onto (take (leading (is_plain stop) bytes) bytes) (each (char_at stop) (drop (leading (is_plain stop) bytes) bytes)) ≡ each (char_at stop) bytes
plain_front stop [] = refl
plain_front stop (b ∷ bs) = front_when stop b bs (is_plain stop b) refl (plain_front stop bs)

-- the same of these bytes, and of what is left of the length behind them
pub plain_start : (stop : ℕ) (bytes front : List ℕ) (n : ℕ) → n ≡ leading (is_plain stop) bytes → front ≡ take n bytes
    → onto front (each (char_at stop) (take (length bytes - n) (drop n bytes))) ≡ each (char_at stop) bytes
plain_start stop bytes front n e f =
    let r = take_all (length bytes - n) (drop n bytes) (omega (arith, length-drop n bytes)) in
    (λ i. onto (f i) (each (char_at stop) (r i))) ∙ ap (λ (k : ℕ). onto (take k bytes) (each (char_at stop) (drop k bytes))) e ∙ plain_front stop bytes
