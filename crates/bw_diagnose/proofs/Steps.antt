-- One step of a walk.
use Rattle.std.proofs.Common.{◌≡◌, ◌≢◌, ◌<◌, ◌≤◌, ℕ, suc, ◌+◌, ◌-◌, ◌==◌, true, false, if◌then◌else◌, List, [], ◌∷◌, length, drop, Option, Some, refl, ap}
use Rattle.std.proofs.Common.{◌∙◌, arith}
use Rattle.std.proofs.lemmas.Bool.{ne_eqb}
use Rattle.std.proofs.lemmas.List.{drop_more}
use Rattle.bw_lang.specs.declared.token.Lexeme.{Lexeme}
use Rattle.bw_diagnose.specs.Finding.{first, is_wanted}
use Rattle.bw_diagnose.specs.Places.{begins_hole, hole_place}
use Rattle.bw_diagnose.specs.declared.finding.Wanted.{Wanted}

pub first_step : (what : Wanted) (ls : List Lexeme) (name : List ℕ) (at to : ℕ) → at < to → first what ls name at (to - at)
    ≡ (if is_wanted what ls name at then Some at else first what ls name (at + 1) (to - (at + 1)))
first_step what ls name at to h = let e : to - at ≡ suc (to - (at + 1)) = omega arith in ap (first what ls name at) e

hole_step : (xs : List ℕ) (i n at : ℕ) → i < length xs → hole_place (drop i xs) n at
    ≡ (if begins_hole (drop i xs) then (if n == 0 then Some at else hole_place (drop (i + 1) xs) (n - 1) (at + 1))
    else hole_place (drop (i + 1) xs) n (at + 1))
hole_step xs i n at h = let e = drop_more xs i 0 h in rw e refl

-- a gap that isn't the one that is sought, and a place where none begins
pub hole_passed : (xs : List ℕ) (i n m : ℕ) → i < length xs → begins_hole (drop i xs) ≡ true → n ≢ 0 → m ≡ n - 1
    → hole_place (drop (i + 1) xs) m (i + 1) ≡ hole_place (drop i xs) n i
hole_passed xs i n m h b ne e = let f = ne_eqb n 0 ne in let s = hole_step xs i n i h in rw (e, s, b, f) refl

pub hole_absent : (xs : List ℕ) (i n m : ℕ) → i < length xs → begins_hole (drop i xs) ≡ false → m ≡ n
    → hole_place (drop (i + 1) xs) m (i + 1) ≡ hole_place (drop i xs) n i
hole_absent xs i n m h b e = let s = hole_step xs i n i h in rw (e, s, b) refl
