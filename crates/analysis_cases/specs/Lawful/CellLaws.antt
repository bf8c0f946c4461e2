-- Systems of cells that hold sets are lawful.
use Rattle.std.specs.Prelude.{◌≡◌, ◌==◌, ℕ, zero, suc, ◌<◌, ◌≤◌, Bool, true, false, cond, List, [], ◌∷◌, length}
use Rattle.std.proofs.Common.{refl, arith}
use Rattle.std.specs.List.{Contains, list_any}
use Rattle.std.specs.Ordering.{nat_cmp}
use Rattle.std.proofs.lemmas.Cmp.{nat_cmp_total}
use Rattle.std.proofs.lemmas.Bool.Decides.{nat_tests}
use Rattle.std.proofs.lemmas.Map.Views.{Contains-from_any}
use Rattle.bw_solve.specs.Sets.{IsSet, is_within, merge}
use Rattle.bw_solve.specs.Lawful.SetLaws.{merge_set, merge_left, merge_right, merge_least, within_itself, within_trans, within_size}
use Rattle.bw_solve.specs.System.{EachFits, IsSystem}
use Rattle.analysis_cases.specs.declared.sets.cells.Cell.{Cell}
use Rattle.analysis_cases.specs.Cells.{own_at, readers_at, filled, gathered, all_numbers, Fits}

filled_set : (all xs : List ℕ) → IsSet nat_cmp all → IsSet nat_cmp (filled all xs)
filled_set all [] s = s
filled_set all (x ∷ xs) s = filled_set (merge nat_cmp all (x ∷ [])) xs (merge_set nat_cmp_total all (x ∷ []) s (tt, tt))

all_set : (cells : List Cell) → IsSet nat_cmp (all_numbers cells)
all_set [] = tt
all_set (c ∷ cs) = merge_set nat_cmp_total (filled [] c.own.items) (all_numbers cs) (filled_set [] c.own.items tt) (all_set cs)

own_within : (cells : List Cell) (cell : ℕ) → is_within nat_cmp (filled [] (own_at cells cell)) (all_numbers cells) ≡ true
own_within [] cell = refl
own_within (c ∷ cs) zero = merge_left nat_cmp_total (filled [] c.own.items) (all_numbers cs)
own_within (c ∷ cs) (suc cell) = within_trans nat_cmp_total (filled [] (own_at cs cell)) (all_numbers cs)
    (merge nat_cmp (filled [] c.own.items) (all_numbers cs))
    (own_within cs cell) (merge_right nat_cmp_total (filled [] c.own.items) (all_numbers cs))

same : (x y : ℕ) → (y == x) ≡ true → x ≡ y
same x y e = grind (arith, nat_tests)

module _ (cells : List Cell) (cell : ℕ) where
  with_fits : (all v : List ℕ) (b : Bool) → Fits cells all → Fits cells v → Fits cells (cond b (merge nat_cmp all v) all)
  with_fits all v true p q = (merge_set nat_cmp_total all v p.0 q.0, merge_least nat_cmp_total all v (all_numbers cells) p.1 q.1)
  with_fits all v false p q = p

  gathered_fits : (f : ℕ → List ℕ) (n : ℕ) → n ≤ length cells → EachFits (length cells) (λ _ v. Fits cells v) f → Fits cells (gathered cells cell f n)
  gathered_fits f zero h e = (filled_set [] (own_at cells cell) tt, own_within cells cell)
  gathered_fits f (suc n) h e = with_fits (gathered cells cell f n) (f n) (list_any (λ y. y == cell) (readers_at cells n))
      (gathered_fits f n (omega arith) e) (e n (omega arith))

  merge_more : (a b c d : List ℕ) → is_within nat_cmp a c ≡ true → is_within nat_cmp b d ≡ true
      → is_within nat_cmp (merge nat_cmp a b) (merge nat_cmp c d) ≡ true
  merge_more a b c d p q =
      let o = nat_cmp_total in
      merge_least o a b (merge nat_cmp c d) (within_trans o a c (merge nat_cmp c d) p (merge_left o c d))
      (within_trans o b d (merge nat_cmp c d) q (merge_right o c d))

  with_more : (a b v w : List ℕ) (r : Bool) → is_within nat_cmp a b ≡ true → (r ≡ true → is_within nat_cmp v w ≡ true)
      → is_within nat_cmp (cond r (merge nat_cmp a v) a) (cond r (merge nat_cmp b w) b) ≡ true
  with_more a b v w true p q = merge_more a v b w p (q refl)
  with_more a b v w false p q = p

  gathered_more : (f g : ℕ → List ℕ) (n : ℕ) → n ≤ length cells
      → ((source : ℕ) → source < length cells → Contains (readers_at cells source) cell → is_within nat_cmp (f source) (g source) ≡ true)
      → is_within nat_cmp (gathered cells cell f n) (gathered cells cell g n) ≡ true
  gathered_more f g zero h m = within_itself nat_cmp_total (filled [] (own_at cells cell))
  gathered_more f g (suc n) h m = with_more (gathered cells cell f n) (gathered cells cell g n) (f n) (g n) (list_any (λ y. y == cell) (readers_at cells n))
      (gathered_more f g n (omega arith) m)
      (λ e. m n (omega arith) (Contains-from_any {eq = λ q y. y == q} same cell (readers_at cells n) e))

pub cells_system : (cells : List Cell) → IsSystem {V = List ℕ} (λ a b. IsSet nat_cmp a × IsSet nat_cmp b) (is_within nat_cmp) length (length cells)
    (λ _ v. Fits cells v) (λ _. length (all_numbers cells)) (λ _. []) (readers_at cells) (λ cell f. gathered cells cell f (length cells))
cells_system cells = record {
  fits_alike = λ _ a b h p q. (p.0, q.0);
  fits_bound = λ _ a h p. within_size nat_cmp_total (all_numbers cells) a p.0 (all_set cells) p.1;
  empty_fits = λ _ h. (tt, refl);
  empty_least = λ _ a h p. refl;
  transfer_fits = λ cell f h e. gathered_fits cells cell f (length cells) (omega arith) e;
  monotone = λ cell f g h d e m. gathered_more cells cell f g (length cells) (omega arith) m;
}
