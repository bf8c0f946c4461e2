-- A name is among those that were seen where the table has a number for it.
use Rattle.std.proofs.Common.{◌≡◌, ℕ, Bool, true, false, List, length, refl, sym, ◌∙◌}
use Rattle.std.specs.Prelude.{nat_lt}
use Rattle.std.specs.List.{list_any}
use Rattle.std.proofs.lemmas.Bool.{ltb-true, ltb-false}
use Rattle.bw_lang.specs.Table.Names.{same, name_number}
use Rattle.bw_lang.proofs.TableLaws.{there, not_there}

pub any_known : (names : List (List ℕ)) (n : List ℕ) → list_any (same n) names ≡ nat_lt (name_number names n) (length names)
any_known names n = by_test (nat_lt (name_number names n) (length names)) refl
  where
    by_test : (b : Bool) → nat_lt (name_number names n) (length names) ≡ b → list_any (same n) names ≡ nat_lt (name_number names n) (length names)
    by_test true e = there names n (ltb-true (name_number names n) (length names) e) ∙ sym e
    by_test false e = not_there names n (ltb-false (name_number names n) (length names) e) ∙ sym e
