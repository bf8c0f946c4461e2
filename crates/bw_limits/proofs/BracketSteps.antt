-- One lexeme more.
use Rattle.std.proofs.Common.{◌≡◌, ℕ, suc, ◌+◌, ◌-◌, ◌<◌, ◌≤◌, Bool, true, false, if◌then◌else◌, List, ◌∷◌, length, get_or, drop, refl, ap, arith, max, find}
use Rattle.bw_lang.specs.Text.Brackets.{is_opening, is_closing, depth_behind, deepest, ends_stretch, stretches}
use Rattle.bw_lang.specs.declared.token.Lexeme.{Lexeme}
use Rattle.bw_lang.specs.declared.token.Lexeme.TheVariants as lex
use Rattle.std.proofs.lemmas.List.{drop_more}

-- a lexeme opens one bracket at most
pub behind_le : (n : ℕ) (l : Lexeme) → depth_behind n l ≤ n + 1
behind_le n (lex.Sign s) = by_tests (is_opening s) (is_closing s)
  where
    by_tests : (a b : Bool) → (if a then suc n else if b then n - 1 else n) ≤ n + 1
    by_tests true b = omega arith
    by_tests false true = omega arith
    by_tests false false = omega arith
behind_le n (lex.Word w) = omega arith
behind_le n (lex.Number m) = omega arith
behind_le n (lex.Str s) = omega arith
behind_le n (lex.Template b) = omega arith

pub deepest_at_read : (n : ℕ) (xs : List Lexeme) (i : ℕ) (d : Lexeme) → i < length xs
    → (get_or xs i d ≡ get_or xs i d) × (deepest n (drop i xs) ≡ max n (deepest (depth_behind n (get_or xs i d)) (drop (i + 1) xs)))
deepest_at_read n xs i d h = (refl, ap (deepest n) (drop_more xs i d h))

pub stretches_at_read : (p : ℕ → Bool) (n : ℕ) (xs : List Lexeme) (i : ℕ) (d : Lexeme) → i < length xs
    → (get_or xs i d ≡ get_or xs i d)
    × (find p (stretches n (drop i xs))
    ≡ find p (if ends_stretch (get_or xs i d) then n ∷ stretches 0 (drop (i + 1) xs) else stretches (suc n) (drop (i + 1) xs)))
stretches_at_read p n xs i d h = (refl, ap (λ ys. find p (stretches n ys)) (drop_more xs i d h))

pub ruleset bracket_steps = (behind_le, deepest_at_read, stretches_at_read)
