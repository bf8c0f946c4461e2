-- The limits that are decided on the tokens of a service alone.
use Rattle.std.specs.Prelude.{ℕ, suc, ◌-◌, Bool, false, ◌||◌, nat_lt, if◌then◌else◌, max, List, [], ◌∷◌, find, option_map, Option, codes}
use Rattle.std.specs.Option.{option_or}
use Rattle.bw_lang.specs.declared.limits.Limit.{Limit}
use Rattle.bw_lang.specs.declared.limits.Limit.TheVariants as limits
use Rattle.bw_lang.specs.declared.limits.TheConstants.{MAX_NESTING, MAX_STRETCH}
use Rattle.bw_lang.specs.declared.token.Lexeme.{Lexeme}
use Rattle.bw_lang.specs.declared.token.Lexeme.TheVariants as lex
use Rattle.bw_lang.specs.Text.Keywords.{is}

-- a sign that opens a bracket, and one that closes it
abbrev pub is_opening : List ℕ → Bool
is_opening s = is s (codes "{") || (is s (codes "(") || (is s (codes "[") || is s (codes "<[")))

abbrev pub is_closing : List ℕ → Bool
is_closing s = is s (codes "}") || (is s (codes ")") || is s (codes "]"))

-- how many brackets are open behind it, where so many are in front; one that closes none changes nothing
abbrev pub depth_behind : ℕ → Lexeme → ℕ
depth_behind n (lex.Sign s) = if is_opening s then suc n else if is_closing s then n - 1 else n
depth_behind n l = n

-- the greatest number of open brackets in front of, between and behind the lexemes
abbrev pub deepest : ℕ → List Lexeme → ℕ
deepest n [] = n
deepest n (l ∷ ls) = max n (deepest (depth_behind n l) ls)

-- a sign that ends a stretch
abbrev pub ends_stretch : Lexeme → Bool
ends_stretch (lex.Sign s) = is s (codes ";") || (is s (codes "{") || is s (codes "}"))
ends_stretch l = false

-- the lengths of the stretches between such signs, the first of which has so many lexemes in front
abbrev pub stretches : ℕ → List Lexeme → List ℕ
stretches n [] = n ∷ []
stretches n (l ∷ ls) = if ends_stretch l then n ∷ stretches 0 ls else stretches (suc n) ls

-- the first of the numbers that is over the greatest number of the limit
abbrev pub passed : Limit → ℕ → List ℕ → Option (Limit × ℕ)
passed limit most numbers = option_map (λ n. (limit, n)) (find (nat_lt most) numbers)

-- the first of the two limits that the lexemes pass, with the number that does
abbrev pub too_deep : List Lexeme → Option (Limit × ℕ)
too_deep ls = option_or (passed limits.Nesting MAX_NESTING (deepest 0 ls ∷ [])) (passed limits.Stretch MAX_STRETCH (stretches 0 ls))
