-- The numbers of options.
use Rattle.std.specs.Prelude.{ℕ, Bool, cond, not, ◌&&◌, ◌||◌, ◌==◌, nat_lt, nat_le, List, length, Option, Some, None, slice_index, option_map}
use Rattle.std.specs.List.{list_all}
use Rattle.std.specs.Char.{is_ascii_digit}
use Rattle.std.specs.Str.Parse.{digits_value}

-- at most 18 decimal digits, without a sign or a leading zero
abbrev pub is_number : List ℕ → Bool
is_number t = nat_lt 0 (length t) && nat_le (length t) 18 && list_all is_ascii_digit t && (not (slice_index t 0 == 48) || length t == 1)

-- the number from `least` to `most` that is written so
abbrev pub number_in : ℕ → ℕ → List ℕ → Option ℕ
number_in least most t = cond (is_number t && nat_le least (digits_value 10 t) && nat_le (digits_value 10 t) most) (Some (digits_value 10 t)) None

-- the number of an option, and another where the option isn't there
abbrev pub number_or : (least most other : ℕ) → Option (List ℕ) → Option ℕ
number_or least most other None = Some other
number_or least most other (Some t) = number_in least most t

-- the number of an option that may be left out: none where it isn't there
abbrev pub number_if : (least most : ℕ) → Option (List ℕ) → Option (Option ℕ)
number_if least most None = Some None
number_if least most (Some t) = option_map Some (number_in least most t)
