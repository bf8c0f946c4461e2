-- What the bytes of titles and targets are.
use Rattle.std.specs.Prelude.{ℕ, Bool, ◌==◌, ◌||◌, not}
use Rattle.std.specs.Str.{byte}
use Rattle.bw_lang.specs.Text.Bytes.{is_between, is_digit}

-- a digit, or a letter from `a` to `f`
abbrev pub is_hex_digit : ℕ → Bool
is_hex_digit b = is_digit b || is_between (byte "a") (byte "f") b

-- a byte that is printed as it is: none of `&`, `<`, `>` and `"`
abbrev pub is_plain : ℕ → Bool
is_plain b = not (b == byte "&" || (b == byte "<" || (b == byte ">" || b == byte "\"")))
