-- The form that a body sends.
use Rattle.std.specs.Prelude.{ℕ, List, map}
use Rattle.std.specs.Str.Lossy.{utf8_lossy}
use Rattle.form_urlencoded.specs.Form.{raw_pairs, decode}

-- a name and a value decoded, with the replacement character for what is not UTF-8
abbrev pub decode_pair : List ℕ × List ℕ → List ℕ × List ℕ
decode_pair pair = (utf8_lossy (decode pair.0), utf8_lossy (decode pair.1))

-- the pairs of the body, decoded
abbrev pub form_of : List ℕ → List (List ℕ × List ℕ)
form_of body = map decode_pair (raw_pairs body)
