-- What the header tests decide of a whole head.
use Rattle.std.specs.Prelude.{◌≡◌, ℕ, ◌≤◌, Bool, true, false, cond, not, ◌&&◌, ◌==◌, nat_lt, nat_le, List, [], ◌∷◌, length, map, take, filter, codes}
use Rattle.std.specs.List.{list_all, position_or_len}
use Rattle.std.specs.Str.{bytes_eq}
use Rattle.std.specs.Char.{to_ascii_lowercase, is_ascii_digit}
use Rattle.std.specs.Str.Parse.{digits_value}
use Rattle.httparse.specs.Grammar.{RequestHead, trim_ows}
use Rattle.httparse.specs.Spans.{span_bytes, name_and_value, IsWithin}
use Rattle.bw_http.specs.declared.decide.Found.{Found}
use Rattle.bw_http.specs.declared.decide.Found.TheVariants.{Absent, One, Several}
use Rattle.bw_http.specs.declared.decide.Length.{Length}
use Rattle.bw_http.specs.declared.decide.Length.TheVariants.{Missing, Wrong, Bytes}
use Rattle.bw_http.specs.declared.request.Method.{Method}
use Rattle.bw_http.specs.declared.request.Method.TheVariants.{Get, Post, Other}
use Rattle.bw_http.specs.declared.request.ReadOutcome.TheVariants.{NoHost, Coding, BadLength, LengthRequired, BodyTooLong, Media}
use Rattle.bw_http.specs.declared.decide.Decision.{Decision}
use Rattle.bw_http.specs.declared.decide.Decision.TheVariants.{Refused, Body}
use Rattle.bw_http.specs.declared.decide.TheConstants.{MAX_BODY_BYTES}

-- the two words are one in any letter case
abbrev pub same_word : List ℕ → List ℕ → Bool
same_word a b = bytes_eq (map to_ascii_lowercase a) (map to_ascii_lowercase b)

-- the values of the header lines of that name, in order
abbrev pub values : List ℕ → List (List ℕ × List ℕ) → List (List ℕ)
values name pairs = map (λ (p : List ℕ × List ℕ). p.1) (filter (λ (p : List ℕ × List ℕ). same_word p.0 name) pairs)

-- there is none, exactly one that stands at the span, or two or more
abbrev pub IsFound : List ℕ → List (List ℕ) → Found → Type 0
IsFound buf vs Absent = vs ≡ []
IsFound buf vs (One s) = (vs ≡ span_bytes buf s ∷ []) × IsWithin (length buf) s
IsFound buf vs Several = 2 ≤ length vs

-- 1 to 18 digits
abbrev pub is_size : List ℕ → Bool
is_size v = nat_lt 0 (length v) && nat_le (length v) 18 && list_all is_ascii_digit v

-- what the values of Content-Length come to
abbrev pub length_of : List (List ℕ) → Length
length_of [] = Missing
length_of (v ∷ []) = cond (is_size v) (Bytes (digits_value 10 v)) Wrong
length_of (v ∷ w ∷ vs) = Wrong

-- the bytes before the first `;`, or all of them
abbrev pub before_semicolon : List ℕ → List ℕ
before_semicolon v = take (position_or_len (λ b. b == 59) v) v

-- a value up to its first `;`, without the white space around it
abbrev pub media_type : List ℕ → List ℕ
media_type v = trim_ows (before_semicolon v)

-- exactly one value, and it says form data
abbrev pub is_form : List (List ℕ) → Bool
is_form [] = false
is_form (v ∷ []) = same_word (media_type v) (codes "application/x-www-form-urlencoded")
is_form (v ∷ w ∷ vs) = false

-- exactly one
abbrev pub is_one : List (List ℕ) → Bool
is_one [] = false
is_one (v ∷ []) = true
is_one (v ∷ w ∷ vs) = false

abbrev pub is_none : List (List ℕ) → Bool
is_none [] = true
is_none (v ∷ vs) = false

-- the method of these bytes
abbrev pub method_of : List ℕ → Method
method_of bytes = cond (bytes_eq bytes (codes "GET")) Get (cond (bytes_eq bytes (codes "POST")) Post Other)

abbrev pub is_post : Method → Bool
is_post Get = false
is_post Post = true
is_post Other = false

-- the tests on the body's length and type
abbrev pub decide_body : Method → Length → Bool → Decision
decide_body method Missing form = cond (is_post method) (Refused LengthRequired) (Body 0)
decide_body method Wrong form = Refused BadLength
decide_body method (Bytes n) form =
    cond (nat_lt MAX_BODY_BYTES n) (Refused BodyTooLong)
    (cond (is_post method && nat_lt 0 n && not form) (Refused Media) (Body n))

-- the tests in their order: the version, whether there is one host and no coding, and the body's
abbrev pub decide_in_order : ℕ → Bool → Bool → Method → Length → Bool → Decision
decide_in_order minor host coded method length form =
    cond (minor == 1 && not host) (Refused NoHost) (cond coded (Refused Coding) (decide_body method length form))

-- the tests on the parts of a head
unfoldable pub decide_on : List ℕ → ℕ → List (List ℕ × List ℕ) → Decision
decide_on method minor pairs =
    decide_in_order minor (is_one (values (codes "host") pairs)) (not (is_none (values (codes "transfer-encoding") pairs)))
    (method_of method) (length_of (values (codes "content-length") pairs)) (is_form (values (codes "content-type") pairs))

-- what the tests decide of the head
abbrev pub decide : RequestHead → Decision
decide h = decide_on h.method h.minor (map name_and_value h.fields)
