-- Reading of numbers, texts and lists of texts, from left to right: each gives a value and the bytes behind it.
use Rattle.std.specs.Prelude.{◌≡◌, ℕ, zero, suc, ℤ, List, [], ◌∷◌, length, take, drop, Option, Some, None, Result, Ok, Err, nat_lt, if◌then◌else◌}
use Rattle.std.specs.Int.{Width, w32, w64, byte_len, from_be_bytes, cast_signed}
use Rattle.std.specs.Str.{is_utf8}
use Rattle.bw_lang.specs.declared.limits.TheConstants.{MAX_STRING_BYTES}
use Rattle.bw_saved.specs.declared.fault.ReadError.{ReadError}
use Rattle.bw_saved.specs.declared.fault.ReadError.TheVariants as errors

-- one step of reading behind another
infixl 10 ◌>>=◌
abbrev pub ◌>>=◌ : {A B : Type 0} → Option A → (A → Option B) → Option B
None >>= f = None
(Some x) >>= f = f x

-- the error says rightly that nothing is read, or there was no memory
abbrev pub Fails : {Y : Type 0} → ReadError → Option Y → Type 0
Fails errors.Memory read = Unit {0}
Fails errors.Malformed read = read ≡ None

-- what a function returned, seen by view, is what reading gives, unless there was no memory
abbrev pub Gives : {X Y : Type 0} → (X → Y) → Result X ReadError → Option Y → Type 0
Gives view (Ok x) read = read ≡ Some (view x)
Gives view (Err e) read = Fails e read

-- a number of so many bytes, the greatest one first
abbrev pub number_at : Width → List ℕ → Option (ℕ × List ℕ)
number_at w bytes = if nat_lt (length bytes) (byte_len w) then None else Some (from_be_bytes w (take (byte_len w) bytes), drop (byte_len w) bytes)

-- an integer of 64 bits, in two's complement
unfoldable pub integer_at : List ℕ → Option (ℤ × List ℕ)
integer_at bytes = do
  n ← number_at w64 bytes
  Some (cast_signed w64 n.0, n.1)

-- so many bytes, if they are there and are UTF-8
abbrev pub utf8_of : ℕ × List ℕ → Option (List ℕ × List ℕ)
utf8_of n = if nat_lt (length n.1) n.0 then None else if is_utf8 (take n.0 n.1) then Some (take n.0 n.1, drop n.0 n.1) else None

-- four bytes of length, and so many bytes of UTF-8
unfoldable pub text_at : List ℕ → Option (List ℕ × List ℕ)
text_at bytes = do
  n ← number_at w32 bytes
  if nat_lt MAX_STRING_BYTES n.0 then None else utf8_of n

-- a value in front of others
abbrev pub first_of : {A : Type 0} → A → Option (List A × List ℕ) → Option (List A × List ℕ)
first_of x read = read >>= λ xs. Some (x ∷ xs.0, xs.1)

-- so many values, one after another
unfoldable pub repeated : {A : Type 0} → (List ℕ → Option (A × List ℕ)) → ℕ → List ℕ → Option (List A × List ℕ)
repeated read zero bytes = Some ([], bytes)
repeated read (suc n) bytes = read bytes >>= λ x. first_of x.0 (repeated read n x.1)

-- a value for each of these, one after another
unfoldable pub each_at : {K A : Type 0} → (K → List ℕ → Option (A × List ℕ)) → List K → List ℕ → Option (List A × List ℕ)
each_at read [] bytes = Some ([], bytes)
each_at read (k ∷ ks) bytes = read k bytes >>= λ x. first_of x.0 (each_at read ks x.1)

-- four bytes of count, and so many texts
unfoldable pub strings_at : List ℕ → Option (List (List ℕ) × List ℕ)
strings_at bytes = do
  n ← number_at w32 bytes
  repeated text_at n.0 n.1
