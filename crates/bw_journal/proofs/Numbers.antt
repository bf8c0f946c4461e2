-- Numbers in bytes.
use Rattle.std.proofs.Common.{◌≡◌, ℕ, zero, suc, [], ◌∷◌, replicate, ◌<◌, ◌≤◌, ◌+◌, ◌^◌, List, ◌++◌, length, get_or, take, drop, refl, sym, ap, ◌∙◌, subst}
use Rattle.std.proofs.Common.{arith, inl, inr}
use Rattle.std.specs.Int.{w32, w64, from_be_bytes}
use Rattle.std.proofs.lemmas.Bool.{cases_lt}
use Rattle.std.proofs.lemmas.List.{take-append-drop, take-append-le, length-append, length-take, length-take-le, length-drop}
use Rattle.std.proofs.lemmas.List.{get_or-drop, get_or-take, get_or_past}
use Rattle.std.proofs.lemmas.Nat.{be_bytes_4, be_bytes_8, from_be_bytes-to_be_bytes_4, from_be_bytes-to_be_bytes_8}
use Rattle.std.proofs.Math.Seq.{take-length}
use Rattle.bw_journal.specs.Layout.{four, eight, front_bytes}
use Rattle.bw_journal.specs.declared.limits.TheConstants.{MAX_MESSAGE_BYTES}

-- each of them is a byte
abbrev pub IsBytes : List ℕ → Type 0
IsBytes bytes = (i : ℕ) → get_or bytes i 0 < 256

pub bytes_behind : (n : ℕ) (bytes : List ℕ) → IsBytes bytes → IsBytes (drop n bytes)
bytes_behind n bytes h i = rw get_or-drop (h (n + i))

pub bytes_of_front : (n : ℕ) (bytes : List ℕ) → IsBytes bytes → IsBytes (take n bytes)
bytes_of_front n bytes h i =
    elim (cases_lt i n) [
      | inl lt ↦ rw (get_or-take n bytes i 0 lt) (h i)
      | inr le ↦ rw (get_or_past (take n bytes) i 0 (omega (arith, length-take n bytes))) (omega arith)
    ]

pub take_all : (bytes : List ℕ) (n : ℕ) → length bytes ≡ n → take n bytes ≡ bytes
take_all bytes n e = ap (λ (k : ℕ). take k bytes) (sym e) ∙ take-length bytes

pub length-four : (n : ℕ) → length (four n) ≡ 4
unfolding four
length-four n = refl

pub length-eight : (n : ℕ) → length (eight n) ≡ 8
unfolding eight
length-eight n = refl

pub length-front : (m n : ℕ) → length (front_bytes m n) ≡ 12
length-front m n = omega (arith, length-append (four m) (eight n), length-four m, length-eight n)

-- ---- a number has bytes of its own

pub four_one : (m n : ℕ) → m < 2 ^ 32 → n < 2 ^ 32 → four m ≡ four n → m ≡ n
unfolding four
four_one m n a b e = sym (from_be_bytes-to_be_bytes_4 m a) ∙ ap (from_be_bytes w32) e ∙ from_be_bytes-to_be_bytes_4 n b

-- the same of the lengths of two messages
pub length_one : (m n : ℕ) → m ≤ MAX_MESSAGE_BYTES → n ≤ MAX_MESSAGE_BYTES → four m ≡ four n → m ≡ n
length_one m n a b e = four_one m n (omega arith) (omega arith) e

pub eight_one : (m n : ℕ) → m < 2 ^ 64 → n < 2 ^ 64 → eight m ≡ eight n → m ≡ n
unfolding eight
eight_one m n a b e = sym (from_be_bytes-to_be_bytes_8 m a) ∙ ap (from_be_bytes w64) e ∙ from_be_bytes-to_be_bytes_8 n b

-- ---- what is read is written so

-- four bytes that were read are those of their number
pub four_read : (bytes : List ℕ) (n : ℕ) → IsBytes bytes → length bytes ≡ 4 → n ≡ from_be_bytes w32 bytes → four n ≡ bytes
unfolding four
four_read bytes n h len e = be_bytes_4 bytes n len h e

-- and so are eight
pub eight_read : (bytes : List ℕ) (n : ℕ) → IsBytes bytes → length bytes ≡ 8 → n ≡ from_be_bytes w64 bytes → eight n ≡ bytes
unfolding eight
eight_read bytes n h len e = be_bytes_8 bytes n len h e

-- the first bytes alone make a number
pub four_from_front : (k : ℕ) (bytes : List ℕ) → 4 ≤ k → from_be_bytes w32 (take k bytes) ≡ from_be_bytes w32 bytes
four_from_front k bytes le =
    omega (
      arith,
      get_or-take k bytes 0 0 (omega arith),
      get_or-take k bytes 1 0 (omega arith),
      get_or-take k bytes 2 0 (omega arith),
      get_or-take k bytes 3 0 (omega arith),
    )

-- twelve bytes are a front
pub front_read : (bytes front key : List ℕ) (m n : ℕ) → IsBytes bytes → 12 ≤ length bytes → front ≡ take 12 bytes → key ≡ drop 4 front
    → m ≡ from_be_bytes w32 bytes → n ≡ from_be_bytes w64 key → front ≡ front_bytes m n
front_read bytes front key m n h le is e a b =
    let h1 : IsBytes front = subst IsBytes (sym is) (bytes_of_front 12 bytes h) in
    let size : length front ≡ 12 = ap (λ (x : List ℕ). length x) is ∙ length-take-le 12 bytes le in
    let h2 : IsBytes (take 4 front) = bytes_of_front 4 front h1 in
    let h3 : IsBytes key = subst IsBytes (sym e) (bytes_behind 4 front h1) in
    let le4 : 4 ≤ length front = omega (arith, size) in
    let four_long : length (take 4 front) ≡ 4 = length-take-le 4 front le4 in
    let behind_long : length (drop 4 front) ≡ 8 = omega (arith, length-drop 4 front, size) in
    let eight_long : length key ≡ 8 = ap (λ (x : List ℕ). length x) e ∙ behind_long in
    let same : from_be_bytes w32 bytes ≡ from_be_bytes w32 (take 4 front) =
    sym (four_from_front 4 front (omega arith) ∙ ap (λ (x : List ℕ). from_be_bytes w32 x) is ∙ four_from_front 12 bytes (omega arith)) in
    let one : four m ≡ take 4 front = four_read (take 4 front) m h2 four_long (a ∙ same) in
    let two : eight n ≡ drop 4 front = eight_read key n h3 eight_long b ∙ e in
    sym (ap (λ (x : List ℕ). x ++ eight n) one ∙ ap (λ (x : List ℕ). take 4 front ++ x) two ∙ take-append-drop 4 front)

-- ---- what bytes may still become

pub below_4 : (bytes : List ℕ) → IsBytes bytes → from_be_bytes w32 bytes < 2 ^ 32
below_4 bytes fits = omega (arith, fits 0, fits 1, fits 2, fits 3)

pub below_8 : (bytes : List ℕ) → IsBytes bytes → from_be_bytes w64 bytes < 2 ^ 64
below_8 bytes fits = omega (arith, fits 0, fits 1, fits 2, fits 3, fits 4, fits 5, fits 6, fits 7)

zeros_are_bytes : (n : ℕ) → IsBytes (replicate n 0)
zeros_are_bytes zero i = omega arith
zeros_are_bytes (suc n) zero = omega arith
zeros_are_bytes (suc n) (suc i) = zeros_are_bytes n i

pub bytes_filled : (bytes : List ℕ) (n : ℕ) → IsBytes bytes → IsBytes (bytes ++ replicate n 0)
bytes_filled [] n h i = zeros_are_bytes n i
bytes_filled (b ∷ bytes) n h zero = h zero
bytes_filled (b ∷ bytes) n h (suc i) = bytes_filled bytes n (λ k. h (suc k)) i

zero_at : (n i : ℕ) → ◌≡◌ {A = ℕ} (get_or (replicate n 0) i 0) 0
zero_at zero i = refl
zero_at (suc n) zero = refl
zero_at (suc n) (suc i) = zero_at n i

-- a byte that lacks is read as one that is 0
byte_filled : (bytes : List ℕ) (n i : ℕ) → get_or (bytes ++ replicate n 0) i 0 ≡ get_or bytes i 0
byte_filled [] n i = zero_at n i
byte_filled (b ∷ bytes) n zero = refl
byte_filled (b ∷ bytes) n (suc i) = byte_filled bytes n i

-- bytes that lack count as 0
pub four_from_filled : (bytes : List ℕ) (n : ℕ) → from_be_bytes w32 (bytes ++ replicate n 0) ≡ from_be_bytes w32 bytes
four_from_filled bytes n = omega (arith, byte_filled bytes n 0, byte_filled bytes n 1, byte_filled bytes n 2, byte_filled bytes n 3)

byte_grows : (bytes more : List ℕ) (i : ℕ) → get_or bytes i 0 ≤ get_or (bytes ++ more) i 0
byte_grows [] more i = omega arith
byte_grows (b ∷ bytes) more zero = omega arith
byte_grows (b ∷ bytes) more (suc i) = byte_grows bytes more i

-- so no number whose bytes begin so is less
pub least_four : (bytes more : List ℕ) → from_be_bytes w32 bytes ≤ from_be_bytes w32 (bytes ++ more)
least_four bytes more = omega (arith, byte_grows bytes more 0, byte_grows bytes more 1, byte_grows bytes more 2, byte_grows bytes more 3)

-- what is read in front of bytes that begin with a number
pub four_from_four : (n : ℕ) (more : List ℕ) → n < 2 ^ 32 → from_be_bytes w32 (four n ++ more) ≡ n
unfolding four
four_from_four n more lt = from_be_bytes-to_be_bytes_4 n lt

-- ---- the same of eight bytes

pub eight_from_front : (k : ℕ) (bytes : List ℕ) → 8 ≤ k → from_be_bytes w64 (take k bytes) ≡ from_be_bytes w64 bytes
eight_from_front k bytes le =
    omega (
      arith,
      get_or-take k bytes 0 0 (omega arith),
      get_or-take k bytes 1 0 (omega arith),
      get_or-take k bytes 2 0 (omega arith),
      get_or-take k bytes 3 0 (omega arith),
      get_or-take k bytes 4 0 (omega arith),
      get_or-take k bytes 5 0 (omega arith),
      get_or-take k bytes 6 0 (omega arith),
      get_or-take k bytes 7 0 (omega arith),
    )

pub eight_from_eight : (n : ℕ) (more : List ℕ) → n < 2 ^ 64 → from_be_bytes w64 (eight n ++ more) ≡ n
unfolding eight
eight_from_eight n more lt = from_be_bytes-to_be_bytes_8 n lt

-- more bytes behind eight make the same number
pub eight_from_more : (bytes more : List ℕ) → 8 ≤ length bytes → from_be_bytes w64 (bytes ++ more) ≡ from_be_bytes w64 bytes
eight_from_more bytes more le =
    sym (eight_from_front 8 (bytes ++ more) (omega arith)) ∙ ap (λ (b : List ℕ). from_be_bytes w64 b) (take-append-le 8 bytes more le)
    ∙ eight_from_front 8 bytes (omega arith)
