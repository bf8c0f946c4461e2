-- UTF-8 around bytes below 128.
use Rattle.std.proofs.Common.{◌≡◌, ℕ, zero, suc, ◌+◌, ◌-◌, ◌<◌, List, [], ◌∷◌, ◌++◌, length, get_or, take, drop, refl, sym, ap, ◌∙◌, subst, arith}
use Rattle.std.proofs.Common.{Bool, true, false, if◌then◌else◌}
use Rattle.std.specs.Str.{IsUtf8, IsAscii}
use Rattle.std.proofs.lemmas.List.{append_assoc, length-append, take_at, drop_at, get_or_at, drop-drop, drop_more, take_rest, get_or-drop}
use Rattle.std.proofs.lemmas.Str.{IsUtf8-append, IsUtf8-take, IsUtf8-drop, IsCharBoundary-before_ascii, IsCharBoundary-after_ascii, IsUtf8-from_ascii}
use Rattle.bw_lex.specs.declared.pieces.StringByte.TheVariants as inside
use Rattle.bw_lex.specs.Pieces.{string_byte}
use Rattle.bw_lex.proofs.Strings.{stands_escaped, stands_plain, escapes_is, closes_is}

-- what stands in front of a byte below 128, and what stands behind it
pub front : (xs ys : List ℕ) (b : ℕ) → b < 128 → IsUtf8 (xs ++ b ∷ ys) → IsUtf8 xs
front xs ys b h u =
    let at : get_or (xs ++ b ∷ ys) (length xs) 0 ≡ b = get_or_at xs b ys 0 (length xs) refl in
    let within : length xs < length (xs ++ b ∷ ys) = omega (arith, length-append xs (b ∷ ys)) in
    subst IsUtf8 (take_at xs (b ∷ ys) (length xs) refl)
    (IsUtf8-take (xs ++ b ∷ ys) (length xs) u (IsCharBoundary-before_ascii (xs ++ b ∷ ys) (length xs) within (omega (arith, at))))

pub behind : (xs ys : List ℕ) (b : ℕ) → b < 128 → IsUtf8 (xs ++ b ∷ ys) → IsUtf8 ys
behind xs ys b h u =
    let at : get_or (xs ++ b ∷ ys) (length xs) 0 ≡ b = get_or_at xs b ys 0 (length xs) refl in
    let within : length xs < length (xs ++ b ∷ ys) = omega (arith, length-append xs (b ∷ ys)) in
    subst IsUtf8 (sym (drop-drop 1 (length xs) (xs ++ b ∷ ys)) ∙ ap (drop 1) (drop_at xs (b ∷ ys) (length xs) refl))
    (IsUtf8-drop (xs ++ b ∷ ys) (length xs + 1) u (IsCharBoundary-after_ascii (xs ++ b ∷ ys) (length xs) u within (omega (arith, at))))

one : (b : ℕ) → b < 128 → IsAscii (b ∷ [])
one b h zero = h
one b h (suc i) = omega arith

-- two bytes below 128 become one
pub joined : (xs ys : List ℕ) (a b c : ℕ) → a < 128 → b < 128 → c < 128 → IsUtf8 (xs ++ a ∷ b ∷ ys) → IsUtf8 ((xs ++ c ∷ []) ++ ys)
joined xs ys a b c ha hb hc u =
    IsUtf8-append (xs ++ c ∷ []) ys (IsUtf8-append xs (c ∷ []) (front xs (b ∷ ys) a ha u) (IsUtf8-from_ascii (c ∷ []) (one c hc)))
    (behind [] ys b hb (behind xs (b ∷ ys) a ha u))

-- the text of a string so far, and the bytes from place n on
abbrev pub so_far : Bool → List ℕ → ℕ → List ℕ → List ℕ
so_far escaped text n bytes = text ++ (if escaped then 92 ∷ drop n bytes else drop n bytes)

-- a byte that stands for a byte of the text, the backslash of an escape, and the quote that ends the string
pub stands : (escaped : Bool) (text bytes : List ℕ) (n c : ℕ) → n < length bytes → string_byte escaped (get_or bytes n 0) ≡ inside.Stands c
    → IsUtf8 (so_far escaped text n bytes) → IsUtf8 (so_far false (text ++ c ∷ []) (n + 1) bytes)
stands true text bytes n c h e u =
    let k = stands_escaped (get_or bytes n 0) c e in
    joined text (drop (n + 1) bytes) 92 (get_or bytes n 0) c (omega arith) (grind (arith, k)) (grind (arith, k))
    (subst (λ r. IsUtf8 (text ++ 92 ∷ r)) (drop_more bytes n 0 h) u)
stands false text bytes n c h e u =
    subst IsUtf8 (ap (λ r. text ++ r) (drop_more bytes n 0 h) ∙ ap (λ b. text ++ b ∷ drop (n + 1) bytes) (sym (stands_plain (get_or bytes n 0) c e).0)
    ∙ sym (append_assoc text (c ∷ []) (drop (n + 1) bytes))) u

pub escapes : (escaped : Bool) (text bytes : List ℕ) (n : ℕ) → n < length bytes → string_byte escaped (get_or bytes n 0) ≡ inside.Escapes
    → IsUtf8 (so_far escaped text n bytes) → IsUtf8 (so_far true text (n + 1) bytes)
escapes true text bytes n h e u = absurd (grind (arith, escapes_is true (get_or bytes n 0) e))
escapes false text bytes n h e u =
    subst IsUtf8 (ap (λ r. text ++ r) (drop_more bytes n 0 h ∙ ap (λ b. b ∷ drop (n + 1) bytes) (escapes_is false (get_or bytes n 0) e).1)) u

pub closes : (escaped : Bool) (text bytes : List ℕ) (n : ℕ) → n < length bytes → string_byte escaped (get_or bytes n 0) ≡ inside.Closes
    → IsUtf8 (so_far escaped text n bytes) → IsUtf8 text
closes true text bytes n h e u = absurd (grind (arith, closes_is true (get_or bytes n 0) e))
closes false text bytes n h e u =
    let quote = (closes_is false (get_or bytes n 0) e).1 in
    front text (drop (n + 1) bytes) (get_or bytes n 0) (omega (arith, quote)) (subst IsUtf8 (ap (λ r. text ++ r) (drop_more bytes n 0 h)) u)

-- what stands behind a quote, where the code cuts the bytes off at it
pub behind_quote : (bytes : List ℕ) (at : ℕ) → IsUtf8 bytes → at < length bytes → get_or (take (length bytes - at) (drop at bytes)) 0 0 ≡ 34
    → IsUtf8 (drop 1 (take (length bytes - at) (drop at bytes)))
behind_quote bytes at u h e =
    let quote : get_or bytes at 0 ≡ 34 =
    ap (λ n. get_or bytes n 0) (omega arith) ∙ sym (get_or-drop at bytes 0 0) ∙ ap (λ l. get_or l 0 0) (sym (take_rest bytes at)) ∙ e in
    subst IsUtf8 (sym (drop-drop 1 at bytes) ∙ ap (drop 1) (sym (take_rest bytes at)))
    (IsUtf8-drop bytes (at + 1) u (IsCharBoundary-after_ascii bytes at u h (omega (arith, quote))))
