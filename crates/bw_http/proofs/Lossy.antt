-- What is decoded with the replacement character is UTF-8, and so are the values of forms.
use Rattle.std.proofs.Common.{◌≡◌, ◌≤◌, ◌<◌, ◌+◌, ℕ, zero, suc, Bool, true, false, cond, List, [], ◌∷◌, ◌++◌, map, length, take, drop, refl, sym, subst, arith}
use Rattle.std.specs.Prelude.{◌==◌, nat_lt, if◌then◌else◌, slice_index, Option, Some, None, unwrap_or}
use Rattle.std.specs.Int.{is_in_range}
use Rattle.std.specs.Str.{IsUtf8, is_utf8}
use Rattle.std.specs.Str.Lossy.{second_byte_min, second_byte_max, valid_len_up_to, utf8_valid_len, utf8_error_len, utf8_invalid_len, error_len_of_some}
use Rattle.std.specs.Str.Lossy.{error_len_after_one, error_len_after_two, after_first_chunk, replacement_bytes, utf8_lossy_within, utf8_lossy}
use Rattle.std.proofs.lemmas.Bool.{eqb-true}
use Rattle.std.proofs.lemmas.Bool.Decides.{nat_tests}
use Rattle.std.proofs.lemmas.List.{length-drop, take_all}
use Rattle.std.proofs.lemmas.Str.{IsUtf8-append, IsUtf8-nil, IsUtf8-from_is_utf8, utf8_valid_len_le}
use Rattle.form_urlencoded.specs.Form.{raw_pairs, decode}
use lib.Utf8.{encode}
use Rattle.bw_http.specs.Decisions.{is_post, method_of}
use Rattle.bw_http.specs.Forms.{decode_pair, form_of}
use Rattle.bw_lang.specs.Service.Submissions.{IsTextForm}
use Rattle.bw_http.specs.Laws.{RequestsAreText, CutsAreText}

-- ---- what is valid, and what is replaced

-- the front that counts as UTF-8 is UTF-8
front_text : (bs : List ℕ) (n : ℕ) → IsUtf8 (take (valid_len_up_to bs n) bs)
front_text bs zero = IsUtf8-nil
front_text bs (suc n) = by_test (is_utf8 (take (suc n) bs)) refl (front_text bs n)
  where
    by_test : (b : Bool) → is_utf8 (take (suc n) bs) ≡ b → IsUtf8 (take (valid_len_up_to bs n) bs)
        → IsUtf8 (take (if b then suc n else valid_len_up_to bs n) bs)
    by_test true e less = IsUtf8-from_is_utf8 (take (suc n) bs) e
    by_test false e less = less

valid_front : (bs : List ℕ) → IsUtf8 (take (utf8_valid_len bs) bs)
unfolding utf8_valid_len
valid_front bs = front_text bs (length bs)

replacement_text : IsUtf8 replacement_bytes
unfolding encode
replacement_text = (65533 ∷ [], (refl, refl))

-- what is invalid has a byte at least
invalid_some : (bs : List ℕ) → 0 < length bs → 0 < utf8_invalid_len bs
unfolding utf8_error_len
invalid_some bs some = either (length bs == 0) None (error_len_of_some bs) some of_some
  where
    either : (b : Bool) (o p : Option ℕ) → 0 < unwrap_or o (length bs) → 0 < unwrap_or p (length bs) → 0 < unwrap_or (if b then o else p) (length bs)
    either true o p h k = h
    either false o p h k = k

    after_two : 0 < unwrap_or (error_len_after_two bs) (length bs)
    after_two =
        either (nat_lt (length bs) 3) None (if is_in_range 0x80 0xBF (slice_index bs 2) then (if nat_lt (length bs) 4 then None else Some 3) else Some 2) some
        (either (is_in_range 0x80 0xBF (slice_index bs 2)) (if nat_lt (length bs) 4 then None else Some 3) (Some 2)
        (either (nat_lt (length bs) 4) None (Some 3) some (omega arith)) (omega arith))

    after_one : 0 < unwrap_or (error_len_after_one bs) (length bs)
    after_one =
        let x = slice_index bs 0 in
        either (nat_lt (length bs) 2) None
        (if is_in_range (second_byte_min x) (second_byte_max x) (slice_index bs 1) then error_len_after_two bs else Some 1) some
        (either (is_in_range (second_byte_min x) (second_byte_max x) (slice_index bs 1)) (error_len_after_two bs) (Some 1) after_two (omega arith))

    of_some : 0 < unwrap_or (error_len_of_some bs) (length bs)
    of_some = either (is_in_range 0xC2 0xF4 (slice_index bs 0)) (error_len_after_one bs) (Some 1) after_one (omega arith)

-- ---- what is decoded

strictly : (a b : ℕ) → a ≤ b → (a == b) ≡ false → a < b
strictly a b l f = grind (arith, nat_tests)

-- what follows the first invalid bytes is shorter
shorter : (k : ℕ) (bs : List ℕ) → length bs ≤ suc k → (utf8_valid_len bs == length bs) ≡ false → length (after_first_chunk bs) ≤ k
shorter k bs h e =
    let n = utf8_valid_len bs in
    let below : n < length bs = strictly n (length bs) (utf8_valid_len_le bs) e in
    let rest = length-drop n bs in
    let some = invalid_some (drop n bs) (omega (arith, rest, below)) in
    let cut = length-drop (n + utf8_invalid_len (drop n bs)) bs in
    omega (arith, cut, some, h, below)

within_text : (k : ℕ) (bs : List ℕ) → length bs ≤ k → IsUtf8 (utf8_lossy_within k bs)
within_text zero [] h = IsUtf8-nil
within_text zero (b ∷ bs) h = absurd (omega (arith, h))
within_text (suc k) bs h = by_test (utf8_valid_len bs == length bs) refl (λ l. within_text k (after_first_chunk bs) l)
  where
    by_test : (t : Bool) → (utf8_valid_len bs == length bs) ≡ t → (length (after_first_chunk bs) ≤ k → IsUtf8 (utf8_lossy_within k (after_first_chunk bs)))
        → IsUtf8 (if t then bs else take (utf8_valid_len bs) bs ++ (replacement_bytes ++ utf8_lossy_within k (after_first_chunk bs)))
    by_test true e more =
        let n = eqb-true (utf8_valid_len bs) (length bs) e in
        subst IsUtf8 (take_all (utf8_valid_len bs) bs (omega (arith, n))) (valid_front bs)
    by_test false e more =
        let rest = utf8_lossy_within k (after_first_chunk bs) in
        IsUtf8-append (take (utf8_valid_len bs) bs) (replacement_bytes ++ rest) (valid_front bs)
        (IsUtf8-append replacement_bytes rest replacement_text (more (shorter k bs h e)))

lossy_text : (bs : List ℕ) → IsUtf8 (utf8_lossy bs)
unfolding utf8_lossy
lossy_text bs = within_text (length bs) bs (omega arith)

-- ---- forms

pairs_text : (pairs : List (List ℕ × List ℕ)) → IsTextForm (map decode_pair pairs)
pairs_text [] = tt
pairs_text (p ∷ pairs) = (lossy_text (decode p.1), pairs_text pairs)

form_text : (b : Bool) (body : List ℕ) → IsTextForm (cond b (form_of body) [])
form_text true body = pairs_text (raw_pairs body)
form_text false body = tt

pub requests_are_text : RequestsAreText
requests_are_text h body r is = subst IsTextForm (sym is.form) (form_text (is_post (method_of h.method)) body)

pub cuts_are_text : CutsAreText
cuts_are_text stream r rest (h, body, message, is) = requests_are_text h body r is
