-- The bytes of replies, piece by piece.
use Rattle.std.proofs.Common.{◌≡◌, ℕ, zero, suc, ◌+◌, ◌<◌, Bool, true, false, cond, not, List, [], ◌∷◌, ◌++◌, length, map, take, drop, refl, sym, ap, ◌∙◌}
use Rattle.std.proofs.Common.{arith, codes, append_assoc}
use Rattle.std.proofs.lemmas.List.{length-append, length-map}
use Rattle.std.proofs.lemmas.Bool.Decides.{nat_tests}
use Rattle.std.specs.List.{position_or_len}
use Rattle.httparse.specs.Pieces.{is_newline}
use Rattle.bw_http.specs.Replies.{head, message, text_type, shown, IsLineCut}

-- a head, and a line of two parts behind it
pub text_bytes : (status more words ending : List ℕ) (n : ℕ) → n ≡ length words + length ending + 1
    → head status text_type more n ++ (words ++ (ending ++ codes "\n")) ≡ message status text_type more ((words ++ ending) ++ codes "\n")
text_bytes status more words ending n size =
    let body : words ++ (ending ++ codes "\n") ≡ (words ++ ending) ++ codes "\n" = sym (append_assoc words ending (codes "\n")) in
    let count : n ≡ length ((words ++ ending) ++ codes "\n")
    = omega (arith, size, length-append (words ++ ending) (codes "\n"), length-append words ending) in
    ap (λ (t : List ℕ). head status text_type more n ++ t) body
    ∙ ap (λ (k : ℕ). head status text_type more k ++ ((words ++ ending) ++ codes "\n")) count

-- the same, of a name as it prints
pub name_bytes : (status more words name : List ℕ) (n : ℕ) → n ≡ length words + length name + 1
    → head status text_type more n ++ (words ++ (map shown name ++ codes "\n")) ≡ message status text_type more ((words ++ map shown name) ++ codes "\n")
name_bytes status more words name n size = text_bytes status more words (map shown name) n (omega (arith, size, length-map name shown))

-- a head for these bytes, and they behind it
pub sheet_bytes : (status type more body : List ℕ) (n : ℕ) → n ≡ length body → head status type more n ++ body ≡ message status type more body
sheet_bytes status type more body n size = ap (λ (k : ℕ). head status type more k ++ body) size

-- ---- the ends of lines in a name

shown_other : (b : ℕ) → is_newline b ≡ false → shown b ≡ b
shown_other b other = grind (arith, nat_tests)

shown_end : (b : ℕ) → is_newline b ≡ true → shown b ≡ 32
shown_end b is = grind (arith, nat_tests)

-- where the first newline stands, by the first byte
step : (b : ℕ) (bytes : List ℕ) (t : Bool) → is_newline b ≡ t
    → position_or_len is_newline (b ∷ bytes) ≡ cond (not t) (1 + position_or_len is_newline bytes) 0
step b bytes t is = ap (λ (u : Bool). cond (not u) (1 + position_or_len is_newline bytes) 0) is

pub shown_all : (bytes : List ℕ) → position_or_len is_newline bytes ≡ length bytes → map shown bytes ≡ bytes
shown_all [] e = refl
shown_all (b ∷ bytes) e = go (is_newline b) refl (λ rest. shown_all bytes rest)
  where
    go : (t : Bool) → is_newline b ≡ t → (position_or_len is_newline bytes ≡ length bytes → map shown bytes ≡ bytes)
        → map shown (b ∷ bytes) ≡ b ∷ bytes
    go true is later = absurd (omega (arith, e, step b bytes true is))
    go false other later =
        let rest : position_or_len is_newline bytes ≡ length bytes
        = omega (arith, e, step b bytes false other) in
        ap (λ (c : ℕ). c ∷ map shown bytes) (shown_other b other) ∙ ap (λ (t : List ℕ). b ∷ t) (later rest)

-- the bytes up to their first newline, and those behind it
pub shown_cut : (bytes : List ℕ) (end : ℕ) → position_or_len is_newline bytes ≡ end → end < length bytes
    → IsLineCut bytes (take end bytes) (drop (suc end) bytes)
shown_cut [] end e within = absurd (omega (arith, within))
shown_cut (b ∷ bytes) zero e within =
    let is : is_newline b ≡ true = first (is_newline b) refl in
    (ap (λ (c : ℕ). c ∷ map shown bytes) (shown_end b is), omega arith)
  where
    first : (t : Bool) → is_newline b ≡ t → is_newline b ≡ true
    first true is = is
    first false other = absurd (omega (arith, e, step b bytes false other))
shown_cut (b ∷ bytes) (suc end) e within = go (is_newline b) refl (λ rest. shown_cut bytes end rest (omega (arith, within)))
  where
    go : (t : Bool) → is_newline b ≡ t → (position_or_len is_newline bytes ≡ end → IsLineCut bytes (take end bytes) (drop (suc end) bytes))
        → IsLineCut (b ∷ bytes) (take (suc end) (b ∷ bytes)) (drop (suc (suc end)) (b ∷ bytes))
    go true is later = absurd (omega (arith, e, step b bytes true is))
    go false other later =
        let rest : position_or_len is_newline bytes ≡ end
        = omega (arith, e, step b bytes false other) in
        let cut = later rest in
        (ap (λ (c : ℕ). c ∷ map shown bytes) (shown_other b other) ∙ ap (λ (t : List ℕ). b ∷ t) cut.0, omega (arith, cut.1))
