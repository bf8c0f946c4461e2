-- How many lines end in bytes that come behind others.
use Rattle.std.proofs.Common.{◌≡◌, ℕ, ◌+◌, ◌≤◌, ◌||◌, Bool, true, false, cond, eqb, List, [], ◌∷◌, ◌++◌, length, take, drop, refl, sym, ap, ◌∙◌, arith}
use Rattle.std.proofs.lemmas.List.{take-append-drop, drop-append-le, drop-drop, drop_all, drop_at}
use Rattle.std.proofs.lemmas.List.Sums.{sum_by-append, prefix_len-le-length}
use Rattle.std.proofs.lemmas.List.Folds.{prefix_len-append}
use Rattle.std.proofs.lemmas.Bool.{eqb-true, false≢true}
use Rattle.std.specs.List.{count_by, prefix_len, list_any}
use Rattle.httparse.specs.Pieces.{is_newline}
use Rattle.bw_http.specs.Heads.{is_line_feed, skip_newlines, line_count}

count-append : (a b : List ℕ) → count_by is_line_feed (a ++ b) ≡ count_by is_line_feed a + count_by is_line_feed b
count-append a b = sum_by-append (λ (x : ℕ). cond (is_line_feed x) 1 0) a b

-- where a line has begun in the front, the lines of the whole are those of the front and those that end behind it
begun_lines : (a b : List ℕ) → eqb (prefix_len is_newline a) (length a) ≡ false → line_count (a ++ b) ≡ line_count a + count_by is_line_feed b
begun_lines a b e =
    let same : prefix_len is_newline (a ++ b) ≡ prefix_len is_newline a
    = prefix_len-append is_newline a b ∙ ap (λ (t : Bool). cond t (length a + prefix_len is_newline b) (prefix_len is_newline a)) e in
    let split : skip_newlines (a ++ b) ≡ skip_newlines a ++ b
    = ap (λ (n : ℕ). drop n (a ++ b)) same ∙ drop-append-le (prefix_len is_newline a) a b (prefix_len-le-length is_newline a) in
    ap (count_by is_line_feed) split ∙ count-append (skip_newlines a) b

-- where none has, they are those of what is behind it
blank_lines : (a b : List ℕ) → eqb (prefix_len is_newline a) (length a) ≡ true → line_count (a ++ b) ≡ line_count b
blank_lines a b e =
    let same : prefix_len is_newline (a ++ b) ≡ length a + prefix_len is_newline b
    = prefix_len-append is_newline a b ∙ ap (λ (t : Bool). cond t (length a + prefix_len is_newline b) (prefix_len is_newline a)) e in
    ap (λ (n : ℕ). count_by is_line_feed (drop n (a ++ b))) same
    ∙ ap (count_by is_line_feed) (sym (drop-drop (prefix_len is_newline b) (length a) (a ++ b)))
    ∙ ap (λ (t : List ℕ). count_by is_line_feed (drop (prefix_len is_newline b) t)) (drop_at a b (length a) refl)

-- the lines of the front are lines of the whole
pub lines_grow : (a b : List ℕ) → line_count a ≤ line_count (a ++ b)
lines_grow a b = go (eqb (prefix_len is_newline a) (length a)) refl
  where
    go : (t : Bool) → eqb (prefix_len is_newline a) (length a) ≡ t → line_count a ≤ line_count (a ++ b)
    go true e =
        let all : prefix_len is_newline a ≡ length a = eqb-true _ _ e in
        let none : line_count a ≡ 0 = ap (count_by is_line_feed) (drop_all (prefix_len is_newline a) a (omega arith)) in
        omega (arith, none)
    go false e = omega (arith, begun_lines a b e)

or-false : (a b : Bool) → a || b ≡ false → (a ≡ false) × (b ≡ false)
or-false true b e = absurd (false≢true (sym e))
or-false false b e = (refl, e)

-- bytes without a line feed end no line
no_line_feed : (xs : List ℕ) → list_any is_line_feed xs ≡ false → count_by is_line_feed xs ≡ 0
no_line_feed [] e = refl
no_line_feed (x ∷ xs) e =
    let both = or-false (is_line_feed x) (list_any is_line_feed xs) e in
    count-append (x ∷ []) xs ∙ ap (λ (t : Bool). 0 + cond t 1 0 + count_by is_line_feed xs) both.0 ∙ omega (arith, no_line_feed xs both.1)

lines_within : (xs : List ℕ) → line_count xs ≤ count_by is_line_feed xs
lines_within xs =
    let k = prefix_len is_newline xs in
    omega (arith, ap (count_by is_line_feed) (take-append-drop k xs), count-append (take k xs) (drop k xs))

-- no line ends in bytes without a line feed
pub quiet_lines : (a b : List ℕ) → list_any is_line_feed b ≡ false → line_count (a ++ b) ≤ line_count a
quiet_lines a b quiet = go (eqb (prefix_len is_newline a) (length a)) refl
  where
    none : count_by is_line_feed b ≡ 0
    none = no_line_feed b quiet

    go : (t : Bool) → eqb (prefix_len is_newline a) (length a) ≡ t → line_count (a ++ b) ≤ line_count a
    go true e = omega (arith, blank_lines a b e, lines_within b, none)
    go false e = omega (arith, begun_lines a b e, none)
