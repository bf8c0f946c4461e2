-- Lines and columns, counted from the end of what stands in front of a place.
use Rattle.std.proofs.Common.{◌≡◌, ◌<◌, ◌≤◌, ℕ, zero, suc, ◌+◌, ◌-◌, ◌==◌, Bool, true, false, ◌⊎◌, inl, inr, List, [], ◌∷◌, take, drop, length, get_or}
use Rattle.std.proofs.Common.{refl, ◌∙◌, arith}
use Rattle.bw_excerpt.specs.Columns.{begins_char, columns, feeds, spot_from, spot_of, last_line}
use Rattle.bw_excerpt.specs.declared.columns.Spot.{Spot}

-- where no line feed stands, the line goes on
line_goes_on : (line bs : List ℕ) → feeds bs ≡ 0 → last_line line bs ≡ line
line_goes_on line [] h = refl
line_goes_on line (b ∷ bs) h = by_test (b == 10) refl (line_goes_on line bs)
  where
    by_test : (t : Bool) → (b == 10) ≡ t → (feeds bs ≡ 0 → last_line line bs ≡ line) → last_line line (b ∷ bs) ≡ line
    by_test true e next = let f : 1 + feeds bs ≡ 0 = rw e at h in absurd (omega (arith, f))
    by_test false e next = let f : feeds bs ≡ 0 = rw e at h in rw e (next f)

-- behind a line feed, behind which stands no other, the last line begins
behind_feed : (line bs : List ℕ) (n : ℕ) → n < length bs → get_or bs n 0 ≡ 10 → feeds (drop (suc n) bs) ≡ 0 → last_line line bs ≡ drop (suc n) bs
behind_feed line [] n i g h = absurd (omega arith)
behind_feed line (b ∷ bs) zero i g h = rw g (line_goes_on bs bs h)
behind_feed line (b ∷ bs) (suc n) i g h = by_test (b == 10) refl (behind_feed bs bs n (omega arith) g h) (behind_feed line bs n (omega arith) g h)
  where
    by_test : (t : Bool) → (b == 10) ≡ t → last_line bs bs ≡ drop (suc n) bs → last_line line bs ≡ drop (suc n) bs
        → last_line line (b ∷ bs) ≡ drop (suc n) bs
    by_test true e other same = rw e other
    by_test false e other same = rw e same

-- the last line begins where no line feed follows, at the front or behind one
pub last_line_at : (bs : List ℕ) (n : ℕ) → n ≤ length bs → feeds (drop n bs) ≡ 0 → (n ≡ 0) ⊎ (get_or bs (n - 1) 0 ≡ 10) → last_line bs bs ≡ drop n bs
last_line_at bs zero w h e = line_goes_on bs bs h
last_line_at bs (suc n) w h (inl e) = absurd (omega (arith, e))
last_line_at bs (suc n) w h (inr e) = let p : suc n - 1 ≡ n = omega arith in behind_feed bs bs n (omega arith) (rw p at e) h

abbrev pub spot : ℕ → ℕ → Spot
spot line column = record { line = line; column = column }

same_spot : (l m c d : ℕ) → l ≡ m → c ≡ d → spot l c ≡ spot m d
same_spot l m c d e f i = spot (e i) (f i)

-- one is at this line and column behind these bytes that was at that one in front of them; the last line so far is `line`
spot_behind : (line bs : List ℕ) (l c : ℕ) → c + columns bs ≡ 1 + columns line
    → spot_from l c bs ≡ spot (l + feeds bs) (1 + columns (last_line line bs))
spot_behind line [] l c h = let f : c + 0 ≡ 1 + columns line = h in same_spot l (l + 0) c (1 + columns line) (omega arith) (omega (arith, f))
spot_behind line (b ∷ bs) l c h = by_test (b == 10) refl (spot_behind bs bs (l + 1) 1 refl) (spot_behind line bs l (c + 1)) (spot_behind line bs l c)
  where
    by_char : (t : Bool) → begins_char b ≡ t → (b == 10) ≡ false
        → ((c + 1) + columns bs ≡ 1 + columns line → spot_from l (c + 1) bs ≡ spot (l + feeds bs) (1 + columns (last_line line bs)))
        → (c + columns bs ≡ 1 + columns line → spot_from l c bs ≡ spot (l + feeds bs) (1 + columns (last_line line bs)))
        → spot_from l c (b ∷ bs) ≡ spot (l + feeds (b ∷ bs)) (1 + columns (last_line line (b ∷ bs)))
    by_char true e n begins goes_on = let f : c + (1 + columns bs) ≡ 1 + columns line = rw e at h in rw (n, e) (begins (omega (arith, f)))
    by_char false e n begins goes_on = let f : c + columns bs ≡ 1 + columns line = rw e at h in rw (n, e) (goes_on f)

    by_test : (t : Bool) → (b == 10) ≡ t → spot_from (l + 1) 1 bs ≡ spot (l + 1 + feeds bs) (1 + columns (last_line bs bs))
        → ((c + 1) + columns bs ≡ 1 + columns line → spot_from l (c + 1) bs ≡ spot (l + feeds bs) (1 + columns (last_line line bs)))
        → (c + columns bs ≡ 1 + columns line → spot_from l c bs ≡ spot (l + feeds bs) (1 + columns (last_line line bs)))
        → spot_from l c (b ∷ bs) ≡ spot (l + feeds (b ∷ bs)) (1 + columns (last_line line (b ∷ bs)))
    by_test true e feeds_line begins goes_on =
        rw e (feeds_line ∙ same_spot (l + 1 + feeds bs) (l + (1 + feeds bs)) (1 + columns (last_line bs bs)) (1 + columns (last_line bs bs)) (omega arith) refl)
    by_test false e feeds_line begins goes_on = by_char (begins_char b) refl e begins goes_on

-- the line of a place is one more than the line feeds in front of it, and its column one more than the columns of its line
pub spot_counted : (text : List ℕ) (at : ℕ) → spot_of text at
    ≡ spot (feeds (take at text) + 1) (columns (last_line (take at text) (take at text)) + 1)
spot_counted text at =
    let line = take at text in
    spot_behind line line 1 1 refl ∙ same_spot (1 + feeds line) (feeds line + 1) (1 + columns (last_line line line)) (columns (last_line line line) + 1) (omega arith)
    (omega arith)
