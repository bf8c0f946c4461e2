-- Where the insides of repetitions may end.
use Rattle.std.proofs.Common.{◌≡◌, ◌≤◌, ℕ, ◌+◌, Bool, true, false, IsTrue, ◌&&◌, ◌||◌, List, [], ◌∷◌, ◌++◌, length, take, drop, replicate, refl, ap, sym, ◌∙◌, subst, arith, length-append}
use Rattle.std.proofs.Math.Seq.{take-append_seam, drop-append_seam}
use Rattle.std.proofs.lemmas.List.{replicate-append-replicate}
use Rattle.bw_format.specs.Pattern.{Pattern, nothing, one, sequence, either, star, plus, optional, group, places, repeats}
use Rattle.bw_format.specs.Marks.{marked, ends, skips, ended, shifted}
use Rattle.bw_format.proofs.Left.{take_shifted, drop_shifted}
use Rattle.bw_format.proofs.LightLaws.{marked_front, marked_back, dies, rest_to, unmarked}
use Rattle.bw_format.proofs.Shifts.{ends_to}
use Rattle.bw_format.proofs.Again.{ends_again}

-- ---- truth values

pub or_none : (a : Bool) → a || false ≡ a
or_none true = refl
or_none false = refl

and_none : (a : Bool) → false ≡ a && false
and_none true = refl
and_none false = refl

and_all : (a : Bool) → a ≡ a && true
and_all true = refl
and_all false = refl

in_sequence : (a b e s t : Bool) → b || ((a || (e && s)) && t) ≡ (b || (a && t)) || (e && (s && t))
in_sequence a true e s t = refl
in_sequence true false e s true = refl
in_sequence true false true true false = refl
in_sequence true false true false false = refl
in_sequence true false false s false = refl
in_sequence false false true s t = refl
in_sequence false false false s t = refl

in_either : (a b e s t : Bool) → (a || (e && s)) || (b || (e && t)) ≡ (a || b) || (e && (s || t))
in_either true b e s t = refl
in_either false true true true t = refl
in_either false false true true t = refl
in_either false b true false t = refl
in_either false b false s t = refl

in_star : (e a : Bool) → e || a ≡ (false || a) || (e && true)
in_star true true = refl
in_star true false = refl
in_star false true = refl
in_star false false = refl

in_optional : (e a s : Bool) → e || (a || (e && s)) ≡ (false || a) || (e && true)
in_optional true true s = refl
in_optional true false s = refl
in_optional false true s = refl
in_optional false false s = refl

-- ---- ends

-- where it may begin, it may end there too if it takes the empty text
pub ends_entered : (p : Pattern) (enter : Bool) (marks : List Bool) → ends p enter marks ≡ ends p false marks || (enter && skips p)
ends_entered nothing enter marks = and_all enter
ends_entered (one class) enter marks = sym (or_none (marked marks)) ∙ ap (λ b. marked marks || b) (and_none enter)
ends_entered (sequence p q) enter marks =
    let front = take (places p) marks in
    let back = drop (places p) marks in
    ends_entered q (ends p enter front) back ∙ ap (λ b. ends q false back || (b && skips q)) (ends_entered p enter front)
    ∙ in_sequence (ends p false front) (ends q false back) enter (skips p) (skips q)
    ∙ ap (λ b. b || (enter && (skips p && skips q))) (sym (ends_entered q (ends p false front) back))
ends_entered (either p q) enter marks =
    let front = take (places p) marks in
    let back = drop (places p) marks in
    ap (λ b. b || ends q enter back) (ends_entered p enter front)
    ∙ ap (λ b. (ends p false front || (enter && skips p)) || b) (ends_entered q enter back)
    ∙ in_either (ends p false front) (ends q false back) enter (skips p) (skips q)
ends_entered (star p) enter marks = in_star enter (ends p false marks)
ends_entered (plus p) enter marks = ends_entered p enter marks
ends_entered (optional p) enter marks =
    ap (λ b. enter || b) (ends_entered p enter marks) ∙ in_optional enter (ends p false marks) (skips p)
ends_entered (group p) enter marks = ends_entered p enter marks

-- without marks nothing ends
quiet_ends : (p : Pattern) (marks : List Bool) → marked marks ≡ false → ends p false marks ≡ false
quiet_ends p marks h = by (ends p false marks) refl
  where
    by : (b : Bool) → ends p false marks ≡ b → b ≡ false
    by false e = refl
    by true e = (let m : IsTrue (marked marks) = dies p marks [] (rest_to p marks [] (ends_to p false marks e)) in let k : true ≡ false = sym m ∙ h in cc)

quiet_part : (a b : Bool) → (IsTrue a → IsTrue b) → b ≡ false → a ≡ false
quiet_part true b f h = (let k : true ≡ false = sym (f refl) ∙ h in cc)
quiet_part false b f h = refl

quiet_front : (n : ℕ) (marks : List Bool) → marked marks ≡ false → marked (take n marks) ≡ false
quiet_front n marks h = quiet_part (marked (take n marks)) (marked marks) (marked_front n marks) h

quiet_back : (n : ℕ) (marks : List Bool) → marked marks ≡ false → marked (drop n marks) ≡ false
quiet_back n marks h = quiet_part (marked (drop n marks)) (marked marks) (marked_back n marks) h

ended_beside : (a b : List Bool) (m n : ℕ) → a ≡ replicate m false → b ≡ replicate n false → a ++ b ≡ replicate (m + n) false
ended_beside a b m n e f =
    ap (λ l. l ++ b) e ∙ ap (λ l. replicate m false ++ l) f ∙ replicate-append-replicate m n false

ended_quiet : (p : Pattern) (marks : List Bool) → marked marks ≡ false → ended p marks ≡ replicate (repeats p) false
ended_quiet nothing marks h = refl
ended_quiet (one class) marks h = refl
ended_quiet (sequence p q) marks h =
    ended_beside _ _ (repeats p) (repeats q) (ended_quiet p (take (places p) marks) (quiet_front (places p) marks h))
    (ended_quiet q (drop (places p) marks) (quiet_back (places p) marks h))
ended_quiet (either p q) marks h =
    ended_beside _ _ (repeats p) (repeats q) (ended_quiet p (take (places p) marks) (quiet_front (places p) marks h))
    (ended_quiet q (drop (places p) marks) (quiet_back (places p) marks h))
ended_quiet (star p) marks h = ended_beside (ends p false marks ∷ []) (ended p marks) 1 (repeats p) (ap (λ b. b ∷ []) (quiet_ends p marks h))
    (ended_quiet p marks h)
ended_quiet (plus p) marks h = ended_beside (ends p false marks ∷ []) (ended p marks) 1 (repeats p) (ap (λ b. b ∷ []) (quiet_ends p marks h))
    (ended_quiet p marks h)
ended_quiet (optional p) marks h = ended_quiet p marks h
ended_quiet (group p) marks h = ended_quiet p marks h

-- so it is where nothing was read yet
pub ended_first : (p : Pattern) → replicate (repeats p) false ≡ ended p (replicate (places p) false)
ended_first p = sym (ended_quiet p (replicate (places p) false) (unmarked (places p)))

-- and where it begins, it may end if it takes the empty text
pub ends_first : (p : Pattern) → skips p ≡ ends p true (replicate (places p) false)
ends_first p =
    let none = replicate (places p) false in
    sym (ends_entered p true none ∙ ap (λ b. b || (true && skips p)) (quiet_ends p none (unmarked (places p))))

-- ---- parts

pub length-ended : (p : Pattern) (marks : List Bool) → length (ended p marks) ≡ repeats p
length-ended nothing marks = refl
length-ended (one class) marks = refl
length-ended (sequence p q) marks =
    let a = length-ended p (take (places p) marks) in
    let b = length-ended q (drop (places p) marks) in
    simp length-append (omega (arith, a, b))
length-ended (either p q) marks =
    let a = length-ended p (take (places p) marks) in
    let b = length-ended q (drop (places p) marks) in
    simp length-append (omega (arith, a, b))
length-ended (star p) marks = omega (arith, length-ended p marks)
length-ended (plus p) marks = omega (arith, length-ended p marks)
length-ended (optional p) marks = length-ended p marks
length-ended (group p) marks = length-ended p marks

pub take_ended : (p : Pattern) (marks others : List Bool) → take (repeats p) (ended p marks ++ others) ≡ ended p marks
take_ended p marks others =
    let F : ℕ → Type 0 = λ n. take n (ended p marks ++ others) ≡ ended p marks in
    subst F (length-ended p marks) (take-append_seam (ended p marks) others)

pub drop_ended : (p : Pattern) (marks others : List Bool) → drop (repeats p) (ended p marks ++ others) ≡ others
drop_ended p marks others =
    let F : ℕ → Type 0 = λ n. drop n (ended p marks ++ others) ≡ others in
    subst F (length-ended p marks) (drop-append_seam (ended p marks) others)

-- ---- behind a character

-- what two parts are shifted to, side by side
module _ (p q : Pattern) (front back : List Bool) (first second : List Bool) (a b : Bool) (c d : ℕ)
    (left : first ≡ shifted p a c front) (right : second ≡ shifted q b d back) where
  pub front_is : take (places p) (first ++ second) ≡ first
  front_is = ap (λ l. take (places p) (l ++ second)) left ∙ take_shifted p a c front second ∙ sym left

  pub back_is : drop (places p) (first ++ second) ≡ second
  back_is = ap (λ l. drop (places p) (l ++ second)) left ∙ drop_shifted p a c front second

  pub sequence_ends : (x y s : Bool) → x ≡ ends p false first → y ≡ ends q false second → s ≡ skips q
      → y || (x && s) ≡ ends (sequence p q) false (first ++ second)
  sequence_ends x y s e f g =
      ap (λ k. k || (x && s)) f ∙ ap (λ k. ends q false second || (k && s)) e ∙ ap (λ k. ends q false second || (ends p false first && k)) g
      ∙ sym (ends_entered q (ends p false first) second)
      ∙ ap (λ l. ends q (ends p false l) second) (sym front_is) ∙ ap (λ l. ends q (ends p false (take (places p) (first ++ second))) l) (sym back_is)

  pub either_ends : (x y : Bool) → x ≡ ends p false first → y ≡ ends q false second → x || y ≡ ends (either p q) false (first ++ second)
  either_ends x y e f =
      ap (λ k. k || y) e ∙ ap (λ k. ends p false first || k) f
      ∙ ap (λ l. ends p false l || ends q false second) (sym front_is)
      ∙ ap (λ l. ends p false (take (places p) (first ++ second)) || ends q false l) (sym back_is)

  pub both_ended : (x y : List Bool) → x ≡ ended p first → y ≡ ended q second → x ++ y ≡ ended (sequence p q) (first ++ second)
  both_ended x y e f =
      ap (λ k. k ++ y) e ∙ ap (λ k. ended p first ++ k) f
      ∙ ap (λ l. ended p l ++ ended q second) (sym front_is)
      ∙ ap (λ l. ended p (take (places p) (first ++ second)) ++ ended q l) (sym back_is)

-- ---- in front of a character

-- the parts of what is known of a sequence, or of alternatives
module _ (p q : Pattern) (marks front back first second : List Bool) (m : marks ≡ front ++ back) (n : length front ≡ places p)
    (k : length first ≡ repeats p) (e : first ++ second ≡ ended p (take (places p) marks) ++ ended q (drop (places p) marks)) where
  front_at : take (places p) marks ≡ front
  front_at =
      let F : ℕ → Type 0 = λ i. take i (front ++ back) ≡ front in
      ap (λ l. take (places p) l) m ∙ subst F n (take-append_seam front back)

  back_at : drop (places p) marks ≡ back
  back_at =
      let F : ℕ → Type 0 = λ i. drop i (front ++ back) ≡ back in
      ap (λ l. drop (places p) l) m ∙ subst F n (drop-append_seam front back)

  parts_at : first ++ second ≡ ended p front ++ ended q back
  parts_at = e ∙ ap (λ l. ended p l ++ ended q (drop (places p) marks)) front_at ∙ ap (λ l. ended p front ++ ended q l) back_at

  pub first_ended : first ≡ ended p front
  first_ended =
      let F : ℕ → Type 0 = λ i. take i (first ++ second) ≡ first in
      sym (subst F k (take-append_seam first second)) ∙ ap (λ l. take (repeats p) l) parts_at ∙ take_ended p front (ended q back)

  pub second_ended : second ≡ ended q back
  second_ended =
      let F : ℕ → Type 0 = λ i. drop i (first ++ second) ≡ second in
      sym (subst F k (drop-append_seam first second)) ∙ ap (λ l. drop (repeats p) l) parts_at ∙ drop_ended p front (ended q back)

-- there are as many as the first part has
pub few_first : (self p : Pattern) (more : ℕ) (marks all : List Bool) → repeats p + more ≡ repeats self → all ≡ ended self marks → repeats p ≤ length all
few_first self p more marks all s h = omega (arith, ap length h, length-ended self marks, s)

own_marked : (own others : List Bool) (x : Bool) (xs : List Bool) → own ++ others ≡ x ∷ xs → length own ≡ 1 → marked own ≡ x
own_marked [] others x xs e n = absurd (omega (arith, n))
own_marked (y ∷ []) others x xs e n = (let same : y ≡ x = cc in or_none y ∙ same)
own_marked (y ∷ (z ∷ own)) others x xs e n = absurd (omega (arith, n))

-- where one or more may begin again, they end where they did
pub plus_before : (self p : Pattern) (enter again before : Bool) (marks own others : List Bool) → plus p ≡ self → own ++ others ≡ ended self marks
    → length own ≡ 1 → again ≡ (enter || marked own) → before ≡ ends p again marks → before ≡ ends self enter marks
plus_before self p enter again before marks own others s e n a b =
    let own_is : marked own ≡ ends p false marks = own_marked own others (ends p false marks) (ended p marks) (e ∙ ap (λ k. ended k marks) (sym s)) n in
    b ∙ ap (λ k. ends p k marks) (a ∙ ap (λ k. enter || k) own_is) ∙ ends_again p enter marks ∙ ap (λ k. ends k enter marks) s
