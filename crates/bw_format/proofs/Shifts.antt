-- What the ends and the shifted marks mean.
use Rattle.std.proofs.Common.{◌≡◌, ◌⊎◌, inl, inr, ℕ, Bool, true, false, IsTrue, ◌&&◌, ◌||◌, List, [], ◌∷◌, take, drop, refl, ap, sym, subst}
use Rattle.bw_format.specs.Classes.{holds}
use Rattle.bw_format.specs.Pattern.{Pattern, nothing, one, sequence, either, star, plus, optional, group, places, In, Joined, Repeated, none, more}
use Rattle.bw_format.specs.Marks.{ends, shifted}
use Rattle.bw_format.proofs.Lists.{or_cases, or_left, or_right, and_left, and_right, and_both}
use Rattle.bw_format.proofs.Left.{Left, Rest, repeated_cases, split_cases, take_shifted, drop_shifted, nothing_front, in_at, left_at, repeated_at, marks_at}

pub ends_to : (p : Pattern) (enter : Bool) (marks : List Bool) → IsTrue (ends p enter marks) → Rest p enter marks []
ends_to nothing enter marks h = inl (h, refl)
ends_to (one class) enter marks h = inr (h, refl)
ends_to (sequence p q) enter marks h =
    elim (ends_to q (ends p enter (take (places p) marks)) (drop (places p) marks) h) [
      | inl w ↦ elim (ends_to p enter (take (places p) marks) w.0) [
        | inl v ↦ inl (v.0, ([], [], refl, v.1, w.1))
        | inr l ↦ inr (inl ([], [], refl, l, w.1))
      ]
      | inr r ↦ inr (inr r)
    ]
ends_to (either p q) enter marks h =
    elim (or_cases (ends p enter (take (places p) marks)) (ends q enter (drop (places p) marks)) h) [
      | inl a ↦ elim (ends_to p enter (take (places p) marks) a) [ inl w ↦ inl (w.0, inl w.1) | inr l ↦ inr (inl l) ]
      | inr b ↦ elim (ends_to q enter (drop (places p) marks) b) [ inl w ↦ inl (w.0, inr w.1) | inr l ↦ inr (inr l) ]
    ]
ends_to (star p) enter marks h =
    elim (or_cases enter (ends p false marks) h) [
      | inl a ↦ inl (a, none)
      | inr b ↦ elim (ends_to p false marks b) [ inl w ↦ absurd (let e : false ≡ true = w.0 in cc) | inr l ↦ inr ([], [], refl, l, none) ]
    ]
ends_to (plus p) enter marks h =
    elim (ends_to p enter marks h) [ inl w ↦ inl (w.0, ([], [], refl, w.1, none)) | inr l ↦ inr ([], [], refl, l, none) ]
ends_to (optional p) enter marks h =
    elim (or_cases enter (ends p enter marks) h) [
      | inl a ↦ inl (a, inl refl)
      | inr b ↦ elim (ends_to p enter marks b) [ inl w ↦ inl (w.0, inr w.1) | inr l ↦ inr l ]
    ]
ends_to (group p) enter marks h = ends_to p enter marks h

pub ends_from : (p : Pattern) (enter : Bool) (marks : List Bool) → Rest p enter marks [] → IsTrue (ends p enter marks)
ends_from nothing enter marks h = elim h [ inl w ↦ w.0 | inr l ↦ absurd l ]
ends_from (one class) enter marks h = elim h [ inl w ↦ absurd (let e : [] ≡ w.1.0 ∷ [] = w.1.1 in cc) | inr l ↦ l.0 ]
ends_from (sequence p q) enter marks h =
    elim h [
      | inl w ↦ (let n = nothing_front [] w.1.0 w.1.1 w.1.2 in
          ends_from q (ends p enter (take (places p) marks)) (drop (places p) marks)
          (inl (ends_from p enter (take (places p) marks) (inl (w.0, in_at p _ _ n.0 w.1.3)), in_at q _ _ n.1 w.1.4)))
      | inr l ↦ elim l [
        | inl s ↦ (let n = nothing_front [] s.0 s.1 s.2 in
            ends_from q (ends p enter (take (places p) marks)) (drop (places p) marks)
            (inl (ends_from p enter (take (places p) marks) (inr (left_at p _ _ _ n.0 s.3)), in_at q _ _ n.1 s.4)))
        | inr r ↦ ends_from q (ends p enter (take (places p) marks)) (drop (places p) marks) (inr r)
      ]
    ]
ends_from (either p q) enter marks h =
    let L = take (places p) marks in
    let R = drop (places p) marks in
    elim h [
      | inl w ↦ elim w.1 [
        | inl a ↦ or_left (ends p enter L) (ends q enter R) (ends_from p enter L (inl (w.0, a)))
        | inr b ↦ or_right (ends p enter L) (ends q enter R) (ends_from q enter R (inl (w.0, b)))
      ]
      | inr l ↦ elim l [
        | inl a ↦ or_left (ends p enter L) (ends q enter R) (ends_from p enter L (inr a))
        | inr b ↦ or_right (ends p enter L) (ends q enter R) (ends_from q enter R (inr b))
      ]
    ]
ends_from (star p) enter marks h =
    elim h [
      | inl w ↦ or_left enter (ends p false marks) w.0
      | inr s ↦ (let n = nothing_front [] s.0 s.1 s.2 in or_right enter (ends p false marks) (ends_from p false marks (inr (left_at p _ _ _ n.0 s.3))))
    ]
ends_from (plus p) enter marks h =
    elim h [
      | inl w ↦ (let n = nothing_front [] w.1.0 w.1.1 w.1.2 in ends_from p enter marks (inl (w.0, in_at p _ _ n.0 w.1.3)))
      | inr s ↦ (let n = nothing_front [] s.0 s.1 s.2 in ends_from p enter marks (inr (left_at p _ _ _ n.0 s.3)))
    ]
ends_from (optional p) enter marks h =
    elim h [
      | inl w ↦ or_left enter (ends p enter marks) w.0
      | inr l ↦ or_right enter (ends p enter marks) (ends_from p enter marks (inr l))
    ]
ends_from (group p) enter marks h = ends_from p enter marks h

-- where a repetition may begin again, it may end
pub again_to : (p : Pattern) (enter : Bool) (marks : List Bool) → IsTrue (enter || ends p false marks) → IsTrue enter ⊎ Left p marks []
again_to p enter marks h =
    elim (or_cases enter (ends p false marks) h) [
      | inl a ↦ inl a
      | inr b ↦ elim (ends_to p false marks b) [ inl w ↦ absurd (let e : false ≡ true = w.0 in cc) | inr l ↦ inr l ]
    ]

again_from : (p : Pattern) (enter : Bool) (marks : List Bool) → Left p marks [] → IsTrue (enter || ends p false marks)
again_from p enter marks l = or_right enter (ends p false marks) (ends_from p false marks (inr l))

pub shift_to : (p : Pattern) (enter : Bool) (c : ℕ) (marks : List Bool) (text : List ℕ) → Left p (shifted p enter c marks) text → Rest p enter marks (c ∷ text)
shift_to nothing enter c marks text l = absurd l
shift_to (one class) enter c marks text l =
    let taken : IsTrue (enter && holds class c) = elim (or_cases (enter && holds class c) false l.0) [
      | inl a ↦ a
      | inr b ↦ absurd
          (let e : false ≡ true = b in cc)
    ] in
    inl (and_left enter (holds class c) taken, (c, ap (λ t. c ∷ t) l.1, and_right enter (holds class c) taken))
shift_to (sequence p q) enter c marks text l =
    let L = take (places p) marks in
    let R = drop (places p) marks in
    elim l [
      | inl s ↦ elim (shift_to p enter c L s.0 (marks_at p s.0 _ _ (take_shifted p enter c L _) s.3)) [
        | inl w ↦ inl (w.0, (c ∷ s.0, s.1, ap (λ t. c ∷ t) s.2, w.1, s.4))
        | inr m ↦ inr (inl (c ∷ s.0, s.1, ap (λ t. c ∷ t) s.2, m, s.4))
      ]
      | inr r ↦ elim (shift_to q (ends p enter L) c R text (marks_at q text _ _ (drop_shifted p enter c L _) r)) [
        | inl w ↦ elim (ends_to p enter L w.0) [
          | inl v ↦ inl (v.0, ([], c ∷ text, refl, v.1, w.1))
          | inr m ↦ inr (inl ([], c ∷ text, refl, m, w.1))
        ]
        | inr m ↦ inr (inr m)
      ]
    ]
shift_to (either p q) enter c marks text l =
    let L = take (places p) marks in
    let R = drop (places p) marks in
    elim l [
      | inl a ↦ elim (shift_to p enter c L text (marks_at p text _ _ (take_shifted p enter c L _) a)) [ inl w ↦ inl (w.0, inl w.1) | inr m ↦ inr (inl m) ]
      | inr b ↦ elim (shift_to q enter c R text (marks_at q text _ _ (drop_shifted p enter c L _) b)) [ inl w ↦ inl (w.0, inr w.1) | inr m ↦ inr (inr m) ]
    ]
shift_to (star p) enter c marks text s =
    elim (shift_to p (enter || ends p false marks) c marks s.0 s.3) [
      | inl w ↦ (let r : Repeated (In p) (c ∷ text) = repeated_at p _ _ (ap (λ t. c ∷ t) (sym s.2)) (more (c ∷ s.0) s.1 (λ e. cc) w.1 s.4) in
          elim (again_to p enter marks w.0) [ inl a ↦ inl (a, r) | inr m ↦ inr ([], c ∷ text, refl, m, r) ])
      | inr m ↦ inr (c ∷ s.0, s.1, ap (λ t. c ∷ t) s.2, m, s.4)
    ]
shift_to (plus p) enter c marks text s =
    elim (shift_to p (enter || ends p false marks) c marks s.0 s.3) [
      | inl w ↦ (let r : Repeated (In p) (c ∷ text) = repeated_at p _ _ (ap (λ t. c ∷ t) (sym s.2)) (more (c ∷ s.0) s.1 (λ e. cc) w.1 s.4) in
          elim (again_to p enter marks w.0) [ inl a ↦ inl (a, (c ∷ s.0, s.1, ap (λ t. c ∷ t) s.2, w.1, s.4)) | inr m ↦ inr ([], c ∷ text, refl, m, r) ])
      | inr m ↦ inr (c ∷ s.0, s.1, ap (λ t. c ∷ t) s.2, m, s.4)
    ]
shift_to (optional p) enter c marks text l = elim (shift_to p enter c marks text l) [ inl w ↦ inl (w.0, inr w.1) | inr m ↦ inr m ]
shift_to (group p) enter c marks text l = shift_to p enter c marks text l

-- where a repetition of nonempty texts goes on with a character, the pattern begins with it
begins : (p : Pattern) (enter : Bool) (c : ℕ) (marks : List Bool) (text : List ℕ)
    → ((rest : List ℕ) → In p (c ∷ rest) → Left p (shifted p enter c marks) rest)
    → Repeated (In p) (c ∷ text) → Joined (Left p (shifted p enter c marks)) (Repeated (In p)) text
begins p enter c marks text shift r =
    elim (repeated_cases r) [
      | inl e ↦ cc
      | inr m ↦ elim (split_cases c text m.0 m.1 m.3) [
        | inl n ↦ absurd (m.2 n.0)
        | inr s ↦ (s.0, m.1, s.2, shift s.0 (in_at p _ _ s.1 m.4), m.5)
      ]
    ]

pub shift_from : (p : Pattern) (enter : Bool) (c : ℕ) (marks : List Bool) (text : List ℕ) → Rest p enter marks (c ∷ text)
    → Left p (shifted p enter c marks) text
shift_from nothing enter c marks text h = elim h [ inl w ↦ cc | inr l ↦ absurd l ]
shift_from (one class) enter c marks text h =
    elim h [
      | inl w ↦ (let same : w.1.0 ≡ c = (let e : c ∷ text ≡ w.1.0 ∷ [] = w.1.1 in cc) in
          let H : ℕ → Type 0 = λ d. IsTrue (holds class d) in
          (or_left (enter && holds class c) false (and_both enter (holds class c) w.0 (subst H same w.1.2)), (let e : c ∷ text ≡ w.1.0 ∷ [] = w.1.1 in cc)))
      | inr l ↦ absurd (let e : c ∷ text ≡ [] = l.1 in cc)
    ]
shift_from (sequence p q) enter c marks text h =
    let L = take (places p) marks in
    let R = drop (places p) marks in
    let A = shifted p enter c L in
    let B = shifted q (ends p enter L) c R in
    elim h [
      | inl w ↦ elim (split_cases c text w.1.0 w.1.1 w.1.2) [
        | inl n ↦ inr (marks_at q text B _ (sym (drop_shifted p enter c L B)) (shift_from q (ends p enter L) c R text (inl (
          ends_from p enter L (inl
              (w.0, in_at p _ _ n.0 w.1.3)),
          in_at q _ _ n.1 w.1.4,
        ))))
        | inr s ↦ inl (
          s.0,
          w.1.1,
          s.2,
          marks_at p s.0 A _ (sym (take_shifted p enter c L B)) (shift_from p enter c L s.0 (inl
              (w.0, in_at p _ _ s.1 w.1.3))),
          w.1.4,
        )
      ]
      | inr l ↦ elim l [
        | inl j ↦ elim (split_cases c text j.0 j.1 j.2) [
          | inl n ↦ inr (marks_at q text B _ (sym (drop_shifted p enter c L B)) (shift_from q (ends p enter L) c R text (inl (
            ends_from p enter L (inr
                (left_at p L _ _ n.0 j.3)),
            in_at q _ _ n.1 j.4,
          ))))
          | inr s ↦ inl (s.0, j.1, s.2, marks_at p s.0 A _ (sym (take_shifted p enter c L B)) (shift_from p enter c L s.0 (inr (left_at p L _ _ s.1 j.3))), j.4)
        ]
        | inr r ↦ inr (marks_at q text B _ (sym (drop_shifted p enter c L B)) (shift_from q (ends p enter L) c R text (inr r)))
      ]
    ]
shift_from (either p q) enter c marks text h =
    let L = take (places p) marks in
    let R = drop (places p) marks in
    let A = shifted p enter c L in
    let B = shifted q enter c R in
    elim h [
      | inl w ↦ elim w.1 [
        | inl a ↦ inl (marks_at p text A _ (sym (take_shifted p enter c L B)) (shift_from p enter c L text (inl (w.0, a))))
        | inr b ↦ inr (marks_at q text B _ (sym (drop_shifted p enter c L B)) (shift_from q enter c R text (inl (w.0, b))))
      ]
      | inr l ↦ elim l [
        | inl a ↦ inl (marks_at p text A _ (sym (take_shifted p enter c L B)) (shift_from p enter c L text (inr a)))
        | inr b ↦ inr (marks_at q text B _ (sym (drop_shifted p enter c L B)) (shift_from q enter c R text (inr b)))
      ]
    ]
shift_from (star p) enter c marks text h =
    let again = enter || ends p false marks in
    elim h [
      | inl w ↦ begins p again c marks text (λ rest i. shift_from p again c marks rest (inl (or_left enter (ends p false marks) w.0, i))) w.1
      | inr j ↦ elim (split_cases c text j.0 j.1 j.2) [
        | inl n ↦ begins p again c marks text (λ rest i. shift_from p again c marks rest (inl (again_from p enter marks (left_at p marks _ _ n.0 j.3), i)))
            (repeated_at p _ _ n.1 j.4)
        | inr s ↦ (s.0, j.1, s.2, shift_from p again c marks s.0 (inr (left_at p marks _ _ s.1 j.3)), j.4)
      ]
    ]
shift_from (plus p) enter c marks text h =
    let again = enter || ends p false marks in
    elim h [
      | inl w ↦ elim (split_cases c text w.1.0 w.1.1 w.1.2) [
        | inl n ↦ begins p again c marks text (λ rest i. shift_from p again c marks rest (inl (or_left enter (ends p false marks) w.0, i)))
            (repeated_at p _ _ n.1 w.1.4)
        | inr s ↦ (s.0, w.1.1, s.2, shift_from p again c marks s.0 (inl (or_left enter (ends p false marks) w.0, in_at p _ _ s.1 w.1.3)), w.1.4)
      ]
      | inr j ↦ elim (split_cases c text j.0 j.1 j.2) [
        | inl n ↦ begins p again c marks text (λ rest i. shift_from p again c marks rest (inl (again_from p enter marks (left_at p marks _ _ n.0 j.3), i)))
            (repeated_at p _ _ n.1 j.4)
        | inr s ↦ (s.0, j.1, s.2, shift_from p again c marks s.0 (inr (left_at p marks _ _ s.1 j.3)), j.4)
      ]
    ]
shift_from (optional p) enter c marks text h =
    elim h [
      | inl w ↦ elim w.1 [ inl e ↦ cc | inr i ↦ shift_from p enter c marks text (inl (w.0, i)) ]
      | inr l ↦ shift_from p enter c marks text (inr l)
    ]
shift_from (group p) enter c marks text h = shift_from p enter c marks text h
