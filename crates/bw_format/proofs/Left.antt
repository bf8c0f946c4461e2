-- What may be left to read, where a pattern stands at its marks.
use Rattle.std.proofs.Common.{
  ◌≡◌,
  ◌≢◌,
  ◌⊎◌,
  inl,
  inr,
  ℕ,
  Bool,
  false,
  IsTrue,
  ◌||◌,
  List,
  [],
  ◌∷◌,
  ◌++◌,
  length,
  take,
  drop,
  refl,
  sym,
  subst,
  arith,
  length-append,
}
use Rattle.std.proofs.Math.Seq.{take-append_seam, drop-append_seam}
use Rattle.bw_format.specs.Pattern.{Pattern, nothing, one, sequence, either, star, plus, optional, group, places, In, Joined, Repeated, none, more}
use Rattle.bw_format.specs.Marks.{marked, ends, shifted}

abbrev pub Left : Pattern → List Bool → List ℕ → Type 0
Left nothing marks text = ⊥
Left (one class) marks text = IsTrue (marked marks) × (text ≡ [])
Left (sequence p q) marks text = Joined (Left p (take (places p) marks)) (In q) text ⊎ Left q (drop (places p) marks) text
Left (either p q) marks text = Left p (take (places p) marks) text ⊎ Left q (drop (places p) marks) text
Left (star p) marks text = Joined (Left p marks) (Repeated (In p)) text
Left (plus p) marks text = Joined (Left p marks) (Repeated (In p)) text
Left (optional p) marks text = Left p marks text
Left (group p) marks text = Left p marks text

-- what may be left to read, where the pattern may begin here too if `enter`
abbrev pub Rest : Pattern → Bool → List Bool → List ℕ → Type 0
Rest p enter marks text = (IsTrue enter × In p text) ⊎ Left p marks text

-- the cases of a repetition
pub repeated_cases : {P : List ℕ → Type 0} {text : List ℕ} → Repeated P text
    → (text ≡ []) ⊎ ((front : List ℕ) × (back : List ℕ) × (front ≢ []) × (text ≡ front ++ back) × P front × Repeated P back)
repeated_cases none = inl refl
repeated_cases (more front back h p r) = inr (front, back, h, refl, p, r)

-- the part in front of a nonempty text is empty, or begins with its first character
pub split_cases : (c : ℕ) (text front back : List ℕ) → c ∷ text ≡ front ++ back
    → ((front ≡ []) × (back ≡ c ∷ text)) ⊎ ((rest : List ℕ) × (front ≡ c ∷ rest) × (text ≡ rest ++ back))
split_cases c text [] back h = inl (refl, sym h)
split_cases c text (d ∷ front) back h = inr (front, cc, cc)

pub length-shifted : (p : Pattern) (enter : Bool) (c : ℕ) (marks : List Bool) → length (shifted p enter c marks) ≡ places p
length-shifted nothing enter c marks = refl
length-shifted (one class) enter c marks = omega arith
length-shifted (sequence p q) enter c marks =
    let a = length-shifted p enter c (take (places p) marks) in
    let b = length-shifted q (ends p enter (take (places p) marks)) c (drop (places p) marks) in
    simp length-append (omega (arith, a, b))
length-shifted (either p q) enter c marks =
    let a = length-shifted p enter c (take (places p) marks) in
    let b = length-shifted q enter c (drop (places p) marks) in
    simp length-append (omega (arith, a, b))
length-shifted (star p) enter c marks = length-shifted p (enter || ends p false marks) c marks
length-shifted (plus p) enter c marks = length-shifted p (enter || ends p false marks) c marks
length-shifted (optional p) enter c marks = length-shifted p enter c marks
length-shifted (group p) enter c marks = length-shifted p enter c marks

-- the marks of the first part, and of the second
pub take_shifted : (p : Pattern) (enter : Bool) (c : ℕ) (marks others : List Bool)
    → take (places p) (shifted p enter c marks ++ others) ≡ shifted p enter c marks
take_shifted p enter c marks others =
    let F : ℕ → Type 0 = λ n. take n (shifted p enter c marks ++ others) ≡ shifted p enter c marks in
    subst F (length-shifted p enter c marks) (take-append_seam (shifted p enter c marks) others)

pub drop_shifted : (p : Pattern) (enter : Bool) (c : ℕ) (marks others : List Bool) → drop (places p) (shifted p enter c marks ++ others) ≡ others
drop_shifted p enter c marks others =
    let F : ℕ → Type 0 = λ n. drop n (shifted p enter c marks ++ others) ≡ others in
    subst F (length-shifted p enter c marks) (drop-append_seam (shifted p enter c marks) others)

-- a text that begins and ends with nothing
pub nothing_front : (text : List ℕ) (front back : List ℕ) → [] ≡ front ++ back → (front ≡ []) × (back ≡ [])
nothing_front text [] back h = (refl, sym h)
nothing_front text (c ∷ front) back h = cc

pub in_at : (p : Pattern) (a b : List ℕ) → a ≡ b → In p a → In p b
in_at p a b e h = let P : List ℕ → Type 0 = In p in subst P e h

pub left_at : (p : Pattern) (marks : List Bool) (a b : List ℕ) → a ≡ b → Left p marks a → Left p marks b
left_at p marks a b e h = let P : List ℕ → Type 0 = Left p marks in subst P e h

pub repeated_at : (p : Pattern) (a b : List ℕ) → a ≡ b → Repeated (In p) a → Repeated (In p) b
repeated_at p a b e h = let P : List ℕ → Type 0 = Repeated (In p) in subst P e h

pub marks_at : (p : Pattern) (text : List ℕ) (a b : List Bool) → a ≡ b → Left p a text → Left p b text
marks_at p text a b e h = let P : List Bool → Type 0 = λ m. Left p m text in subst P e h
