-- The light that reading finds is the light of the text.
use Rattle.std.proofs.Common.{
  ◌≡◌,
  ◌⊎◌,
  inl,
  inr,
  ℕ,
  zero,
  suc,
  Some,
  MatchOption,
  Bool,
  true,
  false,
  IsTrue,
  ◌||◌,
  cond,
  List,
  [],
  ◌∷◌,
  ◌++◌,
  length,
  take,
  drop,
  replicate,
  refl,
  ap,
  sym,
  ◌∙◌,
  subst,
  arith,
  length-take,
  length-drop,
}
use Rattle.std.specs.declared.option.Option.{Option}
use Rattle.std.specs.List.{All}
use Rattle.std.specs.Char.{IsScalar}
use Rattle.std.proofs.lemmas.List.{take-append-drop, length-replicate}
use Rattle.std.proofs.lemmas.List.Elements.{All-append}
use Rattle.std.proofs.lemmas.List.Folds.{list_any-append}
use Rattle.bw_format.specs.declared.light.Light.{Light}
use Rattle.bw_format.specs.declared.light.Light.TheVariants.{Green, Yellow, Red}
use Rattle.bw_format.specs.Pattern.{Pattern, nothing, one, sequence, either, star, plus, optional, group, places, In, none}
use Rattle.bw_format.specs.Marks.{marked, ends, shifted, light_from, light}
use Rattle.bw_format.specs.Lights.{IsLight, GoesOn}
use Rattle.bw_format.specs.Lively.{Lively}
use Rattle.bw_format.proofs.Lists.{or_cases, or_left, or_right}
use Rattle.bw_format.proofs.Left.{Left, Rest, length-shifted}
use Rattle.bw_format.proofs.Shifts.{ends_to, ends_from, shift_to, shift_from}

-- a mark of a part is a mark, and a mark is one of either part
marked_parts : (n : ℕ) (marks : List Bool) → marked marks ≡ (marked (take n marks) || marked (drop n marks))
marked_parts n marks = ap marked (sym (take-append-drop n marks)) ∙ list_any-append (λ m. m) (take n marks) (drop n marks)

pub marked_front : (n : ℕ) (marks : List Bool) → IsTrue (marked (take n marks)) → IsTrue (marked marks)
marked_front n marks h = marked_parts n marks ∙ or_left _ _ h

pub marked_back : (n : ℕ) (marks : List Bool) → IsTrue (marked (drop n marks)) → IsTrue (marked marks)
marked_back n marks h = marked_parts n marks ∙ or_right (marked (take n marks)) _ h

marked_cases : (n : ℕ) (marks : List Bool) → IsTrue (marked marks) → IsTrue (marked (take n marks)) ⊎ IsTrue (marked (drop n marks))
marked_cases n marks h = or_cases _ _ (sym (marked_parts n marks) ∙ h)

-- where something may be left, there is a mark
pub dies : (p : Pattern) (marks : List Bool) (text : List ℕ) → Left p marks text → IsTrue (marked marks)
dies nothing marks text l = absurd l
dies (one class) marks text l = l.0
dies (sequence p q) marks text l = elim l [ inl s ↦ marked_front (places p) marks (dies p _ _ s.3) | inr r ↦ marked_back (places p) marks (dies q _ _ r) ]
dies (either p q) marks text l = elim l [ inl a ↦ marked_front (places p) marks (dies p _ _ a) | inr b ↦ marked_back (places p) marks (dies q _ _ b) ]
dies (star p) marks text l = dies p marks l.0 l.3
dies (plus p) marks text l = dies p marks l.0 l.3
dies (optional p) marks text l = dies p marks text l
dies (group p) marks text l = dies p marks text l

all_none : All IsScalar []
all_none = λ k d h. absurd (omega (arith, h))

-- some text is in the pattern
inhabited : (p : Pattern) → Lively p → (text : List ℕ) × All IsScalar text × In p text
inhabited nothing h = ([], all_none, refl)
inhabited (one class) h = (h.0 ∷ [], one_scalar h.0 h.1, (h.0, refl, h.2))
  where
    one_scalar : (c : ℕ) → IsScalar c → All IsScalar (c ∷ [])
    one_scalar c h = λ k d lt. grind arith
inhabited (sequence p q) h =
    let a = inhabited p h.0 in
    let b = inhabited q h.1 in
    (a.0 ++ b.0, All-append IsScalar a.0 b.0 a.1 b.1, (a.0, b.0, refl, a.2, b.2))
inhabited (either p q) h = let a = inhabited p h.0 in (a.0, a.1, inl a.2)
inhabited (star p) h = ([], all_none, none)
inhabited (plus p) h = let a = inhabited p h in (a.0 ++ [], All-append IsScalar a.0 [] a.1 all_none, (a.0, [], refl, a.2, none))
inhabited (optional p) h = ([], all_none, inl refl)
inhabited (group p) h = inhabited p h

-- where there is a mark, something may be left
lives : (p : Pattern) (marks : List Bool) → length marks ≡ places p → Lively p → IsTrue (marked marks) → (text : List ℕ) × All IsScalar text × Left p marks text
lives nothing [] e h m = cc
lives nothing (x ∷ marks) e h m = absurd (omega (arith, e))
lives (one class) marks e h m = ([], all_none, (m, refl))
lives (sequence p q) marks e h m =
    elim (marked_cases (places p) marks m) [
      | inl f ↦ (let a = lives p (take (places p) marks) (simp length-take (omega (arith, e))) h.0 f in
          let b = inhabited q h.1 in
          (a.0 ++ b.0, All-append IsScalar a.0 b.0 a.1 b.1, inl (a.0, b.0, refl, a.2, b.2)))
      | inr b ↦ (let a = lives q (drop (places p) marks) (simp length-drop (omega (arith, e))) h.1 b in (a.0, a.1, inr a.2))
    ]
lives (either p q) marks e h m =
    elim (marked_cases (places p) marks m) [
      | inl f ↦ (let a = lives p (take (places p) marks) (simp length-take (omega (arith, e))) h.0 f in (a.0, a.1, inl a.2))
      | inr b ↦ (let a = lives q (drop (places p) marks) (simp length-drop (omega (arith, e))) h.1 b in (a.0, a.1, inr a.2))
    ]
lives (star p) marks e h m = let a = lives p marks e h m in (a.0 ++ [], All-append IsScalar a.0 [] a.1 all_none, (a.0, [], refl, a.2, none))
lives (plus p) marks e h m = let a = lives p marks e h m in (a.0 ++ [], All-append IsScalar a.0 [] a.1 all_none, (a.0, [], refl, a.2, none))
lives (optional p) marks e h m = lives p marks e h m
lives (group p) marks e h m = lives p marks e h m

-- the light of a text that begins with `front`, by what is left behind it
along : (P Q : List ℕ → Type 0) (c : ℕ) (text : List ℕ) (l : Light) → ((t : List ℕ) → P (c ∷ t) → Q t) → ((t : List ℕ) → Q t → P (c ∷ t)) → IsLight Q text l
    → IsLight P (c ∷ text) l
along P Q c text Green f g h = g text h
along P Q c text Yellow f g h = (λ i. h.0 (f text i), (h.1.0, h.1.1, h.1.2, g (text ++ h.1.0) h.1.3))
along P Q c text Red f g h = (λ i. h.0 (f text i), λ m. h.1 (m.0, m.1, m.2, f (text ++ m.0) m.3))

same_light : (P Q : List ℕ → Type 0) (text : List ℕ) (l : Light) → ((t : List ℕ) → P t → Q t) → ((t : List ℕ) → Q t → P t) → IsLight Q text l → IsLight P text l
same_light P Q text Green f g h = g text h
same_light P Q text Yellow f g h = (λ i. h.0 (f text i), (h.1.0, h.1.1, h.1.2, g (text ++ h.1.0) h.1.3))
same_light P Q text Red f g h = (λ i. h.0 (f text i), λ m. h.1 (m.0, m.1, m.2, f (text ++ m.0) m.3))

-- the light where the text ends
here : (P : List ℕ → Type 0) (end alive : Bool) → (IsTrue end → P []) → (P [] → IsTrue end)
    → (IsTrue alive → (text : List ℕ) × All IsScalar text × P text) → ((text : List ℕ) → P text → IsTrue alive)
    → IsLight P [] (cond end Green (cond alive Yellow Red))
here P true alive f g a d = f refl
here P false true f g a d =
    (λ i. (let e : false ≡ true = g i in cc), goes (a refl))
  where
    goes : (text : List ℕ) × All IsScalar text × P text → GoesOn P []
    goes t = (t.0, (λ e. (let h : P [] = (let F : List ℕ → Type 0 = P in subst F e t.2) in let k : false ≡ true = g h in cc)), t.1, t.2)
here P false false f g a d = (λ i. (let e : false ≡ true = g i in cc), λ m. (let e : false ≡ true = d m.0 m.3 in cc))

alive_to : (p : Pattern) (enter : Bool) (marks : List Bool) → length marks ≡ places p → Lively p → IsTrue (enter || marked marks)
    → (text : List ℕ) × All IsScalar text × Rest p enter marks text
alive_to p enter marks e h a =
    elim (or_cases enter (marked marks) a) [
      | inl t ↦ (let i = inhabited p h in (i.0, i.1, inl (t, i.2)))
      | inr m ↦ (let l = lives p marks e h m in (l.0, l.1, inr l.2))
    ]

alive_from : (p : Pattern) (enter : Bool) (marks : List Bool) (text : List ℕ) → Rest p enter marks text → IsTrue (enter || marked marks)
alive_from p enter marks text r = elim r [ inl w ↦ or_left enter (marked marks) w.0 | inr l ↦ or_right enter (marked marks) (dies p marks text l) ]

pub rest_to : (p : Pattern) (marks : List Bool) (text : List ℕ) → Rest p false marks text → Left p marks text
rest_to p marks text r = elim r [ inl w ↦ absurd (let e : false ≡ true = w.0 in cc) | inr l ↦ l ]

pub lights_from : (p : Pattern) (enter : Bool) (marks : List Bool) (text : List ℕ) → length marks ≡ places p → Lively p
    → IsLight (Rest p enter marks) text (light_from p enter marks text)
lights_from p enter marks [] e h =
    here (Rest p enter marks) (ends p enter marks) (enter || marked marks) (ends_to p enter marks) (ends_from p enter marks) (alive_to p enter marks e h)
    (alive_from p enter marks)
lights_from p enter marks (c ∷ text) e h =
    along (Rest p enter marks) (Rest p false (shifted p enter c marks)) c text _
    (λ t r. inr (shift_from p enter c marks t r))
    (λ t r. shift_to p enter c marks t (rest_to p (shifted p enter c marks) t r))
    (lights_from p false (shifted p enter c marks) text (length-shifted p enter c marks) h)

-- no mark is among places that have taken nothing
pub unmarked : (n : ℕ) → marked (replicate n false) ≡ false
unmarked zero = refl
unmarked (suc n) = unmarked n

pub lights : (p : Pattern) (text : List ℕ) → Lively p → IsLight (In p) text (light p text)
lights p text h =
    same_light (In p) (Rest p true (replicate (places p) false)) text _
    (λ t i. inl (refl, i))
    (λ t r. elim r [ inl w ↦ w.1 | inr l ↦ absurd (let e : true ≡ false = sym (dies p (replicate (places p) false) t l) ∙ unmarked (places p) in cc) ])
    (lights_from p true (replicate (places p) false) text (length-replicate (places p) false) h)

-- the light of a pattern is the light of what accepts by it
pub some_light : (o : Option Pattern) (p : Pattern) (text : List ℕ) (l : Light) → o ≡ Some p → Lively p → l ≡ light p text
    → IsLight (λ t. MatchOption o (Unit {0}) (λ q. In q t)) text l
some_light o p text l e h k =
    let right : IsLight (In p) text l = (let P : Light → Type 0 = IsLight (In p) text in subst P (sym k) (lights p text h)) in
    let P : Option Pattern → Type 0 = λ o. IsLight (λ t. MatchOption o (Unit {0}) (λ q. In q t)) text l in
    subst P (sym e) right

-- ---- whether a text is in a pattern, where places may take nothing too

rest_decided : (p : Pattern) (enter : Bool) (marks : List Bool) (text : List ℕ) → Rest p enter marks text ⊎ (Rest p enter marks text → ⊥)
rest_decided p enter marks [] = by (ends p enter marks) refl
  where
    by : (b : Bool) → ends p enter marks ≡ b → Rest p enter marks [] ⊎ (Rest p enter marks [] → ⊥)
    by true e = inl (ends_to p enter marks e)
    by false e = inr (λ r. (let k : IsTrue (ends p enter marks) = ends_from p enter marks r in cc))
rest_decided p enter marks (c ∷ text) =
    elim (rest_decided p false (shifted p enter c marks) text) [
      | inl r ↦ inl (shift_to p enter c marks text (rest_to p (shifted p enter c marks) text r))
      | inr n ↦ inr (λ r. n (inr (shift_from p enter c marks text r)))
    ]

pub in_or_not : (p : Pattern) (text : List ℕ) → In p text ⊎ (In p text → ⊥)
in_or_not p text =
    elim (rest_decided p true (replicate (places p) false) text) [
      | inl r ↦ elim r [
        | inl w ↦ inl w.1
        | inr l ↦ absurd (let e : true ≡ false = sym (dies p (replicate (places p) false) text l) ∙ unmarked (places p) in cc)
      ]
      | inr n ↦ inr (λ i. n (inl (refl, i)))
    ]
