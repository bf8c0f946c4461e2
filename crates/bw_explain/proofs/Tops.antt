-- What a walk finds at the top, by the documents alone.
use Rattle.std.proofs.Common.{◌≡◌, inl, inr, ℕ, ◌+◌, ◌==◌, Bool, true, false, ◌||◌, ◌&&◌, not, List, refl, ap, sym, ◌∙◌, subst}
use Rattle.std.proofs.lemmas.Bool.{false≢true, eqb-true, eq-eqb, and_parts, and_from, or_cases, or_left, or_right}
use Rattle.std.proofs.Math.Bool.{or-false, or-true}
use Rattle.bw_lang.specs.declared.items.Attr.{Attr}
use Rattle.bw_lang.specs.Document.Forest.{Forest, none, text, gap, element}
use Rattle.bw_lang.specs.Document.Documents.{append}
use Rattle.bw_lang.specs.Table.Names.{same}
use Rattle.bw_lang.specs.Text.Bytes.{is_blank_text}
use Rattle.bw_schema.specs.declared.rules.Rule.{Rule}
use Rattle.bw_schema.specs.Validity.{each_child, each_text, is_other, ordered}
use Rattle.bw_schema.specs.Words.{is_among}
use Rattle.bw_sum.specs.Graph.{Graph}
use Rattle.bw_sum.specs.Unfolding.{Fills}
use Rattle.bw_sum.specs.Unfolding as fills
use Rattle.bw_explain.specs.declared.atom.Atom.{Atom}
use Rattle.bw_explain.specs.declared.atom.Atom.TheVariants.{NotAllowed, OtherValue, Absent, Outside, BadChild, BadText, Missing, Crossing}
use Rattle.bw_explain.specs.Aims.{top_goals, top_aim}
use Rattle.bw_explain.specs.Atoms.{is_broken}
use Rattle.bw_explain.specs.Owns.{own_broken}
use Rattle.bw_explain.specs.Walks.{Aim, takes, is_wordy, Runs, nothing, both, words, left, said, led, beside, inside, here}
use Rattle.bw_explain.proofs.Runs.{stay_takes, next_takes, taken}

-- a document takes the state x to y
abbrev pub told : Aim → ℕ → Forest → ℕ → Bool
told A x none y = x == y
told A x (text s r) y = told A x r y || (is_wordy A s && told A (x + 1) r y)
told A x (gap g r) y = told A x r y
told A x (element tag a i r) y = (A.stays tag && told A x r y) || (A.next x tag && told A (x + 1) r y)

module _ (A : Aim) where
  stay_told : (x y : ℕ) (tag : List ℕ) (a : List Attr) (i r : Forest) → A.stays tag ≡ true → told A x r y ≡ true → told A x (element tag a i r) y ≡ true
  stay_told x y tag a i r h k = or_left (A.stays tag && told A x r y) _ (and_from (A.stays tag) (told A x r y) h k)

  told_both : (x z y : ℕ) (d e : Forest) → told A x d z ≡ true → told A z e y ≡ true → told A x (append d e) y ≡ true
  told_both x z y none e h k = subst (λ w. told A w e y ≡ true) (sym (eqb-true x z h)) k
  told_both x z y (text s r) e h k = elim (or_cases (told A x r z) (is_wordy A s && told A (x + 1) r z) h) [
    | inl p ↦ or_left (told A x (append r e) y) _ (told_both x z y r e p k)
    | inr p ↦ let q = and_parts (is_wordy A s) (told A (x + 1) r z) p in
        or_right (told A x (append r e) y) _ (and_from (is_wordy A s) (told A (x + 1) (append r e) y) q.0 (told_both (x + 1) z y r e q.1 k))
  ]
  told_both x z y (gap g r) e h k = told_both x z y r e h k
  told_both x z y (element tag a i r) e h k = elim (or_cases (A.stays tag && told A x r z) (A.next x tag && told A (x + 1) r z) h) [
    | inl p ↦ let q = and_parts (A.stays tag) (told A x r z) p in
        or_left (A.stays tag && told A x (append r e) y) _ (and_from (A.stays tag) (told A x (append r e) y) q.0 (told_both x z y r e q.1 k))
    | inr p ↦ let q = and_parts (A.next x tag) (told A (x + 1) r z) p in
        or_right (A.stays tag && told A x (append r e) y) _ (and_from (A.next x tag) (told A (x + 1) (append r e) y) q.0 (told_both (x + 1) z y r e q.1 k))
  ]

  -- a state between two parts
  abbrev Between : ℕ → Forest → Forest → ℕ → Type 0
  Between x d e y = (z : ℕ) × (told A x d z ≡ true) × (told A z e y ≡ true)

  told_between : (x y : ℕ) (d e : Forest) → told A x (append d e) y ≡ true → Between x d e y
  told_between x y none e h = (x, eq-eqb x x refl, h)
  told_between x y (text s r) e h = elim (or_cases (told A x (append r e) y) (is_wordy A s && told A (x + 1) (append r e) y) h) [
    | inl p ↦ let b = told_between x y r e p in (b.0, or_left (told A x r b.0) _ b.1, b.2)
    | inr p ↦
        let q = and_parts (is_wordy A s) (told A (x + 1) (append r e) y) p in
        let b = told_between (x + 1) y r e q.1 in
        (b.0, or_right (told A x r b.0) _ (and_from (is_wordy A s) (told A (x + 1) r b.0) q.0 b.1), b.2)
  ]
  told_between x y (gap g r) e h = told_between x y r e h
  told_between x y (element tag a i r) e h = elim (or_cases (A.stays tag && told A x (append r e) y) (A.next x tag && told A (x + 1) (append r e) y) h) [
    | inl p ↦
        let q = and_parts (A.stays tag) (told A x (append r e) y) p in
        let b = told_between x y r e q.1 in
        (b.0, stay_told x b.0 tag a i r q.0 b.1, b.2)
    | inr p ↦
        let q = and_parts (A.next x tag) (told A (x + 1) (append r e) y) p in
        let b = told_between (x + 1) y r e q.1 in
        (b.0, or_right (A.stays tag && told A x r b.0) _ (and_from (A.next x tag) (told A (x + 1) r b.0) q.0 b.1), b.2)
  ]

  -- one item
  one_told : (x y : ℕ) (p q : Bool) → takes x y p q ≡ true → ((p && (x == y)) || (q && ((x + 1) == y))) ≡ true
  one_told x y p q h = elim (taken x y p q h) [
    | inl a ↦ or_left (p && (x == y)) _ (and_from p (x == y) a.1 (eq-eqb x y a.0))
    | inr a ↦ or_right (p && (x == y)) _ (and_from q ((x + 1) == y) a.1 (eq-eqb (x + 1) y a.0))
  ]

  module _ (templates : ℕ → Forest) (G : Graph) (flat : A.deep ≡ false) where
    pub runs_told : {n k x y : ℕ} {t d : Forest} → Runs templates G A n k x t y d → told A x d y ≡ true
    runs_told (nothing {x = x}) = eq-eqb x x refl
    runs_told (both {x = x} {y = y} {z = z} {d = d} {e = e} p q) = told_both x z y d e (runs_told p) (runs_told q)
    runs_told (words {x = x} {y = y} {s = s} h) = one_told x y true (is_wordy A s) h
    runs_told (left {x = x} l) = eq-eqb x x refl
    runs_told (said {x = x} {y = y} {s = s} l h) = one_told x y true (is_wordy A s) h
    runs_told (led l r) = runs_told r
    runs_told (beside {x = x} {y = y} {tag = tag} o h q f) = one_told x y (A.stays tag) (A.next x tag) h
    runs_told (inside o q r) = absurd (false≢true (sym flat ∙ o))
    runs_told (here o h q f g) = absurd (false≢true (sym flat ∙ o))

    pub told_runs : {n : ℕ} {t d : Forest} → Fills templates G n t d → (k x y : ℕ) → told A x d y ≡ true → Runs templates G A n k x t y d
    told_runs {n = n} fills.end k x y h = subst (λ z. Runs templates G A n k x none z none) (eqb-true x y h) nothing
    told_runs (fills.words {s = s} {d = d} r) k x y h = elim (or_cases (told A x d y) (is_wordy A s && told A (x + 1) d y) h) [
      | inl p ↦ both (words (stay_takes x _ _ refl)) (told_runs r _ x y p)
      | inr p ↦ let q = and_parts (is_wordy A s) (told A (x + 1) d y) p in both (words (next_takes x _ _ q.0)) (told_runs r _ (x + 1) y q.1)
    ]
    told_runs (fills.inside {tag = tag} {d = d} q f r) k x y h = elim (or_cases (A.stays tag && told A x d y) (A.next x tag && told A (x + 1) d y) h) [
      | inl p ↦ let c = and_parts (A.stays tag) (told A x d y) p in both (beside flat (stay_takes x _ _ c.0) q f) (told_runs r _ x y c.1)
      | inr p ↦ let c = and_parts (A.next x tag) (told A (x + 1) d y) p in both (beside flat (next_takes x _ _ c.0) q f) (told_runs r _ (x + 1) y c.1)
    ]
    told_runs (fills.left l r) k x y h = both (left l) (told_runs r _ x y h)
    told_runs (fills.said {s = s} {d = d} l r) k x y h = elim (or_cases (told A x d y) (is_wordy A s && told A (x + 1) d y) h) [
      | inl p ↦ both (said l (stay_takes x _ _ refl)) (told_runs r _ x y p)
      | inr p ↦ let q = and_parts (is_wordy A s) (told A (x + 1) d y) p in both (said l (next_takes x _ _ q.0)) (told_runs r _ (x + 1) y q.1)
    ]
    told_runs (fills.led {d = d} {e = e} l i r) k x y h =
        let b = told_between x y e d h in both (led l (told_runs i 0 x b.0 b.1)) (told_runs r _ b.0 y b.2)

-- ---- by the way in which an element is broken

stay : (A : Aim) → ((tag : List ℕ) → A.stays tag ≡ true) → (x : ℕ) (d : Forest) → told A x d x ≡ true
stay A o x none = eq-eqb x x refl
stay A o x (text s r) = or_left (told A x r x) _ (stay A o x r)
stay A o x (gap g r) = stay A o x r
stay A o x (element tag a i r) = or_left (A.stays tag && told A x r x) _ (and_from (A.stays tag) (told A x r x) (o tag) (stay A o x r))

found_or : (p b c t : Bool) → t ≡ true → b ≡ not c → (b || (not p && t)) ≡ not (p && c)
found_or true b c t h e = or-false b ∙ e
found_or false b c true h e = or-true b
found_or false b c false h e = absurd (false≢true h)

module _ (r : Rule) where
  bad_child : (d : Forest) → told (top_aim r BadChild) 0 d 1 ≡ not (each_child (is_among r.has) d)
  bad_child none = refl
  bad_child (text s t) = or-false _ ∙ bad_child t
  bad_child (gap g t) = bad_child t
  bad_child (element tag a i t) = found_or (is_among r.has tag) _ (each_child (is_among r.has) t) _ (stay (top_aim r BadChild) (λ _. refl) 1 t) (bad_child t)

  bad_text : (d : Forest) → told (top_aim r BadText) 0 d 1 ≡ not (each_text is_blank_text d)
  bad_text none = refl
  bad_text (text s t) = found_or (is_blank_text s) _ (each_text is_blank_text t) _ (stay (top_aim r BadText) (λ _. refl) 1 t) (bad_text t)
  bad_text (gap g t) = bad_text t
  bad_text (element tag a i t) = or-false _ ∙ bad_text t

  missing : (x : List ℕ) (d : Forest) → told (top_aim r (Missing x)) 0 d 0 ≡ each_child (is_other x) d
  missing x none = refl
  missing x (text s t) = or-false _ ∙ missing x t
  missing x (gap g t) = missing x t
  missing x (element tag a i t) = or-false _ ∙ ap (λ b. is_other x tag && b) (missing x t)

  crossing_last : (x y : List ℕ) (d : Forest) → told (top_aim r (Crossing x y)) 1 d 2 ≡ not (each_child (is_other x) d)
  crossing_last x y none = refl
  crossing_last x y (text s t) = or-false _ ∙ crossing_last x y t
  crossing_last x y (gap g t) = crossing_last x y t
  crossing_last x y (element tag a i t) = last (same tag x) _ (each_child (is_other x) t) _ (stay (top_aim r (Crossing x y)) (λ _. refl) 2 t)
      (crossing_last x y t)
    where
      last : (s b c t : Bool) → t ≡ true → b ≡ not c → (b || (s && t)) ≡ not (not s && c)
      last true b c true h e = or-true b
      last true b c false h e = absurd (false≢true h)
      last false b c t h e = or-false b ∙ e

  crossing : (x y : List ℕ) (d : Forest) → told (top_aim r (Crossing x y)) 0 d 2 ≡ not (ordered x y d)
  crossing x y none = refl
  crossing x y (text s t) = or-false _ ∙ crossing x y t
  crossing x y (gap g t) = crossing x y t
  crossing x y (element tag a i t) = first (same tag y) _ (ordered x y t) _ (each_child (is_other x) t) (crossing_last x y t) (crossing x y t)
    where
      first : (s b c t v : Bool) → t ≡ not v → b ≡ not c → (b || (s && t)) ≡ not ((not s || v) && c)
      first true b c t true h e = ap (λ z. b || z) h ∙ or-false b ∙ e
      first true b c t false h e = ap (λ z. b || z) h ∙ or-true b
      first false b c t v h e = or-false b ∙ e

alone : (b t : Bool) → t ≡ true → b ≡ (b && t)
alone true t h = sym h
alone false t h = refl

-- an element is broken so by its attributes and by what a walk finds at its top
pub broken_is : (r : Rule) (a : Atom) (b : List Attr) (j : Forest) → is_broken r a b j ≡ (own_broken r a b && told (top_aim r a) 0 j (top_goals a))
broken_is r NotAllowed b j = alone _ _ (stay (top_aim r NotAllowed) (λ _. refl) 0 j)
broken_is r OtherValue b j = alone _ _ (stay (top_aim r OtherValue) (λ _. refl) 0 j)
broken_is r (Absent x) b j = alone _ _ (stay (top_aim r (Absent x)) (λ _. refl) 0 j)
broken_is r (Outside x vs) b j = alone _ _ (stay (top_aim r (Outside x vs)) (λ _. refl) 0 j)
broken_is r BadChild b j = sym (bad_child r j)
broken_is r BadText b j = sym (bad_text r j)
broken_is r (Missing x) b j = sym (missing r x j)
broken_is r (Crossing x y) b j = sym (crossing r x y j)
