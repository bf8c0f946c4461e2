-- What breaks the rule of a number.
use Rattle.std.proofs.Common.{◌≡◌, inl, inr, ℕ, suc, ◌<◌, ◌≤◌, ◌==◌, max, Bool, true, false, ◌||◌, ◌&&◌, not, List, [], ◌∷◌, ◌++◌, map, length, replicate}
use Rattle.std.proofs.Common.{if◌then◌else◌, refl, ap, sym, ◌∙◌, arith}
use Rattle.std.specs.List.{list_any, list_all}
use Rattle.std.proofs.lemmas.Bool.{false≢true, cases_Bool, not-true, not_from_false, and_parts, and_from, and_cases, and_left, and_right, or_cases, or_from}
use Rattle.std.proofs.lemmas.Bool.{or_left, or_right}
use Rattle.std.proofs.lemmas.List.{length-replicate}
use Rattle.std.proofs.lemmas.Slice.Eq.{bytes_eq-Decides}
use Rattle.std.proofs.lemmas.List.Folds.{list_any-append}
use Rattle.std.proofs.Math.Bool.{or-false, and-false, and-true, not-not}
use Rattle.bw_lang.specs.declared.items.Attr.{Attr}
use Rattle.bw_lang.specs.Document.Forest.{Forest}
use Rattle.bw_lang.specs.Document.Documents.{close, closed_attrs}
use Rattle.bw_lang.specs.Table.Names.{same}
use Rattle.bw_schema.specs.declared.rules.Rule.{Rule}
use Rattle.bw_schema.specs.declared.rules.ValueList.{ValueList}
use Rattle.bw_lang.specs.Text.Bytes.{is_blank_text}
use Rattle.bw_schema.specs.Words.{is_among}
use Rattle.bw_schema.specs.Rules.{allows, permits}
use Rattle.bw_schema.specs.Needs.{Needs, nothing, all_of, some_of, attr, one_value, content, order}
use Rattle.bw_schema.specs.Validity.{has_fixed, has_value, each_child, each_text, is_other, ordered, holds}
use Rattle.bw_schema.proofs.ValidLaws.{closed_each, closed_has, all_has, closed_child, closed_text, closed_holds}
use Rattle.bw_explain.specs.declared.atom.Atom.{Atom}
use Rattle.bw_explain.specs.declared.atom.Atom.TheVariants.{NotAllowed, OtherValue, Absent, Outside, BadChild, BadText, Missing, Crossing}
use Rattle.bw_explain.specs.Atoms.{is_plain, is_broken, need_atoms, atoms_of, passes, fails, longest}
use Rattle.bw_explain.specs.Owns.{FailsIs}
use Rattle.bw_explain.specs.Shows.{some_broken, breaks}
use Rattle.bw_explain.specs.Sizes.{is_said}
use Rattle.bw_explain.specs.Ways.{Way, no_way}
use Rattle.bw_explain.proofs.Filling.{said_low, word_there, among_any, any_among}

not_and : (a b c : Bool) → not b ≡ c → not (a && b) ≡ (not a || c)
not_and true b c h = h
not_and false b c h = refl

module _ (r : Rule) (b : List Attr) (j : Forest) where
  abbrev broken : Atom → Bool
  broken a = is_broken r a b j

  -- of needs without Or
  plain_broken : (needs : Needs) → is_plain needs ≡ true → not (holds true needs b j) ≡ list_any broken (need_atoms needs)
  plain_broken nothing h = refl
  plain_broken (all_of parts rest) h =
      let p = and_parts (is_plain parts) (is_plain rest) h in
      not_and (holds true parts b j) (holds true rest b j) (list_any broken (need_atoms rest)) (plain_broken rest p.1)
      ∙ ap (λ k. k || list_any broken (need_atoms rest)) (plain_broken parts p.0)
      ∙ sym (list_any-append broken (need_atoms parts) (need_atoms rest))
      ∙ sym (ap (λ k. list_any broken ((if k then need_atoms parts else []) ++ need_atoms rest)) p.0)
  plain_broken (some_of parts rest) h = absurd (false≢true h)
  plain_broken (attr x rest) h = not_and (has_fixed b x) (holds true rest b j) (list_any broken (need_atoms rest)) (plain_broken rest h)
  plain_broken (one_value x vs rest) h = not_and (has_value b x vs) (holds true rest b j) (list_any broken (need_atoms rest)) (plain_broken rest h)
  plain_broken (content x rest) h = not_and (not (each_child (is_other x) j)) (holds true rest b j) (list_any broken (need_atoms rest)) (plain_broken rest h)
      ∙ ap (λ k. k || list_any broken (need_atoms rest)) (not-not (each_child (is_other x) j))
  plain_broken (order x y rest) h = not_and (ordered x y j) (holds true rest b j) (list_any broken (need_atoms rest)) (plain_broken rest h)

  needs_broken : (needs : Needs) → some_broken needs b j ≡ list_any broken (need_atoms needs)
  needs_broken nothing = refl
  needs_broken (all_of parts rest) = chosen (is_plain parts) refl (needs_broken rest)
    where
      chosen : (p : Bool) → is_plain parts ≡ p → some_broken rest b j ≡ list_any broken (need_atoms rest)
          → ((p && not (holds true parts b j)) || some_broken rest b j) ≡ list_any broken ((if p then need_atoms parts else []) ++ need_atoms rest)
      chosen true e ih = ap (λ k. k || some_broken rest b j) (plain_broken parts e) ∙ ap (λ k. list_any broken (need_atoms parts) || k) ih
          ∙ sym (list_any-append broken (need_atoms parts) (need_atoms rest))
      chosen false e ih = ih
  needs_broken (some_of parts rest) = needs_broken rest
  needs_broken (attr x rest) = ap (λ k. not (has_fixed b x) || k) (needs_broken rest)
  needs_broken (one_value x vs rest) = ap (λ k. not (has_value b x vs) || k) (needs_broken rest)
  needs_broken (content x rest) = ap (λ k. each_child (is_other x) j || k) (needs_broken rest)
  needs_broken (order x y rest) = ap (λ k. not (ordered x y j) || k) (needs_broken rest)

  must_broken : (must : List (List ℕ)) → not (list_all (has_fixed b) must) ≡ list_any broken (map Absent must)
  must_broken [] = refl
  must_broken (x ∷ xs) = not_and (has_fixed b x) (list_all (has_fixed b) xs) (list_any broken (map Absent xs)) (must_broken xs)

  text_broken : (t : Bool) → not (t || each_text is_blank_text (close j)) ≡ list_any broken (if t then [] else BadText ∷ [])
  text_broken true = refl
  text_broken false = ap not (closed_text is_blank_text j) ∙ sym (or-false _)

  either_two : {p q s t : Bool} → p ≡ q → s ≡ t → (p || s) ≡ (q || t)
  either_two {q = q} {s = s} e f = ap (λ k. k || s) e ∙ ap (λ k. q || k) f

  -- closing changes nothing
  closed_broken : (needs : Needs) → some_broken needs (closed_attrs b) (close j) ≡ some_broken needs b j
  closed_broken nothing = refl
  closed_broken (all_of parts rest) = either_two (ap (λ k. is_plain parts && not k) (closed_holds true parts b j)) (closed_broken rest)
  closed_broken (some_of parts rest) = closed_broken rest
  closed_broken (attr x rest) = either_two (ap not (closed_has b x)) (closed_broken rest)
  closed_broken (one_value x vs rest) = either_two (ap not (sym (and-true _) ∙ closed_holds true (one_value x vs nothing) b j ∙ and-true _))
      (closed_broken rest)
  closed_broken (content x rest) = either_two (closed_child (is_other x) j) (closed_broken rest)
  closed_broken (order x y rest) = either_two (ap not (sym (and-true _) ∙ closed_holds true (order x y nothing) b j ∙ and-true _)) (closed_broken rest)

  chain : (a c d e f g : Bool) (v w x y z u : Bool) (V W X Y Z U : List Atom) → v ≡ list_any broken V → w ≡ list_any broken W → x ≡ list_any broken X → y
      ≡ list_any broken Y → z ≡ list_any broken Z → u ≡ list_any broken U
      → (if a then v else if c then w else if d then x else if e then y else if f then z else if g then u else false)
      ≡ list_any broken (if a then V else if c then W else if d then X else if e then Y else if f then Z else if g then U else [])
  chain true c d e f g v w x y z u V W X Y Z U p q s t k l = p
  chain false true d e f g v w x y z u V W X Y Z U p q s t k l = q
  chain false false true e f g v w x y z u V W X Y Z U p q s t k l = s
  chain false false false true f g v w x y z u V W X Y Z U p q s t k l = t
  chain false false false false true g v w x y z u V W X Y Z U p q s t k l = k
  chain false false false false false true v w x y z u V W X Y Z U p q s t k l = l
  chain false false false false false false v w x y z u V W X Y Z U p q s t k l = refl

pub breaks_by_atoms : (number : ℕ) (r : Rule) (b : List Attr) (j : Forest) → breaks number r (closed_attrs b) (close j)
    ≡ list_any (λ a. is_broken r a b j) (atoms_of number r)
breaks_by_atoms number r b j = chain r b j (number == 1) (number == 2) (number == 3) (number == 4) (number == 5) (number == 7) _ _ _ _ _ _ _ _ _ _ _ _
    (ap not (closed_each (λ x v. allows r x) b) ∙ sym (or-false _))
    (ap not (all_has b r.must) ∙ must_broken r b j r.must)
    (ap not (closed_each (permits r.values) b) ∙ sym (or-false _))
    (ap not (closed_child (is_among r.has) j) ∙ sym (or-false _))
    (text_broken r b j r.text)
    (closed_broken r b j r.needs ∙ needs_broken r b j r.needs)

-- ---- strings that fail

-- a string that is longer than each word is none of them
pub longer_not : (ws : List (List ℕ)) (s : List ℕ) → ((n : ℕ) → longest ws ≤ n → n < length s → is_among ws s ≡ false)
longer_not [] s n h k = refl
longer_not (w ∷ ws) s n h k = elim (cases_Bool (same w s)) [
  | inl e ↦ let l = ap length ((bytes_eq-Decides w s).0 e) in absurd (omega (arith, l, h, k))
  | inr e ↦ or_from (same w s) (is_among ws s) e (longer_not ws s n (omega (arith, h)) k)
]

long_word : (ws : List (List ℕ)) → (s : List ℕ) × (is_among ws s ≡ false)
long_word ws = let e = length-replicate {A = ℕ} (suc (longest ws)) 120 in
    (replicate (suc (longest ws)) 120, longer_not ws (replicate (suc (longest ws)) 120) (longest ws) (omega arith) (omega (arith, e)))

has_list : (lists : List ValueList) (x s : List ℕ) → permits lists x s ≡ false → list_any (λ l. same l.name x) lists ≡ true
has_list [] x s h = absurd (false≢true (sym h))
has_list (l ∷ ls) x s h = elim (and_cases (not (same l.name x) || is_among l.words s) (permits ls x s) h) [
  | inl e ↦ or_left (same l.name x) (list_any (λ l. same l.name x) ls) (is_same_name (same l.name x) (is_among l.words s) e)
  | inr e ↦ or_right (same l.name x) (list_any (λ l. same l.name x) ls) (has_list ls x s e)
]
  where
    is_same_name : (a b : Bool) → (not a || b) ≡ false → a ≡ true
    is_same_name true b h = refl
    is_same_name false b h = absurd (false≢true (sym h))

list_fails : (a b : Bool) → a ≡ true → b ≡ false → (not a || b) ≡ false
list_fails true b h k = k
list_fails false b h k = absurd (false≢true h)

long_fails : (lists : List ValueList) (x : List ℕ) → list_any (λ l. same l.name x) lists ≡ true → (s : List ℕ) × (permits lists x s ≡ false)
long_fails [] x h = absurd (false≢true h)
long_fails (l ∷ ls) x h = elim (or_cases (same l.name x) (list_any (λ l. same l.name x) ls) h) [
  | inl e ↦ let s = long_word l.words in (
    s.0,
    and_left (not (same l.name x) || is_among l.words s.0) (permits ls x s.0)
        (list_fails (same l.name x) (is_among l.words s.0) e s.1),
  )
  | inr e ↦ let s = long_fails ls x e in (s.0, and_right (not (same l.name x) || is_among l.words s.0) (permits ls x s.0) s.1)
]

none_fails : (test : List ℕ → List ℕ → Bool) (out : List ℕ → Way → Bool) → ((x s : List ℕ) → test x s ≡ true) → ((x : List ℕ) (w : Way) → out x w ≡ false)
    → FailsIs test out
none_fails test out t f = record { low = λ x w s l h. absurd (false≢true (sym h ∙ t x s)); high = λ x w h. absurd (false≢true (sym (f x w) ∙ h)) }

pub fails_are : (r : Rule) (a : Atom) → FailsIs (passes r a) (fails r a)
fails_are r NotAllowed = record {
  low = λ x w s l h. and_from (not (allows r x)) (is_said w) (not_from_false (allows r x) h) (said_low w s l);
  high = λ x w h. let p = and_parts (not (allows r x)) (is_said w) h in let s = word_there w p.1 in (s.0, s.1, not-true (allows r x) p.0);
}
fails_are r OtherValue = record {
  low = λ x w s l h. elim (or_cases w.is_free (is_among w.words s) l) [
    | inl e ↦ or_left (w.is_free && list_any (λ l. same l.name x) r.values) _
        (and_from w.is_free (list_any (λ l. same l.name x) r.values) e (has_list r.values x s h))
    | inr e ↦ or_right (w.is_free && list_any (λ l. same l.name x) r.values) _
        (among_any (λ s. not (permits r.values x s)) w.words s e (not_from_false (permits r.values x s) h))
  ];
  high = λ x w h. elim (or_cases (w.is_free && list_any (λ l. same l.name x) r.values) (list_any (λ s. not (permits r.values x s)) w.words) h) [
    | inl e ↦ let p = and_parts w.is_free (list_any (λ l. same l.name x) r.values) e in let s = long_fails r.values x p.1 in
        (s.0, or_left w.is_free (is_among w.words s.0) p.0, s.1)
    | inr e ↦ let s = any_among (λ s. not (permits r.values x s)) w.words e in
        (s.0, or_right w.is_free (is_among w.words s.0) s.1, not-true (permits r.values x s.0) s.2)
  ];
}
fails_are r (Outside y vs) = record {
  low = λ x w s l h. elim (or_cases w.is_free (is_among w.words s) l) [
    | inl e ↦ or_left w.is_free _ e
    | inr e ↦ or_right w.is_free _ (among_any (λ s. not (is_among vs s)) w.words s e (not_from_false (is_among vs s) h))
  ];
  high = λ x w h. elim (or_cases w.is_free (list_any (λ s. not (is_among vs s)) w.words) h) [
    | inl e ↦ let s = long_word vs in (s.0, or_left w.is_free (is_among w.words s.0) e, s.1)
    | inr e ↦ let s = any_among (λ s. not (is_among vs s)) w.words e in (s.0, or_right w.is_free (is_among w.words s.0) s.1, not-true (is_among vs s.0) s.2)
  ];
}
fails_are r (Absent y) = none_fails (passes r (Absent y)) (fails r (Absent y)) (λ x s. refl) (λ x w. refl)
fails_are r BadChild = none_fails (passes r BadChild) (fails r BadChild) (λ x s. refl) (λ x w. refl)
fails_are r BadText = none_fails (passes r BadText) (fails r BadText) (λ x s. refl) (λ x w. refl)
fails_are r (Missing y) = none_fails (passes r (Missing y)) (fails r (Missing y)) (λ x s. refl) (λ x w. refl)
fails_are r (Crossing y z) = none_fails (passes r (Crossing y z)) (fails r (Crossing y z)) (λ x s. refl) (λ x w. refl)

-- nothing may fill a gap without a way
pub no_fails : (r : Rule) (a : Atom) (x : List ℕ) (g : ℕ) → fails r a x (no_way g) ≡ false
no_fails r NotAllowed x g = and-false (not (allows r x))
no_fails r OtherValue x g = refl
no_fails r (Absent y) x g = refl
no_fails r (Outside y vs) x g = refl
no_fails r BadChild x g = refl
no_fails r BadText x g = refl
no_fails r (Missing y) x g = refl
no_fails r (Crossing y z) x g = refl

pub longest_more : (ws : List (List ℕ)) (w : List ℕ) → longest (ws ++ w ∷ []) ≡ max (longest ws) (length w)
longest_more [] w = omega arith
longest_more (v ∷ ws) w = let h = longest_more ws w in omega (arith, h)
