-- The strings that may stand at a gap, and the attributes that they give.
use Rattle.std.proofs.Common.{◌≡◌, ◌⊎◌, inl, inr, ℕ, zero, suc, ◌<◌, ◌==◌, max, Bool, true, false, ◌||◌, ◌&&◌, not, List, [], ◌∷◌, length, refl, ap, sym, ◌∙◌}
use Rattle.std.proofs.Common.{arith}
use Rattle.std.specs.List.{list_any, Contains}
use Rattle.std.proofs.lemmas.Bool.{false≢true, cases_Bool, or_cases, or_left, or_right, and_parts, and_from, or_parts, not-true, not-false}
use Rattle.std.proofs.lemmas.Slice.Eq.{bytes_eq-Decides}
use Rattle.bw_lang.specs.declared.items.Attr.{Attr}
use Rattle.bw_lang.specs.declared.items.AttrValue.{AttrValue}
use Rattle.bw_lang.specs.declared.items.AttrValue.TheVariants.{Fixed, Hole}
use Rattle.bw_lang.specs.Table.Names.{same}
use Rattle.bw_strings.specs.declared.strings.StrSet.{StrSet}
use Rattle.bw_strings.specs.declared.strings.StrSet.TheVariants.{Any, Of}
use Rattle.bw_schema.specs.declared.rules.ValueList.{ValueList}
use Rattle.bw_schema.specs.Words.{is_among}
use Rattle.bw_schema.specs.Rules.{permits}
use Rattle.bw_sum.specs.Graph.{Graph}
use Rattle.bw_shape.proofs.Nodes.Bools.{fails_at, passes_at, all_at, any_at, same_itself}
use Rattle.bw_strings.specs.Asking.{text_of, has_string}
use Rattle.bw_judge.specs.Scene.{Scene, is_within, is_told, is_loose, is_kept, is_permitted, has_attr, may_be_absent}
use Rattle.bw_judge.specs.Pages.{IsScene}
use Rattle.bw_judge.specs.Faults as fault
use Rattle.bw_judge.specs.Faults.{MayBe, IsSureValue, SureAttr, SureOne}
use Rattle.bw_judge.specs.Sure.{is_there, is_there_with}

-- longer than each word
longest : List (List ℕ) → ℕ
longest [] = 0
longest (w ∷ ws) = max (length w) (longest ws)

zeros : ℕ → List ℕ
zeros zero = []
zeros (suc n) = 0 ∷ zeros n

zeros_length : (n : ℕ) → length (zeros n) ≡ n
unfolding zeros
zeros_length zero = refl
zeros_length (suc n) = ap suc (zeros_length n)

not_there : (ws : List (List ℕ)) (s : List ℕ) → longest ws < length s → is_among ws s ≡ false
unfolding longest
not_there [] s h = refl
not_there (w ∷ ws) s h = elim (cases_Bool (same w s)) [
  | inl it ↦ let e = ap length ((bytes_eq-Decides w s).0 it) in absurd (omega (arith, e, h))
  | inr isnt ↦ ap (λ b. b || is_among ws s) isnt ∙ not_there ws s (omega (arith, h))
]

-- a set that isn't within a list has a string that isn't in the list
outside : (literals words : List (List ℕ)) (S : StrSet) → is_within literals words S ≡ false
    → (s : List ℕ) × (has_string literals S s ≡ true) × (is_among words s ≡ false)
outside literals words Any h =
    (zeros (suc (longest words)), refl, not_there words (zeros (suc (longest words))) (let e = zeros_length (suc (longest words)) in omega (arith, e)))
outside literals words (Of ns) h =
    let r = fails_at (λ n. is_among words (text_of literals n)) ns h in
    (text_of literals r.0, any_at (λ n. same (text_of literals n) (text_of literals r.0)) ns r.0 r.1 (same_itself (text_of literals r.0)), r.2)

inside : (literals words : List (List ℕ)) (S : StrSet) → is_within literals words S ≡ true → (s : List ℕ)
    → has_string literals S s ≡ true → is_among words s ≡ true
inside literals words Any h s k = absurd (false≢true h)
inside literals words (Of ns) h s k =
    let r = passes_at (λ n. same (text_of literals n) s) ns k in
    ap (is_among words) (sym ((bytes_eq-Decides (text_of literals r.0) s).0 r.2)) ∙ all_at (λ n. is_among words (text_of literals n)) ns r.0 r.1 h

module _ (G : Graph) (n : ℕ) (s : Scene) (sees : IsScene G n s) where
  pub told_to : (v : AttrValue) → is_told s v ≡ true → (w : List ℕ) × MayBe G n v w
  told_to (Fixed v) h = (v, fault.fixed)
  told_to (Hole g) h = let r = sees.told g h in (r.0, fault.said r.1)

  pub told_from : {v : AttrValue} {w : List ℕ} → MayBe G n v w → is_told s v ≡ true
  told_from fault.fixed = refl
  told_from (fault.said {g = g} {v = v} l) = sees.telling g v l

  pub kept_to : (words : List (List ℕ)) {v : AttrValue} {w : List ℕ} → MayBe G n v w → is_kept s words v ≡ true → is_among words w ≡ true
  kept_to words fault.fixed h = h
  kept_to words (fault.said {g = g} {v = w} l) h =
      let r = passes_at (λ l. (l.0 == g) && has_string s.literals l.1 w) s.said (sym (sees.strings g w) ∙ l) in
      let p = and_parts (r.0.0 == g) (has_string s.literals r.0.1 w) r.2 in
      let q = all_at (λ l. not (l.0 == g) || is_within s.literals words l.1) s.said r.0 r.1 h in
      inside s.literals words r.0.1 (sym (ap (λ b. not b || is_within s.literals words r.0.1) p.0) ∙ q) w p.1

  pub kept_from : (words : List (List ℕ)) (v : AttrValue) → is_kept s words v ≡ false → (w : List ℕ) × MayBe G n v w × (is_among words w ≡ false)
  kept_from words (Fixed v) h = (v, fault.fixed, h)
  kept_from words (Hole g) h =
      let r = fails_at (λ l. not (l.0 == g) || is_within s.literals words l.1) s.said h in
      let p = or_parts (not (r.0.0 == g)) (is_within s.literals words r.0.1) r.2 in
      let o = outside s.literals words r.0.1 p.1 in (
        o.0,
        fault.said (sees.strings g o.0
            ∙ any_at (λ l. (l.0 == g) && has_string s.literals l.1 o.0) s.said r.0 r.1 (and_from _ _ (not-false _ p.0) o.1)),
        o.2,
      )

  pub permitted_to : (lists : List ValueList) (a : Attr) {w : List ℕ} → MayBe G n a.value w → is_permitted s lists a ≡ true → permits lists a.name w ≡ true
  permitted_to [] a m h = refl
  permitted_to (l ∷ lists) a {w = w} m h =
      let p = and_parts (not (same l.name a.name) || is_kept s l.words a.value) (is_permitted s lists a) h in
      and_from _ _ (elim (or_cases (not (same l.name a.name)) (is_kept s l.words a.value) p.0) [
        | inl it ↦ or_left (not (same l.name a.name)) (is_among l.words w) it
        | inr it ↦ or_right (not (same l.name a.name)) (is_among l.words w) (kept_to l.words m it)
      ]) (permitted_to lists a m p.1)

  first_false : (a b : Bool) → a ≡ false → (a && b) ≡ false
  first_false true b h = absurd (false≢true (sym h))
  first_false false b h = refl

  second_false : (a b : Bool) → b ≡ false → (a && b) ≡ false
  second_false true b h = h
  second_false false b h = refl

  both_false : (a b : Bool) → a ≡ false → b ≡ false → (a || b) ≡ false
  both_false true b h k = absurd (false≢true (sym h))
  both_false false b h k = k

  pub permitted_from : (lists : List ValueList) (a : Attr) → is_permitted s lists a ≡ false
      → (w : List ℕ) × MayBe G n a.value w × (permits lists a.name w ≡ false)
  permitted_from [] a h = absurd (false≢true (sym h))
  permitted_from (l ∷ lists) a h = elim (cases_Bool (not (same l.name a.name) || is_kept s l.words a.value)) [
    | inl it ↦
        let r = permitted_from lists a (sym (ap (λ b. b && is_permitted s lists a) it) ∙ h) in
        (r.0, r.1, second_false (not (same l.name a.name) || is_among l.words r.0) (permits lists a.name r.0) r.2)
    | inr isnt ↦
        let p = or_parts (not (same l.name a.name)) (is_kept s l.words a.value) isnt in
        let r = kept_from l.words a.value p.1 in
        (r.0, r.1, first_false (not (same l.name a.name) || is_among l.words r.0) (permits lists a.name r.0) (both_false _ _ p.0 r.2))
  ]

  loose_hole : (v : AttrValue) → is_loose s v ≡ true → (g : ℕ) × (v ≡ Hole g) × (G.track g n ≡ true)
  loose_hole (Fixed v) h = absurd (false≢true h)
  loose_hole (Hole g) h = (g, refl, sym (sees.left g) ∙ h)

  hole_loose : (v : AttrValue) (g : ℕ) → v ≡ Hole g → G.track g n ≡ true → is_loose s v ≡ true
  hole_loose v g e h = ap (is_loose s) e ∙ sees.left g ∙ h

  sure_value : (v : AttrValue) → is_loose s v ≡ false → IsSureValue G n v
  sure_value (Fixed v) h = tt
  sure_value (Hole g) h = sym (sees.left g) ∙ h

  value_sure : (v : AttrValue) → IsSureValue G n v → is_loose s v ≡ false
  value_sure (Fixed v) h = refl
  value_sure (Hole g) h = sees.left g ∙ h

  pub absent_to : (attrs : List Attr) (x : List ℕ) → may_be_absent s attrs x ≡ true
      → (has_attr attrs x ≡ false) ⊎ ((a : Attr) × (g : ℕ) × Contains attrs a × (same a.name x ≡ true) × (a.value ≡ Hole g) × (G.track g n ≡ true))
  absent_to attrs x h = elim (or_cases (not (has_attr attrs x)) _ h) [
    | inl it ↦ inl (not-true _ it)
    | inr it ↦
        let r = passes_at (λ a. same a.name x && is_loose s a.value) attrs it in
        let p = and_parts (same r.0.name x) (is_loose s r.0.value) r.2 in
        let q = loose_hole r.0.value p.1 in
        inr (r.0, q.0, r.1, p.0, q.1, q.2)
  ]

  pub absent_from : (attrs : List Attr) (x : List ℕ) → has_attr attrs x ≡ false → may_be_absent s attrs x ≡ true
  absent_from attrs x h = or_left (not (has_attr attrs x)) (list_any (λ a. same a.name x && is_loose s a.value) attrs) (ap not h)

  pub unsure_from : (attrs : List Attr) (x : List ℕ) (a : Attr) (g : ℕ) → Contains attrs a → same a.name x ≡ true → a.value ≡ Hole g
      → G.track g n ≡ true → may_be_absent s attrs x ≡ true
  unsure_from attrs x a g c e is l =
      or_right (not (has_attr attrs x)) (list_any (λ a. same a.name x && is_loose s a.value) attrs)
      (any_at (λ a. same a.name x && is_loose s a.value) attrs a c (and_from _ _ e (hole_loose a.value g is l)))

  pub there_to : (attrs : List Attr) (x : List ℕ) → is_there s attrs x ≡ true → SureAttr G n attrs x
  there_to attrs x h =
      let r = passes_at (λ a. same a.name x && not (is_loose s a.value)) attrs h in
      let p = and_parts (same r.0.name x) (not (is_loose s r.0.value)) r.2 in
      (r.0, r.1, p.0, sure_value r.0.value (not-true _ p.1))

  pub there_from : (attrs : List Attr) (x : List ℕ) → SureAttr G n attrs x → is_there s attrs x ≡ true
  there_from attrs x h = any_at (λ a. same a.name x && not (is_loose s a.value)) attrs h.0 h.1 (and_from _ _ h.2 (ap not (value_sure h.0.value h.3)))

  pub there_with_to : (attrs : List Attr) (x : List ℕ) (vs : List (List ℕ)) → is_there_with s attrs x vs ≡ true → SureOne G n attrs x vs
  there_with_to attrs x vs h =
      let r = passes_at (λ a. same a.name x && (not (is_loose s a.value) && is_kept s vs a.value)) attrs h in
      let p = and_parts (same r.0.name x) (not (is_loose s r.0.value) && is_kept s vs r.0.value) r.2 in
      let q = and_parts (not (is_loose s r.0.value)) (is_kept s vs r.0.value) p.1 in
      (r.0, r.1, p.0, sure_value r.0.value (not-true _ q.0), λ v m. kept_to vs m q.1)

  all_kept : (vs : List (List ℕ)) (v : AttrValue) → ((w : List ℕ) → MayBe G n v w → is_among vs w ≡ true) → is_kept s vs v ≡ true
  all_kept vs v h = elim (cases_Bool (is_kept s vs v)) [
    | inl it ↦ it
    | inr isnt ↦ let r = kept_from vs v isnt in absurd (false≢true (sym r.2 ∙ h r.0 r.1))
  ]

  pub there_with_from : (attrs : List Attr) (x : List ℕ) (vs : List (List ℕ)) → SureOne G n attrs x vs → is_there_with s attrs x vs ≡ true
  there_with_from attrs x vs h =
      any_at (λ a. same a.name x && (not (is_loose s a.value) && is_kept s vs a.value)) attrs h.0 h.1
      (and_from _ _ h.2 (and_from _ _ (ap not (value_sure h.0.value h.3)) (all_kept vs h.0.value h.4)))
