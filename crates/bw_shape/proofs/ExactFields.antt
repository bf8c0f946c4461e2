-- The least tables have exactly the facts of the shape.
use Rattle.std.proofs.Common.{◌≡◌, inl, inr, ℕ, ◌+◌, ◌<◌, ◌≤◌, Bool, true, ◌||◌, not, List, length, get_or, nat_lt, refl, ap, sym, ◌∙◌, subst, arith}
use Rattle.std.proofs.lemmas.Bool.{or_cases, cases_Bool, or_left, or_right, and_parts, and_from, not-true}
use Rattle.std.proofs.lemmas.Bool.Decides.{nat_tests}
use Rattle.bw_lang.specs.Document.Forest.{Forest, none, text, gap, element}
use Rattle.bw_lang.specs.Document.Documents.{one_if}
use Rattle.bw_shape.specs.Rows.Rows.{at}
use Rattle.bw_shape.specs.Rows.Least.{Derivation, Derived, by, IsDerived, IsClosedAt}
use Rattle.bw_shape.specs.Nodes.Nodes.{Node, node_at, among, led, linked}
use Rattle.bw_shape.specs.Nodes.Fits.{Fits}
use Rattle.bw_sum.specs.Graph.{Graph}
use Rattle.bw_shape.specs.Tests as test
use Rattle.bw_shape.specs.Nodes.Nodes.{is_free}
use Rattle.bw_shape.specs.Tests.{is_field, tag_column}
use Rattle.bw_shape.specs.Nodes.Templates.{template_at}
use Rattle.bw_shape.specs.Follows.{have_follows, lack_follows, twice_follows}
use Rattle.bw_shape.specs.Shape as shape
use Rattle.bw_shape.specs.Shape.{Reached, along, Top, tagged, wordy, Gives, Has, Lacks, Places, Doubles, Misses, Crossing}
use Rattle.bw_shape.proofs.Links.{led_sound, led_whole, linked_sound, linked_whole}

-- what holds of each fact that follows from facts of which it holds, holds of all
pub derived_all : {width : ℕ} {follows : Derivation} (P : ℕ → ℕ → Type 0)
    → ((known : ℕ → ℕ → Bool) (n c : ℕ) → c < width → ((m d : ℕ) → known m d ≡ true → P m d) → follows known n c ≡ true → P n c)
    → {n c : ℕ} → Derived width follows n c → P n c
derived_all P step (by {n = n} {c = c} known k l f) = step known n c l (λ m d h. derived_all P step (k m d h)) f

module _ (templates : List Forest) {nodes : List Node} {G : Graph} (fits : Fits nodes G) (root : ℕ) (names : List (List ℕ)) where
  T : ℕ → Forest
  T n = get_or templates n none

  -- which templates may have a field
  pub have_sound : (table : List (List Bool)) → IsDerived (length names) (have_follows templates nodes names) table → (n f : ℕ)
      → at table n f ≡ true → Has (template_at templates) G names f n
  have_sound table d n f h =
      derived_all (λ n f. Has (template_at templates) G names f n)
      (λ known n f l k e. elim (or_cases (test.stands names f (template_at templates n)) (linked (node_at nodes n) (λ m. known m f)) e) [
        | inl it ↦ shape.stands_here it
        | inr it ↦ let r = linked_sound fits n (λ m. known m f) it in shape.leads r.2 (k r.1 f r.3)
      ]) (d n f h)

  pub have_whole : (table : List (List Bool)) → ((n : ℕ) → Reached G root n → IsClosedAt (length names) (have_follows templates nodes names) table n)
      → {f n : ℕ} → f < length names → Reached G root n → Has (template_at templates) G names f n → at table n f ≡ true
  have_whole table closed {f = f} {n = n} l w (shape.stands_here h) = closed n w f l (or_left _ (linked (node_at nodes n) (λ m. at table m f)) h)
  have_whole table closed {f = f} {n = n} l w (shape.leads {g = g} {m = m} e i) =
      closed n w f l (or_right (test.stands names f (template_at templates n)) _
      (linked_whole fits n g m (λ m. at table m f) e (have_whole table closed l (along w e) i)))

  -- a gap may be left open or said
  free_sound : {n g f : ℕ} {r : Forest} → is_free (node_at nodes n) g ≡ true → Lacks (template_at templates) G names f n r
      → Lacks (template_at templates) G names f n (gap g r)
  free_sound {n = n} {g = g} h rest = elim (or_cases (among (node_at nodes n).open_gaps g) (among (node_at nodes n).said g) h) [
    | inl it ↦ shape.left (sym (fits.tracks n g) ∙ it) rest
    | inr it ↦ let s = fits.said n g it in shape.said s.1 rest
  ]

  lacks_by : (n f : ℕ) (known : ℕ → Bool) → ((m : ℕ) → known m ≡ true → Lacks (template_at templates) G names f m (template_at templates m)) → (t : Forest)
      → test.lacks names (node_at nodes n) known f t ≡ true → Lacks (template_at templates) G names f n t
  lacks_by n f known k none h = shape.end
  lacks_by n f known k (text s r) h = shape.words (lacks_by n f known k r h)
  lacks_by n f known k (gap g r) h =
      let p = and_parts (is_free (node_at nodes n) g || led (node_at nodes n) known g) _ h in
      let rest = lacks_by n f known k r p.1 in
      elim (or_cases (is_free (node_at nodes n) g) (led (node_at nodes n) known g) p.0) [
        | inl it ↦ free_sound it rest
        | inr it ↦ let e = led_sound fits n g known it in shape.led e.1 (k e.0 e.2) rest
      ]
  lacks_by n f known k (element tag a i r) h =
      let p = and_parts (not (is_field names f tag a)) _ h in
      let q = and_parts (test.lacks names (node_at nodes n) known f i) _ p.1 in
      shape.inside (not-true _ p.0) (lacks_by n f known k i q.0) (lacks_by n f known k r q.1)

  pub lack_sound : (table : List (List Bool)) → IsDerived (length names) (lack_follows templates nodes names) table → (n f : ℕ) → at table n f ≡ true
      → Lacks (template_at templates) G names f n (template_at templates n)
  lack_sound table d n f h =
      derived_all (λ n f. Lacks (template_at templates) G names f n (template_at templates n))
      (λ known n f l k e. lacks_by n f (λ m. known m f) (λ m. k m f) (template_at templates n) e) (d n f h)

  pub lack_test : (table : List (List Bool)) → ((n : ℕ) → Reached G root n → IsClosedAt (length names) (lack_follows templates nodes names) table n)
      → {f n : ℕ} {t : Forest} → f < length names → Reached G root n → Lacks (template_at templates) G names f n t
      → test.lacks names (node_at nodes n) (λ m. at table m f) f t ≡ true
  lack_test table closed l w shape.end = refl
  lack_test table closed l w (shape.words r) = lack_test table closed l w r
  lack_test table closed l w (shape.inside e i r) = and_from _ _ (ap not e) (and_from _ _ (lack_test table closed l w i) (lack_test table closed l w r))
  lack_test table closed {f = f} {n = n} l w (shape.left {g = g} e r) =
      and_from _ _ (or_left _ (led (node_at nodes n) (λ m. at table m f) g) (or_left _ (among (node_at nodes n).said g) (fits.tracks n g ∙ e)))
      (lack_test table closed l w r)
  lack_test table closed {f = f} {n = n} l w (shape.said {g = g} {s = s} e r) =
      and_from _ _ (or_left _ (led (node_at nodes n) (λ m. at table m f) g) (or_right (among (node_at nodes n).open_gaps g) _ (fits.saying n g s e)))
      (lack_test table closed l w r)
  lack_test table closed {f = f} {n = n} l w (shape.led {g = g} {m = m} e i r) =
      and_from _ _ (or_right (is_free (node_at nodes n) g) _
      (led_whole fits n g m (λ m. at table m f) e (closed m (along w e) f l (lack_test table closed l (along w e) i)))) (lack_test table closed l w r)

  pub lack_whole : (table : List (List Bool)) → ((n : ℕ) → Reached G root n → IsClosedAt (length names) (lack_follows templates nodes names) table n)
      → (n f : ℕ) → f < length names → Reached G root n → Lacks (template_at templates) G names f n (template_at templates n) → at table n f ≡ true
  lack_whole table closed n f l w h = closed n w f l (lack_test table closed l w h)

  -- the numbers of places
  places_by : (n f : ℕ) (have : ℕ → Bool) → ((m : ℕ) → have m ≡ true → Has (template_at templates) G names f m) → (t : Forest)
      → Places (template_at templates) G names f n t (test.places names (node_at nodes n) have f t)
  places_by n f have k none = shape.end
  places_by n f have k (text s r) = shape.words (places_by n f have k r)
  places_by n f have k (gap g r) = elim (cases_Bool (led (node_at nodes n) have g)) [
    | inl it ↦ let e = led_sound fits n g have it in
        subst (λ b. Places (template_at templates) G names f n (gap g r) (one_if b + test.places names (node_at nodes n) have f r)) (sym it)
        (shape.led e.1 (k e.0 e.2) (places_by n f have k r))
    | inr isnt ↦
        subst (λ b. Places (template_at templates) G names f n (gap g r) (one_if b + test.places names (node_at nodes n) have f r)) (sym isnt)
        (subst (λ j. Places (template_at templates) G names f n (gap g r) j) (zero_more _) (shape.passed (places_by n f have k r)))
  ]
    where
      zero_more : (j : ℕ) → j ≡ 0 + j
      zero_more j = omega arith
  places_by n f have k (element tag a i r) =
      let P = λ (b : Bool). Places (template_at templates) G names f n (element tag a i r)
      (one_if b + (test.places names (node_at nodes n) have f i + test.places names (node_at nodes n) have f r)) in
      elim (cases_Bool (is_field names f tag a)) [
        | inl it ↦ subst P (sym it) (shape.control it (places_by n f have k i) (places_by n f have k r))
        | inr isnt ↦ subst P (sym isnt)
            (subst (λ j. Places (template_at templates) G names f n (element tag a i r) j) (zero_more _)
            (shape.other (places_by n f have k i) (places_by n f have k r)))
      ]
    where
      zero_more : (j : ℕ) → j ≡ 0 + j
      zero_more j = omega arith

  two_less : (k : ℕ) → nat_lt 1 k ≡ true → 2 ≤ k
  two_less k h = grind (arith, nat_tests)

  less_two : (k : ℕ) → 2 ≤ k → nat_lt 1 k ≡ true
  less_two k h = grind (arith, nat_tests)

  pub twice_sound : (have table : List (List Bool)) → IsDerived (length names) (have_follows templates nodes names) have
      → IsDerived (length names) (twice_follows templates nodes names (at have)) table
      → (n f : ℕ) → at table n f ≡ true → Doubles (template_at templates) G names f n
  twice_sound have table known d n f h =
      derived_all (λ n f. Doubles (template_at templates) G names f n)
      (λ known2 n f l k e. elim (or_cases (nat_lt 1 (test.places names (node_at nodes n) (λ m. at have m f) f (template_at templates n)))
      (linked (node_at nodes n) (λ m. known2 m f)) e) [
        | inl it ↦ shape.two (places_by n f (λ m. at have m f) (λ m. have_sound have known m f) (template_at templates n)) (two_less _ it)
        | inr it ↦ let r = linked_sound fits n (λ m. known2 m f) it in shape.leads r.2 (k r.1 f r.3)
      ]) (d n f h)

  module _ (have : List (List Bool)) (have_closed : (n : ℕ) → Reached G root n → IsClosedAt (length names) (have_follows templates nodes names) have n) where
    -- no more places than the test counts
    pub places_most : {f n : ℕ} {t : Forest} {k : ℕ} → f < length names → Reached G root n → Places (template_at templates) G names f n t k
        → k ≤ test.places names (node_at nodes n) (λ m. at have m f) f t
    places_most l w shape.end = omega arith
    places_most l w (shape.words r) = places_most l w r
    places_most {f = f} {n = n} l w (shape.control {tag = tag} {a = a} e i r) = let p = places_most l w i in let q = places_most l w r in
        let o = ap one_if e in omega (arith, p, q, o)
    places_most l w (shape.other i r) = let p = places_most l w i in let q = places_most l w r in omega (arith, p, q)
    places_most l w (shape.passed r) = let q = places_most l w r in omega (arith, q)
    places_most {f = f} {n = n} l w (shape.led {g = g} {m = m} e h r) =
        let q = places_most l w r in
        let o = ap one_if (led_whole fits n g m (λ m. at have m f) e (have_whole have have_closed l (along w e) h)) in
        omega (arith, q, o)

    pub twice_whole : (table : List (List Bool))
        → ((n : ℕ) → Reached G root n → IsClosedAt (length names) (twice_follows templates nodes names (at have)) table n)
        → {f n : ℕ} → f < length names → Reached G root n → Doubles (template_at templates) G names f n → at table n f ≡ true
    twice_whole table closed {f = f} {n = n} l w (shape.two p h) =
        let q = places_most l w p in
        closed n w f l (or_left _ (linked (node_at nodes n) (λ m. at table m f)) (less_two _ (omega (arith, h, q))))
    twice_whole table closed {f = f} {n = n} l w (shape.leads {g = g} {m = m} e i) =
        closed n w f l (or_right (nat_lt 1 (test.places names (node_at nodes n) (λ m. at have m f) f (template_at templates n))) _
        (linked_whole fits n g m (λ m. at table m f) e (twice_whole table closed l (along w e) i)))
