-- The least tables have exactly the facts on what stands at the top.
use Rattle.std.proofs.Common.{◌≡◌, inl, inr, ℕ, suc, ◌+◌, ◌<◌, ◌≤◌, ◌==◌, Bool, true, false, ◌||◌, ◌&&◌, not, List, length, get_or, refl, ap, sym, ◌∙◌, subst}
use Rattle.std.proofs.Common.{arith}
use Rattle.std.proofs.lemmas.Bool.{false≢true, or_cases, cases_Bool, or_left, or_right, and_parts, and_from, not-true}
use Rattle.std.proofs.lemmas.Slice.Eq.{bytes_eq-Decides}
use borrow.Author.Tests.{eqb-true, eq-eqb}
use Rattle.bw_lang.specs.Document.Forest.{Forest, none, text, gap, element}
use Rattle.bw_lang.specs.Table.Names.{name_number, same}
use Rattle.bw_shape.specs.Rows.Rows.{at}
use Rattle.bw_shape.specs.Rows.Least.{IsDerived, IsClosedAt}
use Rattle.bw_shape.specs.Nodes.Nodes.{Node, node_at, among, led}
use Rattle.bw_shape.specs.Nodes.Fits.{Fits}
use Rattle.bw_sum.specs.Graph.{Graph}
use Rattle.bw_shape.specs.Tests as test
use Rattle.bw_lang.specs.Text.Bytes.{is_blank_text}
use Rattle.bw_shape.specs.Nodes.Nodes.{is_free}
use Rattle.bw_shape.specs.Tests.{tag_column}
use Rattle.bw_shape.specs.Nodes.Templates.{template_at}
use Rattle.bw_shape.specs.Follows.{top_follows, miss_follows, cross_follows}
use Rattle.bw_shape.specs.Shape as shape
use Rattle.bw_shape.specs.Shape.{Reached, along, Top, tagged, wordy, Gives, Misses, Crossing}
use Rattle.bw_shape.specs.Columns.{top_column, AreKnown}
use Rattle.bw_shape.proofs.Links.{led_sound, led_whole, same_number}
use Rattle.bw_shape.proofs.ExactFields.{derived_all}

-- the tag of a column
tag_is : (tags : List (List ℕ)) (tag : List ℕ) (x : Top) → top_column tags x < length tags + 1 → tag_column tags tag ≡ top_column tags x → x ≡ tagged tag
tag_is tags tag wordy l e = absurd (omega (arith, e))
tag_is tags tag (tagged y) l e = ap tagged (sym (same_number tags tag y (omega (arith, l)) (omega (arith, e))))

text_is : (tags : List (List ℕ)) (x : Top) → 0 ≡ top_column tags x → x ≡ wordy
text_is tags wordy e = refl
text_is tags (tagged y) e = absurd (omega (arith, e))

module _ (templates : List Forest) {nodes : List Node} {G : Graph} (fits : Fits nodes G) (root : ℕ) (tags : List (List ℕ)) where
  pub gives_by : (n : ℕ) (x : Top) (known : ℕ → Bool) → top_column tags x < length tags + 1
      → ((m : ℕ) → known m ≡ true → Gives (template_at templates) G m (template_at templates m) x) → (t : Forest)
      → test.gives tags (node_at nodes n) known (top_column tags x) t ≡ true → Gives (template_at templates) G n t x
  gives_by n x known l k none h = absurd (false≢true h)
  gives_by n x known l k (text s r) h = elim (or_cases ((0 == top_column tags x) && not (is_blank_text s)) _ h) [
    | inl it ↦ let p = and_parts (0 == top_column tags x) (not (is_blank_text s)) it in
        subst (λ y. Gives (template_at templates) G n (text s r) y)
        (sym (text_is tags x (eqb-true 0 (top_column tags x) p.0))) (shape.text_here (not-true _ p.1))
    | inr it ↦ shape.after_text (gives_by n x known l k r it)
  ]
  gives_by n x known l k (gap g r) h = elim (or_cases (((0 == top_column tags x) && among (node_at nodes n).wordy g) || led (node_at nodes n) known g) _ h) [
    | inl it ↦ elim (or_cases ((0 == top_column tags x) && among (node_at nodes n).wordy g) (led (node_at nodes n) known g) it) [
      | inl here ↦ let p = and_parts (0 == top_column tags x) (among (node_at nodes n).wordy g) here in
          let s = fits.wordy n g p.1 in
          subst (λ y. Gives (template_at templates) G n (gap g r) y) (sym (text_is tags x (eqb-true 0 (top_column tags x) p.0))) (shape.said s.1 s.2)
      | inr there ↦ let e = led_sound fits n g known there in shape.led e.1 (k e.0 e.2)
    ]
    | inr it ↦ shape.after_gap (gives_by n x known l k r it)
  ]
  gives_by n x known l k (element tag a i r) h = elim (or_cases (tag_column tags tag == top_column tags x) _ h) [
    | inl it ↦ subst (λ y. Gives (template_at templates) G n (element tag a i r) y)
        (sym (tag_is tags tag x l (eqb-true (tag_column tags tag) (top_column tags x) it))) shape.element_here
    | inr it ↦ shape.after_element (gives_by n x known l k r it)
  ]

  -- the tables of tops hold of each top of the column
  abbrev TopAt : ℕ → ℕ → Type 0
  TopAt n c = (x : Top) → top_column tags x ≡ c → Gives (template_at templates) G n (template_at templates n) x

  pub tops_sound : (table : List (List Bool)) → IsDerived (length tags + 1) (top_follows templates nodes tags) table
      → (n : ℕ) (x : Top) → at table n (top_column tags x) ≡ true
      → Gives (template_at templates) G n (template_at templates n) x
  tops_sound table d n x h =
      derived_all TopAt (λ known n c l k e x is.
      gives_by n x (λ m. known m (top_column tags x)) (subst (λ j. j < length tags + 1) (sym is) l)
      (λ m r. k m (top_column tags x) r x refl) (template_at templates n)
      (subst (λ j. test.gives tags (node_at nodes n) (λ m. known m j) j (template_at templates n) ≡ true) (sym is) e))
      (d n (top_column tags x) h) x refl

  module _ (known : (n : ℕ) → Reached G root n → AreKnown tags (template_at templates n)) where
    abbrev pub InTops : List (List Bool) → ℕ → Forest → Top → Type 0
    InTops table n t x = (top_column tags x < length tags + 1)
        × (test.gives tags (node_at nodes n) (λ m. at table m (top_column tags x)) (top_column tags x) t ≡ true)

    pub tops_test : (table : List (List Bool)) → ((n : ℕ) → Reached G root n → IsClosedAt (length tags + 1) (top_follows templates nodes tags) table n)
        → {x : Top} {n : ℕ} {t : Forest} → Reached G root n → AreKnown tags t → Gives (template_at templates) G n t x → InTops table n t x
    tops_test table closed {n = n} w a (shape.element_here {tag = tag} {r = r}) = (
      omega (arith, a.0),
      or_left _ (test.gives tags (node_at nodes n) (λ m. at table m (tag_column tags tag)) (tag_column tags tag) r)
          (eq-eqb (tag_column tags tag) (tag_column tags tag) refl),
    )
    tops_test table closed {n = n} w a (shape.text_here {s = s} {r = r} e) =
        (omega arith, or_left _ (test.gives tags (node_at nodes n) (λ m. at table m 0) 0 r) (ap not e))
    tops_test table closed {n = n} w a (shape.said {g = g} {s = s} {r = r} l e) = (
      omega arith,
      or_left _ (test.gives tags (node_at nodes n) (λ m. at table m 0) 0 r)
          (or_left _ (led (node_at nodes n) (λ m. at table m 0) g) (fits.wording n g s l e)),
    )
    tops_test table closed {x = x} {n = n} w a (shape.led {g = g} {m = m} {r = r} e i) =
        let c = top_column tags x in
        let q = tops_test table closed (along w e) (known m (along w e)) i in (
          q.0,
          or_left _ (test.gives tags (node_at nodes n) (λ m. at table m c) c r)
              (or_right ((0 == c) && among (node_at nodes n).wordy g) _ (led_whole fits n g m (λ m. at table m c) e (closed m (along w e) c q.0 q.1))),
        )
    tops_test table closed {x = x} w a (shape.after_text {s = s} i) = let q = tops_test table closed w a i in
        (q.0, or_right ((0 == top_column tags x) && not (is_blank_text s)) _ q.1)
    tops_test table closed {x = x} {n = n} w a (shape.after_gap {g = g} i) =
        let q = tops_test table closed w a i in
        let c = top_column tags x in
        (q.0, or_right (((0 == c) && among (node_at nodes n).wordy g) || led (node_at nodes n) (λ m. at table m c) g) _ q.1)
    tops_test table closed {x = x} w a (shape.after_element {tag = tag} i) = let q = tops_test table closed w a.1.1 i in
        (q.0, or_right (tag_column tags tag == top_column tags x) _ q.1)

    pub tops_whole : (table : List (List Bool)) → ((n : ℕ) → Reached G root n → IsClosedAt (length tags + 1) (top_follows templates nodes tags) table n)
        → (n : ℕ) (x : Top) → Reached G root n → Gives (template_at templates) G n (template_at templates n) x → at table n (top_column tags x) ≡ true
    tops_whole table closed n x w h = let q = tops_test table closed w (known n w) h in closed n w (top_column tags x) q.0 q.1

  -- which tags a template may have none of: the columns below a number are those of the tags of these numbers
  same_is : (x tag : List ℕ) → same tag x ≡ false → name_number tags x < length tags → (name_number tags tag == name_number tags x) ≡ false
  same_is x tag h l = elim (cases_Bool (name_number tags tag == name_number tags x)) [
    | inl it ↦ absurd (false≢true (sym h ∙ (bytes_eq-Decides tag x).1 (same_number tags tag x l (eqb-true (name_number tags tag) (name_number tags x) it))))
    | inr isnt ↦ isnt
  ]

  number_is : (x tag : List ℕ) → (name_number tags tag == name_number tags x) ≡ false → same tag x ≡ false
  number_is x tag h = elim (cases_Bool (same tag x)) [
    | inl it ↦ absurd (false≢true (sym h ∙ eq-eqb (name_number tags tag) (name_number tags x) (ap (name_number tags) ((bytes_eq-Decides tag x).0 it))))
    | inr isnt ↦ isnt
  ]

  pub miss_by : (n : ℕ) (x : List ℕ) (known : ℕ → Bool)
      → ((m : ℕ) → known m ≡ true → Misses (template_at templates) G x m (template_at templates m)) → (t : Forest)
      → test.misses tags (node_at nodes n) known (name_number tags x) t ≡ true → Misses (template_at templates) G x n t
  miss_by n x known k none h = shape.end
  miss_by n x known k (text s r) h = shape.words (miss_by n x known k r h)
  miss_by n x known k (gap g r) h =
      let p = and_parts (is_free (node_at nodes n) g || led (node_at nodes n) known g) _ h in
      let rest = miss_by n x known k r p.1 in
      elim (or_cases (is_free (node_at nodes n) g) (led (node_at nodes n) known g) p.0) [
        | inl it ↦ elim (or_cases (among (node_at nodes n).open_gaps g) (among (node_at nodes n).said g) it) [
          | inl open_it ↦ shape.left (sym (fits.tracks n g) ∙ open_it) rest
          | inr said_it ↦ let s = fits.said n g said_it in shape.said s.1 rest
        ]
        | inr it ↦ let e = led_sound fits n g known it in shape.led e.1 (k e.0 e.2) rest
      ]
  miss_by n x known k (element tag a i r) h =
      let p = and_parts (not (name_number tags tag == name_number tags x)) _ h in
      shape.other (number_is x tag (not-true _ p.0)) (miss_by n x known k r p.1)

  abbrev MissAt : ℕ → ℕ → Type 0
  MissAt n c = (x : List ℕ) → name_number tags x ≡ c → Misses (template_at templates) G x n (template_at templates n)

  pub miss_sound : (first : ℕ) (table : List (List Bool)) → IsDerived first (miss_follows templates nodes tags) table
      → (n : ℕ) (x : List ℕ) → at table n (name_number tags x) ≡ true
      → Misses (template_at templates) G x n (template_at templates n)
  miss_sound first table d n x h =
      derived_all MissAt (λ known n c l k e x is.
      miss_by n x (λ m. known m (name_number tags x)) (λ m r. k m (name_number tags x) r x refl) (template_at templates n)
      (subst (λ j. test.misses tags (node_at nodes n) (λ m. known m j) j (template_at templates n) ≡ true) (sym is) e))
      (d n (name_number tags x) h) x refl

  module _ (first : ℕ) (few : first ≤ length tags) (table : List (List Bool))
      (closed : (n : ℕ) → Reached G root n → IsClosedAt first (miss_follows templates nodes tags) table n) where
    pub miss_test : {x : List ℕ} {n : ℕ} {t : Forest} → name_number tags x < first → Reached G root n → Misses (template_at templates) G x n t
        → test.misses tags (node_at nodes n) (λ m. at table m (name_number tags x)) (name_number tags x) t ≡ true
    miss_test l w shape.end = refl
    miss_test l w (shape.words r) = miss_test l w r
    miss_test {x = x} l w (shape.other {tag = tag} e r) = and_from _ _ (ap not (same_is x tag e (omega (arith, l, few)))) (miss_test l w r)
    miss_test {x = x} {n = n} l w (shape.left {g = g} e r) =
        and_from _ _ (or_left _ (led (node_at nodes n) (λ m. at table m (name_number tags x)) g)
        (or_left _ (among (node_at nodes n).said g) (fits.tracks n g ∙ e))) (miss_test l w r)
    miss_test {x = x} {n = n} l w (shape.said {g = g} {s = s} e r) =
        and_from _ _ (or_left _ (led (node_at nodes n) (λ m. at table m (name_number tags x)) g)
        (or_right (among (node_at nodes n).open_gaps g) _ (fits.saying n g s e))) (miss_test l w r)
    miss_test {x = x} {n = n} l w (shape.led {g = g} {m = m} e i r) =
        and_from _ _
        (or_right (is_free (node_at nodes n) g) _
        (led_whole fits n g m (λ m. at table m (name_number tags x)) e (closed m (along w e) (name_number tags x) l (miss_test l (along w e) i))))
        (miss_test l w r)

    pub miss_whole : (n : ℕ) (x : List ℕ) → name_number tags x < first → Reached G root n → Misses (template_at templates) G x n (template_at templates n)
        → at table n (name_number tags x) ≡ true
    miss_whole n x l w h = closed n w (name_number tags x) l (miss_test l w h)

  -- which tags may stand before others
  abbrev pub ofPair : List ℕ → List ℕ → ℕ × ℕ
  ofPair y x = (tag_column tags y, tag_column tags x)

  module _ (tops : List (List Bool)) (tops_are : IsDerived (length tags + 1) (top_follows templates nodes tags) tops) where
    -- the part gives the tag, as the table of tops says
    pub gives_tag : (n : ℕ) (x : List ℕ) → name_number tags x < length tags → (t : Forest)
        → test.gives tags (node_at nodes n) (λ m. at tops m (tag_column tags x)) (tag_column tags x) t ≡ true
        → Gives (template_at templates) G n t (tagged x)
    gives_tag n x l t h = gives_by n (tagged x) (λ m. at tops m (tag_column tags x)) (omega (arith, l)) (λ m r. tops_sound tops tops_are m (tagged x) r) t h

    zero_not : (k : ℕ) (b : Bool) → ((0 == suc k) && b) ≡ true → ⊥
    zero_not k b h = let p = and_parts (0 == suc k) b h in let e : 0 ≡ suc k = eqb-true 0 (suc k) p.0 in omega (arith, e)

    or_none : (b : Bool) → (b || false) ≡ true → b ≡ true
    or_none true h = refl
    or_none false h = h

    pub cross_by : (n : ℕ) (x y : List ℕ) (known : ℕ → Bool) → name_number tags x < length tags → name_number tags y < length tags
        → ((m : ℕ) → known m ≡ true → Crossing (template_at templates) G x y m (template_at templates m)) → (t : Forest)
        → test.crosses tags (node_at nodes n) (at tops) known (ofPair y x) t ≡ true → Crossing (template_at templates) G x y n t
    cross_by n x y known l m k none h = absurd (false≢true h)
    cross_by n x y known l m k (text s r) h =
        elim (or_cases (test.gives tags (node_at nodes n) (λ m. at tops m (tag_column tags y)) (tag_column tags y) (text s none) && _) _ h) [
          | inl it ↦ let p = and_parts (test.gives tags (node_at nodes n) (λ m. at tops m (tag_column tags y)) (tag_column tags y) (text s none)) _ it in
              absurd (zero_not (name_number tags y) (not (is_blank_text s)) (or_none _ p.0))
          | inr it ↦ shape.after_text (cross_by n x y known l m k r it)
        ]
    cross_by n x y known l m k (gap g r) h =
        elim (or_cases (led (node_at nodes n) known g
        || (test.gives tags (node_at nodes n) (λ m. at tops m (tag_column tags y)) (tag_column tags y) (gap g none) && _)) _ h) [
          | inl it ↦ elim (or_cases (led (node_at nodes n) known g)
              (test.gives tags (node_at nodes n) (λ m. at tops m (tag_column tags y)) (tag_column tags y) (gap g none) && _) it) [
                | inl here ↦ let e = led_sound fits n g known here in shape.within e.1 (k e.0 e.2)
                | inr both ↦
                    let p = and_parts (test.gives tags (node_at nodes n) (λ m. at tops m (tag_column tags y)) (tag_column tags y) (gap g none)) _ both in
                    elim (or_cases ((0 == tag_column tags y) && among (node_at nodes n).wordy g)
                    (led (node_at nodes n) (λ m. at tops m (tag_column tags y)) g) (or_none _ p.0)) [
                      | inl never ↦ absurd (zero_not (name_number tags y) (among (node_at nodes n).wordy g) never)
                      | inr there ↦ let e = led_sound fits n g (λ m. at tops m (tag_column tags y)) there in
                          shape.gap_first e.1 (tops_sound tops tops_are e.0 (tagged y) e.2) (gives_tag n x l r p.1)
                    ]
              ]
          | inr it ↦ shape.after_gap (cross_by n x y known l m k r it)
        ]
    cross_by n x y known l m k (element tag a i r) h =
        elim (or_cases (test.gives tags (node_at nodes n) (λ m. at tops m (tag_column tags y)) (tag_column tags y) (element tag a i none) && _) _ h) [
          | inl it ↦
              let p = and_parts (test.gives tags (node_at nodes n) (λ m. at tops m (tag_column tags y)) (tag_column tags y) (element tag a i none)) _ it in
              let e = eqb-true (tag_column tags tag) (tag_column tags y) (or_none _ p.0) in
              subst (λ z. Crossing (template_at templates) G x y n (element z a i r)) (sym (same_number tags tag y m (omega (arith, e))))
              (shape.element_first (gives_tag n x l r p.1))
          | inr it ↦ shape.after_element (cross_by n x y known l m k r it)
        ]

    pub cross_sound : (pairs : List (ℕ × ℕ)) (table : List (List Bool))
        → IsDerived (length pairs) (cross_follows templates nodes tags (at tops) pairs) table → (n k : ℕ) (x y : List ℕ)
        → name_number tags x < length tags → name_number tags y < length tags → get_or pairs k (0, 0) ≡ ofPair y x → at table n k ≡ true
        → Crossing (template_at templates) G x y n (template_at templates n)
    cross_sound pairs table d n k x y l m e h =
        derived_all (λ n c. get_or pairs c (0, 0) ≡ ofPair y x → Crossing (template_at templates) G x y n (template_at templates n))
        (λ known n c b r f e. cross_by n x y (λ m. known m c) l m (λ j q. r j c q e) (template_at templates n)
        (subst (λ p. test.crosses tags (node_at nodes n) (at tops) (λ m. known m c) p (template_at templates n) ≡ true) e f))
        (d n k h) e

    module _ (known : (n : ℕ) → Reached G root n → AreKnown tags (template_at templates n))
        (tops_closed : (n : ℕ) → Reached G root n → IsClosedAt (length tags + 1) (top_follows templates nodes tags) tops n)
        (pairs : List (ℕ × ℕ)) (table : List (List Bool))
        (closed : (n : ℕ) → Reached G root n → IsClosedAt (length pairs) (cross_follows templates nodes tags (at tops) pairs) table n) where
      pub cross_test : (k : ℕ) {x y : List ℕ} {n : ℕ} {t : Forest} → k < length pairs → get_or pairs k (0, 0) ≡ ofPair y x → Reached G root n → AreKnown tags t
          → Crossing (template_at templates) G x y n t
          → test.crosses tags (node_at nodes n) (at tops) (λ m. at table m k) (ofPair y x) t ≡ true
      cross_test k {x = x} {y = y} {n = n} l e w a (shape.element_first {i = i} {r = r} h) =
          or_left _ (test.crosses tags (node_at nodes n) (at tops) (λ m. at table m k) (ofPair y x) r)
          (and_from _ _ (or_left (tag_column tags y == tag_column tags y) false (eq-eqb (tag_column tags y) (tag_column tags y) refl))
          (tops_test known tops tops_closed w a.1.1 h).1)
      cross_test k {x = x} {y = y} {n = n} l e w a (shape.gap_first {g = g} {m = m} {r = r} d i h) =
          or_left _ (test.crosses tags (node_at nodes n) (at tops) (λ m. at table m k) (ofPair y x) r)
          (or_right (led (node_at nodes n) (λ m. at table m k) g) _
          (and_from _ _
          (or_left ((((0 == tag_column tags y) && among (node_at nodes n).wordy g) || led (node_at nodes n) (λ m. at tops m (tag_column tags y)) g)) false
          (or_right ((0 == tag_column tags y) && among (node_at nodes n).wordy g) _
          (led_whole fits n g m (λ m. at tops m (tag_column tags y)) d (tops_whole known tops tops_closed m (tagged y) (along w d) i))))
          (tops_test known tops tops_closed w a h).1))
      cross_test k {x = x} {y = y} {n = n} l e w a (shape.within {g = g} {m = m} {r = r} d i) =
          or_left _ (test.crosses tags (node_at nodes n) (at tops) (λ m. at table m k) (ofPair y x) r)
          (or_left _ (test.gives tags (node_at nodes n) (λ m. at tops m (tag_column tags y)) (tag_column tags y) (gap g none)
          && test.gives tags (node_at nodes n) (λ m. at tops m (tag_column tags x)) (tag_column tags x) r)
          (led_whole fits n g m (λ m. at table m k) d (closed m (along w d) k l
          (subst (λ p. test.crosses tags (node_at nodes m) (at tops) (λ j. at table j k) p (template_at templates m) ≡ true) (sym e)
          (cross_test k l e (along w d) (known m (along w d)) i)))))
      cross_test k {x = x} {y = y} {n = n} l e w a (shape.after_text {s = s} {r = r} i) =
          or_right (test.gives tags (node_at nodes n) (λ m. at tops m (tag_column tags y)) (tag_column tags y) (text s none)
          && test.gives tags (node_at nodes n) (λ m. at tops m (tag_column tags x)) (tag_column tags x) r) _ (cross_test k l e w a i)
      cross_test k {x = x} {y = y} {n = n} l e w a (shape.after_gap {g = g} {r = r} i) =
          or_right (led (node_at nodes n) (λ m. at table m k) g
          || (test.gives tags (node_at nodes n) (λ m. at tops m (tag_column tags y)) (tag_column tags y) (gap g none)
          && test.gives tags (node_at nodes n) (λ m. at tops m (tag_column tags x)) (tag_column tags x) r)) _ (cross_test k l e w a i)
      cross_test k {x = x} {y = y} {n = n} l e w a (shape.after_element {tag = tag} {a = b} {i = j} {r = r} i) =
          or_right (test.gives tags (node_at nodes n) (λ m. at tops m (tag_column tags y)) (tag_column tags y) (element tag b j none)
          && test.gives tags (node_at nodes n) (λ m. at tops m (tag_column tags x)) (tag_column tags x) r) _ (cross_test k l e w a.1.1 i)

      pub cross_whole : (n k : ℕ) (x y : List ℕ) → k < length pairs → get_or pairs k (0, 0) ≡ ofPair y x → Reached G root n
          → Crossing (template_at templates) G x y n (template_at templates n) → at table n k ≡ true
      cross_whole n k x y l e w h =
          closed n w k l (subst (λ p. test.crosses tags (node_at nodes n) (at tops) (λ m. at table m k) p (template_at templates n) ≡ true) (sym e)
          (cross_test k l e w (known n w) h))
