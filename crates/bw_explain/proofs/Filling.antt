-- What fills the gaps of attributes and of templates.
use Rattle.std.proofs.Common.{◌≡◌, ◌⊎◌, inl, inr, ℕ, zero, suc, ◌+◌, ◌<◌, ◌≤◌, ◌==◌, Bool, true, false, ◌||◌, not, if◌then◌else◌, List, [], ◌∷◌}
use Rattle.std.proofs.Common.{◌++◌, length}
use Rattle.std.proofs.Common.{get_or, refl, ap, sym, ◌∙◌, subst, arith}
use Rattle.std.specs.Prelude.{IfOk, Result, Ok, Err}
use Rattle.std.specs.List.{list_all, list_any}
use Rattle.std.proofs.lemmas.Bool.{false≢true, eqb-true, eq-eqb, and_parts, and_from, or_cases, or_left, or_right}
use Rattle.std.proofs.lemmas.Slice.Eq.{bytes_eq-Decides}
use Rattle.bw_lang.specs.declared.items.Attr.{Attr}
use Rattle.bw_lang.specs.declared.items.AttrValue.{AttrValue}
use Rattle.bw_lang.specs.declared.items.AttrValue.TheVariants.{Fixed, Hole}
use Rattle.bw_lang.specs.Document.Forest.{Forest, none, text, gap, element}
use Rattle.bw_lang.specs.Document.Documents.{append}
use Rattle.bw_lang.specs.Table.Names.{same}
use Rattle.bw_lang.specs.Text.Bytes.{is_blank_text}
use Rattle.bw_schema.specs.Words.{is_among}
use Rattle.bw_shape.proofs.Nodes.Bools.{same_itself}
use Rattle.bw_sum.specs.Graph.{Graph}
use Rattle.bw_sum.specs.Unfolding.{FillsValue, kept, left_open, said_in, FillsAttrs, no_more, more}
use Rattle.bw_explain.specs.declared.sizes.TheConstants.{PAST}
use Rattle.bw_shape.specs.Nodes.Nodes.{among}
use Rattle.bw_explain.specs.Ways.{Way, way_of, says, ways_at, graph}
use Rattle.bw_explain.specs.Sizes.{size, capped, least_of, some_word, is_said, may_fill, attrs_least}
use Rattle.bw_explain.specs.Walks.{Aim, is_wordy, says_wordy}
use Rattle.bw_explain.proofs.Numbers.{if_true, if_there}

pub size-append : (a b : Forest) → size (append a b) ≡ size a + size b
size-append none b = omega arith
size-append (text s r) b = let h = size-append r b in omega (arith, h)
size-append (gap g r) b = let h = size-append r b in omega (arith, h)
size-append (element tag a i r) b = let h = size-append r b in omega (arith, h)

-- ---- words

some_low : (ws : List (List ℕ)) (s : List ℕ) → is_among ws s ≡ true → some_word ws ≡ true
some_low [] s h = h
some_low (w ∷ ws) s h = refl

pub said_low : (w : Way) (s : List ℕ) → says w s ≡ true → is_said w ≡ true
said_low w s h = elim (or_cases w.is_free (is_among w.words s) h) [
  | inl free ↦ or_left w.is_free (some_word w.words) free
  | inr there ↦ or_right w.is_free (some_word w.words) (some_low w.words s there)
]

first_word : (ws : List (List ℕ)) → some_word ws ≡ true → (s : List ℕ) × (is_among ws s ≡ true)
first_word [] h = absurd (false≢true h)
first_word (w ∷ ws) h = (w, or_left _ (is_among ws w) (same_itself w))

pub word_there : (w : Way) → is_said w ≡ true → (s : List ℕ) × (says w s ≡ true)
word_there w h = elim (or_cases w.is_free (some_word w.words) h) [
  | inl free ↦ (120 ∷ [], or_left _ _ free)
  | inr some ↦ let s = first_word w.words some in (s.0, or_right w.is_free _ s.1)
]

pub among_any : (p : List ℕ → Bool) (ws : List (List ℕ)) (s : List ℕ) → is_among ws s ≡ true → p s ≡ true → list_any p ws ≡ true
among_any p [] s h k = absurd (false≢true h)
among_any p (w ∷ ws) s h k = elim (or_cases (same w s) (is_among ws s) h) [
  | inl e ↦ or_left (p w) (list_any p ws) (ap p ((bytes_eq-Decides w s).0 e) ∙ k)
  | inr e ↦ or_right (p w) (list_any p ws) (among_any p ws s e k)
]

pub any_among : (p : List ℕ → Bool) (ws : List (List ℕ)) → list_any p ws ≡ true → (s : List ℕ) × (is_among ws s ≡ true) × (p s ≡ true)
any_among p [] h = absurd (false≢true h)
any_among p (w ∷ ws) h = elim (or_cases (p w) (list_any p ws) h) [
  | inl e ↦ (w, or_left (same w w) (is_among ws w) (same_itself w), e)
  | inr e ↦ let r = any_among p ws e in (r.0, or_right (same w r.0) (is_among ws r.0) r.1, r.2)
]

-- a word of a list is among its words
pub among_at : (ws : List (List ℕ)) (i : ℕ) (w : List ℕ) → w ≡ get_or ws i w → i < length ws → is_among ws w ≡ true
among_at [] i w e h = absurd (omega (arith, h))
among_at (v ∷ ws) zero w e h = or_left (same v w) (is_among ws w) ((bytes_eq-Decides v w).1 (sym e))
among_at (v ∷ ws) (suc i) w e h = or_right (same v w) (is_among ws w) (among_at ws i w e (omega (arith, h)))

abbrev wordy_word : Way → Bool
wordy_word w = w.is_free || list_any (λ s. not (is_blank_text s)) w.words

pub wordy_low : (A : Aim) (w : Way) (s : List ℕ) → says w s ≡ true → is_wordy A s ≡ true → says_wordy A w ≡ true
wordy_low A w s h k =
    let p = and_parts A.wordy (not (is_blank_text s)) k in
    and_from (wordy_word w) A.wordy (elim (or_cases w.is_free (is_among w.words s) h) [
      | inl e ↦ or_left w.is_free _ e
      | inr e ↦ or_right w.is_free _ (among_any (λ s. not (is_blank_text s)) w.words s e p.1)
    ]) p.0

pub wordy_there : (A : Aim) (w : Way) → says_wordy A w ≡ true → (s : List ℕ) × (says w s ≡ true) × (is_wordy A s ≡ true)
wordy_there A w h =
    let p = and_parts (wordy_word w) A.wordy h in
    elim (or_cases w.is_free (list_any (λ s. not (is_blank_text s)) w.words) p.0) [
      | inl e ↦ (120 ∷ [], or_left w.is_free (is_among w.words (120 ∷ [])) e, and_from A.wordy (not (is_blank_text (120 ∷ []))) p.1 refl)
      | inr e ↦ let r = any_among (λ s. not (is_blank_text s)) w.words e in
          (r.0, or_right w.is_free (is_among w.words r.0) r.1, and_from A.wordy (not (is_blank_text r.0)) p.1 r.2)
    ]

-- ---- templates

pub led_low : (known : ℕ → ℕ) (ms : List ℕ) (m : ℕ) → among ms m ≡ true → least_of known ms ≤ known m
led_low known [] m h = absurd (false≢true h)
led_low known (k ∷ ms) m h = elim (or_cases (k == m) (among ms m) h) [
  | inl here ↦ let e = ap known (eqb-true k m here) in omega (arith, e)
  | inr there ↦ let r = led_low known ms m there in omega (arith, r)
]

pub led_there : (known : ℕ → ℕ) (ms : List ℕ) → least_of known ms ≤ PAST → (m : ℕ) × (among ms m ≡ true) × (known m ≤ least_of known ms)
led_there known [] h = absurd (omega arith)
led_there known (m ∷ ms) h = elim (order (known m) (least_of known ms)) [
  | inl here ↦ (m, or_left _ _ (eq-eqb m m refl), omega arith)
  | inr later ↦ let r = led_there known ms (omega (arith, later, h)) in (r.0, or_right (m == r.0) _ r.1, let k = r.2 in omega (arith, k, later))
]
  where
    order : (a b : ℕ) → (a ≤ b) ⊎ (b ≤ a)
    order a b = grind arith

-- ---- attributes

fills_attr : (nodes : List (List Way)) {n : ℕ} {u v : AttrValue} → FillsValue (graph nodes) n u v → may_fill (ways_at nodes n) u ≡ true
fills_attr nodes kept = refl
fills_attr nodes {n = n} (left_open {g = g} o) = or_left (way_of (ways_at nodes n) g).is_open (is_said (way_of (ways_at nodes n) g)) o
fills_attr nodes {n = n} (said_in {g = g} {s = s} o) = or_right (way_of (ways_at nodes n) g).is_open (is_said (way_of (ways_at nodes n) g))
    (said_low (way_of (ways_at nodes n) g) s o)

pub fills_attrs : (nodes : List (List Way)) {n : ℕ} {a b : List Attr} → FillsAttrs (graph nodes) n a b
    → (list_all (λ x. may_fill (ways_at nodes n) x.value) a ≡ true) × (length b ≡ length a)
fills_attrs nodes no_more = (refl, refl)
fills_attrs nodes (more v r) = let k = fills_attrs nodes r in (and_from _ _ (fills_attr nodes v) k.0, ap suc k.1)

pub attrs_low : (nodes : List (List Way)) {n : ℕ} {a b : List Attr} → FillsAttrs (graph nodes) n a b → attrs_least (ways_at nodes n) a ≡ capped (length b)
attrs_low nodes {n = n} {a = a} q = let k = fills_attrs nodes q in
    if_true (list_all (λ x. may_fill (ways_at nodes n) x.value) a) (capped (length a)) k.0 ∙ ap capped (sym k.1)

pub value_there : (nodes : List (List Way)) (n : ℕ) (v : AttrValue) → may_fill (ways_at nodes n) v ≡ true → (u : AttrValue) × FillsValue (graph nodes) n v u
value_there nodes n (Fixed s) h = (Fixed s, kept)
value_there nodes n (Hole g) h = elim (or_cases (way_of (ways_at nodes n) g).is_open (is_said (way_of (ways_at nodes n) g)) h) [
  | inl open_there ↦ (Hole g, left_open open_there)
  | inr said_there ↦ let s = word_there (way_of (ways_at nodes n) g) said_there in (Fixed s.0, said_in s.1)
]

pub attrs_there : (nodes : List (List Way)) (n : ℕ) (a : List Attr) → list_all (λ x. may_fill (ways_at nodes n) x.value) a ≡ true → (b : List Attr)
    × FillsAttrs (graph nodes) n a b × (length b ≡ length a)
attrs_there nodes n [] h = ([], no_more, refl)
attrs_there nodes n (x ∷ a) h =
    let k = and_parts _ _ h in
    let u = value_there nodes n x.value k.0 in
    let r = attrs_there nodes n a k.1 in
    (record { name = x.name; value = u.0 } ∷ r.0, more u.1 r.1, ap suc r.2)

pub attrs_fill : (nodes : List (List Way)) (n : ℕ) (a : List Attr) → attrs_least (ways_at nodes n) a ≤ PAST → (b : List Attr) × FillsAttrs (graph nodes) n a b
    × (capped (length b) ≡ attrs_least (ways_at nodes n) a)
attrs_fill nodes n a h =
    let c = if_there (list_all (λ x. may_fill (ways_at nodes n) x.value) a) (capped (length a)) h in
    let b = attrs_there nodes n a c.0 in
    (b.0, b.1, ap capped b.2 ∙ sym c.1)

pub attrs_then : {G : Graph} {n : ℕ} {a b : List Attr} (x y : Attr) → x.name ≡ y.name → FillsAttrs G n a b → FillsValue G n x.value y.value
    → FillsAttrs G n (a ++ x ∷ []) (b ++ y ∷ [])
attrs_then {G = G} {n = n} x y e no_more v = subst (λ w. FillsAttrs G n (x ∷ []) (record { name = w; value = y.value } ∷ [])) e (more v no_more)
attrs_then x y e (more u r) v = more u (attrs_then x y e r v)

pub way_at : (ways : List Way) (g : ℕ) → (way_of ways g).at ≡ g
way_at [] g = refl
way_at (w ∷ ways) g = chosen (w.at == g) refl (way_at ways g)
  where
    chosen : (b : Bool) → (w.at == g) ≡ b → (way_of ways g).at ≡ g → (if b then w else way_of ways g).at ≡ g
    chosen true e r = eqb-true w.at g e
    chosen false e r = r

-- a copy is as its original
pub copied_as : {E : Type 0} (P : List ℕ → Type 0) (result : Result (List ℕ) E) (w : List ℕ) → P w → IfOk result (λ t. t ≡ w) → IfOk result P
copied_as P (Ok t) w h e = subst P (sym e) h
copied_as P (Err m) w h e = tt
