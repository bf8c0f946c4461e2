-- Plugs keep what a graph covers.
use Rattle.std.proofs.Common.{◌≡◌, ℕ, Bool, true, false, ◌||◌, ◌&&◌, not, ◌==◌, if◌then◌else◌, List, [], ◌∷◌, map, refl, sym, ap, ◌∙◌, subst, inl, inr}
use Rattle.std.proofs.lemmas.Bool.{false≢true, cases_Bool, or_left, or_right, or_parts, or_from, and_from, and_cases, not-false, cond-true}
use Rattle.std.proofs.lemmas.Bool.{cond-false, eqb-true, eqb-false, eq-eqb}
use Rattle.bw_lang.specs.declared.items.Attr.{Attr}
use Rattle.bw_lang.specs.declared.items.AttrValue.{AttrValue}
use Rattle.bw_lang.specs.declared.items.AttrValue.TheVariants.{Fixed, Hole}
use Rattle.bw_lang.specs.Document.Documents as doc
use Rattle.bw_lang.specs.Document.Documents.{append, filled_attr, filled_value, is_hole}
use Rattle.bw_lang.specs.Document.Forest.{Forest, none, text, gap, element}
use Rattle.bw_lang.proofs.Plugs.{plug-append, plug_text-append}
use Rattle.bw_sum.specs.Graph.{Graph, constant, plugged, plugged_text, IsBelow}
use Rattle.bw_sum.specs.Opening.{holes, has_hole, opens}
use Rattle.bw_sum.specs.Unfolding.{FillsValue, kept, left_open, said_in, FillsAttrs, no_more, more, Fills, end, words, inside, left, said, led, Covers}
use Rattle.bw_sum.proofs.Opens.{opens_kept, opens_brought, append_hole, text_kept}

-- the first graph has no edge, label or track that the second lacks
pub record AreWithin (G H : Graph) : Type 0 where
  pub edges : (n g m : ℕ) → G.edge n g m ≡ true → H.edge n g m ≡ true
  pub labels : (n g : ℕ) (s : List ℕ) → G.label n g s ≡ true → H.label n g s ≡ true
  pub tracks : (g n : ℕ) → G.track g n ≡ true → H.track g n ≡ true

value_more : {G H : Graph} {n : ℕ} {u v : AttrValue} → AreWithin G H → FillsValue G n u v → FillsValue H n u v
value_more b kept = kept
value_more b (left_open k) = left_open (b.tracks _ _ k)
value_more b (said_in k) = said_in (b.labels _ _ _ k)

attrs_more : {G H : Graph} {n : ℕ} {a b : List Attr} → AreWithin G H → FillsAttrs G n a b → FillsAttrs H n a b
attrs_more b no_more = no_more
attrs_more b (more k r) = more (value_more b k) (attrs_more b r)

pub fills_more : {templates : ℕ → Forest} {G H : Graph} {n : ℕ} {t d : Forest} → AreWithin G H → Fills templates G n t d → Fills templates H n t d
fills_more b end = end
fills_more b (words r) = words (fills_more b r)
fills_more b (inside q r s) = inside (attrs_more b q) (fills_more b r) (fills_more b s)
fills_more b (left k r) = left (b.tracks _ _ k) (fills_more b r)
fills_more b (said k r) = said (b.labels _ _ _ k) (fills_more b r)
fills_more b (led k r s) = led (b.edges _ _ _ k) (fills_more b r) (fills_more b s)

pub below_plugged_right : (B A : Graph) (g : ℕ) → AreWithin A (plugged B g A)
below_plugged_right B A g = record {
  edges = λ n h m k. or_left (B.edge n h m || A.edge n h m) ((h == g) && (B.track g n && A.root m)) (or_right (B.edge n h m) (A.edge n h m) k);
  labels = λ n h s k. or_right (B.label n h s) (A.label n h s) k;
  tracks = λ h n k. elim (h == g) as (λ b. (if b then A.track h n else (B.track h n || A.track h n)) ≡ true) [
    | true ↦ k
    | false ↦ or_right
        (B.track h n) (A.track h n) k
  ];
}

-- an attribute's value with a gap of another name
plug_value : (B A : Graph) (g : ℕ) {n : ℕ} {u v : AttrValue} → is_hole g u ≡ false → FillsValue B n u v → FillsValue (plugged B g A) n u v
plug_value B A g q kept = kept
plug_value B A g q (left_open {n = n} {g = h} k) = left_open (cond-false (h == g) (A.track h n) (B.track h n || A.track h n) q
    ∙ or_left (B.track h n) (A.track h n) k)
plug_value B A g q (said_in {n = n} {g = h} {s = s} k) = said_in (or_left (B.label n h s) (A.label n h s) k)

plug_attrs : (B A : Graph) (g : ℕ) {n : ℕ} {a b : List Attr} → holes g a ≡ false → FillsAttrs B n a b → FillsAttrs (plugged B g A) n a b
plug_attrs B A g q no_more = no_more
plug_attrs B A g q (more {u = u} {a = a} k r) =
    let l = or_parts (is_hole g u) (holes g a) q in
    more (plug_value B A g l.0 k) (plug_attrs B A g l.1 r)

module _ (templates : ℕ → Forest) (B A : Graph) (g m : ℕ) (e : Forest) (content : (n : ℕ) → has_hole g (templates n) ≡ false)
    (is_root : A.root m ≡ true) (unfolds : Fills templates (plugged B g A) m (templates m) e) where
  pub fills_plug : {n : ℕ} {t d : Forest} → has_hole g t ≡ false → Fills templates B n t d → Fills templates (plugged B g A) n t (doc.plug g e d)
  fills_plug q end = end
  fills_plug q (words r) = words (fills_plug q r)
  fills_plug q (inside {a = a} {i = i} {t = t} p r s) =
      let x = or_parts (holes g a) (has_hole g i || has_hole g t) q in
      let y = or_parts (has_hole g i) (has_hole g t) x.1 in
      inside (plug_attrs B A g x.0 p) (fills_plug y.0 r) (fills_plug y.1 s)
  fills_plug q (said {n = n} {g = h} {s = s} k r) = said (or_left (B.label n h s) (A.label n h s) k) (fills_plug q r)
  fills_plug q (led {n = n} {g = h} {m = k} {t = t} {d = d} {e = f} l r s) =
      subst (Fills templates (plugged B g A) n (gap h t)) (sym (plug-append g e f d))
      (led (or_left (B.edge n h k || A.edge n h k) ((h == g) && (B.track g n && A.root k)) (or_left (B.edge n h k) (A.edge n h k) l))
      (fills_plug (content k) r) (fills_plug q s))
  fills_plug q (left {n = n} {g = h} {t = t} {d = d} k r) = elim (cases_Bool (h == g)) [
    | inl same ↦ subst (Fills templates (plugged B g A) n (gap h t)) (sym (cond-true (h == g) (append e (doc.plug g e d)) (gap h (doc.plug g e d)) same))
        (led (or_right (B.edge n h m || A.edge n h m) ((h == g) && (B.track g n && A.root m))
        (and_from (h == g) (B.track g n && A.root m) same (and_from (B.track g n) (A.root m) (subst (λ x. B.track x n ≡ true) (eqb-true h g same) k) is_root)))
        unfolds (fills_plug q r))
    | inr other ↦ subst (Fills templates (plugged B g A) n (gap h t)) (sym (cond-false (h == g) (append e (doc.plug g e d)) (gap h (doc.plug g e d)) other))
        (left (cond-false (h == g) (A.track h n) (B.track h n || A.track h n) other ∙ or_left (B.track h n) (A.track h n) k) (fills_plug q r))
  ]

-- a document has no attribute gap that no template has
value_hole : {G : Graph} {n : ℕ} {u v : AttrValue} (g : ℕ) → is_hole g u ≡ false → FillsValue G n u v → is_hole g v ≡ false
value_hole g q kept = q
value_hole g q (left_open k) = q
value_hole g q (said_in k) = refl

attrs_hole : {G : Graph} {n : ℕ} {a b : List Attr} (g : ℕ) → holes g a ≡ false → FillsAttrs G n a b → holes g b ≡ false
attrs_hole g q no_more = q
attrs_hole g q (more {u = u} {v = v} {a = a} {b = b} k r) =
    let l = or_parts (is_hole g u) (holes g a) q in
    or_from (is_hole g v) (holes g b) (value_hole g l.0 k) (attrs_hole g l.1 r)

fills_hole : {templates : ℕ → Forest} {G : Graph} {n : ℕ} {t d : Forest} (g : ℕ) → ((n : ℕ) → has_hole g (templates n) ≡ false) → has_hole g t ≡ false
    → Fills templates G n t d → has_hole g d ≡ false
fills_hole g c q end = q
fills_hole g c q (words r) = fills_hole g c q r
fills_hole g c q (inside {a = a} {b = b} {i = i} {j = j} {t = t} {d = d} p r s) =
    let x = or_parts (holes g a) (has_hole g i || has_hole g t) q in
    let y = or_parts (has_hole g i) (has_hole g t) x.1 in
    ap (λ v. v || (has_hole g j || has_hole g d)) (attrs_hole g x.0 p) ∙ ap (λ v. v || has_hole g d) (fills_hole g c y.0 r) ∙ fills_hole g c y.1 s
fills_hole g c q (left k r) = fills_hole g c q r
fills_hole g c q (said k r) = fills_hole g c q r
fills_hole g c q (led {m = m} {d = d} {e = e} k r s) = append_hole g e d ∙ ap (λ v. v || has_hole g d) (fills_hole g c (c m) r) ∙ fills_hole g c q s

-- plugging a document keeps covering
pub covers_plug : (templates : ℕ → Forest) (gaps : ℕ → Bool) (B A : Graph) (g : ℕ) (d e : Forest) → ((n : ℕ) → has_hole g (templates n) ≡ false)
    → Covers templates gaps B d → Covers templates gaps A e → opens g d ≡ true → Covers templates gaps (plugged B g A) (doc.plug g e d)
covers_plug templates gaps B A g d e content b a o =
    let free = fills_hole g content (content b.root) b.unfolds in
    record {
      root = b.root;
      is_root = b.is_root;
      unfolds = fills_plug templates B A g a.root e content a.is_root (fills_more (below_plugged_right B A g) a.unfolds) (content b.root) b.unfolds;
      has_open = λ h k l. elim (cases_Bool (h == g)) [
        | inl same ↦ opens_brought h d g e free o (a.has_open h k (sym (cond-true (h == g) (A.lack h) (B.lack h && A.lack h) same) ∙ l))
        | inr other ↦ elim (and_cases (B.lack h) (A.lack h) (sym (cond-false (h == g) (A.lack h) (B.lack h && A.lack h) other) ∙ l)) [
          | inl there ↦ opens_kept h d g e (eqb-false h g other) (b.has_open h k there)
          | inr there ↦ opens_brought h d g e free o (a.has_open h k there)
        ]
      ];
    }

module _ (templates : ℕ → Forest) (B : Graph) (g : ℕ) (s : List ℕ) (strings : List ℕ → Bool) (is_in : strings s ≡ true) where
  new_label : {n h : ℕ} → (h == g) ≡ true → B.track h n ≡ true → (plugged_text B g strings).label n h s ≡ true
  new_label {n} {h} same k = or_right (B.label n h s) ((h == g) && (B.track g n && strings s))
      (and_from (h == g) (B.track g n && strings s) same (and_from (B.track g n) (strings s)
      (subst (λ x. B.track x n ≡ true) (eqb-true h g same) k) is_in))

  value_text : {n : ℕ} {u v : AttrValue} → FillsValue B n u v → FillsValue (plugged_text B g strings) n u (filled_value g s v)
  value_text kept = kept
  value_text (said_in {n = n} {g = h} {s = r} k) = said_in (or_left (B.label n h r) ((h == g) && (B.track g n && strings r)) k)
  value_text (left_open {n = n} {g = h} k) = elim (cases_Bool (h == g)) [
    | inl same ↦ subst (FillsValue (plugged_text B g strings) n (Hole h)) (sym (cond-true (h == g) (Fixed s) (Hole h) same)) (said_in (new_label same k))
    | inr other ↦ subst (FillsValue (plugged_text B g strings) n (Hole h)) (sym (cond-false (h == g) (Fixed s) (Hole h) other))
        (left_open (cond-false (h == g) false (B.track h n) other ∙ k))
  ]

  attrs_text : {n : ℕ} {a b : List Attr} → FillsAttrs B n a b → FillsAttrs (plugged_text B g strings) n a (map (filled_attr g s) b)
  attrs_text no_more = no_more
  attrs_text (more k r) = more (value_text k) (attrs_text r)

  fills_text : {n : ℕ} {t d : Forest} → Fills templates B n t d → Fills templates (plugged_text B g strings) n t (doc.plug_text g s d)
  fills_text end = end
  fills_text (words r) = words (fills_text r)
  fills_text (inside p r q) = inside (attrs_text p) (fills_text r) (fills_text q)
  fills_text (said {n = n} {g = h} {s = r} k q) = said (or_left (B.label n h r) ((h == g) && (B.track g n && strings r)) k) (fills_text q)
  fills_text (led {n = n} {g = h} {t = t} {d = d} {e = f} l r q) =
      subst (Fills templates (plugged_text B g strings) n (gap h t)) (sym (plug_text-append g s f d)) (led l (fills_text r) (fills_text q))
  fills_text (left {n = n} {g = h} {t = t} {d = d} k q) = elim (cases_Bool (h == g)) [
    | inl same ↦ subst (Fills templates (plugged_text B g strings) n (gap h t))
        (sym (cond-true (h == g) (text s (doc.plug_text g s d)) (gap h (doc.plug_text g s d)) same)) (said (new_label same k) (fills_text q))
    | inr other ↦ subst (Fills templates (plugged_text B g strings) n (gap h t))
        (sym (cond-false (h == g) (text s (doc.plug_text g s d)) (gap h (doc.plug_text g s d)) other))
        (left (cond-false (h == g) false (B.track h n) other ∙ k) (fills_text q))
  ]

  -- plugging a string keeps covering, for a gap of either kind
  pub covers_text : (gaps : ℕ → Bool) (d : Forest) → Covers templates gaps B d → Covers templates gaps (plugged_text B g strings) (doc.plug_text g s d)
  covers_text gaps d b = record {
    root = b.root;
    is_root = b.is_root;
    unfolds = fills_text b.unfolds;
    has_open = λ h k l. let m = or_parts (h == g) (B.lack h) l in text_kept h d g s (eqb-false h g m.0) (b.has_open h k m.1);
  }

module _ (templates : ℕ → Forest) (n : ℕ) (G : Graph) (tracked : (g : ℕ) → opens g (templates n) ≡ true → G.track g n ≡ true) where
  value_itself : (v : AttrValue) → ((g : ℕ) → is_hole g v ≡ true → opens g (templates n) ≡ true) → FillsValue G n v v
  value_itself (Fixed s) h = kept
  value_itself (Hole g) h = left_open (tracked g (h g (eq-eqb g g refl)))

  attrs_itself : (a : List Attr) → ((g : ℕ) → holes g a ≡ true → opens g (templates n) ≡ true) → FillsAttrs G n a a
  attrs_itself [] h = no_more
  attrs_itself (a ∷ cs) h = more (value_itself a.value (λ g o. h g (or_left (is_hole g a.value) (holes g cs) o)))
      (attrs_itself cs (λ g o. h g (or_right (is_hole g a.value) (holes g cs) o)))

  fills_itself : (t : Forest) → ((g : ℕ) → opens g t ≡ true → opens g (templates n) ≡ true) → Fills templates G n t t
  fills_itself none h = end
  fills_itself (text s t) h = words (fills_itself t h)
  fills_itself (gap k t) h = left (tracked k (h k (or_left (k == k) (opens k t) (eq-eqb k k refl))))
      (fills_itself t (λ g o. h g (or_right (k == g) (opens g t) o)))
  fills_itself (element tag a i t) h = inside
      (attrs_itself a (λ g o. h g (or_left (holes g a) (opens g i || opens g t) o)))
      (fills_itself i (λ g o. h g (or_right (holes g a) (opens g i || opens g t) (or_left (opens g i) (opens g t) o))))
      (fills_itself t (λ g o. h g (or_right (holes g a) (opens g i || opens g t) (or_right (opens g i) (opens g t) o))))

-- the tree of a template is covered by its constant
pub covers_constant : (templates : ℕ → Forest) (gaps : ℕ → Bool) (n : ℕ) → Covers templates gaps (constant templates gaps n) (templates n)
covers_constant templates gaps n = record {
  root = n;
  is_root = eq-eqb n n refl;
  unfolds = fills_itself templates n (constant templates gaps n) (λ g o. and_from (n == n) (opens g (templates n)) (eq-eqb n n refl) o) (templates n)
      (λ g o. o);
  has_open = λ g k l. by_test (gaps g) (opens g (templates n)) k l;
}
  where
    by_test : (a b : Bool) → a ≡ true → (a && not b) ≡ false → b ≡ true
    by_test true b k l = not-false b l
    by_test false b k l = absurd (false≢true k)

-- what a graph covers is covered by each graph above it
pub covers_more : (templates : ℕ → Forest) (gaps : ℕ → Bool) (G H : Graph) (d : Forest) → AreWithin G H
    → ((n : ℕ) → G.root n ≡ true → H.root n ≡ true) → ((g : ℕ) → G.lack g ≡ true → H.lack g ≡ true)
    → Covers templates gaps G d → Covers templates gaps H d
covers_more templates gaps G H d b roots lacks c = record {
  root = c.root;
  is_root = roots c.root c.is_root;
  unfolds = fills_more b c.unfolds;
  has_open = λ g k l. c.has_open g k (elim (cases_Bool (G.lack g)) [ inl on ↦ absurd (false≢true (sym l ∙ lacks g on)) | inr off ↦ off ]);
}

-- what a graph covers is covered by each graph that it is below
pub covers_below : (templates : ℕ → Forest) (gaps : ℕ → Bool) (G H : Graph) (d : Forest) → IsBelow G H → Covers templates gaps G d → Covers templates gaps H d
covers_below templates gaps G H d b c = covers_more templates gaps G H d (record { edges = b.edges; labels = b.labels; tracks = b.tracks }) b.roots b.lacks c
