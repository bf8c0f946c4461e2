-- Showing a fault, and finding its element broken in some way.
use Rattle.std.proofs.Common.{◌≡◌, ◌⊎◌, inl, inr, ℕ, ◌+◌, ◌≤◌, ◌==◌, Bool, true, false, ◌&&◌, List, refl, ap, sym, ◌∙◌, subst, arith}
use Rattle.std.specs.List.{list_any, Contains}
use Rattle.std.proofs.lemmas.Bool.{false≢true, eqb-true, eq-eqb, and_parts, and_from}
use Rattle.bw_lang.specs.declared.items.Attr.{Attr}
use Rattle.bw_lang.specs.Document.Forest.{Forest, none, element}
use Rattle.bw_lang.specs.Document.Documents.{append, elements, close, closed_attrs}
use Rattle.bw_lang.proofs.Forests.{append-none}
use Rattle.bw_schema.specs.declared.rules.Rule.{Rule}
use Rattle.bw_schema.specs.Rules.{rule_of}
use Rattle.bw_faults.specs.declared.fault.Fault.{Fault}
use Rattle.bw_judge.specs.Faults as at
use Rattle.bw_judge.specs.Faults.{At}
use Rattle.bw_shape.proofs.Nodes.Bools.{passes_at, any_at}
use Rattle.bw_sum.specs.Graph.{Graph}
use Rattle.bw_sum.specs.Unfolding.{FillsValue, kept, left_open, said_in, FillsAttrs, no_more, more, Fills, end, words, inside, left, said, led, Unfolds}
use Rattle.bw_explain.specs.declared.atom.Atom.{Atom}
use Rattle.bw_explain.specs.declared.explained.Explained.{Explained}
use Rattle.bw_explain.specs.Aims.{one_aim}
use Rattle.bw_explain.specs.Atoms.{is_broken, atoms_of}
use Rattle.bw_explain.specs.Explained.{IsAnswer, page_of, all_big, none_there, Place, IsAt, FindsOne, Ties}
use Rattle.bw_explain.specs.Shows.{breaks_some, is_template, is_shown, Shown, Shows, each, some}
use Rattle.bw_explain.specs.Shows as shown
use Rattle.bw_explain.specs.Walks.{Runs}
use Rattle.bw_explain.specs.Walks as run
use Rattle.bw_explain.proofs.AtomLaws.{breaks_by_atoms}
use Rattle.bw_explain.proofs.Placing.{at_same, OneElement, at_front, at_behind}
use Rattle.bw_explain.proofs.Runs.{taken, rises, fill_runs, fills-append, gap_led}

order : (a b : ℕ) → a ≤ b → b ≤ a + 1 → (b ≡ a) ⊎ (b ≡ a + 1)
order a b h k = grind arith

module _ (templates : ℕ → Forest) (G : Graph) (rules : List Rule) (f : Fault) (p : Place) (r : Rule) (is : IsAt templates rules f p r) where
  abbrev Within : ℕ → ℕ → Forest → Type 0
  Within n k t = (q : ℕ) (tag : List ℕ) (a : List Attr) (i : Forest) → At t q tag a i → At (templates n) (k + q) tag a i

  -- of a part behind another
  behind : {n : ℕ} (k : ℕ) (a b c : Forest) → Within n k (append a (append b c)) → Within n (k + elements a) b
  behind {n = n} k a b c w q tag x i h = subst (λ m. At (templates n) m tag x i) (let e : k + (elements a + q) ≡ k + elements a + q = omega arith in e)
      (w (elements a + q) tag x i (at_behind a (at_front c h)))

  within : {n : ℕ} (k : ℕ) {tag : List ℕ} {a : List Attr} {i : Forest} → Within n k (element tag a i none) → Within n (k + 1) i
  within {n = n} k w q tag x j h = subst (λ m. At (templates n) m tag x j) (let e : k + (1 + q) ≡ k + 1 + q = omega arith in e)
      (w (1 + q) tag x j (at.inside h))

  whole : (m : ℕ) → Within m 0 (templates m)
  whole m q tag a i h = subst (λ y. At (templates m) y tag a i) (let e : q ≡ 0 + q = omega arith in e) h

  place_here : (n k : ℕ) → (is_template f.template n && (k == f.place)) ≡ true → (n ≡ p.template) × (k ≡ p.place)
  place_here n k h =
      let c = and_parts (is_template f.template n) (k == f.place) h in
      (eqb-true n p.template (ap (λ o. is_template o n) (sym is.template) ∙ c.0), eqb-true k f.place c.1 ∙ is.place)

  here_place : (n k : ℕ) → n ≡ p.template → k ≡ p.place → (is_template f.template n && (k == f.place)) ≡ true
  here_place n k e g = and_from (is_template f.template n) (k == f.place) (ap (λ o. is_template o n) is.template ∙ eq-eqb n p.template e)
      (eq-eqb k f.place (g ∙ sym is.place))

  same_element : {n : ℕ} (k : ℕ) {tag : List ℕ} {a : List Attr} {i : Forest} → Within n k (element tag a i none) → n ≡ p.template → k + 1 ≡ p.place
      → OneElement p.tag p.attrs p.inner tag a i
  same_element {n = n} k {tag = tag} {a = a} {i = i} w e g =
      at_same is.at (subst (λ m. At (templates m) (k + 1) tag a i) e (w 1 tag a i at.here)) (sym g)

  broken_by : (tag : List ℕ) (b : List Attr) (j : Forest) → p.tag ≡ tag → breaks_some f.number (rule_of rules tag) (closed_attrs b) (close j)
      ≡ list_any (λ a. is_broken r a b j) (atoms_of f.number r)
  broken_by tag b j e =
      ap (λ o. breaks_some f.number o (closed_attrs b) (close j)) (ap (rule_of rules) (sym e) ∙ is.rule) ∙ breaks_by_atoms f.number r b j

  abbrev One : Atom → ℕ → ℕ → ℕ → Forest → ℕ → Forest → Type 0
  One y n k a t b d = Runs templates G (one_aim p.template p.place p.attrs p.inner r y) n k a t b d

  found_by : {n k : ℕ} {t d : Forest} → Shown templates G (is_shown rules f) n k t d → Within n k t
      → (a : Atom) × Contains (atoms_of f.number r) a × One a n k 0 t 1 d
  found_by {n = n} {k = k} (shown.here {tag = tag} {a = a} {b = b} {i = i} {j = j} q g h) w =
      let c = and_parts (is_template f.template n && ((k + 1) == f.place)) (breaks_some f.number (rule_of rules tag) (closed_attrs b) (close j)) h in
      let z = place_here n (k + 1) c.0 in
      let s = same_element k w z.0 z.1 in
      let x = passes_at (λ y. is_broken r y b j) (atoms_of f.number r) (sym (broken_by tag b j s.0) ∙ c.1) in (
        x.0,
        x.1,
        run.here refl (and_from (n == p.template) ((k + 1) == p.place) (eq-eqb n p.template z.0) (eq-eqb (k + 1) p.place z.1))
            (subst (λ m. FillsAttrs G m p.attrs b) z.0 (subst (λ c. FillsAttrs G n c b) (sym s.1) q))
            (subst (λ m. Fills templates G m p.inner j) z.0 (subst (λ c. Fills templates G n c j) (sym s.2) g)) x.2,
      )
  found_by {k = k} (shown.inside q s) w = let x = found_by s (within k w) in (x.0, x.1, run.inside refl q x.2)
  found_by (shown.led {m = m} l s) w = let x = found_by s (whole m) in (x.0, x.1, run.led l x.2)
  found_by {k = k} (shown.among {p = a} {t = b} {q = c} h s g) w =
      let x = found_by s (behind k a b c w) in
      (x.0, x.1, run.both (fill_runs templates G _ refl h k 0) (run.both x.2 (fill_runs templates G _ refl g _ 1)))

  -- where the element isn't passed, it is an unfolding
  flat_by : (y : Atom) {n k a b : ℕ} {t d : Forest} → One y n k a t b d → b ≡ a → Fills templates G n t d
  flat_by y run.nothing e = end
  flat_by y (run.both h g) e =
      let a = rises templates G _ h in
      let b = rises templates G _ g in
      fills-append (flat_by y h (omega (arith, a, b, e))) (flat_by y g (omega (arith, a, b, e)))
  flat_by y (run.words h) e = words end
  flat_by y (run.left l) e = left l end
  flat_by y (run.said l h) e = said l end
  flat_by y (run.led l g) e = gap_led l (flat_by y g e)
  flat_by y (run.beside o h q g) e = inside q g end
  flat_by y (run.inside o q g) e = inside q (flat_by y g (omega (arith, e))) end
  flat_by y (run.here o c q g h) e = absurd (omega (arith, e))

  shown_by : (y : Atom) → Contains (atoms_of f.number r) y → {n k a b : ℕ} {t d : Forest} → One y n k a t b d → b ≡ a + 1 → Within n k t
      → Shown templates G (is_shown rules f) n k t d
  shown_by y c run.nothing e w = absurd (omega (arith, e))
  shown_by y c {n = n} {k = k} (run.both {x = x} {z = z} {p = p1} {t = t1} {d = d1} {e = e1} h g) e w =
      let a = rises templates G _ h in
      let b = rises templates G _ g in
      elim (order x z a (omega (arith, b, e))) [
        | inl s ↦ subst (λ u. Shown templates G (is_shown rules f) n k (append p1 t1) (append d1 u)) (append-none e1)
            (subst (λ u. Shown templates G (is_shown rules f) n k (append p1 u) (append d1 (append e1 none))) (append-none t1)
            (shown.among (flat_by y h s) (shown_by y c g (omega (arith, s, e)) (last p1 t1 w)) end))
        | inr s ↦ shown.among {p = none} end (subst (λ m. Shown templates G (is_shown rules f) n m p1 d1) (let q : k ≡ k + 0 = omega arith in q)
            (shown_by y c h s (λ q tag x i z. w q tag x i (at_front t1 z)))) (flat_by y g (omega (arith, s, e)))
      ]
    where
      last : (a b : Forest) → Within n k (append a b) → Within n (k + elements a) b
      last a b w q tag x i h = subst (λ m. At (templates n) m tag x i) (let e : k + (elements a + q) ≡ k + elements a + q = omega arith in e)
          (w (elements a + q) tag x i (at_behind a h))
  shown_by z c (run.words {x = x} {y = y} h) e w = elim (taken x y true false h)
      [ inl a ↦ let b = a.0 in absurd (omega (arith, b, e)) | inr a ↦ absurd (false≢true a.1) ]
  shown_by y c (run.left l) e w = absurd (omega (arith, e))
  shown_by z c (run.said {x = x} {y = y} l h) e w = elim (taken x y true false h)
      [ inl a ↦ let b = a.0 in absurd (omega (arith, b, e)) | inr a ↦ absurd (false≢true a.1) ]
  shown_by y c (run.led {m = m} l g) e w = shown.led l (shown_by y c g e (whole m))
  shown_by y c (run.beside o h q g) e w = absurd (false≢true (sym o))
  shown_by y c {k = k} (run.inside o q g) e w = shown.inside q (shown_by y c g (omega (arith, e)) (within k w))
  shown_by y c {n = n} {k = k} (run.here {tag = tag} {a = a} {b = b} {i = i} {j = j} o h q g x) e w =
      let z = and_parts (n == p.template) ((k + 1) == p.place) h in
      let u = eqb-true n p.template z.0 in
      let v = eqb-true (k + 1) p.place z.1 in
      let s = same_element k w u v in
      shown.here (subst (λ c. FillsAttrs G n c b) s.1 (subst (λ m. FillsAttrs G m p.attrs b) (sym u) q))
      (subst (λ c. Fills templates G n c j) s.2 (subst (λ m. Fills templates G m p.inner j) (sym u) g))
      (and_from (is_template f.template n && ((k + 1) == f.place)) (breaks_some f.number (rule_of rules tag) (closed_attrs b) (close j))
      (here_place n (k + 1) u v) (broken_by tag b j s.0 ∙ any_at (λ w. is_broken r w b j) (atoms_of f.number r) y c x))

  pub to_found : (f.number == 6) ≡ false → (n : ℕ) (d : Forest) → Shows templates G rules f n d → FindsOne templates G p r (atoms_of f.number r) n d
  to_found o n d (each e u) = absurd (false≢true (sym o ∙ e))
  to_found o n d (some e s) = let x = found_by s (whole n) in (x.0, x.1, x.2)

  pub from_found : (f.number == 6) ≡ false → (n : ℕ) (d : Forest) → FindsOne templates G p r (atoms_of f.number r) n d → Shows templates G rules f n d
  from_found o n d h = some o (shown_by h.0 h.1 h.2 (omega arith) (whole n))

-- ---- graphs that have the same edges, labels and tracks

module _ (templates : ℕ → Forest) (G H : Graph) (tie : Ties G H) where
  value_tied : {n : ℕ} {u v : _} → FillsValue G n u v → FillsValue H n u v
  value_tied kept = kept
  value_tied {n = n} (left_open {g = g} h) = left_open (sym (tie.track g n) ∙ h)
  value_tied {n = n} (said_in {g = g} {s = s} h) = said_in (sym (tie.label n g s) ∙ h)

  attrs_tied : {n : ℕ} {a b : List Attr} → FillsAttrs G n a b → FillsAttrs H n a b
  attrs_tied no_more = no_more
  attrs_tied (more v r) = more (value_tied v) (attrs_tied r)

  pub fills_tied : {n : ℕ} {t d : Forest} → Fills templates G n t d → Fills templates H n t d
  fills_tied end = end
  fills_tied (words r) = words (fills_tied r)
  fills_tied (inside q i r) = inside (attrs_tied q) (fills_tied i) (fills_tied r)
  fills_tied {n = n} (left {g = g} h r) = left (sym (tie.track g n) ∙ h) (fills_tied r)
  fills_tied {n = n} (said {g = g} {s = s} h r) = said (sym (tie.label n g s) ∙ h) (fills_tied r)
  fills_tied {n = n} (led {g = g} {m = m} h e r) = led (sym (tie.edge n g m) ∙ h) (fills_tied e) (fills_tied r)

  shown_tied : {is_it : ℕ → ℕ → List ℕ → List Attr → Forest → Bool} {n k : ℕ} {t d : Forest} → Shown templates G is_it n k t d → Shown templates H is_it n k t d
  shown_tied (shown.here q f h) = shown.here (attrs_tied q) (fills_tied f) h
  shown_tied (shown.inside q s) = shown.inside (attrs_tied q) (shown_tied s)
  shown_tied {n = n} (shown.led {g = g} {m = m} l s) = shown.led (sym (tie.edge n g m) ∙ l) (shown_tied s)
  shown_tied (shown.among f s g) = shown.among (fills_tied f) (shown_tied s) (fills_tied g)

  pub shows_tied : (rules : List Rule) (f : Fault) (n : ℕ) (d : Forest) → Shows templates G rules f n d → Shows templates H rules f n d
  shows_tied rules f n d (each e u) = each e (fills_tied u)
  shows_tied rules f n d (some e s) = some e (shown_tied s)

pub turned : (G H : Graph) → Ties G H → Ties H G
turned G H t = record { edge = λ n g m. sym (t.edge n g m); label = λ n g s. sym (t.label n g s); track = λ g n. sym (t.track g n) }

pub explained_same : (P Q : Forest → Type 0) (e : Explained) → ((d : Forest) → P d → Q d) → ((d : Forest) → Q d → P d) → IsAnswer P e → IsAnswer Q e
explained_same P Q _ f g (page_of {d = d} h l m) = page_of (f d h) l (λ x q. m x (g x q))
explained_same P Q _ f g (all_big d h k) = all_big d (f d h) (λ x q. k x (g x q))
explained_same P Q _ f g (none_there k) = none_there (λ x q. k x (g x q))

pub explained_is_shown : (templates : ℕ → Forest) (G H : Graph) (rules : List Rule) (f : Fault) (p : Place) (r : Rule) (n : ℕ) (e : Explained) → Ties G H
    → IsAt templates rules f p r → (f.number == 6) ≡ false → IsAnswer (FindsOne templates G p r (atoms_of f.number r) n) e
    → IsAnswer (Shows templates H rules f n) e
explained_is_shown templates G H rules f p r n e tie is six = explained_same (FindsOne templates G p r (atoms_of f.number r) n) (Shows templates H rules f n) e
    (λ d h. shows_tied templates G H tie rules f n d (from_found templates G rules f p r is six n d h))
    (λ d h. to_found templates G rules f p r is six n d (shows_tied templates H G (turned G H tie) rules f n d h))

pub root_is_shown : (templates : ℕ → Forest) (G H : Graph) (rules : List Rule) (f : Fault) (n : ℕ) (e : Explained) → Ties G H → (f.number == 6) ≡ true
    → IsAnswer (Unfolds templates G n) e → IsAnswer (Shows templates H rules f n) e
root_is_shown templates G H rules f n e tie six = explained_same (Unfolds templates G n) (Shows templates H rules f n) e
    (λ d h. each six (fills_tied templates G H tie h)) (λ d h. fills_tied templates H G (turned G H tie) (back d h))
  where
    back : (d : Forest) → Shows templates H rules f n d → Unfolds templates H n d
    back d (each o u) = u
    back d (some o s) = absurd (false≢true (sym o ∙ six))
