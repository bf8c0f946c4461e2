-- The tests at an element of a reached template say exactly what its unfoldings may break.
use Rattle.std.proofs.Common.{◌≡◌, ◌↔◌, inl, inr, ℕ, ◌<◌, Bool, true, false, not, List, length, refl, ap, sym, ◌∙◌, arith}
use Rattle.std.specs.List.{Contains}
use Rattle.std.proofs.lemmas.Bool.{false≢true, or_cases, and_parts, and_from, not-true}
use Rattle.bw_lang.specs.declared.items.Attr.{Attr}
use Rattle.bw_lang.specs.Document.Forest.{Forest}
use Rattle.bw_lang.specs.Table.Names.{name_number}
use Rattle.bw_shape.specs.Rows.Rows.{at}
use Rattle.bw_strings.specs.declared.strings.StrSet.{StrSet}
use Rattle.bw_schema.specs.declared.rules.Rule.{Rule}
use Rattle.bw_schema.specs.declared.schema.Schema.{Schema}
use Rattle.bw_schema.specs.Rules.{allows, permits}
use Rattle.bw_schema.specs.Needs.{Needs, nothing, all_of, some_of, attr, one_value, content, order}
use Rattle.bw_schema.specs.Validity.{joined}
use Rattle.bw_faults.specs.declared.fault.Fault.{Fault}
use Rattle.bw_sum.specs.Graph.{Graph}
use Rattle.bw_shape.specs.Nodes.Nodes.{Node, node_at}
use Rattle.bw_shape.specs.Shape.{Reached, Misses, Crossing}
use Rattle.bw_shape.specs.Columns.{AreKnown}
use Rattle.bw_shape.specs.Nodes.Templates.{template_at}
use Rattle.bw_shape.specs.Tests.{gives, tag_column}
use Rattle.bw_shape.specs.declared.tables.Tables.{Tables}
use Rattle.bw_shape.proofs.ExactTops.{miss_by, miss_sound, miss_test, cross_by, cross_sound, cross_test}
use Rattle.bw_judge.specs.declared.content.Spot.{Spot}
use Rattle.bw_judge.specs.Content.{fault_at, OfContent}
use Rattle.bw_judge.specs.Laws.{ContentFault, child, words}
use Rattle.bw_judge.specs.Scene.{Scene, is_told, is_permitted}
use Rattle.bw_shape.specs.Formulas.{pair_number}
use Rattle.bw_judge.specs.Sure.{sure, may_miss, may_cross}
use Rattle.bw_judge.specs.Found.{OfAttr, OfMust, OfParts}
use Rattle.bw_judge.specs.Faults as fault
use Rattle.bw_judge.specs.Faults.{MayBe, Both, Ends, Sure, Breaks}
use Rattle.bw_shape.specs.Formulas.{AreNamed}
use Rattle.bw_judge.specs.Pages.{scene_at, IsScene, IsPage}
use Rattle.bw_shape.proofs.Shapes.{pair_at}
use Rattle.bw_faults.proofs.Adding.{some_to, some_from}
use Rattle.bw_judge.proofs.NeedsSound.{joined_by}
use Rattle.bw_judge.proofs.Exact.{content_exact}
use Rattle.bw_judge.proofs.Strings.{told_to, told_from, permitted_to, permitted_from, absent_to, absent_from, unsure_from, there_to, there_from, there_with_to}
use Rattle.bw_judge.proofs.Strings.{there_with_from}

joined_to : (b : Bool) {P Q : Type 0} (p q : Bool) → (p ≡ true → P) → (q ≡ true → Q) → joined b p q ≡ true → Both b P Q
joined_to true p q f g h = let k = and_parts p q h in (f k.0, g k.1)
joined_to false p q f g h = elim (or_cases p q h) [ inl x ↦ inl (f x) | inr x ↦ inr (g x) ]

ends_to : (b : Bool) → b ≡ true → Ends b
ends_to true h = tt
ends_to false h = absurd (false≢true h)

ends_from : (b : Bool) → Ends b → b ≡ true
ends_from true h = refl
ends_from false h = absurd h

module _ (templates : List Forest) (nodes : List Node) (said : List (List (ℕ × StrSet))) (literals : List (List ℕ)) (o : Tables) (first : ℕ)
    (pairs : List (ℕ × ℕ)) (schema : Schema) (root : ℕ) (G : Graph)
    (page : IsPage templates nodes said literals o first pairs schema root G) (n : ℕ) (w : Reached G root n) where
  abbrev scene : Scene
  scene = scene_at nodes said literals o pairs n

  sees : IsScene G n (scene_at nodes said literals o pairs n)
  sees = record {
    left = λ g. page.tables.fits.tracks n g;
    told = λ g h. page.tables.fits.said n g h;
    telling = λ g s l. page.tables.fits.saying n g s l;
    strings = λ g s. page.strings n g s;
  }

  miss_to : (x : List ℕ) (i : Forest) → may_miss scene x i ≡ true → Misses (template_at templates) G x n i
  miss_to x i h =
      miss_by templates page.tables.fits root o.tags n x (λ m. at o.miss m (name_number o.tags x))
      (λ m r. miss_sound templates page.tables.fits root o.tags first o.miss page.tables.miss_derived m x r) i h

  miss_from : (x : List ℕ) (i : Forest) → name_number o.tags x < first → Misses (template_at templates) G x n i → may_miss scene x i ≡ true
  miss_from x i l h = miss_test templates page.tables.fits root o.tags first page.tables.few o.miss page.tables.miss_closed l w h

  low : (x : List ℕ) → name_number o.tags x < first → name_number o.tags x < length o.tags
  low x l = let f = page.tables.few in omega (arith, l, f)

  cross_to : (x y : List ℕ) (i : Forest) → name_number o.tags x < first → name_number o.tags y < first
      → pair_number pairs (tag_column o.tags y, tag_column o.tags x) < length pairs
      → may_cross scene x y i ≡ true → Crossing (template_at templates) G x y n i
  cross_to x y i l m k h =
      let p : ℕ × ℕ = (tag_column o.tags y, tag_column o.tags x) in
      cross_by templates page.tables.fits root o.tags o.tops page.tables.tops_derived n x y (λ j. at o.cross j (pair_number pairs p)) (low x l) (low y m)
      (λ j r. cross_sound templates page.tables.fits root o.tags o.tops page.tables.tops_derived pairs o.cross page.tables.cross_derived j
      (pair_number pairs p) x y (low x l) (low y m) (pair_at pairs p k) r) i h

  cross_from : (x y : List ℕ) (i : Forest) → AreKnown o.tags i → pair_number pairs (tag_column o.tags y, tag_column o.tags x) < length pairs
      → Crossing (template_at templates) G x y n i → may_cross scene x y i ≡ true
  cross_from x y i a k h =
      let p : ℕ × ℕ = (tag_column o.tags y, tag_column o.tags x) in
      cross_test templates page.tables.fits root o.tags o.tops page.tables.tops_derived page.tables.known page.tables.tops_closed pairs o.cross
      page.tables.cross_closed (pair_number pairs p) k (pair_at pairs p k) w a h

  pub sure_to : (b : Bool) (needs : Needs) → AreNamed o.tags first pairs needs → (a : List Attr) (i : Forest) → AreKnown o.tags i
      → sure scene b needs a i ≡ true → Sure (template_at templates) G n a i b needs
  sure_to b nothing k a i u h = ends_to b h
  sure_to b (all_of parts rest) k a i u h =
      joined_to b (sure scene true parts a i) (sure scene b rest a i) (sure_to true parts k.0 a i u) (sure_to b rest k.1 a i u) h
  sure_to b (some_of parts rest) k a i u h =
      joined_to b (sure scene false parts a i) (sure scene b rest a i) (sure_to false parts k.0 a i u) (sure_to b rest k.1 a i u) h
  sure_to b (attr x rest) k a i u h = joined_to b _ (sure scene b rest a i) (there_to G n scene sees a x) (sure_to b rest k a i u) h
  sure_to b (one_value x vs rest) k a i u h = joined_to b _ (sure scene b rest a i) (there_with_to G n scene sees a x vs) (sure_to b rest k a i u) h
  sure_to b (content x rest) k a i u h =
      joined_to b (not (may_miss scene x i)) (sure scene b rest a i)
      (λ e m. false≢true (sym (not-true (may_miss scene x i) e) ∙ miss_from x i k.0 m)) (sure_to b rest k.1 a i u) h
  sure_to b (order x y rest) k a i u h =
      joined_to b (not (may_cross scene x y i)) (sure scene b rest a i)
      (λ e m. false≢true (sym (not-true (may_cross scene x y i) e) ∙ cross_from x y i u k.0.1.1 m)) (sure_to b rest k.1 a i u) h

  never : (b : Bool) → (b ≡ true → ⊥) → not b ≡ true
  never true h = absurd (h refl)
  never false h = refl

  pub sure_from : (b : Bool) (needs : Needs) → AreNamed o.tags first pairs needs → (a : List Attr) (i : Forest)
      → Sure (template_at templates) G n a i b needs → sure scene b needs a i ≡ true
  sure_from b nothing k a i h = ends_from b h
  sure_from b (all_of parts rest) k a i h = joined_by b _ _ (sure_from true parts k.0 a i) (sure_from b rest k.1 a i) h
  sure_from b (some_of parts rest) k a i h = joined_by b _ _ (sure_from false parts k.0 a i) (sure_from b rest k.1 a i) h
  sure_from b (attr x rest) k a i h = joined_by b _ _ (there_from G n scene sees a x) (sure_from b rest k a i) h
  sure_from b (one_value x vs rest) k a i h = joined_by b _ _ (there_with_from G n scene sees a x vs) (sure_from b rest k a i) h
  sure_from b (content x rest) k a i h =
      joined_by b _ _ (λ (m : Misses (template_at templates) G x n i → ⊥). never (may_miss scene x i) (λ e. m (miss_to x i e))) (sure_from b rest k.1 a i) h
  sure_from b (order x y rest) k a i h =
      joined_by b _ _ (λ (m : Crossing (template_at templates) G x y n i → ⊥). never (may_cross scene x y i) (λ e. m (cross_to x y i k.0.0 k.0.1.0 k.0.1.1 e)))
      (sure_from b rest k.1 a i) h

  -- what is broken, as a fault
  abbrev Broken : Rule → Spot → List ℕ → List Attr → Forest → Fault → Type 0
  Broken r spot tag a i f = (k : ℕ) × (detail : List ℕ) × Breaks (template_at templates) G n r tag a i k detail × (f ≡ fault_at spot k detail)

  content_broken : {r : Rule} {spot : Spot} {tag : List ℕ} {a : List Attr} {i : Forest} {f : Fault}
      → ContentFault (template_at templates) G spot r.has r.text n i f → Broken r spot tag a i f
  content_broken (child {x = x} g e) = (4, x, fault.child g e, refl)
  content_broken (words g e) = (5, _, fault.words g e, refl)

  attr_broken : (r : Rule) (spot : Spot) (tag : List ℕ) (attrs : List Attr) (i : Forest) (f : Fault) (x : Attr) → Contains attrs x
      → OfAttr scene r spot x f → Broken r spot tag attrs i f
  attr_broken r spot tag attrs i f x c (inl h) =
      let p = and_parts (is_told scene x.value) (not (allows r x.name)) h.0 in
      let m = told_to G n scene sees x.value p.0 in
      (1, x.name, fault.attribute c m.1 (not-true _ p.1), h.1)
  attr_broken r spot tag attrs i f x c (inr h) =
      let m = permitted_from G n scene sees r.values x (not-true _ h.0) in
      (3, x.name, fault.value c m.1 m.2, h.1)

  must_broken : (r : Rule) (spot : Spot) (tag : List ℕ) (attrs : List Attr) (i : Forest) (f : Fault) (x : List ℕ) → Contains r.must x
      → OfMust scene spot attrs x f → Broken r spot tag attrs i f
  must_broken r spot tag attrs i f x c h = elim (absent_to G n scene sees attrs x h.0) [
    | inl e ↦ (2, x, fault.absent c e, h.1)
    | inr e ↦ (2, x, fault.unsure c e.2 e.3 e.4 e.5, h.1)
  ]

  exact_content : (r : Rule) (spot : Spot) (i : Forest) → AreKnown o.tags i → (f : Fault)
      → OfContent spot r.has r.text o.tags (λ c. gives o.tags (node_at nodes n) (λ m. at o.tops m c) c i) (length o.tags) f
      ↔ ContentFault (template_at templates) G spot r.has r.text n i f
  exact_content r spot i u f =
      content_exact templates nodes G root o.tags o.tops
      (record { fits = page.tables.fits; derived = page.tables.tops_derived; closed = page.tables.tops_closed; known = page.tables.known })
      spot r.has r.text n i w u f

  pub parts_to : (r : Rule) → AreNamed o.tags first pairs r.needs → (spot : Spot) (tag : List ℕ) (a : List Attr) (i : Forest) → AreKnown o.tags i → (f : Fault)
      → OfParts scene r spot tag a i f → Broken r spot tag a i f
  parts_to r k spot tag a i u f (inl h) = let q = some_to (OfAttr scene r spot) a f h in attr_broken r spot tag a i f q.0 q.1 q.2
  parts_to r k spot tag a i u f (inr (inl h)) = let q = some_to (OfMust scene spot a) r.must f h in must_broken r spot tag a i f q.0 q.1 q.2
  parts_to r k spot tag a i u f (inr (inr (inl h))) = content_broken ((exact_content r spot i u f).0 h)
  parts_to r k spot tag a i u f (inr (inr (inr h))) =
      (7, tag, fault.need (λ q. false≢true (sym (not-true (sure scene true r.needs a i) h.0) ∙ sure_from true r.needs k a i q)), h.1)

  permits_not : (r : Rule) (x : Attr) {v : List ℕ} → MayBe G n x.value v → permits r.values x.name v ≡ false → not (is_permitted scene r.values x) ≡ true
  permits_not r x m e = never (is_permitted scene r.values x) (λ h. false≢true (sym e ∙ permitted_to G n scene sees r.values x m h))

  pub parts_from : (r : Rule) → AreNamed o.tags first pairs r.needs → (spot : Spot) {tag : List ℕ} {a : List Attr} {i : Forest} → AreKnown o.tags i
      → {k : ℕ} {detail : List ℕ} → Breaks (template_at templates) G n r tag a i k detail
      → OfParts scene r spot tag a i (fault_at spot k detail)
  parts_from r k spot {a = a} u (fault.attribute {a = x} c m e) =
      inl (some_from (OfAttr scene r spot) a _ x c
      (inl (and_from (is_told scene x.value) (not (allows r x.name)) (told_from G n scene sees m) (ap not e), refl)))
  parts_from r k spot {a = a} u (fault.absent {x = x} c e) = inr (inl (some_from (OfMust scene spot a) r.must _ x c (absent_from G n scene sees a x e, refl)))
  parts_from r k spot {a = a} u (fault.unsure {x = x} {a = y} {g = g} c d e is l) =
      inr (inl (some_from (OfMust scene spot a) r.must _ x c (unsure_from G n scene sees a x y g d e is l, refl)))
  parts_from r k spot {a = a} u (fault.value {a = x} c m e) = inl (some_from (OfAttr scene r spot) a _ x c (inr (permits_not r x m e, refl)))
  parts_from r k spot {i = i} u (fault.child g e) = inr (inr (inl ((exact_content r spot i u _).1 (child g e))))
  parts_from r k spot {i = i} u (fault.words g e) = inr (inr (inl ((exact_content r spot i u _).1 (words g e))))
  parts_from r k spot {a = a} {i = i} u (fault.need h) = inr (inr (inr (never (sure scene true r.needs a i) (λ e. h (sure_to true r.needs k a i u e)), refl)))
