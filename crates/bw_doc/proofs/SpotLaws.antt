-- Laws of open gaps.
use Rattle.std.proofs.Common.{◌≡◌, ℕ, Bool, true, false, ◌==◌, if◌then◌else◌, List, [], ◌∷◌, map, refl, ap, sym, ◌∙◌, cond, count_by}
use Rattle.std.specs.List.{list_any}
use Rattle.std.specs.Prelude.{◌||◌}
use Rattle.std.proofs.lemmas.Bool.{eqb-true}
use Rattle.std.proofs.lemmas.List.Sums.{sum_by-cons}
use Rattle.bw_lang.specs.declared.items.Attr.{Attr}
use Rattle.bw_lang.specs.declared.items.AttrValue.{AttrValue}
use Rattle.bw_lang.specs.declared.items.AttrValue.TheVariants.{Fixed, Hole}
use Rattle.bw_lang.specs.Document.Forest.{Forest, none, text, gap, element}
use Rattle.bw_lang.specs.Document.Documents.{append, plug, plug_text, count, depth, deeper, here, is_hole, filled_value, filled_attr}
use Rattle.bw_doc.specs.declared.spots.Spot.{Spot}
use Rattle.bw_doc.specs.Spots.{nowhere, join, inside, once, times, unless, content, holes, hole, opened, plugged_open, filled_open}
use Rattle.bw_doc.proofs.SpotAlgebra.{spot, swap, join_assoc, join_comm, join_nowhere, nowhere_join, inside_join, times_join, inside_times}
use Rattle.bw_doc.proofs.SpotAlgebra.{times_once, nowhere_times}

-- ---- where gaps are open in two forests

pub content-append : (g : ℕ) (a b : Forest) → content g (append a b) ≡ join (content g a) (content g b)
content-append g none b = sym (nowhere_join (content g b))
content-append g (text s r) b = content-append g r b
content-append g (gap h r) b = ap (join (once (h == g))) (content-append g r b) ∙ sym (join_assoc (once (h == g)) (content g r) (content g b))
content-append g (element t a i r) b =
    ap (join (inside (content g i))) (content-append g r b) ∙ sym (join_assoc (inside (content g i)) (content g r) (content g b))

pub hole-append : (g : ℕ) (a b : Forest) → hole g (append a b) ≡ join (hole g a) (hole g b)
hole-append g none b = sym (nowhere_join (hole g b))
hole-append g (text s r) b = hole-append g r b
hole-append g (gap h r) b = hole-append g r b
hole-append g (element t a i r) b =
    let x = inside (join (holes g a) (hole g i)) in
    ap (join x) (hole-append g r b) ∙ sym (join_assoc x (hole g r) (hole g b))

-- ---- what a plug leaves open

-- of its own name: what is in each of the documents plugged in
content_same : (g : ℕ) (e f : Forest) → content g (plug g e f) ≡ times (content g f) (content g e)
content_same g e none = sym (nowhere_times (content g e))
content_same g e (text s r) = content_same g e r
content_same g e (gap k r) = by_test (k == g) refl (content_same g e r)
  where
    by_test : (b : Bool) → (k == g) ≡ b → content g (plug g e r) ≡ times (content g r) (content g e)
        → content g (if b then append e (plug g e r) else gap k (plug g e r)) ≡ times (join (once b) (content g r)) (content g e)
    by_test true p ih =
        content-append g e (plug g e r)
        ∙ ap (join (content g e)) (ih)
        ∙ ap (λ x. join x (times (content g r) (content g e))) (sym (times_once (content g e)))
        ∙ sym (times_join (once true) (content g r) (content g e))
    by_test false p ih =
        ap (λ b. join (once b) (content g (plug g e r))) p ∙ nowhere_join (content g (plug g e r)) ∙ ih
        ∙ ap (λ x. times x (content g e)) (sym (nowhere_join (content g r)))
content_same g e (element t a i r) =
    ap (λ x. join (inside x) (content g (plug g e r))) (content_same g e i)
    ∙ ap (join (inside (times (content g i) (content g e)))) (content_same g e r)
    ∙ ap (λ x. join x (times (content g r) (content g e))) (inside_times (content g i) (content g e))
    ∙ sym (times_join (inside (content g i)) (content g r) (content g e))

apart : (k g h : ℕ) → (k == g) ≡ true → (h == g) ≡ false → (k == h) ≡ false
apart k g h p q = by_test (k == h) refl
  where
    by_test : (b : Bool) → (k == h) ≡ b → b ≡ false
    by_test false e = refl
    by_test true e = let a = eqb-true k g p in let b = eqb-true k h e in absurd (cc)

-- of another name: what was open, and what is in each of the documents plugged in
content_other : (g h : ℕ) (e f : Forest) → (h == g) ≡ false → content h (plug g e f) ≡ join (content h f) (times (content g f) (content h e))
content_other g h e none q = sym (nowhere_join (times nowhere (content h e)) ∙ nowhere_times (content h e))
content_other g h e (text s r) q = content_other g h e r q
content_other g h e (gap k r) q = by_test (k == g) refl (content_other g h e r q)
  where
    by_test : (b : Bool) → (k == g) ≡ b → content h (plug g e r) ≡ join (content h r) (times (content g r) (content h e))
        → content h (if b then append e (plug g e r) else gap k (plug g e r)) ≡ join (join (once (k == h)) (content h r))
        (times (join (once b) (content g r)) (content h e))
    by_test true p ih =
        content-append h e (plug g e r)
        ∙ ap (join (content h e)) ih
        ∙ sym (join_assoc (content h e) (content h r) (times (content g r) (content h e)))
        ∙ ap (λ x. join x (times (content g r) (content h e))) (join_comm (content h e) (content h r))
        ∙ join_assoc (content h r) (content h e) (times (content g r) (content h e))
        ∙ ap (λ x. join (content h r) (join x (times (content g r) (content h e)))) (sym (times_once (content h e)))
        ∙ ap (join (content h r)) (sym (times_join (once true) (content g r) (content h e)))
        ∙ ap (λ x. join x (times (join (once true) (content g r)) (content h e)))
        (sym (nowhere_join (content h r)) ∙ ap (λ b. join (once b) (content h r)) (sym (apart k g h p q)))
    by_test false p ih =
        ap (join (once (k == h))) ih
        ∙ sym (join_assoc (once (k == h)) (content h r) (times (content g r) (content h e)))
        ∙ ap (λ x. join (join (once (k == h)) (content h r)) (times x (content h e))) (sym (nowhere_join (content g r)))
content_other g h e (element t a i r) q =
    let ti = times (content g i) (content h e) in let tr = times (content g r) (content h e) in
    ap (λ x. join (inside x) (content h (plug g e r))) (content_other g h e i q)
    ∙ ap (join (inside (join (content h i) ti))) (content_other g h e r q)
    ∙ ap (λ x. join x (join (content h r) tr)) (inside_join (content h i) ti)
    ∙ swap (inside (content h i)) (inside ti) (content h r) tr
    ∙ ap (λ x. join (join (inside (content h i)) (content h r)) (join x tr)) (inside_times (content g i) (content h e))
    ∙ ap (join (join (inside (content h i)) (content h r))) (sym (times_join (inside (content g i)) (content g r) (content h e)))

hole_plug : (g h : ℕ) (e f : Forest) → hole h (plug g e f) ≡ join (hole h f) (times (content g f) (hole h e))
hole_plug g h e none = sym (nowhere_join (times nowhere (hole h e)) ∙ nowhere_times (hole h e))
hole_plug g h e (text s r) = hole_plug g h e r
hole_plug g h e (gap k r) = by_test (k == g) (hole_plug g h e r)
  where
    by_test : (b : Bool) → hole h (plug g e r) ≡ join (hole h r) (times (content g r) (hole h e))
        → hole h (if b then append e (plug g e r) else gap k (plug g e r)) ≡ join (hole h r) (times (join (once b) (content g r)) (hole h e))
    by_test true ih =
        hole-append h e (plug g e r)
        ∙ ap (join (hole h e)) (ih)
        ∙ sym (join_assoc (hole h e) (hole h r) (times (content g r) (hole h e)))
        ∙ ap (λ x. join x (times (content g r) (hole h e))) (join_comm (hole h e) (hole h r))
        ∙ join_assoc (hole h r) (hole h e) (times (content g r) (hole h e))
        ∙ ap (λ x. join (hole h r) (join x (times (content g r) (hole h e)))) (sym (times_once (hole h e)))
        ∙ ap (join (hole h r)) (sym (times_join (once true) (content g r) (hole h e)))
    by_test false ih = ih ∙ ap (λ x. join (hole h r) (times x (hole h e))) (sym (nowhere_join (content g r)))
hole_plug g h e (element t a i r) =
    let ti = times (content g i) (hole h e) in let tr = times (content g r) (hole h e) in
    let own = join (holes h a) (hole h i) in
    ap (λ x. join (inside (join (holes h a) x)) (hole h (plug g e r))) (hole_plug g h e i)
    ∙ ap (join (inside (join (holes h a) (join (hole h i) ti)))) (hole_plug g h e r)
    ∙ ap (λ x. join (inside x) (join (hole h r) tr)) (sym (join_assoc (holes h a) (hole h i) ti))
    ∙ ap (λ x. join x (join (hole h r) tr)) (inside_join own ti)
    ∙ swap (inside own) (inside ti) (hole h r) tr
    ∙ ap (λ x. join (join (inside own) (hole h r)) (join x tr)) (inside_times (content g i) (hole h e))
    ∙ ap (join (join (inside own) (hole h r))) (sym (times_join (inside (content g i)) (content g r) (hole h e)))

-- a plug of a document
pub opened_plug : (g h : ℕ) (e f : Forest) → opened h (plug g e f) ≡ plugged_open (h == g) (opened h f) (opened h e) (content g f)
opened_plug g h e f = λ i. record { content = by_test (h == g) refl i; hole = hole_plug g h e f i }
  where
    by_test : (b : Bool) → (h == g) ≡ b → content h (plug g e f) ≡ join (unless b (content h f)) (times (content g f) (content h e))
    by_test true p =
        let same : h ≡ g = eqb-true h g p in
        ap (λ k. content k (plug g e f)) same ∙ content_same g e f ∙ ap (λ k. times (content g f) (content k e)) (sym same)
        ∙ sym (nowhere_join (times (content g f) (content h e)))
    by_test false p = content_other g h e f p

-- ---- what a plug of a string leaves open

holes_same : (g : ℕ) (s : List ℕ) (a : List Attr) → holes g (map (filled_attr g s) a) ≡ nowhere
holes_same g s [] = refl
holes_same g s (x ∷ a) =
    ap (join (once (is_hole g (filled_value g s x.value)))) (holes_same g s a) ∙ join_nowhere (once (is_hole g (filled_value g s x.value)))
    ∙ by_value x.value
  where
    by_value : (v : AttrValue) → once (is_hole g (filled_value g s v)) ≡ nowhere
    by_value (Fixed t) = refl
    by_value (Hole k) = by_test (k == g) refl
      where
        by_test : (b : Bool) → (k == g) ≡ b → once (is_hole g (if b then Fixed s else Hole k)) ≡ nowhere
        by_test true p = refl
        by_test false p = ap once p

content_filled : (g : ℕ) (s : List ℕ) (f : Forest) → content g (plug_text g s f) ≡ nowhere
content_filled g s none = refl
content_filled g s (text t r) = content_filled g s r
content_filled g s (gap k r) = by_test (k == g) refl (content_filled g s r)
  where
    by_test : (b : Bool) → (k == g) ≡ b → content g (plug_text g s r) ≡ nowhere
        → content g (if b then text s (plug_text g s r) else gap k (plug_text g s r)) ≡ nowhere
    by_test true p ih = ih
    by_test false p ih = ap (λ b. join (once b) (content g (plug_text g s r))) p ∙ nowhere_join (content g (plug_text g s r)) ∙ ih
content_filled g s (element t a i r) =
    ap (λ x. join (inside x) (content g (plug_text g s r))) (content_filled g s i) ∙ ap (join nowhere) (content_filled g s r)

hole_filled : (g : ℕ) (s : List ℕ) (f : Forest) → hole g (plug_text g s f) ≡ nowhere
hole_filled g s none = refl
hole_filled g s (text t r) = hole_filled g s r
hole_filled g s (gap k r) = by_test (k == g) (hole_filled g s r)
  where
    by_test : (b : Bool) → hole g (plug_text g s r) ≡ nowhere → hole g (if b then text s (plug_text g s r) else gap k (plug_text g s r)) ≡ nowhere
    by_test true ih = ih
    by_test false ih = ih
hole_filled g s (element t a i r) =
    ap (λ x. join (inside (join x (hole g (plug_text g s i)))) (hole g (plug_text g s r))) (holes_same g s a)
    ∙ ap (λ x. join (inside (join nowhere x)) (hole g (plug_text g s r))) (hole_filled g s i)
    ∙ ap (join nowhere) (hole_filled g s r)

holes_other : (g h : ℕ) (s : List ℕ) (a : List Attr) → (h == g) ≡ false → holes h (map (filled_attr g s) a) ≡ holes h a
holes_other g h s [] q = refl
holes_other g h s (x ∷ a) q =
    ap (join (once (is_hole h (filled_value g s x.value)))) (holes_other g h s a q) ∙ ap (λ y. join y (holes h a)) (by_value x.value)
  where
    by_value : (v : AttrValue) → once (is_hole h (filled_value g s v)) ≡ once (is_hole h v)
    by_value (Fixed t) = refl
    by_value (Hole k) = by_test (k == g) refl
      where
        by_test : (b : Bool) → (k == g) ≡ b → once (is_hole h (if b then Fixed s else Hole k)) ≡ once (k == h)
        by_test true p = ap once (sym (apart k g h p q))
        by_test false p = refl

content_unfilled : (g h : ℕ) (s : List ℕ) (f : Forest) → (h == g) ≡ false → content h (plug_text g s f) ≡ content h f
content_unfilled g h s none q = refl
content_unfilled g h s (text t r) q = content_unfilled g h s r q
content_unfilled g h s (gap k r) q = by_test (k == g) refl (content_unfilled g h s r q)
  where
    by_test : (b : Bool) → (k == g) ≡ b → content h (plug_text g s r) ≡ content h r
        → content h (if b then text s (plug_text g s r) else gap k (plug_text g s r)) ≡ join (once (k == h)) (content h r)
    by_test true p ih = ih ∙ sym (nowhere_join (content h r)) ∙ ap (λ b. join (once b) (content h r)) (sym (apart k g h p q))
    by_test false p ih = ap (join (once (k == h))) (ih)
content_unfilled g h s (element t a i r) q =
    ap (λ x. join (inside x) (content h (plug_text g s r))) (content_unfilled g h s i q) ∙ ap (join (inside (content h i))) (content_unfilled g h s r q)

hole_unfilled : (g h : ℕ) (s : List ℕ) (f : Forest) → (h == g) ≡ false → hole h (plug_text g s f) ≡ hole h f
hole_unfilled g h s none q = refl
hole_unfilled g h s (text t r) q = hole_unfilled g h s r q
hole_unfilled g h s (gap k r) q = by_test (k == g) (hole_unfilled g h s r q)
  where
    by_test : (b : Bool) → hole h (plug_text g s r) ≡ hole h r → hole h (if b then text s (plug_text g s r) else gap k (plug_text g s r)) ≡ hole h r
    by_test true ih = ih
    by_test false ih = ih
hole_unfilled g h s (element t a i r) q =
    ap (λ x. join (inside (join x (hole h (plug_text g s i)))) (hole h (plug_text g s r))) (holes_other g h s a q)
    ∙ ap (λ x. join (inside (join (holes h a) x)) (hole h (plug_text g s r))) (hole_unfilled g h s i q)
    ∙ ap (join (inside (join (holes h a) (hole h i)))) (hole_unfilled g h s r q)

-- a plug of a string
pub opened_fill : (g h : ℕ) (s : List ℕ) (f : Forest) → opened h (plug_text g s f) ≡ filled_open (h == g) (opened h f)
opened_fill g h s f = by_test (h == g) refl
  where
    by_test : (b : Bool) → (h == g) ≡ b → opened h (plug_text g s f) ≡ filled_open b (opened h f)
    by_test true p =
        let same : h ≡ g = eqb-true h g p in
        ap (λ k. opened k (plug_text g s f)) same ∙ (λ i. record { content = content_filled g s f i; hole = hole_filled g s f i })
    by_test false p = λ i. record { content = content_unfilled g h s f p i; hole = hole_unfilled g h s f p i }

-- ---- counts and depths

pub holes_are : (g : ℕ) (a : List Attr) → holes g a ≡ record { count = count_by (λ v. is_hole g v.value) a; depth = here (list_any (λ v. is_hole g v.value) a) }
holes_are g [] = refl
holes_are g (x ∷ a) =
    ap (join (once (is_hole g x.value))) (holes_are g a)
    ∙ spot (join (once (is_hole g x.value)) rest) whole (sym (sum_by-cons (λ (v : Attr). cond (is_hole g v.value) 1 0) x a))
    (by_tests (is_hole g x.value) (list_any (λ v. is_hole g v.value) a))
  where
    rest : Spot
    rest = record { count = count_by (λ v. is_hole g v.value) a; depth = here (list_any (λ v. is_hole g v.value) a) }

    whole : Spot
    whole = record { count = count_by (λ v. is_hole g v.value) (x ∷ a); depth = here (list_any (λ v. is_hole g v.value) (x ∷ a)) }

    by_tests : (b c : Bool) → deeper (here b) (here c) ≡ here (b || c)
    by_tests true true = refl
    by_tests true false = refl
    by_tests false true = refl
    by_tests false false = refl

-- content and attribute gaps together
pub counted : (g : ℕ) (f : Forest) → join (content g f) (hole g f) ≡ record { count = count g f; depth = depth g f }
counted g none = refl
counted g (text s r) = counted g r
counted g (gap h r) = join_assoc (once (h == g)) (content g r) (hole g r) ∙ ap (join (once (h == g))) (counted g r)
counted g (element t a i r) =
    let own = join (holes g a) (hole g i) in
    swap (inside (content g i)) (content g r) (inside own) (hole g r)
    ∙ ap (λ x. join x (join (content g r) (hole g r))) (sym (inside_join (content g i) own))
    ∙ ap (join (inside (join (content g i) own))) (counted g r)
    ∙ ap (λ x. join (inside x) (record { count = count g r; depth = depth g r })) (
    sym (join_assoc (content g i) (holes g a) (hole g i)) ∙ ap (λ x. join x (hole g i)) (join_comm (content g i) (holes g a))
    ∙ join_assoc (holes g a) (content g i) (hole g i)
    ∙ ap (join (holes g a)) (counted g i) ∙ ap (λ x. join x (record { count = count g i; depth = depth g i })) (holes_are g a))
