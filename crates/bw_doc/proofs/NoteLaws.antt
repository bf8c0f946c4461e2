-- Laws of the notes of open gaps.
use Rattle.std.proofs.Common.{◌≡◌, ℕ, ◌+◌, ◌<◌, ◌≤◌, ◌^◌, Bool, true, false, ◌==◌, List, [], ◌∷◌, ◌++◌, length, get_or, take, drop, flat_map, refl}
use Rattle.std.proofs.Common.{ap, sym, ◌∙◌, arith, Some, None}
use Rattle.std.proofs.lemmas.List.{append_assoc, append-nil, take_more, take-append-drop}
use Rattle.std.proofs.lemmas.List.Concat.{flat_map-cons}
use Rattle.std.proofs.lemmas.Grind.{flat_map-append}
use Rattle.std.proofs.lemmas.Bool.{eq-eqb}
use Rattle.bw_lang.specs.declared.items.Attr.{Attr}
use Rattle.bw_lang.specs.declared.items.AttrValue.{AttrValue}
use Rattle.bw_lang.specs.declared.items.AttrValue.TheVariants.{Fixed, Hole}
use Rattle.bw_lang.specs.declared.items.Item.{Item}
use Rattle.bw_lang.specs.Document.Documents.{append, open_gaps, is_hole}
use Rattle.bw_lang.specs.Document.Forest.{Forest, none, text, gap, element}
use Rattle.bw_lang.specs.Document.View.{forest, before}
use Rattle.bw_lang.proofs.Counts.{elements_room, count_le-open_gaps}
use Rattle.bw_lang.proofs.Forests.{forest_at_read, size_at_read}
use Rattle.bw_doc.specs.declared.notes.Note.{Note}
use Rattle.bw_doc.specs.declared.spots.Open.{Open}
use Rattle.bw_doc.specs.Notes.{level, content_at, hole_at, value_notes, attr_notes, notes, all_noted, IsCounted, AreFew}
use Rattle.bw_doc.specs.Spots.{nowhere, join, inside, once, times, both, only, content, hole, holes, opened, at, IsTableOf, added_at}
use Rattle.bw_doc.proofs.SpotLaws.{counted}
use Rattle.bw_doc.proofs.SpotAlgebra.{spot, opened_as, join_assoc, nowhere_join, join_times, times_inside, times_once, both_assoc, closed_both, both_closed}

-- ---- the walk

pub notes-append : (n : ℕ) (a b : Forest) → notes n (append a b) ≡ notes n a ++ notes n b
notes-append n none b = refl
notes-append n (text s r) b = notes-append n r b
notes-append n (gap g r) b = ap (λ x. record { gap = g; says = content_at n } ∷ x) (notes-append n r b)
notes-append n (element t a i r) b =
    let own = attr_notes (n + 1) a in let inner = notes (n + 1) i in
    ap (λ x. own ++ (inner ++ x)) (notes-append n r b)
    ∙ ap (λ x. own ++ x) (sym (append_assoc inner (notes n r) (notes n b)))
    ∙ sym (append_assoc own (inner ++ notes n r) (notes n b))

pub notes_at_read : (n : ℕ) (xs : List Item) (i : ℕ) (d : Item) → i < length xs
    → (get_or xs i d ≡ get_or xs i d) × (notes n (forest (take (i + 1) xs)) ≡ notes n (forest (take i xs)) ++ notes n (before (get_or xs i d) none))
notes_at_read n xs i d h = (refl, ap (notes n) (forest_at_read xs i d h).1 ∙ notes-append n (forest (take i xs)) (before (get_or xs i d) none))

one_attr : (n : ℕ) (x : Attr) → attr_notes n (x ∷ []) ≡ value_notes n x.value
one_attr n x = append-nil (value_notes n x.value)

pub attr_notes_at_read : (n : ℕ) (xs : List Attr) (i : ℕ) (d : Attr) → i < length xs
    → (get_or xs i d ≡ get_or xs i d) × (attr_notes n (take (i + 1) xs) ≡ attr_notes n (take i xs) ++ value_notes n (get_or xs i d).value)
attr_notes_at_read n xs i d h = (
  refl,
  ap (attr_notes n) (take_more xs i d h) ∙ flat_map-append (λ a. value_notes n a.value) (take i xs) (get_or xs i d ∷ [])
      ∙ ap (λ x. attr_notes n (take i xs) ++ x) (one_attr n (get_or xs i d)),
)

pub ruleset note_steps = (append-nil, append_assoc, size_at_read, notes_at_read, attr_notes_at_read, elements_room)

-- ---- what notes say together

all_noted-append : (g : ℕ) (a b : List Note) → all_noted g (a ++ b) ≡ both (all_noted g a) (all_noted g b)
all_noted-append g [] b = sym (closed_both (all_noted g b))
all_noted-append g (x ∷ a) b =
    let first = only (x.gap == g) x.says in
    ap (both first) (all_noted-append g a b) ∙ sym (both_assoc first (all_noted g a) (all_noted g b))

one_noted : (g : ℕ) (x : Note) → all_noted g (x ∷ []) ≡ only (x.gap == g) x.says
one_noted g x = both_closed (only (x.gap == g) x.says)

-- ---- what the notes of items say

-- inside so many elements more
abbrev sunk : ℕ → Open → Open
sunk n o = record { content = times (level n) o.content; hole = times (level n) o.hole }

level_once : (n : ℕ) (b : Bool) → (only b (content_at n)).content ≡ times (level n) (once b)
level_once n true = spot (level n) (times (level n) (once true)) refl (ap Some (omega arith))
level_once n false = refl

no_hole : (n : ℕ) (b : Bool) → (only b (content_at n)).hole ≡ nowhere
no_hole n true = refl
no_hole n false = refl

hole_once : (n : ℕ) (b : Bool) → (only b (hole_at n)).hole ≡ times (level n) (once b)
hole_once n true = spot (level n) (times (level n) (once true)) refl (ap Some (omega arith))
hole_once n false = refl

no_content : (n : ℕ) (b : Bool) → (only b (hole_at n)).content ≡ nowhere
no_content n true = refl
no_content n false = refl

-- the attribute gaps alone
abbrev held : ℕ → ℕ → List Attr → Open
held g n a = record { content = nowhere; hole = times (level n) (holes g a) }

value_noted : (g n : ℕ) (v : AttrValue) → all_noted g (value_notes n v) ≡ record { content = nowhere; hole = times (level n) (once (is_hole g v)) }
value_noted g n (Fixed s) = refl
value_noted g n (Hole h) =
    one_noted g (record { gap = h; says = hole_at n })
    ∙ opened_as (only (h == g) (hole_at n)) (record { content = nowhere; hole = times (level n) (once (h == g)) }) (no_content n (h == g))
    (hole_once n (h == g))

attrs_noted : (g n : ℕ) (a : List Attr) → all_noted g (attr_notes n a) ≡ held g n a
attrs_noted g n [] = refl
attrs_noted g n (x ∷ a) =
    let own = once (is_hole g x.value) in
    ap (all_noted g) (flat_map-cons (λ y. value_notes n y.value) x a)
    ∙ all_noted-append g (value_notes n x.value) (attr_notes n a)
    ∙ ap (λ o. both o (all_noted g (attr_notes n a))) (value_noted g n x.value)
    ∙ ap (both (record { content = nowhere; hole = times (level n) own })) (attrs_noted g n a)
    ∙ opened_as (both (record { content = nowhere; hole = times (level n) own }) (held g n a)) (held g n (x ∷ a)) refl
    (sym (join_times (level n) own (holes g a)))

-- an element's attributes, what is in it and what is behind it
element_noted : (g n : ℕ) (t : List ℕ) (a : List Attr) (i r : Forest)
    → both (held g (n + 1) a) (both (sunk (n + 1) (opened g i)) (sunk n (opened g r))) ≡ sunk n (opened g (element t a i r))
element_noted g n t a i r =
    let deep = level (n + 1) in let whole = sunk n (opened g (element t a i r)) in
    opened_as (both (held g (n + 1) a) (both (sunk (n + 1) (opened g i)) (sunk n (opened g r)))) whole
    (nowhere_join (join (times deep (content g i)) (times (level n) (content g r)))
    ∙ ap (λ x. join x (times (level n) (content g r))) (sym (times_inside (level n) (content g i)))
    ∙ sym (join_times (level n) (inside (content g i)) (content g r)))
    (sym (join_assoc (times deep (holes g a)) (times deep (hole g i)) (times (level n) (hole g r)))
    ∙ ap (λ x. join x (times (level n) (hole g r))) (sym (join_times deep (holes g a) (hole g i)) ∙ sym (times_inside (level n) (join (holes g a) (hole g i))))
    ∙ sym (join_times (level n) (inside (join (holes g a) (hole g i))) (hole g r)))

all_are_noted : (g n : ℕ) (f : Forest) → all_noted g (notes n f) ≡ sunk n (opened g f)
all_are_noted g n none = refl
all_are_noted g n (text s r) = all_are_noted g n r
all_are_noted g n (gap h r) =
    let first = only (h == g) (content_at n) in
    ap (both first) (all_are_noted g n r)
    ∙ opened_as (both first (sunk n (opened g r))) (sunk n (opened g (gap h r)))
    (ap (λ x. join x (times (level n) (content g r))) (level_once n (h == g)) ∙ sym (join_times (level n) (once (h == g)) (content g r)))
    (ap (λ x. join x (times (level n) (hole g r))) (no_hole n (h == g)) ∙ nowhere_join (times (level n) (hole g r)))
all_are_noted g n (element t a i r) =
    let own = attr_notes (n + 1) a in let inner = notes (n + 1) i in
    all_noted-append g own (inner ++ notes n r)
    ∙ ap (both (all_noted g own)) (all_noted-append g inner (notes n r))
    ∙ ap (λ o. both o (both (all_noted g inner) (all_noted g (notes n r)))) (attrs_noted g (n + 1) a)
    ∙ ap (λ o. both (held g (n + 1) a) (both o (all_noted g (notes n r)))) (all_are_noted g (n + 1) i)
    ∙ ap (λ o. both (held g (n + 1) a) (both (sunk (n + 1) (opened g i)) o)) (all_are_noted g n r)
    ∙ element_noted g n t a i r

-- the notes of whole items say what is open in them
pub noted_is : (g : ℕ) (f : Forest) → all_noted g (notes 0 f) ≡ opened g f
noted_is g f = all_are_noted g 0 f ∙ opened_as (sunk 0 (opened g f)) (opened g f) (times_once (content g f)) (times_once (hole g f))

among : (g : ℕ) (f : Forest) → (content g f).count + (hole g f).count ≤ open_gaps f
among g f = omega (arith, ap (λ s. s.count) (counted g f), count_le-open_gaps g f)

pub notes_are_few : (f : Forest) → open_gaps f < 2 ^ 32 → AreFew (notes 0 f)
notes_are_few f h g = record {
  content = omega (arith, h, among g f, ap (λ o. o.content.count) (noted_is g f));
  hole = omega (arith, h, among g f, ap (λ o. o.hole.count) (noted_is g f));
}

-- ---- one note more

noted_more : (g : ℕ) (xs : List Note) (i : ℕ) (d : Note) → i < length xs
    → all_noted g (take (i + 1) xs) ≡ both (all_noted g (take i xs)) (only ((get_or xs i d).gap == g) (get_or xs i d).says)
noted_more g xs i d h =
    ap (all_noted g) (take_more xs i d h) ∙ all_noted-append g (take i xs) (get_or xs i d ∷ [])
    ∙ ap (both (all_noted g (take i xs))) (one_noted g (get_or xs i d))

pub table_noted : (xs : List Note) (i : ℕ) (d x : Note) (old new : List Open) → x ≡ get_or xs i d → i < length xs
    → IsTableOf (λ g. all_noted g (take i xs)) old → IsTableOf (added_at x.gap x.says old) new → IsTableOf (λ g. all_noted g (take (i + 1) xs)) new
table_noted xs i d x old new is h before after g =
    after g ∙ ap (λ o. both o (only (x.gap == g) x.says)) (before g)
    ∙ ap (λ y. both (all_noted g (take i xs)) (only (y.gap == g) y.says)) is ∙ sym (noted_more g xs i d h)

same_gap : (o : Open) (g : ℕ) → only (g == g) o ≡ o
same_gap o g = ap (λ b. only b o) (eq-eqb g g refl)

-- a note and those before it are among all
pub note_room : (xs : List Note) (i : ℕ) (d x : Note) (table : List Open) → x ≡ get_or xs i d → i < length xs
    → IsTableOf (λ g. all_noted g (take i xs)) table → AreFew xs → IsCounted (both (at table x.gap) x.says)
note_room xs i d x table is h before few =
    let g = x.gap in let ahead = all_noted g (take i xs) in let behind = all_noted g (drop (i + 1) xs) in
    let whole : all_noted g xs ≡ both (both (at table g) x.says) behind =
    ap (all_noted g) (sym (take-append-drop (i + 1) xs)) ∙ all_noted-append g (take (i + 1) xs) (drop (i + 1) xs)
    ∙ ap (λ o. both o behind) (
    noted_more g xs i d h ∙ ap (λ y. both ahead (only (y.gap == g) y.says)) (sym is) ∙ ap (both ahead) (same_gap x.says g)
    ∙ ap (λ o. both o x.says) (sym (before g))) in
    record {
      content = omega (arith, (few g).content, ap (λ o. o.content.count) whole);
      hole = omega (arith, (few g).hole, ap (λ o. o.hole.count) whole);
    }
