-- Laws of the gaps of pieces.
use Rattle.std.proofs.Common.{◌≡◌, ◌<◌, ◌≤◌, ◌+◌, ℕ, suc, true, false, cond, ◌⊎◌, inl, inr, List, [], ◌∷◌, ◌++◌, map, length, refl, sym, ap, subst}
use Rattle.std.proofs.Common.{◌∙◌, arith, count_by, append_assoc, get_or, drop, drop-cons}
use Rattle.std.specs.Prelude.{◌==◌}
use Rattle.std.specs.List.{All}
use Rattle.std.proofs.lemmas.Bool.Decides.{nat_tests}
use Rattle.std.proofs.lemmas.List.Sums.{fold-append, sum_by-cons, sum_by-append}
use Rattle.bw_lang.specs.declared.items.Attr.{Attr}
use Rattle.bw_lang.specs.Document.Forest.{Forest, none, text, gap, element}
use Rattle.bw_lang.specs.Document.Documents.{is_hole, one_if, count}
use Rattle.bw_lang.specs.Template.Markup.{is_void}
use Rattle.bw_lang.specs.Table.Names.{name_number, with_name, with_names}
use Rattle.bw_lang.proofs.TableLaws.{extends_refl, extends_trans, extends_with_name, added_are_there}
use Rattle.bw_lang.specs.declared.pieces.Tag.{Tag}
use Rattle.bw_lang.specs.declared.pieces.Piece.{Piece}
use Rattle.bw_lang.specs.declared.pieces.Piece.TheVariants as piece
use Rattle.bw_lang.specs.declared.pieces.RawAttr.{RawAttr}
use Rattle.bw_lang.specs.declared.pieces.RawValue.{RawValue}
use Rattle.bw_lang.specs.declared.pieces.RawValue.TheVariants as raw
use Rattle.bw_lang.specs.Template.PieceGaps.{value_gaps, attr_gaps, piece_gaps, gap_names}
use Rattle.bw_lang.specs.Template.NumberedGaps.{numbered, numbered_value}
use Rattle.bw_lang.specs.Template.PieceItems.{ReadsPieces, ReadsAs}

pub gap_names_append : (ps qs : List Piece) → gap_names (ps ++ qs) ≡ gap_names ps ++ gap_names qs
gap_names_append [] qs = refl
gap_names_append (p ∷ ps) qs =
    ap (λ (l : List (List ℕ)). piece_gaps p ++ l) (gap_names_append ps qs) ∙ sym (append_assoc (piece_gaps p) (gap_names ps) (gap_names qs))

-- taking in the names of a front, and then those behind it
pub with_more : (names front behind : List (List ℕ)) → with_names (with_names names front) behind ≡ with_names names (front ++ behind)
with_more names front behind = sym (fold-append with_name names front behind)

pub ruleset taking_in = (with_more, extends_refl, extends_trans, extends_with_name)

-- ---- the open gaps of items are those of their pieces

-- how many of the names have the number g
abbrev numbers : List (List ℕ) → ℕ → List (List ℕ) → ℕ
numbers names g ns = count_by (λ n. name_number names n == g) ns

numbers_cons : (names : List (List ℕ)) (g : ℕ) (n : List ℕ) (ns : List (List ℕ))
    → numbers names g (n ∷ ns) ≡ one_if (name_number names n == g) + numbers names g ns
numbers_cons names g n ns = sum_by-cons (λ (m : List ℕ). cond (name_number names m == g) 1 0) n ns

numbers_append : (names : List (List ℕ)) (g : ℕ) (a b : List (List ℕ)) → numbers names g (a ++ b) ≡ numbers names g a + numbers names g b
numbers_append names g a b = sum_by-append (λ (m : List ℕ). cond (name_number names m == g) 1 0) a b

value_counted : (names : List (List ℕ)) (g : ℕ) (v : RawValue) (rest : List (List ℕ))
    → one_if (is_hole g (numbered_value names v)) + numbers names g rest ≡ numbers names g (value_gaps v ++ rest)
value_counted names g (raw.Fixed v) rest = omega arith
value_counted names g (raw.Hole n) rest = sym (numbers_cons names g n rest)

attrs_counted : (names : List (List ℕ)) (g : ℕ) (attrs : List RawAttr)
    → count_by (λ a. is_hole g a.value) (map (numbered names) attrs) ≡ numbers names g (attr_gaps attrs)
attrs_counted names g [] = refl
attrs_counted names g (a ∷ attrs) =
    sum_by-cons (λ (b : Attr). cond (is_hole g b.value) 1 0) (numbered names a) (map (numbered names) attrs)
    ∙ ap (λ (n : ℕ). one_if (is_hole g (numbered_value names a.value)) + n) (attrs_counted names g attrs) ∙ value_counted names g a.value (attr_gaps attrs)

abbrev Counted : List (List ℕ) → ℕ → Forest → Type 0
Counted names g f = (ps rest : List Piece) → ReadsPieces names f ps rest → numbers names g (gap_names ps) ≡ count g f + numbers names g (gap_names rest)

tag_counted : (names : List (List ℕ)) (g : ℕ) (attrs : List Attr) (t : Tag) (rest : List Piece) → attrs ≡ map (numbered names) t.attrs
    → numbers names g (attr_gaps t.attrs ++ gap_names rest) ≡ count_by (λ a. is_hole g a.value) attrs + numbers names g (gap_names rest)
tag_counted names g attrs t rest e =
    omega (
      arith,
      numbers_append names g (attr_gaps t.attrs) (gap_names rest),
      attrs_counted names g t.attrs,
      ap (λ (l : List Attr). count_by (λ a. is_hole g a.value) l) e,
    )

element_counted : (names : List (List ℕ)) (g : ℕ) (attrs : List Attr) (inner : Forest) (ps qs : List Piece) (t : Tag) → Counted names g inner
    → attrs ≡ map (numbered names) t.attrs
    → (((ps ≡ piece.Whole t ∷ qs) × (inner ≡ none))
    ⊎ (((ps ≡ piece.Start t ∷ qs) × (is_void t.name ≡ true) × (inner ≡ none))
    ⊎ ((mid : List Piece) × (ps ≡ piece.Start t ∷ mid) × (is_void t.name ≡ false) × ReadsPieces names inner mid (piece.End t.name ∷ qs))))
    → numbers names g (gap_names ps) ≡ count_by (λ a. is_hole g a.value) attrs + count g inner + numbers names g (gap_names qs)
element_counted names g attrs inner ps qs t ih e (inl w) =
    let p = ap (λ (l : List Piece). numbers names g (gap_names l)) w.0 in omega (arith, p, tag_counted names g attrs t qs e, ap (count g) w.1)
element_counted names g attrs inner ps qs t ih e (inr (inl w)) =
    let p = ap (λ (l : List Piece). numbers names g (gap_names l)) w.0 in omega (arith, p, tag_counted names g attrs t qs e, ap (count g) w.2)
element_counted names g attrs inner ps qs t ih e (inr (inr w)) =
    let p = ap (λ (l : List Piece). numbers names g (gap_names l)) w.1 in
    omega (arith, p, tag_counted names g attrs t w.0 e, ih w.0 (piece.End t.name ∷ qs) w.3)

-- as many gaps of a number are open as there are names with this number
pub reads_counted : (names : List (List ℕ)) (g : ℕ) (f : Forest) → Counted names g f
reads_counted names g none ps rest h = let p = ap (λ (l : List Piece). numbers names g (gap_names l)) h in omega (arith, p)
reads_counted names g (text s f) ps rest h = ap (λ (l : List Piece). numbers names g (gap_names l)) h.1 ∙ reads_counted names g f h.0 rest h.2
reads_counted names g (gap k f) ps rest h =
    let p : numbers names g (gap_names ps) ≡ numbers names g (h.1.0 ∷ gap_names h.0) = ap (λ (l : List Piece). numbers names g (gap_names l)) h.1.1 in
    let q : one_if (k == g) ≡ one_if (name_number names h.1.0 == g) = ap (λ (i : ℕ). one_if (i == g)) h.1.2 in
    omega (arith, p, q, numbers_cons names g h.1.0 (gap_names h.0), reads_counted names g f h.0 rest h.2)
reads_counted names g (element tag attrs inner f) ps rest h =
    omega (arith, element_counted names g attrs inner ps h.0 h.1.0 (reads_counted names g inner) h.1.2 h.1.3, reads_counted names g f h.0 rest h.2)

-- ---- no gap is open that the table doesn't have

none_beyond : (names : List (List ℕ)) (g : ℕ) (ns : List (List ℕ)) → length names ≤ g → All (λ n. name_number names n < length names) ns
    → numbers names g ns ≡ 0
none_beyond names g [] le all = refl
none_beyond names g (n ∷ ns) le all =
    let first : name_number names n < length names = all 0 [] (omega arith) in
    let other : (name_number names n == g) ≡ false = grind (arith, nat_tests) in
    let rest : numbers names g ns ≡ 0 = none_beyond names g ns le (λ (k : ℕ) (d : List ℕ) (h : k < length ns). all (suc k) d (omega arith)) in
    omega (arith, numbers_cons names g n ns, ap one_if other, rest)

pub none_unknown : (old names : List (List ℕ)) (ps : List Piece) (f : Forest) → names ≡ with_names old (gap_names ps) → ReadsAs names ps f → (g : ℕ)
    → length names ≤ g → count g f ≡ 0
none_unknown old names ps f e r g le =
    let all : All (λ n. name_number names n < length names) (gap_names ps) =
    subst (λ (t : List (List ℕ)). All (λ n. name_number t n < length t) (gap_names ps)) (sym e) (added_are_there old (gap_names ps)) in
    omega (arith, reads_counted names g f ps [] r, none_beyond names g (gap_names ps) le all)

pub none_open : (names : List (List ℕ)) (ps : List Piece) (f : Forest) → gap_names ps ≡ [] → ReadsAs names ps f → (g : ℕ) → count g f ≡ 0
none_open names ps f e r g = let z : numbers names g (gap_names ps) ≡ 0 = ap (numbers names g) e in omega (arith, reads_counted names g f ps [] r, z)

-- ---- pieces without gaps read alike by each table

no_name : (n : List ℕ) (ns : List (List ℕ)) → n ∷ ns ≡ [] → ⊥
no_name n ns h = cc

both_empty : (a b : List (List ℕ)) → a ++ b ≡ [] → (a ≡ []) × (b ≡ [])
both_empty [] b h = (refl, h)
both_empty (n ∷ a) b h = absurd (no_name n (a ++ b) h)

-- a piece has a gap, so there is one
pub gap_here : (ps : List Piece) (i : ℕ) (p : Piece) → i < length ps → p ≡ get_or ps i p → (piece_gaps p ≡ [] → ⊥) → gap_names (drop i ps) ≡ [] → ⊥
gap_here ps i p lt e has no_gap =
    let k : gap_names (p ∷ drop (suc i) ps) ≡ [] = ap (λ (q : Piece). gap_names (q ∷ drop (suc i) ps)) e ∙ sym (ap gap_names (drop-cons ps i p lt)) ∙ no_gap in
    has (both_empty (piece_gaps p) (gap_names (drop (suc i) ps)) k).0

value_alike : (names others : List (List ℕ)) (v : RawValue) → value_gaps v ≡ [] → numbered_value names v ≡ numbered_value others v
value_alike names others (raw.Fixed v) h = refl
value_alike names others (raw.Hole n) h = absurd (no_name n [] h)

attrs_alike : (names others : List (List ℕ)) (attrs : List RawAttr) → attr_gaps attrs ≡ [] → map (numbered names) attrs ≡ map (numbered others) attrs
attrs_alike names others [] h = refl
attrs_alike names others (a ∷ attrs) h =
    let k = both_empty (value_gaps a.value) (attr_gaps attrs) h in
    let v = value_alike names others a.value k.0 in
    let r = attrs_alike names others attrs k.1 in λ i. record { name = a.name; value = v i } ∷ r i

abbrev Alike : List (List ℕ) → List (List ℕ) → Forest → Type 0
Alike names others f = (ps rest : List Piece) → gap_names ps ≡ [] → ReadsPieces names f ps rest → ReadsPieces others f ps rest × (gap_names rest ≡ [])

abbrev pub Ways : List (List ℕ) → Forest → Tag → List Piece → List Piece → Type 0
Ways names inner t ps qs =
    ((ps ≡ piece.Whole t ∷ qs) × (inner ≡ none))
    ⊎ (((ps ≡ piece.Start t ∷ qs) × (is_void t.name ≡ true) × (inner ≡ none))
    ⊎ ((mid : List Piece) × (ps ≡ piece.Start t ∷ mid) × (is_void t.name ≡ false) × ReadsPieces names inner mid (piece.End t.name ∷ qs)))

element_alike : (names others : List (List ℕ)) (inner : Forest) (ps qs : List Piece) (t : Tag) → Alike names others inner → gap_names ps ≡ []
    → Ways names inner t ps qs → Ways others inner t ps qs × (attr_gaps t.attrs ≡ []) × (gap_names qs ≡ [])
element_alike names others inner ps qs t ih e (inl w) = let k = both_empty (attr_gaps t.attrs) (gap_names qs) (sym (ap gap_names w.0) ∙ e) in (inl w, k.0, k.1)
element_alike names others inner ps qs t ih e (inr (inl w)) =
    let k = both_empty (attr_gaps t.attrs) (gap_names qs) (sym (ap gap_names w.0) ∙ e) in (inr (inl w), k.0, k.1)
element_alike names others inner ps qs t ih e (inr (inr w)) =
    let k = both_empty (attr_gaps t.attrs) (gap_names w.0) (sym (ap gap_names w.1) ∙ e) in
    let i = ih w.0 (piece.End t.name ∷ qs) k.1 w.3 in (inr (inr (w.0, w.1, w.2, i.0)), k.0, i.1)

pub reads_alike : (names others : List (List ℕ)) (f : Forest) → Alike names others f
reads_alike names others none ps rest e h = (h, sym (ap gap_names h) ∙ e)
reads_alike names others (text s f) ps rest e h = let i = reads_alike names others f h.0 rest (sym (ap gap_names h.1) ∙ e) h.2 in ((h.0, h.1, i.0), i.1)
reads_alike names others (gap k f) ps rest e h = absurd (no_name h.1.0 (gap_names h.0) (sym (ap gap_names h.1.1) ∙ e))
reads_alike names others (element tag attrs inner f) ps rest e h =
    let w = element_alike names others inner ps h.0 h.1.0 (reads_alike names others inner) e h.1.3 in
    let i = reads_alike names others f h.0 rest w.2 h.2 in ((h.0, (h.1.0, h.1.1, h.1.2 ∙ attrs_alike names others h.1.0.attrs w.1, w.0), i.0), i.1)
