-- The depth is that of the items.
use Rattle.std.proofs.Common.{◌≡◌, ℕ, suc, ◌+◌, ◌≤◌, max, Bool, true, false, ◌⊎◌, inl, inr, List, [], ◌∷◌, map, length, Option, Some, None, refl, sym}
use Rattle.std.proofs.Common.{ap, ◌∙◌, arith}
use Rattle.std.specs.Prelude.{if◌then◌else◌, is_some}
use Rattle.bw_lang.specs.declared.items.Attr.{Attr}
use Rattle.bw_lang.specs.Document.Forest.{Forest, none, text, gap, element}
use Rattle.bw_lang.specs.Document.Documents.{append}
use Rattle.bw_lang.specs.Template.Markup.{is_void}
use Rattle.bw_lang.specs.declared.pieces.Tag.{Tag}
use Rattle.bw_lang.specs.declared.pieces.Piece.{Piece}
use Rattle.bw_lang.specs.declared.pieces.Piece.TheVariants as piece
use Rattle.bw_lang.proofs.SameNames.{same_self}
use Rattle.bw_lang.proofs.Options.{some_is}
use Rattle.bw_tmpl.specs.declared.building.OpenElement.{OpenElement}
use Rattle.bw_tmpl.specs.declared.nesting.OpenTags.{OpenTags}
use Rattle.bw_lang.specs.Table.Names.{same, name_number}
use Rattle.bw_lang.specs.Template.NumberedGaps.{numbered}
use Rattle.bw_tmpl.specs.Building.{empty_element, element_begun, draft_after_all, finished, built}
use Rattle.bw_tmpl.specs.Nesting.{tags_after_all, deepest_if_closed, depth}
use Rattle.bw_lang.specs.Document.Measures.{nest}
use Rattle.bw_lang.specs.Template.PieceItems.{ReadsPieces, ReadsAs}
use Rattle.bw_tmpl.proofs.Inverse.{built_reads}

abbrev pub at : List (List ℕ) → ℕ → Option OpenTags
at names deepest = Some (record { names = names; deepest = deepest })

deepest_is : (names : List (List ℕ)) (m n : ℕ) (ps : List Piece) → m ≡ n → tags_after_all (at names m) ps ≡ tags_after_all (at names n) ps
deepest_is names m n ps e = ap (λ (k : ℕ). tags_after_all (at names k) ps) e

abbrev DepthAfter : List (List ℕ) → Forest → Type 0
DepthAfter table f =
    (names : List (List ℕ)) (m : ℕ) (ps rest : List Piece) → length names ≤ m → ReadsPieces table f ps rest
    → tags_after_all (at names m) ps ≡ tags_after_all (at names (max m (length names + nest f))) rest

element_depth : (table : List (List ℕ)) (tag : List ℕ) (attrs : List Attr) (inner : Forest) (names : List (List ℕ)) (m : ℕ) (ps qs : List Piece)
    (t : Tag) → DepthAfter table inner → length names ≤ m
    → (((ps ≡ piece.Whole t ∷ qs) × (inner ≡ none))
    ⊎ (((ps ≡ piece.Start t ∷ qs) × (is_void t.name ≡ true) × (inner ≡ none))
    ⊎ ((mid : List Piece) × (ps ≡ piece.Start t ∷ mid) × (is_void t.name ≡ false) × ReadsPieces table inner mid (piece.End t.name ∷ qs))))
    → tags_after_all (at names m) ps ≡ tags_after_all (at names (max m (length names + suc (nest inner)))) qs
element_depth table tag attrs inner names m ps qs t ih le (inl w) =
    let k : nest inner ≡ 0 = ap nest w.1 in
    ap (tags_after_all (at names m)) w.0 ∙ deepest_is names (max m (suc (length names))) (max m (length names + suc (nest inner))) qs (omega arith)
element_depth table tag attrs inner names m ps qs t ih le (inr (inl v)) =
    let k : nest inner ≡ 0 = ap nest v.2 in
    ap (tags_after_all (at names m)) v.0
    ∙ ap (λ (x : Bool). tags_after_all (if x then at names (max m (suc (length names))) else at (t.name ∷ names) (max m (suc (length names)))) qs) v.1
    ∙ deepest_is names (max m (suc (length names))) (max m (length names + suc (nest inner))) qs (omega arith)
element_depth table tag attrs inner names m ps qs t ih le (inr (inr v)) =
    ap (tags_after_all (at names m)) v.1
    ∙ ap (λ (x : Bool). tags_after_all (if x then at names (max m (suc (length names))) else at (t.name ∷ names) (max m (suc (length names)))) v.0) v.2
    ∙ ih (t.name ∷ names) (max m (suc (length names))) v.0 (piece.End t.name ∷ qs) (omega arith) v.3
    ∙ ap (λ (x : Bool). tags_after_all (if x then at names (max (max m (suc (length names))) (suc (length names) + nest inner)) else None) qs)
    (same_self t.name)
    ∙ deepest_is names (max (max m (suc (length names))) (suc (length names) + nest inner)) (max m (length names + suc (nest inner))) qs (omega arith)

reads_tags : (table : List (List ℕ)) (f : Forest) → DepthAfter table f
reads_tags table none names m ps rest le h = ap (tags_after_all (at names m)) h ∙ deepest_is names m (max m (length names + 0)) rest (omega arith)
reads_tags table (text s f) names m ps rest le h = ap (tags_after_all (at names m)) h.1 ∙ reads_tags table f names m h.0 rest le h.2
reads_tags table (gap g f) names m ps rest le h = ap (tags_after_all (at names m)) h.1.1 ∙ reads_tags table f names m h.0 rest le h.2
reads_tags table (element tag attrs inner f) names m ps rest le h =
    element_depth table tag attrs inner names m ps h.0 h.1.0 (reads_tags table inner) le h.1.3
    ∙ reads_tags table f names (max m (length names + suc (nest inner))) h.0 rest (omega arith) h.2
    ∙ deepest_is names (max (max m (length names + suc (nest inner))) (length names + nest f))
    (max m (length names + max (suc (nest inner)) (nest f))) rest (omega arith)

pub reads_depth : (table : List (List ℕ)) (ps : List Piece) (f : Forest) → ReadsAs table ps f → depth ps ≡ Some (nest f)
reads_depth table ps f h = ap deepest_if_closed (reads_tags table f [] 0 ps [] (omega arith) h) ∙ ap Some (max_zero (nest f))
  where
    max_zero : (n : ℕ) → max 0 (0 + n) ≡ n
    max_zero n = omega arith

-- ---- where there is a depth there are items

abbrev pub tags : List OpenElement → List (List ℕ)
tags [] = []
tags (l ∷ parents) = l.tag ∷ tags parents

abbrev Alike : List (List ℕ) → List Piece → Type 0
Alike table ps =
    (items : Forest) (parents : List OpenElement) (m : ℕ)
    → is_some (finished (draft_after_all table (Some (record { items = items; parents = parents })) ps))
    ≡ is_some (deepest_if_closed (tags_after_all (at (tags parents) m) ps))

started_alike : (table : List (List ℕ)) (ps : List Piece) (t : Tag) (items : Forest) (parents : List OpenElement) (m : ℕ) (v : Bool) → Alike table ps
    → is_some (finished (draft_after_all table
    (if v then Some (record { items = append items (empty_element table t); parents = parents }) else Some
    (element_begun table (record { items = items; parents = parents }) t)) ps))
    ≡ is_some (deepest_if_closed (tags_after_all
    (if v then at (tags parents) (max m (suc (length (tags parents)))) else at (t.name ∷ tags parents) (max m (suc (length (tags parents))))) ps))
started_alike table ps t items parents m true ih = ih (append items (empty_element table t)) parents (max m (suc (length (tags parents))))
started_alike table ps t items parents m false ih =
    ih none (record { tag = t.name; attrs = map (numbered table) t.attrs; front = items } ∷ parents) (max m (suc (length (tags parents))))

stuck : (table : List (List ℕ)) (ps : List Piece) → is_some (finished (draft_after_all table None ps)) ≡ is_some (deepest_if_closed (tags_after_all None ps))
stuck table [] = refl
stuck table (p ∷ ps) = refl

ended_alike : (table : List (List ℕ)) (ps : List Piece) (l : OpenElement) (items : Forest) (parents : List OpenElement) (m : ℕ) (v : Bool) → Alike table ps
    → is_some (finished (draft_after_all table
    (if v then Some (record { items = append l.front (element l.tag l.attrs items none); parents = parents }) else None) ps))
    ≡ is_some (deepest_if_closed (tags_after_all (if v then at (tags parents) m else None) ps))
ended_alike table ps l items parents m true ih = ih (append l.front (element l.tag l.attrs items none)) parents m
ended_alike table ps l items parents m false ih = stuck table ps

alike : (table : List (List ℕ)) (ps : List Piece) → Alike table ps
alike table [] items [] m = refl
alike table [] items (l ∷ parents) m = refl
alike table (piece.Text s ∷ ps) items parents m = alike table ps (append items (text s none)) parents m
alike table (piece.Gap n ∷ ps) items parents m = alike table ps (append items (gap (name_number table n) none)) parents m
alike table (piece.Whole t ∷ ps) items parents m = alike table ps (append items (empty_element table t)) parents (max m (suc (length (tags parents))))
alike table (piece.Start t ∷ ps) items parents m = started_alike table ps t items parents m (is_void t.name) (alike table ps)
alike table (piece.End n ∷ ps) items [] m = stuck table ps
alike table (piece.End n ∷ ps) items (l ∷ parents) m = ended_alike table ps l items parents m (same l.tag n) (alike table ps)

there_is : {A : Type 0} (o : Option A) (b : Bool) → is_some o ≡ b → true ≡ b → (x : A) × (o ≡ Some x)
there_is None b e h = absurd (cc)
there_is (Some x) b e h = (x, refl)

-- a depth is that of items that the pieces read as
pub depth_reads : (table : List (List ℕ)) (ps : List Piece) (h : ℕ) → depth ps ≡ Some h → (f : Forest) × ReadsAs table ps f × (h ≡ nest f)
depth_reads table ps h e =
    let b = there_is (built table ps) (is_some (depth ps)) (alike table ps none [] 0) (sym (ap is_some e)) in
    let r = built_reads table ps b.0 b.1 in
    let k = reads_depth table ps b.0 r in
    let same_depth : h ≡ nest b.0 = some_is h (nest b.0) (sym e ∙ k) in (b.0, r, same_depth)
