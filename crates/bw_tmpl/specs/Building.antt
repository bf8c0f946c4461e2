-- Items built from pieces, one piece after the other.
use Rattle.std.specs.Prelude.{◌≡◌, ℕ, Bool, if◌then◌else◌, List, [], ◌∷◌, map, Option, Some, None, Result, MatchResult}
use Rattle.bw_lang.specs.Document.Forest.{Forest, none, text, gap, element}
use Rattle.bw_lang.specs.Document.Documents.{append}
use Rattle.bw_lang.specs.Template.Markup.{is_void}
use Rattle.bw_lang.specs.declared.items.Attr.{Attr}
use Rattle.bw_lang.specs.declared.pieces.Tag.{Tag}
use Rattle.bw_lang.specs.declared.pieces.Piece.{Piece}
use Rattle.bw_lang.specs.declared.pieces.Piece.TheVariants as piece
use Rattle.bw_tmpl.specs.declared.fault.TmplFault.{TmplFault}
use Rattle.bw_tmpl.specs.declared.fault.TmplFault.TheVariants as fault
use Rattle.bw_tmpl.specs.declared.building.OpenElement.{OpenElement}
use Rattle.bw_tmpl.specs.declared.building.Draft.{Draft}
use Rattle.bw_lang.specs.Table.Names.{same, name_number}
use Rattle.bw_lang.specs.Template.NumberedGaps.{numbered}

-- there is nothing to build, and the fault says so; want of memory says nothing
abbrev pub MismatchedIfNone : {A : Type 0} → TmplFault → Option A → Type 0
MismatchedIfNone fault.Memory o = Unit {0}
MismatchedIfNone fault.Mismatched o = o ≡ None
MismatchedIfNone fault.Malformed o = ⊥
MismatchedIfNone fault.RepeatedAttribute o = ⊥
MismatchedIfNone fault.Nesting o = ⊥

-- The answer is what there is to build, where view says what of it is compared, or Mismatched where there is nothing; it may be Memory at any time.
abbrev pub Builds : {A B : Type 0} → (A → B) → Result A TmplFault → Option B → Type 0
Builds view answer o = MatchResult answer (λ x. o ≡ Some (view x)) (λ e. MismatchedIfNone e o)

-- no items, and no element is open
abbrev pub nothing_built : Draft
nothing_built = record { items = none; parents = [] }

-- the items behind those that are there
abbrev pub with_items : Draft → Forest → Draft
with_items b f = record { items = append b.items f; parents = b.parents }

-- an element without items
abbrev pub empty_element : List (List ℕ) → Tag → Forest
empty_element names t = element t.name (map (numbered names) t.attrs) none none

-- an element begins: what was built stands in front of it
abbrev pub begun_by : Draft → List ℕ → List Attr → Draft
begun_by b tag attrs = record { items = none; parents = record { tag = tag; attrs = attrs; front = b.items } ∷ b.parents }

-- a start tag opens an element
abbrev pub element_begun : List (List ℕ) → Draft → Tag → Draft
element_begun names b t = begun_by b t.name (map (numbered names) t.attrs)

-- a tag is an element without items, or opens one
abbrev pub tag_taken : Bool → List (List ℕ) → Draft → Tag → Draft
tag_taken is_alone names b t = if is_alone then with_items b (empty_element names t) else element_begun names b t

-- an end tag of the innermost open element's name closes it, with the items in it
abbrev pub element_ended : Forest → List OpenElement → List ℕ → Option Draft
element_ended items [] n = None
element_ended items (l ∷ parents) n =
    if same l.tag n then Some (record { items = append l.front (element l.tag l.attrs items none); parents = parents }) else None

-- what each kind of piece does
abbrev pub draft_after : List (List ℕ) → Draft → Piece → Option Draft
draft_after names b (piece.Text s) = Some (with_items b (text s none))
draft_after names b (piece.Gap n) = Some (with_items b (gap (name_number names n) none))
draft_after names b (piece.Whole t) = Some (with_items b (empty_element names t))
draft_after names b (piece.Start t) = if is_void t.name then Some (with_items b (empty_element names t)) else Some (element_begun names b t)
draft_after names b (piece.End n) = element_ended b.items b.parents n

-- what the pieces do, one after the other
abbrev pub draft_after_all : List (List ℕ) → Option Draft → List Piece → Option Draft
draft_after_all names None ps = None
draft_after_all names (Some b) [] = Some b
draft_after_all names (Some b) (p ∷ ps) = draft_after_all names (draft_after names b p) ps

-- the items, if no element is open
abbrev pub if_none_open : Forest → List OpenElement → Option Forest
if_none_open items [] = Some items
if_none_open items (l ∷ parents) = None

-- the items at the end, if there are any
abbrev pub finished : Option Draft → Option Forest
finished None = None
finished (Some b) = if_none_open b.items b.parents

-- the items that the pieces are built to
abbrev pub built : List (List ℕ) → List Piece → Option Forest
built names ps = finished (draft_after_all names (Some nothing_built) ps)
