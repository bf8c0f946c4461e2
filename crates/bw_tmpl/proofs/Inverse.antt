-- Building inverts reading.
use Rattle.std.proofs.Common.{◌≡◌, ℕ, Bool, true, false, ◌⊎◌, inl, inr, List, [], ◌∷◌, map, Option, Some, None, refl, sym, ap, subst, ◌∙◌}
use Rattle.std.specs.Prelude.{if◌then◌else◌}
use Rattle.bw_lang.specs.declared.items.Attr.{Attr}
use Rattle.bw_lang.specs.Document.Forest.{Forest, none, text, gap, element}
use Rattle.bw_lang.specs.Document.Documents.{append}
use Rattle.bw_lang.proofs.SameNames.{same_is, same_self}
use Rattle.bw_lang.proofs.Forests.{append-none, append_assoc}
use Rattle.bw_lang.specs.Template.Markup.{is_void}
use Rattle.bw_lang.specs.declared.pieces.Tag.{Tag}
use Rattle.bw_lang.specs.declared.pieces.Piece.{Piece}
use Rattle.bw_lang.specs.declared.pieces.Piece.TheVariants as piece
use Rattle.bw_tmpl.specs.declared.building.OpenElement.{OpenElement}
use Rattle.bw_tmpl.specs.declared.building.Draft.{Draft}
use Rattle.bw_lang.specs.Table.Names.{same, name_number}
use Rattle.bw_lang.specs.Template.NumberedGaps.{numbered}
use Rattle.bw_tmpl.specs.Building.{nothing_built, with_items, empty_element, element_begun, element_ended, draft_after_all, if_none_open, finished, built}
use Rattle.bw_lang.specs.Template.PieceItems.{ReadsPieces, ReadsAs}

-- ---- what reads is built

abbrev state : Forest → List OpenElement → Option Draft
state f parents = Some (record { items = f; parents = parents })

as_empty : (names : List (List ℕ)) (t : Tag) (tag : List ℕ) (attrs : List Attr) (inner : Forest) → tag ≡ t.name → attrs ≡ map (numbered names) t.attrs
    → inner ≡ none → empty_element names t ≡ element tag attrs inner none
as_empty names t tag attrs inner p q r = cc

abbrev TakenAs : List (List ℕ) → Forest → Type 0
TakenAs names f =
    (b : Draft) (ps rest : List Piece) → ReadsPieces names f ps rest → draft_after_all names (Some b) ps ≡ draft_after_all names (Some (with_items b f)) rest

element_taken : (names : List (List ℕ)) (tag : List ℕ) (attrs : List Attr) (inner : Forest) (b : Draft) (ps qs : List Piece) (t : Tag)
    → TakenAs names inner → tag ≡ t.name → attrs ≡ map (numbered names) t.attrs
    → (((ps ≡ piece.Whole t ∷ qs) × (inner ≡ none))
    ⊎ (((ps ≡ piece.Start t ∷ qs) × (is_void t.name ≡ true) × (inner ≡ none))
    ⊎ ((mid : List Piece) × (ps ≡ piece.Start t ∷ mid) × (is_void t.name ≡ false) × ReadsPieces names inner mid (piece.End t.name ∷ qs))))
    → draft_after_all names (Some b) ps ≡ draft_after_all names (Some (with_items b (element tag attrs inner none))) qs
element_taken names tag attrs inner b ps qs t ih p q (inl w) =
    ap (draft_after_all names (Some b)) w.0 ∙ ap (λ (x : Forest). draft_after_all names (Some (with_items b x)) qs) (as_empty names t tag attrs inner p q w.1)
element_taken names tag attrs inner b ps qs t ih p q (inr (inl v)) =
    ap (draft_after_all names (Some b)) v.0
    ∙ ap (λ (x : Bool). draft_after_all names (if x then Some (with_items b (empty_element names t)) else Some (element_begun names b t)) qs) v.1
    ∙ ap (λ (x : Forest). draft_after_all names (Some (with_items b x)) qs) (as_empty names t tag attrs inner p q v.2)
element_taken names tag attrs inner b ps qs t ih p q (inr (inr v)) =
    ap (draft_after_all names (Some b)) v.1
    ∙ ap (λ (x : Bool). draft_after_all names (if x then Some (with_items b (empty_element names t)) else Some (element_begun names b t)) v.0) v.2
    ∙ ih (element_begun names b t) v.0 (piece.End t.name ∷ qs) v.3
    ∙ ap (λ (x : Bool). draft_after_all names
    (if x then state (append b.items (element t.name (map (numbered names) t.attrs) inner none)) b.parents else None) qs) (same_self t.name)
    ∙ ap (λ (x : Forest). draft_after_all names (Some (with_items b x)) qs) (back p q)
  where
    back : tag ≡ t.name → attrs ≡ map (numbered names) t.attrs → element t.name (map (numbered names) t.attrs) inner none ≡ element tag attrs inner none
    back p q = cc

pub reads_taken : (names : List (List ℕ)) (f : Forest) (b : Draft) (ps rest : List Piece) → ReadsPieces names f ps rest
    → draft_after_all names (Some b) ps ≡ draft_after_all names (Some (with_items b f)) rest
reads_taken names none b ps rest h =
    ap (draft_after_all names (Some b)) h ∙ ap (λ (i : Forest). draft_after_all names (state i b.parents) rest) (sym (append-none b.items))
reads_taken names (text s f) b ps rest h =
    ap (draft_after_all names (Some b)) h.1 ∙ reads_taken names f (with_items b (text s none)) h.0 rest h.2
    ∙ ap (λ (i : Forest). draft_after_all names (state i b.parents) rest) (append_assoc b.items (text s none) f)
reads_taken names (gap g f) b ps rest h =
    ap (draft_after_all names (Some b)) h.1.1 ∙ reads_taken names f (with_items b (gap (name_number names h.1.0) none)) h.0 rest h.2
    ∙ ap (λ (i : Forest). draft_after_all names (state i b.parents) rest) (append_assoc b.items (gap (name_number names h.1.0) none) f)
    ∙ ap (λ (k : ℕ). draft_after_all names (state (append b.items (gap k f)) b.parents) rest) (sym h.1.2)
reads_taken names (element tag attrs inner f) b ps rest h =
    element_taken names tag attrs inner b ps h.0 h.1.0 (reads_taken names inner) h.1.1 h.1.2 h.1.3
    ∙ reads_taken names f (with_items b (element tag attrs inner none)) h.0 rest h.2
    ∙ ap (λ (i : Forest). draft_after_all names (state i b.parents) rest) (append_assoc b.items (element tag attrs inner none) f)

pub reads_built : (names : List (List ℕ)) (ps : List Piece) (f : Forest) → ReadsAs names ps f → built names ps ≡ Some f
reads_built names ps f h = ap finished (reads_taken names f nothing_built ps [] h)

-- ---- what is built reads

pub reads-append : (names : List (List ℕ)) (x f : Forest) (ps qs rest : List Piece) → ReadsPieces names x ps qs → ReadsPieces names f qs rest
    → ReadsPieces names (append x f) ps rest
reads-append names none f ps qs rest p q = subst (λ (l : List Piece). ReadsPieces names f l rest) (sym p) q
reads-append names (text s x) f ps qs rest p q = (p.0, p.1, reads-append names x f p.0 qs rest p.2 q)
reads-append names (gap g x) f ps qs rest p q = (p.0, p.1, reads-append names x f p.0 qs rest p.2 q)
reads-append names (element tag attrs inner x) f ps qs rest p q = (p.0, p.1, reads-append names x f p.0 qs rest p.2 q)

-- what is left reads as what completes the parents
abbrev Completes : List (List ℕ) → List OpenElement → Forest → List Piece → Forest → Type 0
Completes names [] cur ps out = (f : Forest) × ReadsPieces names f ps [] × (out ≡ append cur f)
Completes names (l ∷ parents) cur ps out =
    (f : Forest) × (qs : List Piece) × ReadsPieces names f ps (piece.End l.tag ∷ qs)
    × Completes names parents (append l.front (element l.tag l.attrs (append cur f) none)) qs out

more : (names : List (List ℕ)) (x : Forest) (parents : List OpenElement) (cur : Forest) (ps qs : List Piece) (out : Forest)
    → ReadsPieces names x ps qs → Completes names parents (append cur x) qs out → Completes names parents cur ps out
more names x [] cur ps qs out r c = (append x c.0, reads-append names x c.0 ps qs [] r c.1, c.2 ∙ append_assoc cur x c.0)
more names x (l ∷ parents) cur ps qs out r c = (
  append x c.0,
  c.1,
  reads-append names x c.0 ps qs (piece.End l.tag ∷ c.1) r c.2,
  subst (λ (i : Forest). Completes names parents (append l.front (element l.tag l.attrs i none)) c.1 out) (append_assoc cur x c.0) c.3,
)

abbrev CompletesFrom : List (List ℕ) → List Piece → Forest → Type 0
CompletesFrom names ps out =
    (items : Forest) (parents : List OpenElement) → finished (draft_after_all names (state items parents) ps) ≡ Some out → Completes names parents items ps out

nothing_left : (names : List (List ℕ)) (out items : Forest) (parents : List OpenElement) → if_none_open items parents ≡ Some out
    → Completes names parents items [] out
nothing_left names out items [] h = (none, refl, (cc) ∙ sym (append-none items))
nothing_left names out items (l ∷ parents) h = absurd (cc)

empty_reads : (names : List (List ℕ)) (t : Tag) (ps : List Piece) → ReadsPieces names (empty_element names t) (piece.Whole t ∷ ps) ps
empty_reads names t ps = (ps, (t, refl, refl, inl (refl, refl)), refl)

started : (names : List (List ℕ)) (out : Forest) (t : Tag) (ps : List Piece) (ih : CompletesFrom names ps out) (items : Forest)
    (parents : List OpenElement) (v : Bool) → is_void t.name ≡ v
    → finished (draft_after_all names (if v then state (append items (empty_element names t)) parents else state none
    (record { tag = t.name; attrs = map (numbered names) t.attrs; front = items } ∷ parents)) ps) ≡ Some out
    → Completes names parents items (piece.Start t ∷ ps) out
started names out t ps ih items parents true e h =
    more names (empty_element names t) parents items (piece.Start t ∷ ps) ps out (ps, (t, refl, refl, inr (inl (refl, e, refl))), refl)
    (ih (append items (empty_element names t)) parents h)
started names out t ps ih items parents false e h =
    let c = ih none (record { tag = t.name; attrs = map (numbered names) t.attrs; front = items } ∷ parents) h in
    more names (element t.name (map (numbered names) t.attrs) c.0 none) parents items (piece.Start t ∷ ps) c.1 out
    (c.1, (t, refl, refl, inr (inr (ps, refl, e, c.2))), refl) c.3

ended_level : (names : List (List ℕ)) (out : Forest) (n : List ℕ) (ps : List Piece) (ih : CompletesFrom names ps out) (items : Forest)
    (l : OpenElement) (parents : List OpenElement) (v : Bool) → same l.tag n ≡ v
    → finished (draft_after_all names (if v then state (append l.front (element l.tag l.attrs items none)) parents else None) ps) ≡ Some out
    → Completes names (l ∷ parents) items (piece.End n ∷ ps) out
ended_level names out n ps ih items l parents true e h = (
  none,
  ps,
  ap (λ (x : List ℕ). piece.End x ∷ ps) (sym (same_is l.tag n e)),
  subst (λ (i : Forest). Completes names parents (append l.front (element l.tag l.attrs i none)) ps out) (sym (append-none items))
      (ih (append l.front (element l.tag l.attrs items none)) parents h),
)
ended_level names out n [] ih items l parents false e h = absurd (cc)
ended_level names out n (p ∷ ps) ih items l parents false e h = absurd (cc)

ended_all : (names : List (List ℕ)) (out : Forest) (n : List ℕ) (ps : List Piece) (ih : CompletesFrom names ps out) (items : Forest)
    (parents : List OpenElement)
    → finished (draft_after_all names (element_ended items parents n) ps) ≡ Some out → Completes names parents items (piece.End n ∷ ps) out
ended_all names out n [] ih items [] h = absurd (cc)
ended_all names out n (p ∷ ps) ih items [] h = absurd (cc)
ended_all names out n ps ih items (l ∷ parents) h = ended_level names out n ps ih items l parents (same l.tag n) refl h

completes : (names : List (List ℕ)) (out : Forest) (ps : List Piece) → CompletesFrom names ps out
completes names out [] items parents h = nothing_left names out items parents h
completes names out (piece.Text s ∷ ps) items parents h =
    more names (text s none) parents items (piece.Text s ∷ ps) ps out (ps, refl, refl) (completes names out ps (append items (text s none)) parents h)
completes names out (piece.Gap n ∷ ps) items parents h =
    more names (gap (name_number names n) none) parents items (piece.Gap n ∷ ps) ps out (ps, (n, refl, refl), refl)
    (completes names out ps (append items (gap (name_number names n) none)) parents h)
completes names out (piece.Whole t ∷ ps) items parents h =
    more names (empty_element names t) parents items (piece.Whole t ∷ ps) ps out (empty_reads names t ps)
    (completes names out ps (append items (empty_element names t)) parents h)
completes names out (piece.Start t ∷ ps) items parents h = started names out t ps (completes names out ps) items parents (is_void t.name) refl h
completes names out (piece.End n ∷ ps) items parents h = ended_all names out n ps (completes names out ps) items parents h

pub built_reads : (names : List (List ℕ)) (ps : List Piece) (f : Forest) → built names ps ≡ Some f → ReadsAs names ps f
built_reads names ps f h =
    let c = completes names f ps none [] h in
    subst (λ (g : Forest). ReadsPieces names g ps []) (sym c.2) c.1

-- pieces read as one list of items at most
pub reads_once : (names : List (List ℕ)) (ps : List Piece) (f g : Forest) → ReadsAs names ps f → ReadsAs names ps g → f ≡ g
reads_once names ps f g p q = let a = reads_built names ps f p in let b = reads_built names ps g q in cc
