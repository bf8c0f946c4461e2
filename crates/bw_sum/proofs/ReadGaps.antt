-- Reading gives gaps their numbers by the table, so each gap of a template is in it.
use Rattle.std.proofs.Common.{◌≡◌, ◌⊎◌, inl, inr, ℕ, zero, suc, ◌+◌, ◌<◌, ◌≤◌, Bool, true, false, ◌||◌, ◌==◌, List, [], ◌∷◌, ◌++◌, length, map, sym, ap}
use Rattle.std.proofs.Common.{◌∙◌, subst, arith, length-append}
use Rattle.std.specs.Prelude.{slice_get, unwrap_or, codes}
use Rattle.std.specs.List.{All, AllByRecursion}
use Rattle.std.proofs.lemmas.Bool.{false≢true, or_cases, eqb-true}
use Rattle.bw_lang.specs.declared.declaration.Declaration.{Declaration}
use Rattle.bw_lang.specs.declared.declaration.Declaration.TheVariants as declarations
use Rattle.bw_lang.specs.declared.declaration.Draft.{Draft}
use Rattle.bw_lang.specs.declared.declaration.Draft.TheVariants as drafts
use Rattle.bw_lang.specs.declared.pieces.Piece.{Piece}
use Rattle.bw_lang.specs.declared.pieces.Piece.TheVariants as piece
use Rattle.bw_lang.specs.declared.pieces.RawAttr.{RawAttr}
use Rattle.bw_lang.specs.declared.pieces.RawValue.{RawValue}
use Rattle.bw_lang.specs.declared.pieces.RawValue.TheVariants as raw
use Rattle.bw_lang.specs.declared.service.Service.{Service}
use Rattle.bw_lang.specs.declared.service.Template.{Template}
use Rattle.bw_lang.specs.declared.items.Attr.{Attr}
use Rattle.bw_lang.specs.declared.items.AttrValue.TheVariants.{Fixed, Hole}
use Rattle.bw_lang.specs.Document.Documents.{is_hole}
use Rattle.bw_lang.specs.Document.Forest.{Forest, none, text, gap, element}
use Rattle.bw_lang.specs.Template.Markup.{is_void}
use Rattle.bw_lang.specs.Table.Names.{name_number, with_names, Extends}
use Rattle.bw_lang.specs.Template.NumberedGaps.{numbered, numbered_value}
use Rattle.bw_lang.specs.Template.PieceGaps.{value_gaps, attr_gaps, gap_names}
use Rattle.bw_lang.specs.Template.PieceItems.{ReadsPieces}
use Rattle.bw_lang.specs.Service.Reads.{IsInside, IsRead, AreRead}
use Rattle.bw_lang.specs.Service.Sorted.{templates_of}
use Rattle.bw_lang.specs.Document.Wrappers.{show_wrapper, exit_wrapper, page, form, plain, button, attr}
use Rattle.bw_lang.proofs.TableLaws.{names_stay, added_are_there}
use Rattle.bw_sum.specs.Laws.{ReadGapsAreKnown}
use Rattle.bw_sum.specs.Opening.{holes, opens}

-- the names are in the table
abbrev Known : List (List ℕ) → List (List ℕ) → Type 0
Known names ns = AllByRecursion (λ (n : List ℕ). name_number names n < length names) ns

-- the gaps that a test finds open are below this
abbrev Within : ℕ → (ℕ → Bool) → Type 0
Within most test = (g : ℕ) → test g ≡ true → g < most

both_within : (most : ℕ) (p q : ℕ → Bool) → Within most p → Within most q → Within most (λ g. p g || q g)
both_within most p q a b g h = elim (or_cases (p g) (q g) h) [ inl here ↦ a g here | inr there ↦ b g there ]

all_parts : {A : Type 0} (P : A → Type 0) (xs ys : List A) → AllByRecursion P (xs ++ ys) → AllByRecursion P xs × AllByRecursion P ys
all_parts P [] ys h = (tt, h)
all_parts P (x ∷ xs) ys h = let r = all_parts P xs ys h.1 in ((h.0, r.0), r.1)

one_by_one : {A : Type 0} (P : A → Type 0) (xs : List A) → All P xs → AllByRecursion P xs
one_by_one P [] h = tt
one_by_one P (x ∷ xs) h = (h 0 x (omega arith), one_by_one P xs (λ k d lt. h (suc k) d (omega arith)))

value_within : (names : List (List ℕ)) (v : RawValue) → Known names (value_gaps v) → Within (length names) (λ g. is_hole g (numbered_value names v))
value_within names (raw.Fixed s) h g o = absurd (false≢true o)
value_within names (raw.Hole n) h g o = subst (λ k. k < length names) (eqb-true (name_number names n) g o) h.0

attrs_within : (names : List (List ℕ)) (attrs : List RawAttr) → Known names (attr_gaps attrs)
    → Within (length names) (λ g. holes g (map (numbered names) attrs))
attrs_within names [] h = λ g o. absurd (false≢true o)
attrs_within names (a ∷ attrs) h =
    let r = all_parts (λ (n : List ℕ). name_number names n < length names) (value_gaps a.value) (attr_gaps attrs) h in
    both_within (length names) (λ g. is_hole g (numbered_value names a.value)) (λ g. holes g (map (numbered names) attrs))
    (value_within names a.value r.0) (attrs_within names attrs r.1)

module _ (names : List (List ℕ)) where
  items_within : (f : Forest) (ps rest : List Piece) → ReadsPieces names f ps rest → Known names (gap_names ps)
      → Within (length names) (λ g. opens g f) × Known names (gap_names rest)
  items_within none ps rest e h = (λ g o. absurd (false≢true o), subst (λ x. Known names (gap_names x)) e h)
  items_within (text s f) ps rest (qs, e, r) h = items_within f qs rest r (subst (λ x. Known names (gap_names x)) e h)
  items_within (gap k f) ps rest (qs, (n, e, is), r) h =
      let known : Known names (n ∷ gap_names qs) = subst (λ x. Known names (gap_names x)) e h in
      let q = items_within f qs rest r known.1 in
      (both_within (length names) (λ g. k == g) (λ g. opens g f) (λ g o. subst (λ x. x < length names) (sym is ∙ eqb-true k g o) known.0) q.0, q.1)
  items_within (element tag attrs inner f) ps rest (qs, (t, et, ea, alt), r) h = by_alt alt (items_within f qs rest r) (items_within inner)
    where
      whole : Known names (attr_gaps t.attrs) → Within (length names) (λ g. opens g inner) → Known names (gap_names qs)
          → (Known names (gap_names qs) → Within (length names) (λ g. opens g f) × Known names (gap_names rest))
          → Within (length names) (λ g. holes g attrs || (opens g inner || opens g f)) × Known names (gap_names rest)
      whole ka ki kq go =
          let q = go kq in (
            both_within (length names) (λ g. holes g attrs) (λ g. opens g inner || opens g f)
                (subst (λ x. Within (length names) (λ g. holes g x)) (sym ea) (attrs_within names t.attrs ka))
                (both_within (length names) (λ g. opens g inner) (λ g. opens g f) ki q.0),
            q.1,
          )

      by_alt : ((ps ≡ piece.Whole t ∷ qs) × (inner ≡ none)) ⊎ (((ps ≡ piece.Start t ∷ qs) × (is_void t.name ≡ true) × (inner ≡ none)) ⊎
          ((mid : List Piece) × (ps ≡ piece.Start t ∷ mid) × (is_void t.name ≡ false) × ReadsPieces names inner mid (piece.End t.name ∷ qs)))
          → (Known names (gap_names qs) → Within (length names) (λ g. opens g f) × Known names (gap_names rest))
          → ((mid next : List Piece) → ReadsPieces names inner mid next → Known names (gap_names mid) → Within (length names) (λ g. opens g inner)
          × Known names (gap_names next))
          → Within (length names) (λ g. holes g attrs || (opens g inner || opens g f)) × Known names (gap_names rest)
      by_alt (inl (e, i)) go into =
          let k = all_parts (λ (n : List ℕ). name_number names n < length names) (attr_gaps t.attrs) (gap_names qs)
          (subst (λ x. Known names (gap_names x)) e h) in
          whole k.0 (subst (λ x. Within (length names) (λ g. opens g x)) (sym i) (λ g o. absurd (false≢true o))) k.1 go
      by_alt (inr (inl (e, v, i))) go into =
          let k = all_parts (λ (n : List ℕ). name_number names n < length names) (attr_gaps t.attrs) (gap_names qs)
          (subst (λ x. Known names (gap_names x)) e h) in
          whole k.0 (subst (λ x. Within (length names) (λ g. opens g x)) (sym i) (λ g o. absurd (false≢true o))) k.1 go
      by_alt (inr (inr (mid, e, v, ri))) go into =
          let k = all_parts (λ (n : List ℕ). name_number names n < length names) (attr_gaps t.attrs) (gap_names mid)
          (subst (λ x. Known names (gap_names x)) e h) in
          let q = into mid (piece.End t.name ∷ qs) ri k.1 in
          whole k.0 q.0 q.1 go

-- ---- declarations

inside_within : (before after : List (List ℕ)) (inside : List ℕ) (items : Forest) → IsInside before inside items after
    → Within (length after) (λ g. opens g items)
inside_within before after inside items h =
    (items_within after items h.read.pieces [] h.read.reads
    (subst (λ x. Known x (gap_names h.read.pieces)) (sym h.names)
    (one_by_one (λ (n : List ℕ). name_number (with_names before (gap_names h.read.pieces)) n < length (with_names before (gap_names h.read.pieces)))
    (gap_names h.read.pieces) (added_are_there before (gap_names h.read.pieces))))).0

pub longer : (old new : List (List ℕ)) → Extends old new → length old ≤ length new
longer old new h = let e = ap length h.is ∙ length-append old h.more in omega arith

inside_longer : (before after : List (List ℕ)) (inside : List ℕ) (items : Forest) → IsInside before inside items after → length before ≤ length after
inside_longer before after inside items h =
    subst (λ x. length before ≤ length x) (sym h.names) (longer before (with_names before (gap_names h.read.pieces))
    (names_stay before (gap_names h.read.pieces)))

same_long : (before after : List (List ℕ)) → after ≡ before → length before ≤ length after
same_long before after e = let k = ap length e in omega arith

read_longer : (before next : List (List ℕ)) (d : Draft) (r : Declaration) → IsRead before d r next → length before ≤ length next
read_longer before next (drafts.Template name inside) (declarations.Template t) h = inside_longer before next inside t.items h.1
read_longer before next (drafts.Template name inside) (declarations.Shared v) h = absurd h
read_longer before next (drafts.Template name inside) (declarations.Session s) h = absurd h
read_longer before next (drafts.Shared kind name init) (declarations.Template t) h = absurd h
read_longer before next (drafts.Shared kind name init) (declarations.Shared v) h = same_long before next h.1
read_longer before next (drafts.Shared kind name init) (declarations.Session s) h = absurd h
read_longer before next (drafts.Session s) (declarations.Template t) h = absurd h
read_longer before next (drafts.Session s) (declarations.Shared v) h = absurd h
read_longer before next (drafts.Session s) (declarations.Session t) h = same_long before next h.1

all_longer : (before after : List (List ℕ)) (ds : List Draft) (rs : List Declaration) → AreRead before ds rs after → length before ≤ length after
all_longer before after [] [] e = same_long before after e
all_longer before after [] (r ∷ rs) h = absurd h
all_longer before after (d ∷ ds) [] h = absurd h
all_longer before after (d ∷ ds) (r ∷ rs) (next, one, later) = let a = read_longer before next d r one in let b = all_longer next after ds rs later in
    omega arith

-- each template's gaps are below this
abbrev EachWithin : ℕ → List Template → Type 0
EachWithin most ts = AllByRecursion (λ (t : Template). Within most (λ g. opens g t.items)) ts

all_within : (before after : List (List ℕ)) (ds : List Draft) (rs : List Declaration) → AreRead before ds rs after → EachWithin (length after) (templates_of rs)
all_within before after [] [] e = tt
all_within before after [] (r ∷ rs) h = absurd h
all_within before after (d ∷ ds) [] h = absurd h
all_within before after (d ∷ ds) (declarations.Shared v ∷ rs) (next, one, later) = all_within next after ds rs later
all_within before after (d ∷ ds) (declarations.Session s ∷ rs) (next, one, later) = all_within next after ds rs later
all_within before after (drafts.Shared kind name init ∷ ds) (declarations.Template t ∷ rs) (next, one, later) = absurd one
all_within before after (drafts.Session s ∷ ds) (declarations.Template t ∷ rs) (next, one, later) = absurd one
all_within before after (drafts.Template name inside ∷ ds) (declarations.Template t ∷ rs) (next, one, later) = (
  λ g o. let a = inside_within before next inside t.items one.1 g o in let b = all_longer next after ds rs later in omega arith,
  all_within next after ds rs later,
)

-- ---- with the wrappers

nothing_open : (most : ℕ) → Within most (λ g. opens g none)
nothing_open most g o = absurd (false≢true o)

gap_within : (most k : ℕ) (rest : Forest) → k < most → Within most (λ g. opens g rest) → Within most (λ g. opens g (gap k rest))
gap_within most k rest h = both_within most (λ g. k == g) (λ g. opens g rest) (λ g o. subst (λ n. n < most) (eqb-true k g o) h)

element_within : (most : ℕ) (tag : List ℕ) (attrs : List Attr) (inner rest : Forest) → Within most (λ g. holes g attrs) → Within most (λ g. opens g inner)
    → Within most (λ g. opens g rest) → Within most (λ g. opens g (element tag attrs inner rest))
element_within most tag attrs inner rest a b c =
    both_within most (λ g. holes g attrs) (λ g. opens g inner || opens g rest) a (both_within most (λ g. opens g inner) (λ g. opens g rest) b c)

plain_within : (most : ℕ) (tag : List ℕ) (inner rest : Forest) → Within most (λ g. opens g inner) → Within most (λ g. opens g rest)
    → Within most (λ g. opens g (element tag [] inner rest))
plain_within most tag inner rest = element_within most tag [] inner rest (λ g o. absurd (false≢true o))

page_within : (most k : ℕ) (body : Forest) → k < most → Within most (λ g. opens g body) → Within most (λ g. opens g (page (gap k none) body))
page_within most k body h b =
    let title : Forest = plain (codes "title") (gap k none) in
    let rest : Forest = plain (codes "body") body in
    plain_within most (codes "html") (element (codes "head") [] title rest) none
    (plain_within most (codes "head") title rest
    (plain_within most (codes "title") (gap k none) none (gap_within most k none h (nothing_open most)) (nothing_open most))
    (plain_within most (codes "body") body none b (nothing_open most)))
    (nothing_open most)

target_within : (most k : ℕ) (x y : List ℕ) (v : List ℕ) → k < most → Within most (λ g. holes g (attr x (Hole k) ∷ attr y (Fixed v) ∷ []))
target_within most k x y v h = both_within most (λ g. k == g) (λ g. false) (λ g o. subst (λ n. n < most) (eqb-true k g o) h) (λ g o. absurd (false≢true o))

show_within : (k : ℕ) → Within (k + 3) (λ g. opens g (show_wrapper k))
show_within k =
    let attrs : List Attr = attr (codes "action") (Hole (k + 1)) ∷ attr (codes "method") (Fixed (codes "post")) ∷ [] in
    page_within (k + 3) k (form (Hole (k + 1)) (gap (k + 2) none)) (omega arith)
    (element_within (k + 3) (codes "form") attrs (gap (k + 2) button) none
    (target_within (k + 3) (k + 1) (codes "action") (codes "method") (codes "post") (omega arith))
    (gap_within (k + 3) (k + 2) button (omega arith) (λ g o. absurd (false≢true o))) (nothing_open (k + 3)))

exit_within : (k : ℕ) → Within (k + 3) (λ g. opens g (exit_wrapper k))
exit_within k = page_within (k + 3) k (gap (k + 2) none) (omega arith) (gap_within (k + 3) (k + 2) none (omega arith) (nothing_open (k + 3)))

at_number : (most : ℕ) (ts : List Template) (n : ℕ) → EachWithin most ts
    → Within (most + 3) (λ g. opens g (unwrap_or (slice_get (map (λ t. t.items) ts ++ show_wrapper most ∷ exit_wrapper most ∷ []) n) none))
at_number most [] zero h = show_within most
at_number most [] (suc zero) h = exit_within most
at_number most [] (suc (suc n)) h = λ g o. absurd (false≢true o)
at_number most (t ∷ ts) zero h = λ g o. let k = h.0 g o in omega arith
at_number most (t ∷ ts) (suc n) h = at_number most ts n h.1

pub read_gaps_are_known : ReadGapsAreKnown
read_gaps_are_known service (bytes, h) n =
    at_number (length service.gaps) service.templates n
    (subst (EachWithin (length service.gaps)) (sym (ap (λ (s : Service). s.templates) h.whole)) (all_within [] service.gaps h.drafts h.declarations h.read))
