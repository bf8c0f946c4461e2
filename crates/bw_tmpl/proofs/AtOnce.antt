-- What is built at once passes each check, and is what the pieces are built to.
use Rattle.std.proofs.Common.{◌≡◌, ℕ, suc, ◌<◌, ◌≤◌, max, Bool, true, false, List, [], ◌∷◌, ◌++◌, map, length, Option, Some, None, refl, sym, ap, subst, ◌∙◌}
use Rattle.std.proofs.Common.{arith}
use Rattle.std.specs.Prelude.{MatchOption, if◌then◌else◌, ◌&&◌, ◌==◌, nat_lt, not}
use Rattle.std.specs.Bool.{MatchBool}
use Rattle.std.proofs.lemmas.Bool.{and_parts, or_from, ltb-true}
use Rattle.bw_lang.specs.Document.Forest.{Forest, none, text, element}
use Rattle.bw_lang.specs.Document.Documents.{append}
use Rattle.bw_lang.specs.Template.Markup.{is_void}
use Rattle.bw_lang.specs.Table.Names.{same}
use Rattle.bw_lang.specs.Template.NumberedGaps.{numbered}
use Rattle.bw_lang.specs.Template.PieceGaps.{attr_gaps, gap_names}
use Rattle.bw_lang.specs.Template.Pieces.{SpellsPieces}
use Rattle.bw_lang.specs.Template.RepeatedAttributes.{repeated, attr_names, repeats}
use Rattle.bw_lang.specs.declared.pieces.Tag.{Tag}
use Rattle.bw_lang.specs.declared.pieces.Piece.{Piece}
use Rattle.bw_lang.specs.declared.pieces.Piece.TheVariants as piece
use Rattle.bw_lang.proofs.Options.{some_is}
use Rattle.bw_tmpl.specs.declared.building.OpenElement.{OpenElement}
use Rattle.bw_tmpl.specs.declared.building.Draft.{Draft}
use Rattle.bw_tmpl.specs.declared.nesting.OpenTags.{OpenTags}
use Rattle.bw_tmpl.specs.AtOnce.{is_nothing, tag_suits, suiting, suiting_all, filled, at_once}
use Rattle.bw_tmpl.specs.Building.{nothing_built, with_items, empty_element, element_begun, draft_after_all, if_none_open, finished, built}
use Rattle.bw_tmpl.specs.Steps.Checks.{Passes}
use Rattle.bw_tmpl.specs.Nesting.{tags_after_all, deepest_if_closed}
use Rattle.bw_tmpl.specs.Steps.Reading.{each, piece_at, pieces_of}
use Rattle.bw_tmpl.proofs.Depths.{at, tags}
use Rattle.bw_tmpl.proofs.Many.{each_more, each_none}
use Rattle.bw_tmpl.proofs.Shrinking.{piece_shrinks}
use Rattle.bw_tmpl.proofs.SpelledPieces.{pieces_spelled}

-- ---- tags that suit

nothing_is : (names : List (List ℕ)) → is_nothing names ≡ true → names ≡ []
nothing_is [] h = refl
nothing_is (n ∷ names) h = absurd (cc)

not_is : (b : Bool) → not b ≡ true → b ≡ false
not_is true h = absurd (cc)
not_is false h = refl

record Suits (most around : ℕ) (t : Tag) : Type 0 where
  less : around < most
  closed : attr_gaps t.attrs ≡ []
  once : repeated (attr_names t.attrs) ≡ false

tag_is : (most around : ℕ) (t : Tag) → tag_suits most around t ≡ true → Suits most around t
tag_is most around t h =
    let rest = is_nothing (attr_gaps t.attrs) && not (repeated (attr_names t.attrs)) in
    let p = and_parts (nat_lt around most) rest h in
    let q = and_parts (is_nothing (attr_gaps t.attrs)) (not (repeated (attr_names t.attrs))) p.1 in
    record {
      less = ltb-true around most p.0;
      closed = nothing_is (attr_gaps t.attrs) q.0;
      once = not_is (repeated (attr_names t.attrs)) q.1;
    }

-- ---- pieces that suit

tags_length : (parents : List OpenElement) → length (tags parents) ≡ length parents
tags_length [] = refl
tags_length (l ∷ parents) = ap suc (tags_length parents)

deeper : (most m : ℕ) (parents : List OpenElement) → m ≤ most → length parents < most → max m (suc (length (tags parents))) ≤ most
deeper most m parents le lt = omega (arith, tags_length parents)

both_closed : (xs ys : List (List ℕ)) → xs ≡ [] → ys ≡ [] → xs ++ ys ≡ []
both_closed xs ys p q = ap (λ (zs : List (List ℕ)). zs ++ ys) p ∙ q

abbrev draft : Forest → List OpenElement → Draft
draft items parents = record { items = items; parents = parents }

-- the pieces pass each check behind a draft with these parents, and are built to c
record Passed (names : List (List ℕ)) (most : ℕ) (items : Forest) (parents : List OpenElement) (m : ℕ) (ps : List Piece) (c : Draft) : Type 0 where
  closed : gap_names ps ≡ []
  once : repeats ps ≡ false
  done : draft_after_all names (Some (draft items parents)) ps ≡ Some c
  deepest : ℕ
  depth : tags_after_all (at (tags parents) m) ps ≡ at (tags c.parents) deepest
  within : deepest ≤ most

abbrev AllPass : List (List ℕ) → ℕ → List Piece → Type 0
AllPass names most ps =
    (items : Forest) (parents : List OpenElement) (m : ℕ) (c : Draft) → m ≤ most
    → suiting_all names most (Some (draft items parents)) ps ≡ Some c → Passed names most items parents m ps c

whole_passes : (names : List (List ℕ)) (most : ℕ) (ps : List Piece) (t : Tag) (items : Forest) (parents : List OpenElement) (m : ℕ) (c : Draft) (v : Bool)
    → AllPass names most ps → m ≤ most → tag_suits most (length parents) t ≡ v
    → suiting_all names most (if v then Some (with_items (draft items parents) (empty_element names t)) else None) ps ≡ Some c
    → Passed names most items parents m (piece.Whole t ∷ ps) c
whole_passes names most ps t items parents m c true ih le e h =
    let s = tag_is most (length parents) t e in
    let k = ih (append items (empty_element names t)) parents (max m (suc (length (tags parents)))) c (deeper most m parents le s.less) h in
    record {
      closed = both_closed (attr_gaps t.attrs) (gap_names ps) s.closed k.closed;
      once = or_from (repeated (attr_names t.attrs)) (repeats ps) s.once k.once;
      done = k.done;
      deepest = k.deepest;
      depth = k.depth;
      within = k.within;
    }
whole_passes names most ps t items parents m c false ih le e h = absurd (cc)

abbrev begun : List (List ℕ) → Forest → List OpenElement → Tag → Bool → Option Draft
begun names items parents t w =
    if w then Some (with_items (draft items parents) (empty_element names t)) else Some (element_begun names (draft items parents) t)

abbrev opened : List OpenElement → ℕ → Tag → Bool → Option OpenTags
opened parents m t w = if w then at (tags parents) (max m (suc (length (tags parents)))) else at (t.name ∷ tags parents) (max m (suc (length (tags parents))))

start_passes : (names : List (List ℕ)) (most : ℕ) (ps : List Piece) (t : Tag) (items : Forest) (parents : List OpenElement) (m : ℕ) (c : Draft) (v w : Bool)
    → AllPass names most ps → m ≤ most → tag_suits most (length parents) t ≡ v → is_void t.name ≡ w
    → suiting_all names most (if v then begun names items parents t w else None) ps ≡ Some c
    → Passed names most items parents m (piece.Start t ∷ ps) c
start_passes names most ps t items parents m c true true ih le e f h =
    let s = tag_is most (length parents) t e in
    let k = ih (append items (empty_element names t)) parents (max m (suc (length (tags parents)))) c (deeper most m parents le s.less) h in
    record {
      closed = both_closed (attr_gaps t.attrs) (gap_names ps) s.closed k.closed;
      once = or_from (repeated (attr_names t.attrs)) (repeats ps) s.once k.once;
      done = ap (λ (x : Bool). draft_after_all names (begun names items parents t x) ps) f ∙ k.done;
      deepest = k.deepest;
      depth = ap (λ (x : Bool). tags_after_all (opened parents m t x) ps) f ∙ k.depth;
      within = k.within;
    }
start_passes names most ps t items parents m c true false ih le e f h =
    let s = tag_is most (length parents) t e in
    let k = ih none (record { tag = t.name; attrs = map (numbered names) t.attrs; front = items } ∷ parents)
    (max m (suc (length (tags parents)))) c (deeper most m parents le s.less) h in
    record {
      closed = both_closed (attr_gaps t.attrs) (gap_names ps) s.closed k.closed;
      once = or_from (repeated (attr_names t.attrs)) (repeats ps) s.once k.once;
      done = ap (λ (x : Bool). draft_after_all names (begun names items parents t x) ps) f ∙ k.done;
      deepest = k.deepest;
      depth = ap (λ (x : Bool). tags_after_all (opened parents m t x) ps) f ∙ k.depth;
      within = k.within;
    }
start_passes names most ps t items parents m c false w ih le e f h = absurd (cc)

abbrev closed_by : Forest → OpenElement → List OpenElement → Bool → Option Draft
closed_by items l parents v = if v then Some (draft (append l.front (element l.tag l.attrs items none)) parents) else None

end_passes : (names : List (List ℕ)) (most : ℕ) (ps : List Piece) (n : List ℕ) (items : Forest) (l : OpenElement) (parents : List OpenElement) (m : ℕ)
    (c : Draft) (v : Bool) → AllPass names most ps → m ≤ most → same l.tag n ≡ v
    → suiting_all names most (closed_by items l parents v) ps ≡ Some c
    → Passed names most items (l ∷ parents) m (piece.End n ∷ ps) c
end_passes names most ps n items l parents m c true ih le e h =
    let k = ih (append l.front (element l.tag l.attrs items none)) parents m c le h in
    record {
      closed = k.closed;
      once = k.once;
      done = ap (λ (x : Bool). draft_after_all names (closed_by items l parents x) ps) e ∙ k.done;
      deepest = k.deepest;
      depth = ap (λ (x : Bool). tags_after_all (if x then at (tags parents) m else None) ps) e ∙ k.depth;
      within = k.within;
    }
end_passes names most ps n items l parents m c false ih le e h = absurd (cc)

all_pass : (names : List (List ℕ)) (most : ℕ) (ps : List Piece) → AllPass names most ps
all_pass names most [] items parents m c le h = record {
  closed = refl;
  once = refl;
  done = h;
  deepest = m;
  depth = ap (λ (d : Draft). at (tags d.parents) m) (some_is (draft items parents) c h);
  within = le;
}
all_pass names most (piece.Text s ∷ ps) items parents m c le h =
    let k = all_pass names most ps (append items (text s none)) parents m c le h in
    record { closed = k.closed; once = k.once; done = k.done; deepest = k.deepest; depth = k.depth; within = k.within }
all_pass names most (piece.Gap n ∷ ps) items parents m c le h = absurd (cc)
all_pass names most (piece.Whole t ∷ ps) items parents m c le h =
    whole_passes names most ps t items parents m c (tag_suits most (length parents) t) (all_pass names most ps) le refl h
all_pass names most (piece.Start t ∷ ps) items parents m c le h =
    start_passes names most ps t items parents m c (tag_suits most (length parents) t) (is_void t.name) (all_pass names most ps) le refl refl h
all_pass names most (piece.End n ∷ ps) items [] m c le h = absurd (cc)
all_pass names most (piece.End n ∷ ps) items (l ∷ parents) m c le h =
    end_passes names most ps n items l parents m c (same l.tag n) (all_pass names most ps) le refl h

-- ---- bytes that are built at once

-- the bytes are pieces that pass each check and are built to the items
pub record IsBuilt (names : List (List ℕ)) (most : ℕ) (bytes : List ℕ) (f : Forest) : Type 0 where
  pub pieces : List Piece
  pub spelled : SpellsPieces pieces bytes
  pub closed : gap_names pieces ≡ []
  pub passes : Passes most pieces
  pub is : built names pieces ≡ Some f

no_parents : (items : Forest) (parents : List OpenElement) (f : Forest) → if_none_open items parents ≡ Some f → parents ≡ []
no_parents items [] f h = refl
no_parents items (l ∷ parents) f h = absurd (cc)

by_draft : (names : List (List ℕ)) (most : ℕ) (bytes : List ℕ) (ps : List Piece) (f : Forest) (o : Option Draft) → pieces_of bytes ≡ Some ps
    → suiting_all names most (Some nothing_built) ps ≡ o → finished o ≡ Some f → IsBuilt names most bytes f
by_draft names most bytes ps f None s e h = absurd (cc)
by_draft names most bytes ps f (Some c) s e h =
    let k = all_pass names most ps none [] 0 c (omega arith) e in
    let d = ap deepest_if_closed k.depth
    ∙ ap (λ (p : List OpenElement). deepest_if_closed (at (tags p) k.deepest)) (no_parents c.items c.parents f h) in
    record {
      pieces = ps;
      spelled = pieces_spelled bytes ps s;
      closed = k.closed;
      passes = (k.once, (k.deepest, d, k.within));
      is = ap finished k.done ∙ h;
    }

pieces_when : (bytes : List ℕ) (v : Bool) → (length (each piece_at bytes).1 == 0) ≡ v → v ≡ true → pieces_of bytes ≡ Some (each piece_at bytes).0
unfolding pieces_of
pieces_when bytes v e t = ap (λ (x : Bool). if x then Some (each piece_at bytes).0 else None) (e ∙ t)

by_rest : (names : List (List ℕ)) (most : ℕ) (bytes : List ℕ) (f : Forest) (v : Bool) → (length (each piece_at bytes).1 == 0) ≡ v
    → finished (if v then suiting_all names most (Some nothing_built) (each piece_at bytes).0 else None) ≡ Some f → IsBuilt names most bytes f
by_rest names most bytes f true e h =
    by_draft names most bytes (each piece_at bytes).0 f (suiting_all names most (Some nothing_built) (each piece_at bytes).0)
    (pieces_when bytes true e refl) refl h
by_rest names most bytes f false e h = absurd (cc)

-- what was answered is built
pub at_once_built : (names : List (List ℕ)) (most : ℕ) (bytes : List ℕ) (f : Forest) (o : Option Forest)
    → MatchOption o (at_once names most bytes ≡ None) (λ g. at_once names most bytes ≡ Some g) → o ≡ Some f → IsBuilt names most bytes f
at_once_built names most bytes f o answered e =
    by_rest names most bytes f (length (each piece_at bytes).1 == 0) refl
    (subst (λ p. MatchOption p (at_once names most bytes ≡ None) (λ g. at_once names most bytes ≡ Some g)) e answered)

-- ---- for the loop

abbrev of_read : List (List ℕ) → ℕ → Option Draft → List Piece × List ℕ → Option Draft
of_read names most o t = if length t.1 == 0 then suiting_all names most o t.0 else None

filled_next : (names : List (List ℕ)) (most : ℕ) (b : Draft) (bytes : List ℕ) (p : Piece) (rest : List ℕ) → piece_at bytes ≡ Some (p, rest)
    → filled names most b bytes ≡ of_read names most (suiting names most b p) (each piece_at rest)
filled_next names most b bytes p rest e = ap (of_read names most (Some b)) (each_more piece_at piece_shrinks bytes (p, rest) e)

pub filled_more : (names : List (List ℕ)) (most : ℕ) (b d : Draft) (bytes : List ℕ) (p : Piece) (rest : List ℕ) → piece_at bytes ≡ Some (p, rest)
    → suiting names most b p ≡ Some d → filled names most b bytes ≡ filled names most d rest
filled_more names most b d bytes p rest e s =
    filled_next names most b bytes p rest e ∙ ap (λ (o : Option Draft). of_read names most o (each piece_at rest)) s

abbrev no_draft : Option Draft
no_draft = None

none_anyway : (v : Bool) → (if v then no_draft else no_draft) ≡ no_draft
none_anyway true = refl
none_anyway false = refl

pub filled_stops : (names : List (List ℕ)) (most : ℕ) (b : Draft) (bytes : List ℕ) (p : Piece) (rest : List ℕ) → piece_at bytes ≡ Some (p, rest)
    → suiting names most b p ≡ None → filled names most b bytes ≡ None
filled_stops names most b bytes p rest e s =
    filled_next names most b bytes p rest e ∙ ap (λ (o : Option Draft). of_read names most o (each piece_at rest)) s
    ∙ none_anyway (length (each piece_at rest).1 == 0)

filled_ends : (names : List (List ℕ)) (most : ℕ) (b : Draft) (bytes : List ℕ) → piece_at bytes ≡ None
    → filled names most b bytes ≡ (if length bytes == 0 then Some b else None)
filled_ends names most b bytes e = ap (of_read names most (Some b)) (each_none piece_at piece_shrinks bytes e)

-- whether all of the bytes were read, where no piece stands at the front of what is left
pub filled_whether : (names : List (List ℕ)) (most : ℕ) (b d : Draft) (rest bytes : List ℕ) (r : Bool)
    → filled names most b rest ≡ filled names most d bytes → piece_at rest ≡ None → r ≡ (length rest == 0)
    → MatchBool r (filled names most d bytes ≡ Some b) (filled names most d bytes ≡ None)
filled_whether names most b d rest bytes true h e q =
    sym h ∙ filled_ends names most b rest e ∙ ap (λ (x : Bool). if x then Some b else None) (sym q)
filled_whether names most b d rest bytes false h e q =
    sym h ∙ filled_ends names most b rest e ∙ ap (λ (x : Bool). if x then Some b else None) (sym q)
