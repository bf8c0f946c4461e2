-- The gaps of items, by the numbers of the table that they were read by.
use Rattle.std.proofs.Common.{◌≡◌, ℕ, suc, ◌+◌, ◌<◌, ◌⊎◌, inl, inr, Bool, true, false, cond, List, [], ◌∷◌, ◌++◌, map, length, refl, ap, sym, subst}
use Rattle.std.proofs.Common.{◌∙◌, append_assoc, append-nil, arith}
use Rattle.std.specs.Prelude.{◌||◌, if◌then◌else◌, not}
use Rattle.std.specs.List.{All, Contains, list_any}
use Rattle.std.proofs.lemmas.Cmp.{nat_list_eq_equiv}
use Rattle.std.proofs.lemmas.List.{map-append, length-append}
use Rattle.std.proofs.lemmas.List.Elements.{All-map}
use Rattle.bw_lang.specs.declared.pieces.Piece.{Piece}
use Rattle.bw_lang.specs.declared.pieces.Piece.TheVariants as piece
use Rattle.bw_lang.specs.declared.pieces.RawAttr.{RawAttr}
use Rattle.bw_lang.specs.declared.pieces.RawValue.{RawValue}
use Rattle.bw_lang.specs.declared.pieces.RawValue.TheVariants as raw
use Rattle.bw_lang.specs.Document.Forest.{Forest, none, text, gap, element}
use Rattle.bw_lang.specs.Table.Names.{same, name_number, with_name, with_names}
use Rattle.bw_lang.specs.Template.NumberedGaps.{numbered, numbered_value}
use Rattle.bw_lang.specs.Template.PieceGaps.{value_gaps, attr_gaps, gap_names}
use Rattle.bw_lang.specs.Template.PieceItems.{ReadsPieces}
use Rattle.bw_lang.proofs.Small.{of_each}
use Rattle.bw_lang.proofs.TableLaws.{names_stay, numbers_stay, added_are_there}
use Rattle.bw_types.specs.declared.fault.GapKind.{GapKind}
use Rattle.bw_types.specs.Gaps.{value_use, attr_uses, gap_uses}
use Rattle.bw_typed.specs.Numbered.{numbers}

module _ (names : List (List ℕ)) where
  -- the numbers of names
  abbrev pub numbered_names : List (List ℕ) → List ℕ
  numbered_names ns = map (name_number names) ns

  value_reads : (v : RawValue) → numbers (value_use (numbered_value names v)) ≡ numbered_names (value_gaps v)
  value_reads (raw.Fixed s) = refl
  value_reads (raw.Hole n) = refl

  numbers-append : (a b : List (ℕ × GapKind)) → numbers (a ++ b) ≡ numbers a ++ numbers b
  numbers-append a b = map-append (λ (x : ℕ × GapKind). x.0) a b

  names-append : (a b : List (List ℕ)) → numbered_names (a ++ b) ≡ numbered_names a ++ numbered_names b
  names-append a b = map-append (name_number names) a b

  attrs_read : (raws : List RawAttr) → numbers (attr_uses (map (numbered names) raws)) ≡ numbered_names (attr_gaps raws)
  attrs_read [] = refl
  attrs_read (a ∷ raws) =
      numbers-append (value_use (numbered_value names a.value)) (attr_uses (map (numbered names) raws))
      ∙ (λ i. value_reads a.value i ++ attrs_read raws i) ∙ sym (names-append (value_gaps a.value) (attr_gaps raws))

  -- the numbers of an element's gaps, where what follows is known
  parts : (a b c : List (ℕ × GapKind)) (d : List ℕ) → numbers (a ++ (b ++ c)) ++ d ≡ numbers a ++ (numbers b ++ (numbers c ++ d))
  parts a b c d =
      ap (λ l. l ++ d) (numbers-append a (b ++ c) ∙ ap (λ l. numbers a ++ l) (numbers-append b c))
      ∙ append_assoc (numbers a) (numbers b ++ numbers c) d ∙ ap (λ l. numbers a ++ l) (append_assoc (numbers b) (numbers c) d)

  -- the gaps of items are those of their pieces
  pub reads_gaps : (f : Forest) (ps rest : List Piece) → ReadsPieces names f ps rest
      → numbers (gap_uses f) ++ numbered_names (gap_names rest) ≡ numbered_names (gap_names ps)
  reads_gaps none ps rest h = ap (λ l. numbered_names (gap_names l)) (sym h)
  reads_gaps (text s f) ps rest h = reads_gaps f h.0 rest h.2 ∙ ap (λ l. numbered_names (gap_names l)) (sym h.1)
  reads_gaps (gap g f) ps rest h =
      (λ i. h.1.2 i ∷ reads_gaps f h.0 rest h.2 i) ∙ ap (λ l. numbered_names (gap_names l)) (sym h.1.1)
  reads_gaps (element tag attrs inner f) ps rest h =
      let qs = h.0 in let t = h.1.0 in
      let own : numbers (attr_uses attrs) ≡ numbered_names (attr_gaps t.attrs) = ap (λ l. numbers (attr_uses l)) h.1.2 ∙ attrs_read t.attrs in
      let later = reads_gaps f qs rest h.2 in
      parts (attr_uses attrs) (gap_uses inner) (gap_uses f) (numbered_names (gap_names rest))
      ∙ (λ i. own i ++ (numbers (gap_uses inner) ++ later i))
      ∙ (elim h.1.3 [
        | inl whole ↦ empty_reads t.attrs inner qs whole.1 ∙ ap (λ l. numbered_names (gap_names l)) (sym whole.0)
        | inr other ↦ elim other [
          | inl start ↦ empty_reads t.attrs inner qs start.2 ∙ ap (λ l. numbered_names (gap_names l)) (sym start.0)
          | inr more ↦ ap (λ l. numbered_names (attr_gaps t.attrs) ++ l) (reads_gaps inner more.0 (piece.End t.name ∷ qs) more.3)
              ∙ sym (names-append (attr_gaps t.attrs) (gap_names more.0)) ∙ ap (λ l. numbered_names (gap_names l)) (sym more.1)
        ]
      ])
    where
      empty_reads : (raws : List RawAttr) (inner : Forest) (qs : List Piece) → inner ≡ none
          → numbered_names (attr_gaps raws) ++ (numbers (gap_uses inner) ++ numbered_names (gap_names qs)) ≡ numbered_names (attr_gaps raws ++ gap_names qs)
      empty_reads raws inner qs e =
          ap (λ d. numbered_names (attr_gaps raws) ++ (numbers (gap_uses d) ++ numbered_names (gap_names qs))) e
          ∙ sym (names-append (attr_gaps raws) (gap_names qs))

  pub all_gaps : (f : Forest) (ps : List Piece) → ReadsPieces names f ps [] → numbers (gap_uses f) ≡ numbered_names (gap_names ps)
  all_gaps f ps h = sym (append-nil (numbers (gap_uses f))) ∙ reads_gaps f ps [] h

-- the gaps of items have numbers of the table that their names were taken into
pub gaps_inside : (before after : List (List ℕ)) (f : Forest) (ps : List Piece) → after ≡ with_names before (gap_names ps) → ReadsPieces after f ps []
    → All (λ x. x.0 < length after) (gap_uses f)
gaps_inside before after f ps e h =
    let there : All (λ n. name_number after n < length after) (gap_names ps) =
    subst (λ table. All (λ n. name_number table n < length table) (gap_names ps)) (sym e) (added_are_there before (gap_names ps)) in
    of_each (λ g. g < length after) (λ (x : ℕ × GapKind). x.0) (gap_uses f)
    (subst (All (λ g. g < length after)) (sym (all_gaps after f ps h)) (All-map (λ g. g < length after) (name_number after) (gap_names ps) there))

-- ---- the table has no more names than were taken in

-- a name that isn't there gets the next place
number_new : (names : List (List ℕ)) (n : List ℕ) → list_any (same n) names ≡ false → name_number (names ++ n ∷ []) n ≡ length names
number_new [] n h = ap (λ b. cond (not b) 1 0) (nat_list_eq_equiv.refl n)
number_new (m ∷ names) n h = by_test (same n m) h (number_new names n)
  where
    by_test : (b : Bool) → (b || list_any (same n) names) ≡ false → (list_any (same n) names ≡ false → name_number (names ++ n ∷ []) n ≡ length names)
        → cond (not b) (1 + name_number (names ++ n ∷ []) n) 0 ≡ length (m ∷ names)
    by_test true h ih = absurd (cc)
    by_test false h ih = omega (arith, ih h)

-- a place that the name brought in is its number
brought : (old : List (List ℕ)) (n : List ℕ) (g : ℕ) → g < length (with_name old n)
    → (g < length old) ⊎ ((name_number (with_name old n) n ≡ g) × (g < length (with_name old n)))
brought old n g h = by_test (list_any (same n) old) refl h
  where
    last : (a : ℕ) → g < suc a → (g < a) ⊎ (a ≡ g)
    last a h = grind arith

    by_test : (b : Bool) → list_any (same n) old ≡ b → g < length (if b then old else old ++ n ∷ [])
        → (g < length old) ⊎ ((name_number (if b then old else old ++ n ∷ []) n ≡ g) × (g < length (if b then old else old ++ n ∷ [])))
    by_test true e h = inl h
    by_test false e h = elim (last (length old) (omega (arith, h, length-append old (n ∷ [])))) [ inl l ↦ inl l | inr s ↦ inr (number_new old n e ∙ s, h) ]

-- each place of the table is one that it had, or the number of a name that was taken in
pub covered : (old added : List (List ℕ)) (g : ℕ) → g < length (with_names old added)
    → (g < length old) ⊎ Contains (map (name_number (with_names old added)) added) g
covered old [] g h = inl h
covered old (n ∷ added) g h = elim (covered (with_name old n) added g h) [
  | inl l ↦ elim (brought old n g l) [
    | inl k ↦ inl k
    | inr k ↦ inr (
      0,
      omega arith,
      numbers_stay (with_name old n) (with_names (with_name old n) added) n (names_stay (with_name old n) added) (omega (arith, k.0, k.1)) ∙ k.0,
    )
  ]
  | inr c ↦ inr (suc c.0, omega (arith, c.1), c.2)
]
