-- Taking in the kinds of gaps and of fields, one item, attribute or template more.
use Rattle.std.proofs.Common.{◌≡◌, ℕ, ◌+◌, ◌<◌, List, ◌∷◌, ◌++◌, length, get_or, take, refl, ap, ◌∙◌, append_assoc}
use Rattle.std.proofs.lemmas.List.Sums.{fold-append}
use Rattle.bw_lang.specs.declared.controls.FieldKind.{FieldKind}
use Rattle.bw_lang.specs.declared.items.Item.{Item}
use Rattle.bw_lang.specs.Template.Controls.{fields}
use Rattle.bw_lang.specs.Document.Documents.{append}
use Rattle.bw_lang.specs.Document.Forest.{Forest, none, text, gap, element}
use Rattle.bw_lang.specs.Document.View.{forest, before}
use Rattle.bw_lang.proofs.FieldSteps.{fields-append}
use Rattle.bw_lang.proofs.Forests.{forest_at_read}
use Rattle.bw_types.specs.declared.fault.GapKind.{GapKind}
use Rattle.bw_types.specs.declared.fault.GapKind.TheVariants.{Content}
use Rattle.bw_types.specs.Gaps.{gap_uses}
use Rattle.bw_types.specs.Tables.{with_kind, with_kinds, with_use, with_uses}

pub with_uses-append : (t a b : List (ℕ × GapKind)) → with_uses t (a ++ b) ≡ with_uses (with_uses t a) b
with_uses-append t a b = fold-append with_use t a b

pub with_kinds-append : {V : Type 0} (t a b : List (List ℕ × V)) → with_kinds t (a ++ b) ≡ with_kinds (with_kinds t a) b
with_kinds-append t a b = fold-append with_kind t a b

gap_uses-append : (a b : Forest) → gap_uses (append a b) ≡ gap_uses a ++ gap_uses b
gap_uses-append none b = refl
gap_uses-append (text s r) b = gap_uses-append r b
gap_uses-append (gap g r) b = ap (λ l. (g, Content) ∷ l) (gap_uses-append r b)
gap_uses-append (element t xs i r) b = rw (gap_uses-append r b) (simp append_assoc)

pub uses_at_read : (t : List (ℕ × GapKind)) (xs : List Item) (i : ℕ) (d : Item) → i < length xs
    → (get_or xs i d ≡ get_or xs i d) × (with_uses t (gap_uses (forest (take (i + 1) xs))) ≡ with_uses (with_uses t (gap_uses (forest (take i xs))))
    (gap_uses (before (get_or xs i d) none)))
uses_at_read t xs i d h =
    let first = forest (take i xs) in let last = before (get_or xs i d) none in (
      refl,
      ap (λ f. with_uses t (gap_uses f)) (forest_at_read xs i d h).1 ∙ ap (with_uses t) (gap_uses-append first last)
          ∙ with_uses-append t (gap_uses first) (gap_uses last),
    )

pub fields_at_read : (t : List (List ℕ × FieldKind)) (xs : List Item) (i : ℕ) (d : Item) → i < length xs
    → (get_or xs i d ≡ get_or xs i d) × (with_kinds t (fields (forest (take (i + 1) xs))) ≡ with_kinds (with_kinds t (fields (forest (take i xs))))
    (fields (before (get_or xs i d) none)))
fields_at_read t xs i d h =
    let first = forest (take i xs) in let last = before (get_or xs i d) none in (
      refl,
      ap (λ f. with_kinds t (fields f)) (forest_at_read xs i d h).1 ∙ ap (with_kinds t) (fields-append first last)
          ∙ with_kinds-append t (fields first) (fields last),
    )

pub ruleset note_steps = (with_uses-append, with_kinds-append, uses_at_read, fields_at_read)
