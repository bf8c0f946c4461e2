-- The names of gaps are short.
use Rattle.std.proofs.Common.{ℕ, ◌<◌, ◌≤◌, Bool, List, [], ◌∷◌, ◌++◌, length, ap, subst}
use Rattle.std.specs.Prelude.{unwrap_or, ◌&&◌, codes}
use Rattle.std.specs.List.{All}
use Rattle.std.proofs.lemmas.List.Elements.{All-cons, All-nil, All-append, All-map, All-contains}
use Rattle.std.proofs.lemmas.Option.{slice_get-get_or}
use Rattle.bw_lang.specs.declared.items.Attr.{Attr}
use Rattle.bw_lang.specs.declared.items.AttrValue.{AttrValue}
use Rattle.bw_lang.specs.declared.items.AttrValue.TheVariants.{Fixed, Hole}
use Rattle.bw_lang.specs.declared.service.Template.{Template}
use Rattle.bw_lang.specs.Template.Controls.{is_control}
use Rattle.bw_lang.specs.Document.Forest.{Forest, none, text, gap, element}
use Rattle.bw_lang.specs.Service.Limits.{gap_length, value_lengths, attr_lengths, item_lengths}
use Rattle.bw_lang.specs.Table.Names.{same}
use Rattle.bw_types.specs.declared.fault.GapKind.{GapKind}
use Rattle.bw_types.specs.declared.fault.GapKind.TheVariants.{Content, Attribute}
use Rattle.bw_types.specs.Gaps.{value_use, attr_uses, gap_uses, template_uses}
use Rattle.bw_types.proofs.Parts.{all_parts}
use Rattle.bw_typed.specs.Numbered.{numbers}
use Rattle.bw_typed.specs.ShortNames.{IsShortName}
use Rattle.bw_typed.proofs.Read.{Stands}
use Rattle.bw_typed.proofs.Short.{AreMost, both, this, next}

module _ (gaps : List (List ℕ)) where
  -- the name of a gap in use is short
  abbrev pub IsShortUse : ℕ × GapKind → Type 0
  IsShortUse x = gap_length gaps x.0 ≤ 64

  value_short : (b : Bool) (v : AttrValue) → AreMost 64 (value_lengths gaps b v) → All IsShortUse (value_use v)
  value_short b (Fixed s) h = All-nil IsShortUse
  value_short b (Hole g) h = All-cons IsShortUse (g, Attribute) [] (this 64 (gap_length gaps g) [] h) (All-nil IsShortUse)

  attrs_short : (tag : List ℕ) (attrs : List Attr) → AreMost 64 (attr_lengths gaps tag attrs) → All IsShortUse (attr_uses attrs)
  attrs_short tag [] h = All-nil IsShortUse
  attrs_short tag (a ∷ attrs) h =
      let named = is_control tag && same a.name (codes "name") in
      let p = both 64 (value_lengths gaps named a.value) (attr_lengths gaps tag attrs) h in
      All-append IsShortUse (value_use a.value) (attr_uses attrs) (value_short named a.value p.0) (attrs_short tag attrs p.1)

  pub items_short : (f : Forest) → AreMost 64 (item_lengths gaps f) → All IsShortUse (gap_uses f)
  items_short none h = All-nil IsShortUse
  items_short (text s f) h = items_short f h
  items_short (gap g f) h =
      All-cons IsShortUse (g, Content) (gap_uses f) (this 64 (gap_length gaps g) (item_lengths gaps f) h)
      (items_short f (next 64 (gap_length gaps g) (item_lengths gaps f) h))
  items_short (element tag attrs inner f) h =
      let p = both 64 (attr_lengths gaps tag attrs) (item_lengths gaps inner ++ item_lengths gaps f) h in
      let q = both 64 (item_lengths gaps inner) (item_lengths gaps f) p.1 in
      All-append IsShortUse (attr_uses attrs) (gap_uses inner ++ gap_uses f) (attrs_short tag attrs p.0)
      (All-append IsShortUse (gap_uses inner) (gap_uses f) (items_short inner q.0) (items_short f q.1))

  -- each name of the table is that of a gap in use
  pub table_short : (templates : List Template) → All (λ t. All IsShortUse (gap_uses t.items)) templates → ((g : ℕ) → g < length gaps → Stands templates g)
      → All IsShortName gaps
  table_short templates short stands = λ k d l.
      let uses = template_uses templates in
      let at : gap_length gaps k ≤ 64 =
      All-contains (λ g. gap_length gaps g ≤ 64) (numbers uses) k
      (All-map (λ g. gap_length gaps g ≤ 64) (λ (x : ℕ × GapKind). x.0) uses
      (all_parts (λ (t : Template). gap_uses t.items) IsShortUse templates short)) (stands k l) in
      subst (λ n. n ≤ 64) (ap (λ o. length (unwrap_or o [])) (slice_get-get_or gaps k d l)) at
