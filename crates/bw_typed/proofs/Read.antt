-- What every declaration is that was read, and every place of the table of gaps.
use Rattle.std.proofs.Common.{ℕ, ◌<◌, ◌≤◌, ◌⊎◌, inl, inr, List, [], ◌∷◌, map, length, ap, sym, subst, ◌∙◌, arith}
use Rattle.std.specs.List.{All, Contains}
use Rattle.std.proofs.lemmas.List.{map-append, length-append}
use Rattle.std.proofs.lemmas.List.Elements.{All-cons, All-nil, All-weaker, Contains-append_left, Contains-append_right}
use Rattle.bw_lang.specs.declared.declaration.Declaration.{Declaration}
use Rattle.bw_lang.specs.declared.declaration.Declaration.TheVariants as declarations
use Rattle.bw_lang.specs.declared.declaration.Draft.{Draft}
use Rattle.bw_lang.specs.declared.declaration.Draft.TheVariants as drafts
use Rattle.bw_lang.specs.declared.service.Template.{Template}
use Rattle.bw_lang.specs.Service.Drafts.{IsFormed, AreFormed, IsShareable}
use Rattle.bw_lang.specs.Document.Measures.{nest}
use Rattle.bw_lang.specs.Table.Names.{name_number, Extends}
use Rattle.bw_lang.specs.Template.PieceGaps.{gap_names}
use Rattle.bw_lang.specs.Service.Reads.{IsRead, AreRead}
use Rattle.bw_lang.specs.Service.Sorted.{templates_of}
use Rattle.bw_lang.specs.Text.Spelling.{IsCode}
use Rattle.bw_lang.proofs.TableLaws.{extends_refl, extends_trans, names_stay}
use Rattle.bw_tmpl.specs.Markup.{IsMarkup}
use Rattle.bw_tmpl.proofs.Made.{reads_markup}
use Rattle.bw_types.specs.declared.fault.GapKind.{GapKind}
use Rattle.bw_types.specs.Gaps.{gap_uses, template_uses}
use Rattle.bw_typed.specs.Numbered.{numbers}
use Rattle.bw_typed.proofs.Gaps.{all_gaps, gaps_inside, covered}

-- a template is markup with few elements inside one another and gaps of this table, a shared variable is no list, and a session's
-- body is code
abbrev pub IsSound : List (List ℕ) → Declaration → Type 0
IsSound table (declarations.Template t) = (nest t.items ≤ 64) × All (λ x. x.0 < length table) (gap_uses t.items) × IsMarkup t.items
IsSound table (declarations.Shared v) = IsShareable v.kind
IsSound table (declarations.Session s) = IsCode s.body

grows : (before : List (List ℕ)) (draft : Draft) (d : Declaration) (after : List (List ℕ)) → IsRead before draft d after → Extends before after
grows before (drafts.Template n i) (declarations.Template t) after h = subst (Extends before) (sym h.1.names) (names_stay before (gap_names h.1.read.pieces))
grows before (drafts.Shared k n i) (declarations.Shared v) after h = subst (Extends before) (sym h.1) (extends_refl before)
grows before (drafts.Session s) (declarations.Session t) after h = subst (Extends before) (sym h.1) (extends_refl before)
grows before draft d after h = absurd h

sound_here : (before : List (List ℕ)) (draft : Draft) (d : Declaration) (after : List (List ℕ)) → IsFormed draft → IsRead before draft d after → IsSound after d
sound_here before (drafts.Template n i) (declarations.Template t) after f h =
    (h.1.read.nested, gaps_inside before after t.items h.1.read.pieces h.1.names h.1.read.reads, reads_markup after 64 i t.items h.1.read)
sound_here before (drafts.Shared k n i) (declarations.Shared v) after f h = λ e. f.0 (sym (ap (λ v. v.kind) h.0) ∙ e)
sound_here before (drafts.Session s) (declarations.Session t) after f h = subst (λ x. IsCode x.body) (sym h.0) f.1
sound_here before draft d after f h = absurd h

sound_later : (old new : List (List ℕ)) (d : Declaration) → Extends old new → IsSound old d → IsSound new d
sound_later old new (declarations.Template t) e h =
    (h.0, All-weaker (λ x. x.0 < length old) (λ x. x.0 < length new) (λ x l. longer x.0 l) (gap_uses t.items) h.1, h.2)
  where
    longer : (g : ℕ) → g < length old → g < length new
    longer g l = omega (arith, l, ap length e.is, length-append old e.more)
sound_later old new (declarations.Shared v) e h = h
sound_later old new (declarations.Session s) e h = h

-- each declaration, by the table behind all of them
pub all_sound : (before : List (List ℕ)) (ds : List Draft) (rs : List Declaration) (after : List (List ℕ)) → AreFormed ds → AreRead before ds rs after
    → All (IsSound after) rs × Extends before after
all_sound before [] [] after f h = (All-nil (IsSound after), subst (Extends before) (sym h) (extends_refl before))
all_sound before [] (r ∷ rs) after f h = absurd h
all_sound before (d ∷ ds) [] after f h = absurd h
all_sound before (d ∷ ds) (r ∷ rs) after f h =
    let more = all_sound h.0 ds rs after f.1 h.2 in (
      All-cons (IsSound after) r rs (sound_later h.0 after r more.1 (sound_here before d r h.0 f.0 h.1)) more.0,
      extends_trans before h.0 after (grows before d r h.0 h.1) more.1,
    )

-- ---- each place of the table is a gap's

abbrev pub Stands : List Template → ℕ → Type 0
Stands templates g = Contains (numbers (template_uses templates)) g

more_templates : (t : Template) (ts : List Template) (g : ℕ) → Stands ts g → Stands (t ∷ ts) g
more_templates t ts g c =
    subst (λ l. Contains l g) (sym (map-append (λ (x : ℕ × GapKind). x.0) (gap_uses t.items) (template_uses ts)))
    (Contains-append_right (numbers (gap_uses t.items)) (numbers (template_uses ts)) g c)

in_template : (t : Template) (ts : List Template) (g : ℕ) → Contains (numbers (gap_uses t.items)) g → Stands (t ∷ ts) g
in_template t ts g c =
    subst (λ l. Contains l g) (sym (map-append (λ (x : ℕ × GapKind). x.0) (gap_uses t.items) (template_uses ts)))
    (Contains-append_left (numbers (gap_uses t.items)) (numbers (template_uses ts)) g c)

-- a place behind one declaration was there, or is that of a gap in it
place_here : (before : List (List ℕ)) (draft : Draft) (d : Declaration) (after : List (List ℕ)) (rs : List Declaration) (g : ℕ)
    → IsRead before draft d after → g < length after
    → (g < length before) ⊎ Stands (templates_of (d ∷ rs)) g
place_here before (drafts.Template n i) (declarations.Template t) after rs g h l =
    let e = h.1.names in let ns = gap_names h.1.read.pieces in
    elim (covered before ns g (subst (λ table. g < length table) e l)) [
      | inl k ↦ inl k
      | inr c ↦ inr (in_template t (templates_of rs) g
          (subst (λ l. Contains l g) (ap (λ table. map (name_number table) ns) (sym e) ∙ sym (all_gaps after t.items h.1.read.pieces h.1.read.reads)) c))
    ]
place_here before (drafts.Shared k n i) (declarations.Shared v) after rs g h l = inl (subst (λ table. g < length table) h.1 l)
place_here before (drafts.Session s) (declarations.Session t) after rs g h l = inl (subst (λ table. g < length table) h.1 l)
place_here before draft d after rs g h l = absurd h

later_stands : (d : Declaration) (rs : List Declaration) (g : ℕ) → Stands (templates_of rs) g → Stands (templates_of (d ∷ rs)) g
later_stands (declarations.Template t) rs g c = more_templates t (templates_of rs) g c
later_stands (declarations.Shared v) rs g c = c
later_stands (declarations.Session s) rs g c = c

pub each_stands : (before : List (List ℕ)) (ds : List Draft) (rs : List Declaration) (after : List (List ℕ)) (g : ℕ) → AreRead before ds rs after
    → g < length after
    → (g < length before) ⊎ Stands (templates_of rs) g
each_stands before [] [] after g h l = inl (subst (λ table. g < length table) h l)
each_stands before [] (r ∷ rs) after g h l = absurd h
each_stands before (d ∷ ds) [] after g h l = absurd h
each_stands before (d ∷ ds) (r ∷ rs) after g h l = elim (each_stands h.0 ds rs after g h.2 l) [
  | inl k ↦ place_here before d r h.0 rs g h.1 k
  | inr c ↦ inr (later_stands r rs g c)
]
