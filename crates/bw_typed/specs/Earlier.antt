-- A gap, and a field, is tested against the kind of its first place in all templates. An earlier place says the same.
use Rattle.std.specs.Prelude.{◌≡◌, ℕ, List, ◌∷◌, ◌++◌}
use Rattle.bw_lang.specs.declared.controls.FieldKind.{FieldKind}
use Rattle.bw_lang.specs.Table.Names.{beside}
use Rattle.bw_types.specs.declared.fault.GapKind.{GapKind}
use Rattle.bw_types.specs.Gaps.{gap_kind}
use Rattle.bw_types.specs.TemplateFaults.{is_other_gap_kind, is_other_field_kind}

-- At a place of a gap, the kind of its first place among all is another one where that of its first place in front is.
abbrev pub EarlierGapSays : Type 0
EarlierGapSays = (front rest : List (ℕ × GapKind)) (g : ℕ) (kind : GapKind)
    → is_other_gap_kind (gap_kind (front ++ (g, kind) ∷ rest) g) kind ≡ is_other_gap_kind (gap_kind front g) kind

-- so it is at a control of a field
abbrev pub EarlierFieldSays : Type 0
EarlierFieldSays = (front rest : List (List ℕ × FieldKind)) (w : List ℕ) (kind : FieldKind)
    → is_other_field_kind (beside w (front ++ (w, kind) ∷ rest)) kind ≡ is_other_field_kind (beside w front) kind
