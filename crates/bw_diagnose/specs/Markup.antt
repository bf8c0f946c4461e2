-- Where the inside of a template stops being markup. Bytes are counted from 0.
use Rattle.std.specs.Prelude.{◌≡◌, ℕ, Bool, true, false, ◌+◌, ◌==◌, ◌||◌, nat_eq, if◌then◌else◌, List, [], ◌∷◌, codes, Option, Some, None}
use Rattle.std.specs.Char.{is_ascii_lowercase}
use Rattle.std.specs.List.{starts_with}
use Rattle.bw_lang.specs.Template.MarkupNames.{first_of, later_of, begins}
use Rattle.bw_lang.specs.Template.Pieces.{SpellsPieces}
use Rattle.bw_lang.specs.Text.Bytes.{is_blank}
use Rattle.bw_lang.specs.declared.pieces.Piece.{Piece}
use Rattle.bw_lang.specs.declared.pieces.NameClass.TheVariants as class
use Rattle.bw_diagnose.specs.declared.markup.Stage.{Stage}
use Rattle.bw_diagnose.specs.declared.markup.Stage.TheVariants as stages
use Rattle.bw_diagnose.specs.declared.markup.Stuck.{Stuck}
use Rattle.bw_hints.specs.declared.hints.Expected.{Expected}
use Rattle.bw_hints.specs.declared.hints.Expected.TheVariants as expected

-- a reference, behind its `&`
abbrev pub is_reference : List ℕ → Bool
is_reference behind =
    starts_with nat_eq behind (codes "amp;") || (starts_with nat_eq behind (codes "lt;")
    || (starts_with nat_eq behind (codes "gt;") || starts_with nat_eq behind (codes "quot;")))

-- a tag or a gap, behind its `<`
abbrev pub opens : ℕ → Bool
opens b = b == 91 || (b == 47 || is_ascii_lowercase b)

-- this stage, where it is so; and else none, or that one
abbrev pub only : Bool → Stage → Option Stage
only so next = if so then Some next else None

abbrev pub either : Bool → Stage → Option Stage → Option Stage
either so next other = if so then Some next else other

-- behind a name in an end tag, and behind a name or a value in another tag
abbrev pub end_goes_on : ℕ → Option Stage
end_goes_on b = either (is_blank b) stages.EndBlank (only (b == 62) stages.Text)

abbrev pub tag_goes_on : ℕ → Option Stage
tag_goes_on b = either (is_blank b) stages.TagBlank (either (b == 62) stages.Text (only (b == 47) stages.Slash))

-- the stage behind a byte, behind which these bytes stand; there is none where the byte can't stand there
abbrev pub stage_behind : Stage → ℕ → List ℕ → Option Stage
stage_behind stages.Text b behind =
    if b == 38 then only (is_reference behind) stages.Text else (if b == 60 then only (begins opens behind) stages.Less else Some stages.Text)
stage_behind stages.Less b behind =
    either (b == 91) stages.Gap (either (b == 47) stages.EndTag (only (is_ascii_lowercase b) stages.TagName))
stage_behind stages.Gap b behind = only (first_of class.Word b) stages.GapName
stage_behind stages.GapName b behind = either (later_of class.Word b) stages.GapName (only (b == 93) stages.GapEnd)
stage_behind stages.GapEnd b behind = only (b == 62) stages.Text
stage_behind stages.EndTag b behind = only (first_of class.Tag b) stages.EndName
stage_behind stages.EndName b behind = either (later_of class.Tag b) stages.EndName (end_goes_on b)
stage_behind stages.EndBlank b behind = end_goes_on b
stage_behind stages.TagName b behind = either (later_of class.Tag b) stages.TagName (tag_goes_on b)
stage_behind stages.TagBlank b behind = either (first_of class.Attr b) stages.AttrName (tag_goes_on b)
stage_behind stages.AttrName b behind = either (later_of class.Attr b) stages.AttrName (only (b == 61) stages.Equals)
stage_behind stages.Equals b behind = either (b == 34 || b == 39) (stages.Value b) (only (b == 91) stages.Hole)
stage_behind (stages.Value quote) b behind =
    if b == quote then Some stages.ValueEnd else (if b == 38 then only (is_reference behind) (stages.Value quote)
    else (if b == 60 then None else Some (stages.Value quote)))
stage_behind stages.Hole b behind = only (first_of class.Word b) stages.HoleName
stage_behind stages.HoleName b behind = either (later_of class.Word b) stages.HoleName (only (b == 93) stages.ValueEnd)
stage_behind stages.ValueEnd b behind = tag_goes_on b
stage_behind stages.Slash b behind = only (b == 62) stages.Text

-- where a template may end
abbrev pub may_end : Stage → Bool
may_end stages.Text = true
may_end stage = false

abbrev pub stuck : Stage → ℕ → Stuck
stuck stage at = record { at = at; stage = stage }

abbrev pub go_on : Option Stage → Stuck → (Stage → Option Stuck) → Option Stuck
go_on None at next = Some at
go_on (Some stage) at next = next stage

-- The first byte that can't stand where it stands, in bytes the first of which has the place `at`, or their end where they
-- can't end there, and the stage in front of it. There is none where all of the bytes are pieces.
abbrev pub stuck_from : Stage → ℕ → List ℕ → Option Stuck
stuck_from stage at [] = if may_end stage then None else Some (stuck stage at)
stuck_from stage at (b ∷ bs) = go_on (stage_behind stage b bs) (stuck stage at) (λ next. stuck_from next (at + 1) bs)

abbrev pub stuck_in : List ℕ → Option Stuck
stuck_in inside = stuck_from stages.Text 0 inside

-- where bytes are pieces, each of them goes on
abbrev pub PiecesGoOn : Type 0
PiecesGoOn = (ps : List Piece) (bytes : List ℕ) → SpellsPieces ps bytes → stuck_in bytes ≡ None

-- what is expected behind a stage
abbrev pub expected_behind : Stage → Expected
expected_behind stages.Text = expected.Text
expected_behind stages.Less = expected.Text
expected_behind stages.Gap = expected.Gap
expected_behind stages.GapName = expected.Gap
expected_behind stages.GapEnd = expected.Gap
expected_behind stages.EndTag = expected.EndTag
expected_behind stages.EndName = expected.EndTag
expected_behind stages.EndBlank = expected.EndTag
expected_behind stages.TagName = expected.Tag
expected_behind stages.TagBlank = expected.Tag
expected_behind stages.AttrName = expected.Attribute
expected_behind stages.Equals = expected.Value
expected_behind (stages.Value quote) = expected.Quoted
expected_behind stages.Hole = expected.Gap
expected_behind stages.HoleName = expected.Gap
expected_behind stages.ValueEnd = expected.Tag
expected_behind stages.Slash = expected.Tag
