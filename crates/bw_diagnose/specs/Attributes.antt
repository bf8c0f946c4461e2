-- Where a tag of a template names an attribute for the second time. Bytes are counted from 0.
use Rattle.std.specs.Prelude.{ℕ, Bool, false, ◌+◌, ◌&&◌, if◌then◌else◌, List, [], ◌∷◌, take, Option, Some, None}
use Rattle.std.specs.Char.{is_ascii_lowercase}
use Rattle.std.specs.List.{list_any}
use Rattle.bw_lang.specs.Table.Names.{same, with_name}
use Rattle.bw_lang.specs.Template.MarkupNames.{later_of, begins}
use Rattle.bw_lang.specs.Text.Bytes.{is_blank}
use Rattle.bw_lang.specs.declared.pieces.NameClass.TheVariants as class
use Rattle.bw_tmpl.specs.Steps.Reading.{leading}
use Rattle.bw_diagnose.specs.Gaps.{part_behind}
use Rattle.bw_diagnose.specs.Pairing.{is_outside}
use Rattle.bw_diagnose.specs.declared.gaps.Part.{Part}
use Rattle.bw_diagnose.specs.declared.gaps.Part.TheVariants as parts

-- the name of the attribute that begins here
abbrev pub attr_name : List ℕ → List ℕ
attr_name here = take (leading (later_of class.Attr) here) here

-- an attribute begins at a letter that stands in a tag behind a blank
abbrev pub begins_attr : Part → Bool → List ℕ → Bool
begins_attr parts.Tag blank here = blank && begins is_ascii_lowercase here
begins_attr part blank here = false

-- the attributes of the tag that the next byte stands in, up to there
abbrev pub names_behind : Part → Bool → List (List ℕ) → List ℕ → List (List ℕ)
names_behind part blank names here =
    if begins_attr part blank here then with_name names (attr_name here) else (if is_outside part then [] else names)

-- here an attribute begins that the tag has already
abbrev pub repeats_here : Part → Bool → List (List ℕ) → List ℕ → Bool
repeats_here part blank names here = begins_attr part blank here && list_any (same (attr_name here)) names

-- the first such attribute, in bytes the first of which has the place `at`
abbrev pub repeated_from : Part → Bool → List (List ℕ) → ℕ → List ℕ → Option ℕ
repeated_from part blank names at [] = None
repeated_from part blank names at (b ∷ bs) =
    if repeats_here part blank names (b ∷ bs) then Some at
    else repeated_from (part_behind part b) (is_blank b) (names_behind part blank names (b ∷ bs)) (at + 1) bs

abbrev pub repeated_in : List ℕ → Option ℕ
repeated_in inside = repeated_from parts.Outside false [] 0 inside
