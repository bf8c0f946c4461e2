-- Which tag of a template doesn't pair, or stands too deep. Bytes are counted from 0, and a tag is known by the place of its `<`.
use Rattle.std.specs.Prelude.{ℕ, Bool, true, false, ◌+◌, ◌-◌, ◌==◌, ◌&&◌, ◌||◌, not, nat_le, if◌then◌else◌}
use Rattle.std.specs.Prelude.{List, [], ◌∷◌, ◌++◌, length, take, drop, Option, Some, None, bytes_eq, slice_get}
use Rattle.bw_lang.specs.Template.Markup.{is_void}
use Rattle.bw_lang.specs.declared.limits.TheConstants.{MAX_TEMPLATE_NEST}
use Rattle.bw_places.specs.Tags.{begins_tag}
use Rattle.bw_tmpl.specs.declared.fault.TmplFault.{TmplFault}
use Rattle.bw_tmpl.specs.declared.fault.TmplFault.TheVariants as faults
use Rattle.bw_diagnose.specs.Gaps.{part_behind}
use Rattle.bw_diagnose.specs.Places.{word_length}
use Rattle.bw_diagnose.specs.declared.gaps.Part.{Part}
use Rattle.bw_diagnose.specs.declared.gaps.Part.TheVariants as parts
use Rattle.bw_diagnose.specs.declared.pairing.Pair.{Pair}

-- the name behind so many bytes
abbrev pub name_in : ℕ → List ℕ → List ℕ
name_in count bytes = take (word_length (drop count bytes)) (drop count bytes)

abbrev pub is_outside : Part → Bool
is_outside parts.Outside = true
is_outside part = false

-- the first byte of a tag is `/` or `>`, and the first byte is `>`
abbrev pub ends_name : Part → List ℕ → Bool
ends_name parts.Tag (b ∷ bs) = b == 47 || b == 62
ends_name part here = false

abbrev pub ends_tag : Part → List ℕ → Bool
ends_tag parts.Tag (b ∷ bs) = b == 62
ends_tag part here = false

-- outside tags a start tag or a whole tag begins, or an end tag
abbrev pub begins_start : Part → List ℕ → Bool
begins_start part here = is_outside part && begins_tag here

abbrev pub is_end : List ℕ → Bool
is_end [] = false
is_end (a ∷ []) = false
is_end (a ∷ b ∷ bs) = a == 60 && b == 47

abbrev pub begins_end : Part → List ℕ → Bool
begins_end part here = is_outside part && is_end here

-- of the elements that are open, the innermost last, the start tag of the innermost; and the others
abbrev pub innermost : List ℕ → Option ℕ
innermost around = slice_get around (length around - 1)

abbrev pub outer : List ℕ → List ℕ
outer around = take (length around - 1) around

-- the end tag here has the name of the start tag there
abbrev pub closes : List ℕ → Option ℕ → List ℕ → Bool
closes inside None here = false
closes inside (Some at) here = bytes_eq (name_in 1 (drop at inside)) (name_in 2 here)

-- the start tag that the next byte stands in, up to its `/` or `>`
abbrev pub tag_behind : Part → Option ℕ → ℕ → List ℕ → Option ℕ
tag_behind part tag at here = if begins_start part here then Some at else (if ends_name part here then None else tag)

-- a start tag that an end tag is to follow; six elements have none
abbrev pub opened : List ℕ → Option ℕ → List ℕ → List ℕ
opened inside None around = around
opened inside (Some at) around = if is_void (name_in 1 (drop at inside)) then around else around ++ at ∷ []

-- the elements that are open behind a byte
abbrev pub open_behind : List ℕ → Part → Option ℕ → List ℕ → List ℕ → List ℕ
open_behind inside part tag around here =
    if begins_end part here then outer around else (if ends_tag part here then opened inside tag around else around)

-- a tag is refused here: an end tag that doesn't close the innermost element, or a start tag in as many elements as there may be
abbrev pub is_refused : TmplFault → List ℕ → Part → List ℕ → List ℕ → Bool
is_refused faults.Mismatched inside part around here = begins_end part here && not (closes inside (innermost around) here)
is_refused faults.Nesting inside part around here = begins_start part here && nat_le MAX_TEMPLATE_NEST (length around)
is_refused fault inside part around here = false

-- the tag at this place, and with an end tag the start tag of the innermost element
abbrev pub pair_at : TmplFault → List ℕ → ℕ → Pair
pair_at faults.Mismatched around at = record { first = at; second = innermost around }
pair_at fault around at = record { first = at; second = None }

-- the innermost element that is still open at the end
abbrev pub alone : Option ℕ → Option Pair
alone None = None
alone (Some at) = Some (record { first = at; second = None })

abbrev pub never_closed : TmplFault → List ℕ → Option Pair
never_closed faults.Mismatched around = alone (innermost around)
never_closed fault around = None

-- the first tag that is refused, in bytes the first of which has the place `at`
abbrev pub refused_from : TmplFault → List ℕ → Part → Option ℕ → List ℕ → ℕ → List ℕ → Option Pair
refused_from fault inside part tag around at [] = never_closed fault around
refused_from fault inside part tag around at (b ∷ bs) =
    if is_refused fault inside part around (b ∷ bs) then Some (pair_at fault around at)
    else refused_from fault inside (part_behind part b) (tag_behind part tag at (b ∷ bs)) (open_behind inside part tag around (b ∷ bs)) (at + 1) bs

abbrev pub refused_in : TmplFault → List ℕ → Option Pair
refused_in fault inside = refused_from fault inside parts.Outside None [] 0 inside
