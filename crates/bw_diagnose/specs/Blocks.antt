-- What is shown behind the line of a refusal: where, what is wrong, and how it is mended.
use Rattle.std.specs.Prelude.{ℕ, ◌+◌, ◌-◌, ◌==◌, if◌then◌else◌, max, List, [], ◌++◌, length, take, drop, codes, decimal, Option, Some, None}
use Rattle.bw_blame.specs.declared.site.Blamed.{Blamed}
use Rattle.bw_excerpt.specs.Columns.{spot_of}
use Rattle.bw_excerpt.specs.Excerpts.{excerpt, note, start_in, readable}
use Rattle.bw_excerpt.specs.declared.excerpt.Place.{Place}
use Rattle.bw_faults.specs.declared.fault.Fault.{Fault}
use Rattle.bw_hints.specs.Hints as hints
use Rattle.bw_lang.specs.declared.declaration.Draft.{Draft}
use Rattle.bw_syntax.specs.declared.fault.SyntaxFault.{SyntaxFault}
use Rattle.bw_types.specs.declared.fault.TypeFault.{TypeFault}
use Rattle.bw_diagnose.specs.Aims.{meant_among}
use Rattle.bw_diagnose.specs.Marks.{marked_place, marked_element}
use Rattle.bw_diagnose.specs.Meant.{meant, role_of}
use Rattle.bw_diagnose.specs.Places.{blamed_place, fault_place, fault_element, name_place}
use Rattle.bw_diagnose.specs.Templates.{syntax_shown}
use Rattle.bw_diagnose.specs.declared.aim.Aim.{Aim}
use Rattle.bw_diagnose.specs.declared.marks.Marks.{Marks}

-- the digits of the number of a place's line
abbrev pub line_digits : List ℕ → Place → ℕ
line_digits text at = length (decimal (spot_of text (start_in text at)).line)

abbrev pub widest : List ℕ → Place → Option Place → ℕ
widest text first None = line_digits text first
widest text first (Some second) = max (line_digits text first) (line_digits text second)

-- the lines of a second place
abbrev pub second_excerpt : ℕ → List ℕ → List ℕ → Option Place → List ℕ
second_excerpt wide name text None = []
second_excerpt wide name text (Some at) = excerpt wide (codes "::: ") name text at

-- the whole block, in a margin of this width
abbrev pub block_in : ℕ → List ℕ → List ℕ → Place → Option Place → List ℕ → List ℕ → List ℕ
block_in wide name text first second what mend =
    excerpt wide (codes "--> ") name text first ++ (second_excerpt wide name text second ++ (note wide what ++ note wide mend))

abbrev pub block : List ℕ → List ℕ → Place → Option Place → List ℕ → List ℕ → List ℕ
block name text first second what mend = block_in (widest text first second) name text first second what mend

-- of a text that is read as no service
abbrev pub syntax_block : List ℕ → List ℕ → SyntaxFault → List ℕ
syntax_block name text fault =
    block name (readable text) (syntax_shown text fault).first (syntax_shown text fault).second (hints.syntax_what fault)
    (hints.syntax_mend fault (syntax_shown text fault).expected)

-- the name that may be meant
abbrev pub meant_note : ℕ → Option (List ℕ) → List ℕ
meant_note wide None = []
meant_note wide (Some w) = note wide (hints.meant_words w)

-- of a service that isn't well typed
abbrev pub type_block : List ℕ → List ℕ → List Draft → Option Blamed → TypeFault → List ℕ
type_block name text ds blamed fault =
    block name text (blamed_place text ds blamed) None (hints.type_what fault) (hints.type_mend fault (role_of text ds blamed))
    ++ meant_note (widest text (blamed_place text ds blamed) None) (meant text ds blamed fault)

-- the same, where this is known of its first test that fails
abbrev pub aimed_block : List ℕ → List ℕ → Aim → TypeFault → List ℕ
aimed_block name text aim fault =
    block name text aim.place None (hints.type_what fault) (hints.type_mend fault aim.role)
    ++ meant_note (widest text aim.place None) (meant_among aim.names.items fault)

-- the elements of the wrappers of pages, by their numbers
abbrev pub wrapper_tag : ℕ → List ℕ
wrapper_tag element =
    if element == 1 then codes "html" else (if element == 2 then codes "head" else (if element == 3 then codes "title"
    else (if element == 4 then codes "body" else (if element == 5 then codes "form" else (if element == 6 then codes "p" else codes "input")))))

-- the tag of an element, by its start tag
abbrev pub tag_name : List ℕ → ℕ → Option Place → List ℕ
tag_name text element None = wrapper_tag element
tag_name text element (Some at) = take (at.to - (at.from + 1)) (drop (at.from + 1) text)

-- of a fault of a service
abbrev pub fault_block : List ℕ → List ℕ → List Draft → Fault → List ℕ
fault_block name text ds f =
    block name text (fault_place text ds f) (fault_element text ds f f.template)
    (hints.fault_what f.number f.detail (tag_name text f.place (fault_element text ds f f.template))) (hints.fault_mend f.number)

-- the same, where its statements and templates stand there
abbrev pub marked_block : List ℕ → List ℕ → Marks → Fault → List ℕ
marked_block name text marks f =
    block name text (marked_place text marks.statements.items f) (marked_element text marks.insides.items f f.template)
    (hints.fault_what f.number f.detail (tag_name text f.place (marked_element text marks.insides.items f f.template))) (hints.fault_mend f.number)

-- of the limits of the check
abbrev pub points_block : List ℕ → List ℕ → List ℕ
points_block name text = block name text (name_place text) None hints.points_what hints.points_mend

abbrev pub facts_block : List ℕ → List ℕ → List ℕ
facts_block name text = block name text (name_place text) None hints.facts_what hints.facts_mend
