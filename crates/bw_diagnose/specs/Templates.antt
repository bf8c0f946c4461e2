-- Which bytes of a template that is refused are shown.
use Rattle.std.specs.Prelude.{ℕ, suc, ◌+◌, ◌-◌, ◌==◌, ◌||◌, min, max, if◌then◌else◌, List, [], ◌∷◌, length, drop, option_map, Option, Some, None, slice_get}
use Rattle.std.specs.Char.{is_ascii_alphanumeric}
use Rattle.std.specs.Option.{option_or}
use Rattle.bw_excerpt.specs.declared.excerpt.Place.{Place}
use Rattle.bw_lang.specs.declared.token.Lexeme.{Lexeme}
use Rattle.bw_lang.specs.declared.token.Lexeme.TheVariants as lex
use Rattle.bw_lang.specs.declared.token.Token.{Token}
use Rattle.bw_syntax.specs.declared.fault.SyntaxFault.{SyntaxFault}
use Rattle.bw_syntax.specs.declared.fault.SyntaxFault.TheVariants as reading
use Rattle.bw_tmpl.specs.declared.fault.TmplFault.{TmplFault}
use Rattle.bw_tmpl.specs.declared.fault.TmplFault.TheVariants as faults
use Rattle.bw_diagnose.specs.Attributes.{repeated_in}
use Rattle.bw_diagnose.specs.Finding.{word_at}
use Rattle.bw_diagnose.specs.Known.{tokens_in, lexemes_in}
use Rattle.bw_diagnose.specs.Markup.{stuck_in, expected_behind}
use Rattle.bw_diagnose.specs.Pairing.{refused_in}
use Rattle.bw_diagnose.specs.Places.{place, token_start, syntax_place}
use Rattle.bw_diagnose.specs.declared.markup.Stuck.{Stuck}
use Rattle.bw_diagnose.specs.declared.pairing.Pair.{Pair}
use Rattle.bw_diagnose.specs.declared.templates.Shown.{Shown}

-- how many letters, digits, `_` and `-` stand in front
abbrev pub name_length : List ℕ → ℕ
name_length [] = 0
name_length (b ∷ bs) = if is_ascii_alphanumeric b || (b == 95 || b == 45) then suc (name_length bs) else 0

-- how many bytes are marked at a place: a name; and with `<`, `</` or `&` the name behind it
abbrev pub less_length : List ℕ → ℕ
less_length [] = 1
less_length (b ∷ bs) = if b == 47 then 2 + name_length bs else 1 + name_length (b ∷ bs)

abbrev pub mark_length : List ℕ → ℕ
mark_length [] = 1
mark_length (b ∷ bs) = if b == 60 then less_length bs else (if b == 38 then 1 + name_length bs else max 1 (name_length (b ∷ bs)))

-- these bytes at a place of an inside, whose first byte has the place `start` in the text
abbrev pub marked_at : ℕ → ℕ → ℕ → Place
marked_at start at count = place (start + at) (start + at + count)

abbrev pub marked : ℕ → List ℕ → ℕ → Place
marked start inside at = marked_at start (min at (length inside)) (mark_length (drop (min at (length inside)) inside))

-- one place; one place, at which this is expected; and two places
abbrev pub one : Place → Shown
one at = record { first = at; second = None; expected = None }

abbrev pub stopped : ℕ → List ℕ → Stuck → Shown
stopped start inside at = record { first = marked start inside at.at; second = None; expected = Some (expected_behind at.stage) }

abbrev pub both : ℕ → List ℕ → Pair → Shown
both start inside pair = record {
  first = marked start inside pair.first;
  second = option_map (marked start inside) pair.second;
  expected = None;
}

-- where there are any
abbrev pub stuck_place : ℕ → List ℕ → Option Stuck → Option Shown
stuck_place start inside None = None
stuck_place start inside (Some at) = Some (stopped start inside at)

abbrev pub attr_place : ℕ → List ℕ → Option ℕ → Option Shown
attr_place start inside None = None
attr_place start inside (Some at) = Some (one (marked start inside at))

abbrev pub pair_places : ℕ → List ℕ → Option Pair → Option Shown
pair_places start inside None = None
pair_places start inside (Some pair) = Some (both start inside pair)

-- what is shown of an inside that is refused for this
abbrev pub shown_in : TmplFault → ℕ → List ℕ → Option Shown
shown_in faults.Malformed start inside = stuck_place start inside (stuck_in inside)
shown_in faults.RepeatedAttribute start inside = attr_place start inside (repeated_in inside)
shown_in faults.Mismatched start inside = pair_places start inside (refused_in faults.Mismatched inside)
shown_in faults.Nesting start inside = pair_places start inside (refused_in faults.Nesting inside)
shown_in faults.Memory start inside = None

-- of a token, where it is a template of this name
abbrev pub shown_at : TmplFault → List Token → List Lexeme → List ℕ → ℕ → Lexeme → Option Shown
shown_at fault tokens ls name at (lex.Template inside) =
    if word_at ls (at - 2) name then shown_in fault (token_start (slice_get tokens at) + 6) inside else None
shown_at fault tokens ls name at l = None

-- of the first such token of which something is shown, among tokens of which the first has the number `at`
abbrev pub shown_among : TmplFault → List Token → List Lexeme → List ℕ → ℕ → List Lexeme → Option Shown
shown_among fault tokens ls name at [] = None
shown_among fault tokens ls name at (l ∷ more) = option_or (shown_at fault tokens ls name at l) (shown_among fault tokens ls name (at + 1) more)

abbrev pub template_shown : List ℕ → SyntaxFault → Option Shown
template_shown text (reading.Template name fault) = shown_among fault (tokens_in text) (lexemes_in text) name 0 (lexemes_in text)
template_shown text fault = None

-- of a text that is read as no service
abbrev pub or_place : Place → Option Shown → Shown
or_place at None = one at
or_place at (Some shown) = shown

abbrev pub syntax_shown : List ℕ → SyntaxFault → Shown
syntax_shown text fault = or_place (syntax_place text fault) (template_shown text fault)
