-- The rules that the lines of a schema give.
use Rattle.std.specs.Prelude.{ℕ, Bool, true, false, List, [], ◌∷◌, ◌++◌, flat_map}
use Rattle.std.specs.List.{list_any}
use Rattle.bw_schema.specs.Needs.{Needs, nothing, append_needs}
use Rattle.bw_schema.specs.NeedsView.{before_need}
use Rattle.bw_schema.specs.declared.lines.Line.{Line}
use Rattle.bw_schema.specs.declared.lines.Line.TheVariants.{Element, May, Must, Value, Has, Text, Need}
use Rattle.bw_schema.specs.declared.rules.Rule.{Rule}
use Rattle.bw_schema.specs.declared.rules.ValueList.{ValueList}

-- the lines up to the next element
abbrev pub own : List Line → List Line
own [] = []
own (Element tag ∷ lines) = []
own (line ∷ lines) = line ∷ own lines

abbrev pub may_of : Line → List (List ℕ)
may_of (May names) = names
may_of line = []

abbrev pub must_of : Line → List (List ℕ)
must_of (Must names) = names
must_of line = []

abbrev pub values_of : Line → List ValueList
values_of (Value name values) = record { name = name; words = values } ∷ []
values_of line = []

abbrev pub has_of : Line → List (List ℕ)
has_of (Has tags) = tags
has_of line = []

abbrev pub is_text : Line → Bool
is_text Text = true
is_text line = false

abbrev pub needs_of : List Line → Needs
needs_of [] = nothing
needs_of (Need formula ∷ lines) = before_need formula (needs_of lines)
needs_of (line ∷ lines) = needs_of lines

-- the rule of an element with these lines
abbrev pub rule_with : List ℕ → List Line → Rule
rule_with tag lines = record {
  tag = tag;
  may = flat_map may_of lines;
  must = flat_map must_of lines;
  values = flat_map values_of lines;
  has = flat_map has_of lines;
  text = list_any is_text lines;
  needs = needs_of lines;
}

-- one rule for each element, with the lines up to the next one
abbrev pub rules_of : List Line → List Rule
rules_of [] = []
rules_of (Element tag ∷ lines) = rule_with tag (own lines) ∷ rules_of lines
rules_of (line ∷ lines) = rules_of lines

-- ---- for the steps of the code

-- the rule of an element without lines
abbrev pub bare : List ℕ → Rule
bare tag = rule_with tag []

-- the rule with one line more
abbrev pub with_line : Rule → Line → Rule
with_line r (Element tag) = r
with_line r (May names) = record r { may = r.may ++ names }
with_line r (Must names) = record r { must = r.must ++ names }
with_line r (Value name values) = record r { values = r.values ++ record { name = name; words = values } ∷ [] }
with_line r (Has tags) = record r { has = r.has ++ tags }
with_line r Text = record r { text = true }
with_line r (Need formula) = record r { needs = append_needs r.needs (before_need formula nothing) }
