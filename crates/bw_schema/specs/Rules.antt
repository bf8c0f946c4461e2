-- What the rule of an element says.
use Rattle.std.specs.Prelude.{ℕ, Bool, not, ◌||◌, List, [], ◌∷◌, Option, Some, None, if◌then◌else◌}
use Rattle.std.specs.List.{list_all}
use Rattle.bw_lang.specs.Table.Names.{same}
use Rattle.bw_schema.specs.declared.rules.Rule.{Rule}
use Rattle.bw_schema.specs.declared.rules.ValueList.{ValueList}
use Rattle.bw_schema.specs.Words.{is_among}

-- the attribute is allowed
abbrev pub allows : Rule → List ℕ → Bool
allows r x = is_among r.may x || is_among r.must x

-- the attribute may have the value: it is in each list for this attribute
abbrev pub permits : List ValueList → List ℕ → List ℕ → Bool
permits lists x v = list_all (λ l. not (same l.name x) || is_among l.words v) lists

-- the rule of a tag
abbrev pub rule_of : List Rule → List ℕ → Option Rule
rule_of [] tag = None
rule_of (r ∷ rs) tag = if same r.tag tag then Some r else rule_of rs tag
