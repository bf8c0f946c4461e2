-- Which words each line of a schema is written with.
use Rattle.std.specs.Prelude.{ℕ, suc, max, Bool, true, false, not, ◌&&◌, ◌||◌, ◌==◌, nat_le, List, [], ◌∷◌, ◌++◌, length, codes}
use Rattle.std.specs.Char.{is_ascii_digit}
use Rattle.std.specs.List.{list_all}
use Rattle.bw_lang.specs.Template.MarkupNames.{first_of, later_of, begins}
use Rattle.bw_lang.specs.Table.Names.{same}
use Rattle.bw_lang.specs.declared.pieces.NameClass.{NameClass}
use Rattle.bw_lang.specs.declared.pieces.NameClass.TheVariants as class
use Rattle.bw_schema.specs.Needs.{Needs, nothing, all_of, some_of, attr, one_value, content, order}
use Rattle.bw_schema.specs.NeedsView.{before_need}
use Rattle.bw_schema.specs.Words.{has_some}
use Rattle.bw_schema.specs.declared.formulas.TheConstants.{FORMULA_NESTING}
use Rattle.bw_schema.specs.declared.lines.Line.{Line}
use Rattle.bw_schema.specs.declared.lines.Line.TheVariants.{Element, May, Must, Value, Has, Text, Need}
use Rattle.bw_schema.specs.declared.needs.Formula.{Formula}

-- ---- names and numbers

-- a name of the class, as in templates: a letter `a` to `z`, and then such letters and digits, in an attribute's name also `-`
abbrev pub is_name : NameClass → List ℕ → Bool
is_name c w = begins (first_of c) w && list_all (later_of c) w

-- one name at least
abbrev pub are_names : NameClass → List (List ℕ) → Bool
are_names c ws = has_some ws && list_all (is_name c) ws

-- a number of one to nine digits
abbrev pub is_number : List ℕ → Bool
is_number w = has_some w && nat_le (length w) 9 && list_all is_ascii_digit w

-- ---- formulas

abbrev pub is_paren : List ℕ → Bool
is_paren w = same w (codes "(") || same w (codes ")")

-- the words of formulas; the last argument is what follows
abbrev pub spell_needs : Needs → List (List ℕ) → List (List ℕ)
spell_needs nothing k = k
spell_needs (all_of parts rest) k = codes "(" ∷ codes "and" ∷ spell_needs parts (codes ")" ∷ spell_needs rest k)
spell_needs (some_of parts rest) k = codes "(" ∷ codes "or" ∷ spell_needs parts (codes ")" ∷ spell_needs rest k)
spell_needs (attr x rest) k = codes "(" ∷ codes "attr" ∷ x ∷ codes ")" ∷ spell_needs rest k
spell_needs (one_value x vs rest) k = codes "(" ∷ codes "value" ∷ x ∷ (vs ++ codes ")" ∷ spell_needs rest k)
spell_needs (content x rest) k = codes "(" ∷ codes "content" ∷ x ∷ codes ")" ∷ spell_needs rest k
spell_needs (order x y rest) k = codes "(" ∷ codes "order" ∷ x ∷ y ∷ codes ")" ∷ spell_needs rest k

abbrev pub is_nothing : Needs → Bool
is_nothing nothing = true
is_nothing (all_of parts rest) = false
is_nothing (some_of parts rest) = false
is_nothing (attr x rest) = false
is_nothing (one_value x vs rest) = false
is_nothing (content x rest) = false
is_nothing (order x y rest) = false

-- `and`, `or` and `value` have parts, names are names, and no value is a parenthesis
abbrev pub are_formed : Needs → Bool
are_formed nothing = true
are_formed (all_of parts rest) = not (is_nothing parts) && are_formed parts && are_formed rest
are_formed (some_of parts rest) = not (is_nothing parts) && are_formed parts && are_formed rest
are_formed (attr x rest) = is_name class.Attr x && are_formed rest
are_formed (one_value x vs rest) = is_name class.Attr x && (has_some vs && list_all (λ v. not (is_paren v)) vs) && are_formed rest
are_formed (content x rest) = is_name class.Tag x && are_formed rest
are_formed (order x y rest) = is_name class.Tag x && is_name class.Tag y && are_formed rest

-- how deep formulas stand inside one another; one without parts is 1 deep
abbrev pub depth : Needs → ℕ
depth nothing = 0
depth (all_of parts rest) = max (suc (depth parts)) (depth rest)
depth (some_of parts rest) = max (suc (depth parts)) (depth rest)
depth (attr x rest) = max 1 (depth rest)
depth (one_value x vs rest) = max 1 (depth rest)
depth (content x rest) = max 1 (depth rest)
depth (order x y rest) = max 1 (depth rest)

-- the formula alone
abbrev pub one : Formula → Needs
one f = before_need f nothing

-- ---- lines

-- the words of a line
abbrev pub spell_line : Line → List (List ℕ)
spell_line (Element tag) = codes "element" ∷ tag ∷ []
spell_line (May names) = codes "may" ∷ names
spell_line (Must names) = codes "must" ∷ names
spell_line (Value name values) = codes "value" ∷ name ∷ values
spell_line (Has tags) = codes "has" ∷ tags
spell_line Text = codes "text" ∷ []
spell_line (Need formula) = codes "need" ∷ spell_needs (one formula) []

-- a line that may stand in a schema of this version; version 2 has formulas, at most FORMULA_NESTING inside one another
abbrev pub is_line : ℕ → Line → Bool
is_line version (Element tag) = is_name class.Tag tag
is_line version (May names) = are_names class.Attr names
is_line version (Must names) = are_names class.Attr names
is_line version (Value name values) = is_name class.Attr name && has_some values
is_line version (Has tags) = are_names class.Tag tags
is_line version Text = true
is_line version (Need formula) = version == 2 && are_formed (one formula) && nat_le (depth (one formula)) FORMULA_NESTING

-- no line of a rule stands before the first element
abbrev pub is_headed : List Line → Bool
is_headed [] = true
is_headed (Element tag ∷ lines) = true
is_headed (line ∷ lines) = false

-- the versions that are read
abbrev pub is_read : ℕ → Bool
is_read version = version == 1 || version == 2
