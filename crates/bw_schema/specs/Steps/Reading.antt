-- What a schema's words read as: functions that the code follows.
-- It only follows the steps of the code: nothing is promised by it.
use Rattle.std.specs.Prelude.{◌≡◌, ℕ, zero, suc, Bool, ◌&&◌, ◌||◌, ◌==◌, if◌then◌else◌, List, [], ◌∷◌, length, take, drop, Option, Some, None, Result, Ok, Err}
use Rattle.std.specs.Prelude.{nat_lt, ◌⊎◌, MatchOption, MatchResult, codes}
use Rattle.std.specs.Str.{is_utf8}
use Rattle.std.specs.Str.Parse.{digits_value}
use Rattle.bw_lang.specs.Table.Names.{same}
use Rattle.bw_lang.specs.Table.Options.{◌>>=◌}
use Rattle.bw_lang.specs.declared.pieces.NameClass.{NameClass}
use Rattle.bw_lang.specs.declared.pieces.NameClass.TheVariants as class
use Rattle.bw_schema.specs.Forms as forms
use Rattle.bw_schema.specs.Marks.{repeated, unknown}
use Rattle.bw_schema.specs.Needs.{Needs, nothing}
use Rattle.bw_schema.specs.NeedsView.{before_need}
use Rattle.bw_schema.specs.RulesOf.{rules_of}
use Rattle.bw_schema.specs.Words.{has_some, said}
use Rattle.bw_schema.specs.declared.fault.SchemaFault.{SchemaFault}
use Rattle.bw_schema.specs.declared.fault.SchemaFault.TheVariants as fault
use Rattle.bw_schema.specs.declared.formulas.TheConstants.{FORMULA_NESTING}
use Rattle.bw_schema.specs.declared.lines.Line.{Line}
use Rattle.bw_schema.specs.declared.lines.Line.TheVariants.{Element, May, Must, Value, Has, Text, Need}
use Rattle.bw_schema.specs.declared.needs.Formula.{Formula}
use Rattle.bw_schema.specs.declared.needs.Formula.TheVariants as formula
use Rattle.bw_schema.specs.declared.rules.Rule.{Rule}
use Rattle.bw_schema.specs.declared.reading.TheConstants.{MAX_SCHEMA_BYTES}

-- there is nothing to read, and the fault says so; want of memory says nothing
abbrev pub MalformedIfNone : {A : Type 0} → SchemaFault → Option A → Type 0
MalformedIfNone fault.Memory o = Unit {0}
MalformedIfNone fault.Malformed o = o ≡ None
MalformedIfNone (fault.Version n) o = ⊥
MalformedIfNone (fault.Repeated n) o = ⊥
MalformedIfNone (fault.Unknown n) o = ⊥
MalformedIfNone fault.TooLong o = ⊥

-- The answer is what there is to read, where view says what of it is compared, or Malformed where there is nothing; it may be Memory at any time.
abbrev pub Gives : {A B : Type 0} → (A → B) → Result A SchemaFault → Option B → Type 0
Gives view answer o = MatchResult answer (λ x. o ≡ Some (view x)) (λ e. MalformedIfNone e o)

abbrev pub Found : {A B : Type 0} → (A → B) → Option A → Option B → Type 0
Found view answer o = MatchOption answer (o ≡ None) (λ x. o ≡ Some (view x))

-- ---- formulas

abbrev pub is_paren : List ℕ → Bool
is_paren w = forms.is_paren w

-- the words behind a closing parenthesis
abbrev pub closed : List (List ℕ) → Option (List (List ℕ))
closed [] = None
closed (w ∷ ws) = if same w (codes ")") then Some ws else None

-- the name at the front, and the words behind it
abbrev pub name_at : NameClass → List (List ℕ) → Option (List ℕ × List (List ℕ))
name_at c [] = None
name_at c (w ∷ ws) = if forms.is_name c w then Some (w, ws) else None

-- how many words at the front are no parentheses
abbrev pub count_values : List (List ℕ) → ℕ
count_values [] = 0
count_values (w ∷ ws) = if is_paren w then 0 else suc (count_values ws)

-- the formula, in front of a closing parenthesis
unfoldable pub ended : Formula → List (List ℕ) → Option (Formula × List (List ℕ))
ended f ws = closed ws >>= λ rest. Some (f, rest)

-- what stands behind `( attr`, `( value`, `( content` and `( order`
unfoldable pub attr_at : List (List ℕ) → Option (Formula × List (List ℕ))
attr_at ws = name_at class.Attr ws >>= λ x. ended (formula.Attr x.0) x.1

unfoldable pub value_at : List (List ℕ) → Option (Formula × List (List ℕ))
value_at ws =
    name_at class.Attr ws >>= λ x. let n = count_values x.1 in
    if n == 0 then None else ended (formula.OneOf x.0 (take n x.1)) (drop n x.1)

unfoldable pub content_at : List (List ℕ) → Option (Formula × List (List ℕ))
content_at ws = name_at class.Tag ws >>= λ x. ended (formula.Content x.0) x.1

unfoldable pub order_at : List (List ℕ) → Option (Formula × List (List ℕ))
order_at ws = name_at class.Tag ws >>= λ x. name_at class.Tag x.1 >>= λ y. ended (formula.Order x.0 y.0) y.1

-- what was met, and then what go reads of the rest
abbrev pub needs_next : Option (Formula × List (List ℕ)) → List (List ℕ) → (List (List ℕ) → Needs × List (List ℕ)) → Needs × List (List ℕ)
needs_next None ws go = (nothing, ws)
needs_next (Some x) ws go = (before_need x.0 (go x.1).0, (go x.1).1)

-- the formulas at the front, at most so many, and the words behind them
unfoldable pub needs_at : (List (List ℕ) → Option (Formula × List (List ℕ))) → ℕ → List (List ℕ) → Needs × List (List ℕ)
needs_at step zero ws = (nothing, ws)
needs_at step (suc n) ws = needs_next (step ws) ws (needs_at step n)

-- parts, one at least, and a closing parenthesis
unfoldable pub parts_at : (List (List ℕ) → Option (Formula × List (List ℕ))) → List (List ℕ) → Option (Needs × List (List ℕ))
parts_at step ws =
    let p = needs_at step (length ws) ws in
    if forms.is_nothing p.0 then None else (closed p.1 >>= λ rest. Some (p.0, rest))

-- a formula without parts, behind its parenthesis and its first word
unfoldable pub simple_at : List ℕ → List (List ℕ) → Option (Formula × List (List ℕ))
simple_at head ws =
    if same head (codes "attr") then attr_at ws else
    if same head (codes "value") then value_at ws else
    if same head (codes "content") then content_at ws else
    if same head (codes "order") then order_at ws else None

-- the formula behind its parenthesis and its first word
unfoldable pub inside_at : (List (List ℕ) → Option (Formula × List (List ℕ))) → List ℕ → List (List ℕ) → Option (Formula × List (List ℕ))
inside_at step head ws =
    if same head (codes "and") then (parts_at step ws >>= λ p. Some (formula.And p.0, p.1)) else
    if same head (codes "or") then (parts_at step ws >>= λ p. Some (formula.Or p.0, p.1)) else simple_at head ws

abbrev pub opened : (List ℕ → List (List ℕ) → Option (Formula × List (List ℕ))) → List (List ℕ) → Option (Formula × List (List ℕ))
opened inside [] = None
opened inside (paren ∷ []) = None
opened inside (paren ∷ head ∷ ws) = if same paren (codes "(") then inside head ws else None

-- the formula at the front, at most so many inside one another
unfoldable pub formula_at : ℕ → List (List ℕ) → Option (Formula × List (List ℕ))
formula_at zero ws = None
formula_at (suc d) ws = opened (inside_at (formula_at d)) ws

-- the formula that all of the words write
unfoldable pub formula_of : List (List ℕ) → Option Formula
formula_of ws = formula_at FORMULA_NESTING ws >>= λ x. if length x.1 == 0 then Some x.0 else None

-- ---- lines

-- the one word, a tag
abbrev pub tag_of : List (List ℕ) → Option (List ℕ)
tag_of [] = None
tag_of (w ∷ []) = if forms.is_name class.Tag w then Some w else None
tag_of (w ∷ x ∷ ws) = None

-- names of the class, one at least
abbrev pub names_of : NameClass → List (List ℕ) → Option (List (List ℕ))
names_of c ws = if forms.are_names c ws then Some ws else None

-- an attribute and its values
abbrev pub value_line : List (List ℕ) → Option Line
value_line [] = None
value_line (w ∷ ws) = if forms.is_name class.Attr w && has_some ws then Some (Value w ws) else None

-- a line of names
unfoldable pub names_line : List ℕ → List (List ℕ) → Option Line
names_line key ws =
    if same key (codes "may") then (names_of class.Attr ws >>= λ names. Some (May names)) else
    if same key (codes "must") then (names_of class.Attr ws >>= λ names. Some (Must names)) else
    if same key (codes "has") then (names_of class.Tag ws >>= λ tags. Some (Has tags)) else None

-- a line that says that text is allowed, or what is needed
unfoldable pub rare_line : ℕ → List ℕ → List (List ℕ) → Option Line
rare_line v key ws =
    if same key (codes "text") && (length ws == 0) then Some Text else
    if same key (codes "need") && (v == 2) then (formula_of ws >>= λ f. Some (Need f)) else None

-- the line that begins with this word and has these behind it
unfoldable pub line_with : ℕ → List ℕ → List (List ℕ) → Option Line
line_with v key ws =
    if same key (codes "element") then (tag_of ws >>= λ tag. Some (Element tag)) else
    if same key (codes "value") then value_line ws else
    if same key (codes "text") || same key (codes "need") then rare_line v key ws else names_line key ws

-- the line that the words write
abbrev pub line_of : ℕ → List (List ℕ) → Option Line
line_of v [] = None
line_of v (key ∷ ws) = line_with v key ws

-- one line after the other
abbrev pub lines_of : ℕ → List (List (List ℕ)) → Option (List Line)
lines_of v [] = Some []
lines_of v (ws ∷ more) = line_of v ws >>= λ line. lines_of v more >>= λ lines. Some (line ∷ lines)

-- ---- the whole text

-- the number of the first line
abbrev pub version_of : List (List ℕ) → Option ℕ
version_of [] = None
version_of (key ∷ []) = None
version_of (key ∷ w ∷ []) = if same key (codes "schema") && forms.is_number w then Some (digits_value 10 w) else None
version_of (key ∷ w ∷ x ∷ ws) = None

-- the tag of the second line
abbrev pub root_of : List (List ℕ) → Option (List ℕ)
root_of [] = None
root_of (key ∷ ws) = if same key (codes "root") then tag_of ws else None

-- the root and the lines behind the first line
abbrev pub text_of : ℕ → List (List (List ℕ)) → Option (List ℕ × List Line)
text_of v [] = None
text_of v (ws ∷ more) =
    root_of ws >>= λ root. lines_of v more >>= λ lines. if forms.is_headed lines then Some (root, lines) else None

-- the rules of the lines, or what is declared twice or isn't declared
abbrev pub judged_unknown : Option (List ℕ) → List Line → Result (List Rule) SchemaFault
judged_unknown (Some name) lines = Err (fault.Unknown name)
judged_unknown None lines = Ok (rules_of lines)

abbrev pub judged_repeated : Option (List ℕ) → List ℕ → List Line → Result (List Rule) SchemaFault
judged_repeated (Some name) root lines = Err (fault.Repeated name)
judged_repeated None root lines = judged_unknown (unknown root lines) lines

abbrev pub judged : List ℕ → List Line → Result (List Rule) SchemaFault
judged root lines = judged_repeated (repeated lines) root lines

-- the root and the rules of the text behind the first line
abbrev pub with_root : List ℕ → Result (List Rule) SchemaFault → Result (List ℕ × List Rule) SchemaFault
with_root root (Ok rules) = Ok (root, rules)
with_root root (Err e) = Err e

abbrev pub judged_text : Option (List ℕ × List Line) → Result (List ℕ × List Rule) SchemaFault
judged_text None = Err fault.Malformed
judged_text (Some t) = with_root t.0 (judged t.0 t.1)

-- the same of all that a text says
abbrev pub read_version : Option ℕ → List (List (List ℕ)) → Result (List ℕ × List Rule) SchemaFault
read_version None more = Err fault.Malformed
read_version (Some v) more = if forms.is_read v then judged_text (text_of v more) else Err (fault.Version v)

abbrev pub read_said : List (List (List ℕ)) → Result (List ℕ × List Rule) SchemaFault
read_said [] = Err fault.Malformed
read_said (ws ∷ more) = read_version (version_of ws) more

-- the schema of a text, or why there is none
unfoldable pub read : List ℕ → Result (List ℕ × List Rule) SchemaFault
read bytes =
    if nat_lt MAX_SCHEMA_BYTES (length bytes) then Err fault.TooLong else
    if is_utf8 bytes then read_said (said bytes) else Err fault.Malformed

-- the answer is that, or want of memory
abbrev pub Answers : {A B : Type 0} → (A → B) → Result A SchemaFault → Result B SchemaFault → Type 0
Answers view answer o = MatchResult answer (λ x. o ≡ Ok (view x)) (λ e. (e ≡ fault.Memory) ⊎ (o ≡ Err e))
