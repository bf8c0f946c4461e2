-- What the lines of a schema declare, and what they use: marks that say of which rule, of what and by which name.
use Rattle.std.specs.Prelude.{◌≡◌, ℕ, suc, Bool, ◌&&◌, ◌==◌, if◌then◌else◌, List, [], ◌∷◌, ◌++◌, map, codes, Option, Some, None}
use Rattle.std.specs.List.{list_any}
use denote.Enum.Bare.{sameb}
use Rattle.bw_lang.specs.Table.Names.{same}
use Rattle.bw_schema.specs.Forms.{one}
use Rattle.bw_schema.specs.Needs.{Needs, nothing, all_of, some_of, attr, one_value, content, order}
use Rattle.bw_schema.specs.contracts.marks.Kind.{the_type}
use Rattle.bw_schema.specs.declared.lines.Line.{Line}
use Rattle.bw_schema.specs.declared.lines.Line.TheVariants.{Element, May, Must, Value, Has, Text, Need}
use Rattle.bw_schema.specs.declared.marks.Kind.{Kind}
use Rattle.bw_schema.specs.declared.marks.Kind.TheVariants as kinds

-- the rules are counted from 1 in the order of their lines; 0 stands for the whole schema
pub record Mark : Type 0 where
  pub rule : ℕ
  pub kind : Kind
  pub name : List ℕ

abbrev pub mark : ℕ → Kind → List ℕ → Mark
mark n k w = record { rule = n; kind = k; name = w }

-- `==` on kinds
abbrev pub same_kind : Kind → Kind → Bool
same_kind = sameb the_type

abbrev pub same_mark : Mark → Mark → Bool
same_mark a b = a.rule == b.rule && (same_kind a.kind b.kind && same a.name b.name)

-- the same marks stand in both lists, in whatever order
abbrev pub AreSame : List Mark → List Mark → Type 0
AreSame these those = (m : Mark) → list_any (same_mark m) these ≡ list_any (same_mark m) those

-- the number of the rule that a line belongs to, behind lines of rule n
abbrev pub rule_at : ℕ → Line → ℕ
rule_at n (Element tag) = suc n
rule_at n (May names) = n
rule_at n (Must names) = n
rule_at n (Value name values) = n
rule_at n (Has tags) = n
rule_at n Text = n
rule_at n (Need formula) = n

-- what a line of rule n declares: an element, attributes, values of an attribute, children, or text
abbrev pub declared_by : ℕ → Line → List Mark
declared_by n (Element tag) = mark 0 kinds.Element tag ∷ []
declared_by n (May names) = map (mark n kinds.Attribute) names
declared_by n (Must names) = map (mark n kinds.Attribute) names
declared_by n (Value name values) = mark n kinds.Value name ∷ []
declared_by n (Has tags) = map (mark n kinds.Child) tags
declared_by n Text = mark n kinds.Text (codes "text") ∷ []
declared_by n (Need formula) = []

-- what formulas of rule n use, from left to right
abbrev pub used_in : ℕ → Needs → List Mark
used_in n nothing = []
used_in n (all_of parts rest) = used_in n parts ++ used_in n rest
used_in n (some_of parts rest) = used_in n parts ++ used_in n rest
used_in n (attr x rest) = mark n kinds.Attribute x ∷ used_in n rest
used_in n (one_value x vs rest) = mark n kinds.Attribute x ∷ used_in n rest
used_in n (content x rest) = mark n kinds.Child x ∷ used_in n rest
used_in n (order x y rest) = mark n kinds.Child x ∷ mark n kinds.Child y ∷ used_in n rest

-- what a line of rule n uses: elements as children, attributes of its rule, and children of its rule
abbrev pub used_by : ℕ → Line → List Mark
used_by n (Element tag) = []
used_by n (May names) = []
used_by n (Must names) = []
used_by n (Value name values) = mark n kinds.Attribute name ∷ []
used_by n (Has tags) = map (mark 0 kinds.Element) tags
used_by n Text = []
used_by n (Need formula) = used_in n (one formula)

-- what the lines behind those of rule n say, by what each says
abbrev pub each_line : (ℕ → Line → List Mark) → ℕ → List Line → List Mark
each_line says n [] = []
each_line says n (line ∷ lines) = says (rule_at n line) line ++ each_line says (rule_at n line) lines

abbrev pub declarations : List Line → List Mark
declarations lines = each_line declared_by 0 lines

-- the root is used as well, in front of the lines
abbrev pub uses : List ℕ → List Line → List Mark
uses root lines = mark 0 kinds.Element root ∷ each_line used_by 0 lines

-- the name of the first mark that stands among these or further in front
abbrev pub first_repeated : List Mark → List Mark → Option (List ℕ)
first_repeated before [] = None
first_repeated before (m ∷ marks) = if list_any (same_mark m) before then Some m.name else first_repeated (before ++ m ∷ []) marks

-- the name of the first mark that isn't among these
abbrev pub first_missing : List Mark → List Mark → Option (List ℕ)
first_missing there [] = None
first_missing there (m ∷ marks) = if list_any (same_mark m) there then first_missing there marks else Some m.name

-- what is declared twice, and what is used and not declared: the first in the order of lines
abbrev pub repeated : List Line → Option (List ℕ)
repeated lines = first_repeated [] (declarations lines)

abbrev pub unknown : List ℕ → List Line → Option (List ℕ)
unknown root lines = first_missing (declarations lines) (uses root lines)
