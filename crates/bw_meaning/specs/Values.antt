-- The values of a service, their weights, and names with values.
use Rattle.std.specs.Prelude.{ℕ, ℤ, ◌+◌, Bool, not, List, [], ◌∷◌, length, map, find, filter, sum_by, if◌then◌else◌, option_map, unwrap_or, Option}
use Rattle.std.specs.List.{list_any}
use Rattle.bw_lang.specs.declared.measure.Measure.{Measure}
use Rattle.bw_lang.specs.declared.service.Literal.{Literal}
use Rattle.bw_lang.specs.declared.service.Literal.TheVariants as literals
use Rattle.bw_lang.specs.declared.service.Service.{Service}
use Rattle.bw_lang.specs.Document.Forest.{Forest, none}
use Rattle.bw_lang.specs.Document.Measures.{constant_measure}
use Rattle.bw_lang.specs.Table.Names.{same}

-- a document value: what it holds, and its measure by how it was made
pub record Document : Type 0 where
  pub tree : Forest
  pub measure : Measure

pub data Value : Type 0 where
  number : ℤ → Value
  truth_value : Bool → Value
  text : List ℕ → Value
  document : Document → Value
  list : List (List ℕ) → Value

-- names with their values, in order of declaration
abbrev pub Values : Type 0
Values = List (List ℕ × Value)

-- the names, in their order
abbrev pub names_of : Values → List (List ℕ)
names_of values = map (λ x. x.0) values

-- the document that a template's items stand for
abbrev pub constant : Forest → Document
constant items = record { tree = items; measure = constant_measure items }

-- ---- weights

-- of a list of strings
abbrev pub list_weight : List (List ℕ) → ℕ
list_weight strings = 16 + sum_by (λ s. 16 + length s) strings

abbrev pub weight : Value → ℕ
weight (number n) = 16
weight (truth_value b) = 16
weight (text s) = 16 + length s
weight (document d) = d.measure.weight
weight (list strings) = list_weight strings

-- of all values together
abbrev pub weights : Values → ℕ
weights values = sum_by (λ x. weight x.1) values

-- ---- names with values

-- the value in place of that of the first of this name
abbrev pub replaced : List ℕ → Value → Values → Values
replaced w v [] = []
replaced w v (x ∷ xs) = if same w x.0 then (x.0, v) ∷ xs else x ∷ replaced w v xs

-- without those of these names
abbrev pub without : List (List ℕ) → Values → Values
without names values = filter (λ x. not (list_any (same x.0) names)) values

-- ---- what a service begins with

-- the document of the template of that name
abbrev pub template_value : Service → List ℕ → Option Value
template_value service w = option_map (λ t. document (constant t.items)) (find (λ t. same w t.name) service.templates)

abbrev pub literal_value : Service → Literal → Value
literal_value service (literals.Int n) = number n
literal_value service (literals.Bool b) = truth_value b
literal_value service (literals.Str s) = text s
literal_value service (literals.Tmpl w) = unwrap_or (template_value service w) (document (constant none))

-- the shared variables in a world in which no session has begun
abbrev pub first_values : Service → Values
first_values service = map (λ v. (v.name, literal_value service v.init)) service.shared
