-- The ways in which an element breaks a rule.
use Rattle.std.specs.Prelude.{ℕ, ◌==◌, Bool, true, false, ◌||◌, ◌&&◌, not, max, List, [], ◌∷◌, ◌++◌, map, length, if◌then◌else◌}
use Rattle.std.specs.List.{list_any}
use Rattle.bw_lang.specs.declared.items.Attr.{Attr}
use Rattle.bw_lang.specs.Document.Forest.{Forest}
use Rattle.bw_lang.specs.Table.Names.{same}
use Rattle.bw_schema.specs.declared.rules.Rule.{Rule}
use Rattle.bw_lang.specs.Text.Bytes.{is_blank_text}
use Rattle.bw_schema.specs.Words.{is_among}
use Rattle.bw_schema.specs.Rules.{allows, permits}
use Rattle.bw_schema.specs.declared.needs.Formula.{Formula}
use Rattle.bw_schema.specs.declared.needs.Formula.TheVariants as formulas
use Rattle.bw_schema.specs.Needs.{Needs, nothing, all_of, some_of, attr, one_value, content, order}
use Rattle.bw_schema.specs.Validity.{each_fixed, has_fixed, has_value, each_child, each_text, is_other, ordered}
use Rattle.bw_explain.specs.declared.atom.Atom.{Atom}
use Rattle.bw_explain.specs.declared.atom.Atom.TheVariants.{NotAllowed, OtherValue, Absent, Outside, BadChild, BadText, Missing, Crossing}
use Rattle.bw_explain.specs.Ways.{Way}
use Rattle.bw_explain.specs.Sizes.{is_said}

-- no Or stands in the needs
abbrev pub is_plain : Needs → Bool
is_plain nothing = true
is_plain (all_of parts rest) = is_plain parts && is_plain rest
is_plain (some_of parts rest) = false
is_plain (attr x rest) = is_plain rest
is_plain (one_value x vs rest) = is_plain rest
is_plain (content x rest) = is_plain rest
is_plain (order x y rest) = is_plain rest

-- an element with these attributes and items is broken so
abbrev pub is_broken : Rule → Atom → List Attr → Forest → Bool
is_broken r NotAllowed b j = not (each_fixed (λ x v. allows r x) b)
is_broken r OtherValue b j = not (each_fixed (permits r.values) b)
is_broken r (Absent x) b j = not (has_fixed b x)
is_broken r (Outside x vs) b j = not (has_value b x vs)
is_broken r BadChild b j = not (each_child (is_among r.has) j)
is_broken r BadText b j = not (each_text is_blank_text j)
is_broken r (Missing x) b j = each_child (is_other x) j
is_broken r (Crossing x y) b j = not (ordered x y j)

-- those of the needs without Or
abbrev pub need_atoms : Needs → List Atom
need_atoms nothing = []
need_atoms (all_of parts rest) = (if is_plain parts then need_atoms parts else []) ++ need_atoms rest
need_atoms (some_of parts rest) = need_atoms rest
need_atoms (attr x rest) = Absent x ∷ need_atoms rest
need_atoms (one_value x vs rest) = Outside x vs ∷ need_atoms rest
need_atoms (content x rest) = Missing x ∷ need_atoms rest
need_atoms (order x y rest) = Crossing x y ∷ need_atoms rest

-- no Or stands in the formula
abbrev pub is_plain_one : Formula → Bool
is_plain_one (formulas.And parts) = is_plain parts
is_plain_one (formulas.Or parts) = false
is_plain_one (formulas.Attr x) = true
is_plain_one (formulas.OneOf x vs) = true
is_plain_one (formulas.Content x) = true
is_plain_one (formulas.Order x y) = true

-- the atoms of one formula
abbrev pub atoms_one : Formula → List Atom
atoms_one (formulas.And parts) = if is_plain parts then need_atoms parts else []
atoms_one (formulas.Or parts) = []
atoms_one (formulas.Attr x) = Absent x ∷ []
atoms_one (formulas.OneOf x vs) = Outside x vs ∷ []
atoms_one (formulas.Content x) = Missing x ∷ []
atoms_one (formulas.Order x y) = Crossing x y ∷ []

-- those of the rule of that number
abbrev pub atoms_of : ℕ → Rule → List Atom
atoms_of number r =
    if number == 1 then NotAllowed ∷ [] else
    if number == 2 then map Absent r.must else
    if number == 3 then OtherValue ∷ [] else
    if number == 4 then BadChild ∷ [] else
    if number == 5 then (if r.text then [] else BadText ∷ []) else
    if number == 7 then need_atoms r.needs else []

-- ---- of the attributes: a value that fails

-- the value is one that the rule asks for at an attribute of that name
abbrev pub passes : Rule → Atom → List ℕ → List ℕ → Bool
passes r NotAllowed x v = allows r x
passes r OtherValue x v = permits r.values x v
passes r (Outside y vs) x v = is_among vs v
passes r a x v = true

-- some string that may fill the gap doesn't pass
abbrev pub fails : Rule → Atom → List ℕ → Way → Bool
fails r NotAllowed x w = not (allows r x) && is_said w
fails r OtherValue x w = (w.is_free && list_any (λ l. same l.name x) r.values) || list_any (λ s. not (permits r.values x s)) w.words
fails r (Outside y vs) x w = w.is_free || list_any (λ s. not (is_among vs s)) w.words
fails r a x w = false

-- the length of the longest word
abbrev pub longest : List (List ℕ) → ℕ
longest [] = 0
longest (w ∷ ws) = max (length w) (longest ws)
