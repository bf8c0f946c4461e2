-- What is known of the elements of a template.
use Rattle.std.specs.Prelude.{ℕ, ◌==◌, Bool, true, false, ◌||◌, ◌&&◌, not, List}
use Rattle.std.specs.List.{list_any, list_all}
use Rattle.bw_lang.specs.declared.items.Attr.{Attr}
use Rattle.bw_lang.specs.declared.items.AttrValue.{AttrValue}
use Rattle.bw_lang.specs.declared.items.AttrValue.TheVariants.{Fixed, Hole}
use Rattle.bw_lang.specs.Table.Names.{same}
use Rattle.bw_strings.specs.Asking.{text_of}
use Rattle.bw_strings.specs.declared.strings.StrSet.{StrSet}
use Rattle.bw_strings.specs.declared.strings.StrSet.TheVariants.{Any, Of}
use Rattle.bw_schema.specs.declared.rules.ValueList.{ValueList}
use Rattle.bw_schema.specs.Words.{is_among}
use Rattle.bw_shape.specs.Nodes.Nodes.{Node, among}

-- the tags and the literals by their numbers, the tables of the shape, the node of the template, and the strings that may
-- stand at its gaps
pub record Scene : Type 0 where
  pub tags : List (List ℕ)
  pub literals : List (List ℕ)
  pub tops : List (List Bool)
  pub miss : List (List Bool)
  pub cross : List (List Bool)
  pub pairs : List (ℕ × ℕ)
  pub node : Node
  pub said : List (ℕ × StrSet)

-- each of its strings is a word of the list
abbrev pub is_within : List (List ℕ) → List (List ℕ) → StrSet → Bool
is_within literals words Any = false
is_within literals words (Of ns) = list_all (λ n. is_among words (text_of literals n)) ns

-- some string may be the value
abbrev pub is_told : Scene → AttrValue → Bool
is_told s (Fixed v) = true
is_told s (Hole g) = among s.node.said g

-- it may be left open
abbrev pub is_loose : Scene → AttrValue → Bool
is_loose s (Fixed v) = false
is_loose s (Hole g) = among s.node.open_gaps g

-- each string that may be the value is a word of the list
abbrev pub is_kept : Scene → List (List ℕ) → AttrValue → Bool
is_kept s words (Fixed v) = is_among words v
is_kept s words (Hole g) = list_all (λ l. not (l.0 == g) || is_within s.literals words l.1) s.said

-- each string that may be the value is in each list for this attribute
abbrev pub is_permitted : Scene → List ValueList → Attr → Bool
is_permitted s lists a = list_all (λ l. not (same l.name a.name) || is_kept s l.words a.value) lists

abbrev pub has_attr : List Attr → List ℕ → Bool
has_attr attrs x = list_any (λ a. same a.name x) attrs

-- the attribute may be absent
abbrev pub may_be_absent : Scene → List Attr → List ℕ → Bool
may_be_absent s attrs x = not (has_attr attrs x) || list_any (λ a. same a.name x && is_loose s a.value) attrs
