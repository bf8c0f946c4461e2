-- Which documents are valid by a schema. Open gaps and the attributes that they stand for count as absent.
use Rattle.std.specs.Prelude.{◌≡◌, ℕ, Bool, true, false, ◌||◌, ◌&&◌, not, List, IfSome}
use Rattle.std.specs.List.{list_all, list_any}
use Rattle.bw_lang.specs.declared.items.Attr.{Attr}
use Rattle.bw_lang.specs.declared.items.AttrValue.{AttrValue}
use Rattle.bw_lang.specs.declared.items.AttrValue.TheVariants.{Fixed, Hole}
use Rattle.bw_lang.specs.Document.Forest.{Forest, none, text, gap, element}
use Rattle.bw_lang.specs.Table.Names.{same}
use Rattle.bw_schema.specs.declared.rules.Rule.{Rule}
use Rattle.bw_schema.specs.declared.schema.Schema.{Schema}
use Rattle.bw_lang.specs.Text.Bytes.{is_blank_text}
use Rattle.bw_schema.specs.Words.{is_among}
use Rattle.bw_schema.specs.Rules.{allows, permits, rule_of}
use Rattle.bw_schema.specs.Needs.{Needs, nothing, all_of, some_of, attr, one_value, content, order}

-- the test holds of the name and the value, where it is fixed
abbrev pub on_fixed : (List ℕ → List ℕ → Bool) → List ℕ → AttrValue → Bool
on_fixed p x (Fixed v) = p x v
on_fixed p x (Hole g) = true

-- it holds of each attribute with a fixed value
abbrev pub each_fixed : (List ℕ → List ℕ → Bool) → List Attr → Bool
each_fixed p attrs = list_all (λ a. on_fixed p a.name a.value) attrs

abbrev pub is_fixed : AttrValue → Bool
is_fixed (Fixed v) = true
is_fixed (Hole g) = false

-- the attribute is there, with a fixed value
abbrev pub has_fixed : List Attr → List ℕ → Bool
has_fixed attrs x = list_any (λ a. same a.name x && is_fixed a.value) attrs

-- the test holds of the tag of each child element
abbrev pub each_child : (List ℕ → Bool) → Forest → Bool
each_child p none = true
each_child p (text s rest) = each_child p rest
each_child p (gap g rest) = each_child p rest
each_child p (element tag attrs inner rest) = p tag && each_child p rest

-- the test holds of each child text
abbrev pub each_text : (List ℕ → Bool) → Forest → Bool
each_text p none = true
each_text p (text s rest) = p s && each_text p rest
each_text p (gap g rest) = each_text p rest
each_text p (element tag attrs inner rest) = each_text p rest

-- a value of the list
abbrev pub value_in : List (List ℕ) → AttrValue → Bool
value_in vs (Fixed v) = is_among vs v
value_in vs (Hole g) = false

-- the attribute is there with a value of the list
abbrev pub has_value : List Attr → List ℕ → List (List ℕ) → Bool
has_value attrs x vs = list_any (λ a. same a.name x && value_in vs a.value) attrs

abbrev pub is_other : List ℕ → List ℕ → Bool
is_other x tag = not (same tag x)

-- no child element y stands before a child element x
abbrev pub ordered : List ℕ → List ℕ → Forest → Bool
ordered x y none = true
ordered x y (text s r) = ordered x y r
ordered x y (gap g r) = ordered x y r
ordered x y (element tag a i r) = (is_other y tag || each_child (is_other x) r) && ordered x y r

-- with true both, with false one of them
abbrev pub joined : Bool → Bool → Bool → Bool
joined true a b = a && b
joined false a b = a || b

-- with true all of the needs hold of an element, with false some of them
abbrev pub holds : Bool → Needs → List Attr → Forest → Bool
holds b nothing attrs inner = b
holds b (all_of parts rest) attrs inner = joined b (holds true parts attrs inner) (holds b rest attrs inner)
holds b (some_of parts rest) attrs inner = joined b (holds false parts attrs inner) (holds b rest attrs inner)
holds b (attr x rest) attrs inner = joined b (has_fixed attrs x) (holds b rest attrs inner)
holds b (one_value x vs rest) attrs inner = joined b (has_value attrs x vs) (holds b rest attrs inner)
holds b (content x rest) attrs inner = joined b (not (each_child (is_other x) inner)) (holds b rest attrs inner)
holds b (order x y rest) attrs inner = joined b (ordered x y inner) (holds b rest attrs inner)

-- an element with these attributes and children obeys the rule
pub record Obeys (r : Rule) (attrs : List Attr) (inner : Forest) : Type 0 where
  pub allowed : each_fixed (λ x v. allows r x) attrs ≡ true
  pub required : list_all (has_fixed attrs) r.must ≡ true
  pub values : each_fixed (permits r.values) attrs ≡ true
  pub children : each_child (is_among r.has) inner ≡ true
  pub texts : (r.text || each_text is_blank_text inner) ≡ true
  pub needs : holds true r.needs attrs inner ≡ true

-- where its tag has a rule
abbrev pub Follows : List Rule → List ℕ → List Attr → Forest → Type 0
Follows rules tag attrs inner = IfSome (rule_of rules tag) (λ r. Obeys r attrs inner)

-- it holds of each element, at any depth
abbrev pub EveryElement : (List ℕ → List Attr → Forest → Type 0) → Forest → Type 0
EveryElement P none = Unit {0}
EveryElement P (text s rest) = EveryElement P rest
EveryElement P (gap g rest) = EveryElement P rest
EveryElement P (element tag attrs inner rest) = P tag attrs inner × (EveryElement P inner × EveryElement P rest)

-- no text and no element
abbrev pub is_bare : Forest → Bool
is_bare none = true
is_bare (text s rest) = false
is_bare (gap g rest) = is_bare rest
is_bare (element tag attrs inner rest) = false

-- one element with that tag
abbrev pub is_rooted : List ℕ → Forest → Bool
is_rooted root none = false
is_rooted root (text s rest) = false
is_rooted root (gap g rest) = is_rooted root rest
is_rooted root (element tag attrs inner rest) = same tag root && is_bare rest

-- one element of the schema's root tag, and every element in it obeys its rule
pub record Valid (s : Schema) (t : Forest) : Type 0 where
  pub root : is_rooted s.root t ≡ true
  pub each : EveryElement (Follows s.elements) t
