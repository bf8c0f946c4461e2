-- The tags that formulas name, and the pairs of tags that they order.
use Rattle.std.specs.Prelude.{◌≡◌, ℕ, ◌+◌, ◌<◌, ◌==◌, Bool, ◌&&◌, List, [], ◌∷◌, ◌++◌, length, flat_map}
use Rattle.std.specs.List.{All, position_or_len}
use Rattle.bw_lang.specs.Table.Names.{name_number, Extends}
use Rattle.bw_schema.specs.declared.rules.Rule.{Rule}
use Rattle.bw_schema.specs.Needs.{Needs, nothing, all_of, some_of, attr, one_value, content, order}
use Rattle.bw_shape.specs.Tests.{tag_column}

-- the tags of content formulas and of orders
abbrev pub named_tags : Needs → List (List ℕ)
named_tags nothing = []
named_tags (all_of parts rest) = named_tags parts ++ named_tags rest
named_tags (some_of parts rest) = named_tags parts ++ named_tags rest
named_tags (attr x rest) = named_tags rest
named_tags (one_value x vs rest) = named_tags rest
named_tags (content x rest) = x ∷ named_tags rest
named_tags (order x y rest) = x ∷ y ∷ named_tags rest

-- the pairs of orders: no child of the second tag may stand before one of the first
abbrev pub ordered_tags : Needs → List (List ℕ × List ℕ)
ordered_tags nothing = []
ordered_tags (all_of parts rest) = ordered_tags parts ++ ordered_tags rest
ordered_tags (some_of parts rest) = ordered_tags parts ++ ordered_tags rest
ordered_tags (attr x rest) = ordered_tags rest
ordered_tags (one_value x vs rest) = ordered_tags rest
ordered_tags (content x rest) = ordered_tags rest
ordered_tags (order x y rest) = (x, y) ∷ ordered_tags rest

-- of the rules of a schema
abbrev pub schema_tags : List Rule → List (List ℕ)
schema_tags rules = flat_map (λ r. named_tags r.needs) rules

abbrev pub schema_orders : List Rule → List (List ℕ × List ℕ)
schema_orders rules = flat_map (λ r. ordered_tags r.needs) rules

abbrev pub same_pair : ℕ × ℕ → ℕ × ℕ → Bool
same_pair p q = (p.0 == q.0) && (p.1 == q.1)

-- the column of a pair
abbrev pub pair_number : List (ℕ × ℕ) → ℕ × ℕ → ℕ
pair_number pairs p = position_or_len (same_pair p) pairs

-- the tags of the formulas are among the first ones of a table, and the columns of their pairs in a list
abbrev pub AreNamed : List (List ℕ) → ℕ → List (ℕ × ℕ) → Needs → Type 0
AreNamed tags first pairs nothing = Unit {0}
AreNamed tags first pairs (all_of parts rest) = AreNamed tags first pairs parts × AreNamed tags first pairs rest
AreNamed tags first pairs (some_of parts rest) = AreNamed tags first pairs parts × AreNamed tags first pairs rest
AreNamed tags first pairs (attr x rest) = AreNamed tags first pairs rest
AreNamed tags first pairs (one_value x vs rest) = AreNamed tags first pairs rest
AreNamed tags first pairs (content x rest) = (name_number tags x < first) × AreNamed tags first pairs rest
AreNamed tags first pairs (order x y rest) =
    ((name_number tags x < first) × ((name_number tags y < first) × (pair_number pairs (tag_column tags y, tag_column tags x) < length pairs)))
    × AreNamed tags first pairs rest

-- each is a pair of columns of the tops of a table of so many tags
abbrev pub AreColumns : ℕ → List (ℕ × ℕ) → Type 0
AreColumns k pairs = All (λ p. (p.0 < k + 1) × (p.1 < k + 1)) pairs

-- tags and pairs came behind those that were there, and the needs have theirs
pub record Names (old new : List (List ℕ)) (pairs more : List (ℕ × ℕ)) (needs : Needs) : Type 0 where
  pub front : Extends old new
  pub behind : (xs : List (ℕ × ℕ)) × (more ≡ pairs ++ xs)
  pub small : AreColumns (length old) pairs → AreColumns (length new) more
  pub named : AreNamed new (length new) more needs
