-- The facts of a template by those that are known of the templates that its links lead to.
use Rattle.std.specs.Prelude.{ℕ, suc, ◌+◌, ◌==◌, Bool, true, false, ◌||◌, ◌&&◌, not, List}
use Rattle.std.specs.List.{list_any}
use Rattle.bw_lang.specs.declared.items.Attr.{Attr}
use Rattle.bw_lang.specs.Document.Forest.{Forest, none, text, gap, element}
use Rattle.bw_lang.specs.Document.Documents.{one_if}
use Rattle.bw_lang.specs.Table.Names.{name_number}
use Rattle.bw_lang.specs.Template.Controls.{field_of}
use Rattle.bw_lang.specs.Text.Bytes.{is_blank_text}
use Rattle.bw_shape.specs.Nodes.Nodes.{Node, among, is_free, led}
use Rattle.bw_shape.specs.Rows.Least.{Facts}

-- the element is a control of the field of that number
abbrev pub is_field : List (List ℕ) → ℕ → List ℕ → List Attr → Bool
is_field names f tag attrs = list_any (λ x. name_number names x.0 == f) (field_of tag attrs)

-- the column of an element's tag among what may stand at the top; column 0 is that of a text
abbrev pub tag_column : List (List ℕ) → List ℕ → ℕ
tag_column tags tag = suc (name_number tags tag)

-- the tags, the node of the template, which templates may have what is asked for, and the column
module _ (tags : List (List ℕ)) (node : Node) (known : ℕ → Bool) (column : ℕ) where
  -- the forest may have what stands in the column at its top
  abbrev pub gives : Forest → Bool
  gives none = false
  gives (text s rest) = ((0 == column) && not (is_blank_text s)) || gives rest
  gives (gap g rest) = (((0 == column) && among node.wordy g) || led node known g) || gives rest
  gives (element tag attrs inner rest) = (tag_column tags tag == column) || gives rest

  -- the forest may have no element of the tag of that number at its top
  abbrev pub misses : Forest → Bool
  misses none = true
  misses (text s rest) = misses rest
  misses (gap g rest) = (is_free node g || led node known g) && misses rest
  misses (element tag attrs inner rest) = not (name_number tags tag == column) && misses rest

-- a control of the field stands in the forest
module _ (names : List (List ℕ)) (field : ℕ) where
  abbrev pub stands : Forest → Bool
  stands none = false
  stands (text s rest) = stands rest
  stands (gap g rest) = stands rest
  stands (element tag attrs inner rest) = is_field names field tag attrs || (stands inner || stands rest)

module _ (names : List (List ℕ)) (node : Node) (known : ℕ → Bool) (field : ℕ) where
  -- the forest may have no control of the field
  abbrev pub lacks : Forest → Bool
  lacks none = true
  lacks (text s rest) = lacks rest
  lacks (gap g rest) = (is_free node g || led node known g) && lacks rest
  lacks (element tag attrs inner rest) = not (is_field names field tag attrs) && (lacks inner && lacks rest)

  -- how many controls of the field, and gaps that lead to a template that may have it, stand in the forest
  abbrev pub places : Forest → ℕ
  places none = 0
  places (text s rest) = places rest
  places (gap g rest) = one_if (led node known g) + places rest
  places (element tag attrs inner rest) = one_if (is_field names field tag attrs) + (places inner + places rest)

-- An item that may give the first column stands before one that may give the second, both at the top. It is known which
-- templates may have a column there (`tops`), and in which templates they may stand so (`known`).
module _ (tags : List (List ℕ)) (node : Node) (tops : Facts) (known : ℕ → Bool) (pair : ℕ × ℕ) where
  abbrev first_then : Forest → Forest → Bool
  first_then item rest = gives tags node (λ m. tops m pair.0) pair.0 item && gives tags node (λ m. tops m pair.1) pair.1 rest

  abbrev pub crosses : Forest → Bool
  crosses none = false
  crosses (text s rest) = first_then (text s none) rest || crosses rest
  crosses (gap g rest) = (led node known g || first_then (gap g none) rest) || crosses rest
  crosses (element tag attrs inner rest) = first_then (element tag attrs inner none) rest || crosses rest

-- the first item is a gap that leads to a template in which they may stand so
abbrev pub opens : Node → (known : ℕ → Bool) → Forest → Bool
opens node known none = false
opens node known (text s rest) = false
opens node known (gap g rest) = led node known g
opens node known (element tag attrs inner rest) = false
