-- Attributes whose gaps are known by their numbers.
use Rattle.std.specs.Prelude.{ℕ, List}
use Rattle.bw_lang.specs.Table.Names.{name_number}
use Rattle.bw_lang.specs.declared.items.Attr.{Attr}
use Rattle.bw_lang.specs.declared.items.AttrValue.{AttrValue}
use Rattle.bw_lang.specs.declared.items.AttrValue.TheVariants as value
use Rattle.bw_lang.specs.declared.pieces.RawAttr.{RawAttr}
use Rattle.bw_lang.specs.declared.pieces.RawValue.{RawValue}
use Rattle.bw_lang.specs.declared.pieces.RawValue.TheVariants as raw

-- a value with its gap by number, by a table of names
abbrev pub numbered_value : List (List ℕ) → RawValue → AttrValue
numbered_value names (raw.Fixed v) = value.Fixed v
numbered_value names (raw.Hole n) = value.Hole (name_number names n)

-- an attribute with its gap by number
abbrev pub numbered : List (List ℕ) → RawAttr → Attr
numbered names a = record { name = a.name; value = numbered_value names a.value }
