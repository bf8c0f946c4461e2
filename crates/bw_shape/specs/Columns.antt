-- The columns of tops, and the tags that a table of names has.
use Rattle.std.specs.Prelude.{ℕ, ◌<◌, List, length}
use Rattle.bw_lang.specs.Document.Forest.{Forest, none, text, gap, element}
use Rattle.bw_lang.specs.Table.Names.{name_number}
use Rattle.bw_shape.specs.Shape.{Top, tagged, wordy}
use Rattle.bw_shape.specs.Tests.{tag_column}

abbrev pub top_column : List (List ℕ) → Top → ℕ
top_column tags wordy = 0
top_column tags (tagged x) = tag_column tags x

-- each tag in the forest is in the table
abbrev pub AreKnown : List (List ℕ) → Forest → Type 0
AreKnown tags none = Unit {0}
AreKnown tags (text s rest) = AreKnown tags rest
AreKnown tags (gap g rest) = AreKnown tags rest
AreKnown tags (element tag attrs inner rest) = (name_number tags tag < length tags) × (AreKnown tags inner × AreKnown tags rest)

-- of each template that is reached
abbrev pub AllKnown : List (List ℕ) → (ℕ → Forest) → (ℕ → Type 0) → Type 0
AllKnown tags templates R = (n : ℕ) → R n → AreKnown tags (templates n)
