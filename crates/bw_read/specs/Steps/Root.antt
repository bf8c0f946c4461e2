-- Whether a document is one element html, as a test.
-- It only follows the steps of the code: nothing is promised by it.
use Rattle.std.specs.Prelude.{Bool, false, codes}
use Rattle.bw_lang.specs.Document.Forest.{Forest, none, text, gap, element}
use Rattle.bw_lang.specs.Table.Names.{same}

-- the element is alone, and its tag is html
abbrev pub is_root : Forest → Bool
is_root (element tag attrs inner none) = same tag (codes "html")
is_root (element tag attrs inner (text s rest)) = false
is_root (element tag attrs inner (gap g rest)) = false
is_root (element tag attrs inner (element t a i rest)) = false
is_root none = false
is_root (text s rest) = false
is_root (gap g rest) = false
