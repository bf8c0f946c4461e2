-- The items of templates by their numbers.
use Rattle.std.specs.Prelude.{ℕ, List, slice_index_or}
use Rattle.bw_lang.specs.Document.Forest.{Forest, none}

-- the items of the template of that number; past the last one there are none
abbrev pub template_at : List Forest → ℕ → Forest
template_at templates n = slice_index_or templates n none
