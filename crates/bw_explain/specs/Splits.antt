-- Where a need with an Or isn't sure, by what is known of its template.
use Rattle.std.specs.Prelude.{Bool, true, false, ◌||◌, ◌&&◌, not, List}
use Rattle.bw_lang.specs.declared.items.Attr.{Attr}
use Rattle.bw_lang.specs.Document.Forest.{Forest}
use Rattle.bw_schema.specs.Needs.{Needs, nothing, all_of, some_of, attr, one_value, content, order}
use Rattle.bw_judge.specs.Scene.{Scene}
use Rattle.bw_judge.specs.Sure.{sure}
use Rattle.bw_explain.specs.Atoms.{is_plain}

-- a need with an Or isn't sure at an element
abbrev pub some_split : Scene → Needs → List Attr → Forest → Bool
some_split s nothing a i = false
some_split s (all_of parts rest) a i = (not (is_plain parts) && not (sure s true parts a i)) || some_split s rest a i
some_split s (some_of parts rest) a i = not (sure s false parts a i) || some_split s rest a i
some_split s (attr x rest) a i = some_split s rest a i
some_split s (one_value x vs rest) a i = some_split s rest a i
some_split s (content x rest) a i = some_split s rest a i
some_split s (order x y rest) a i = some_split s rest a i
