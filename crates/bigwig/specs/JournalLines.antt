-- The line of a journal that is refused.
use Rattle.std.specs.Prelude.{List, [], ℕ, ◌++◌, codes, decimal}
use Rattle.bw_recall.specs.declared.recalling.Recalled.{Recalled}
use Rattle.bw_recall.specs.declared.recalling.Recalled.TheVariants as recalled

-- why a journal is refused
abbrev pub journal_line : Recalled → List ℕ
journal_line (recalled.Damaged at) = codes "journal damaged at " ++ decimal at
journal_line (recalled.Version version) = codes "journal version " ++ decimal version
journal_line recalled.Other = codes "journal of another service"
journal_line _ = []
