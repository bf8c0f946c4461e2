-- What is kept of links before they are answered.
use Rattle.std.specs.Prelude.{◌≡◌, ℕ, List, [], ◌∷◌, ◌++◌, Some}
use Rattle.bw_journal.specs.Layout.{entries_bytes, last_sum}
use Rattle.bw_out.specs.Doors.{Returned}
use Rattle.bw_stable.specs.Deeds.{Deed, cut, kept, moved}
use Rattle.bw_keeping.specs.Answered.{Exchange, backs_of, entries_of}

-- these bytes were kept in one piece, when these links had been given back and nothing was written on those that waited
abbrev pub IsPiece : Deed → List ℕ → List Returned → Type 0
IsPiece (kept bytes returned written) want given = (bytes ≡ want) × (returned ≡ Some given) × (written ≡ Some [])
IsPiece (cut len) want given = ⊥
IsPiece (moved move) want given = ⊥

-- What is kept of links was kept in pieces, one after another, behind this check: each has the entries of a group of links,
-- none of which was given back, or had a byte written on it, when it was kept. Links of which nothing is kept may be given back between.
abbrev pub AreKept : ℕ → List Returned → List Exchange → List Deed → Type 0
AreKept sum given xs [] = entries_of xs ≡ []
AreKept sum given xs (deed ∷ deeds) =
    (quiet : List Exchange) × (group : List Exchange) × (later : List Exchange) × (xs ≡ quiet ++ (group ++ later)) × (entries_of quiet ≡ [])
    × IsPiece deed (entries_bytes sum (entries_of group)) (given ++ backs_of quiet)
    × AreKept (last_sum sum (entries_of group)) (given ++ backs_of (quiet ++ group)) later deeds
