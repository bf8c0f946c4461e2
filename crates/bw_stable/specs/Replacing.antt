-- A new file in a journal's place.
use Rattle.std.specs.Prelude.{ℕ, zero, suc, ◌≡◌, ◌⊎◌, ◌+◌, List, [], ◌∷◌, ◌++◌}
use Rattle.bw_stable.specs.Deeds.{Deed, cut, kept, moved, wrote, settled, renamed, named, alone, after_deeds, MayLeave}

-- the steps by which a file of these bytes comes into the journal's place
abbrev pub replacing : List ℕ → List Deed
replacing bytes = moved (wrote bytes) ∷ (moved settled ∷ (moved renamed ∷ (moved named ∷ [])))

-- behind them the new file is there, and nothing else
abbrev pub ReplacesAll : Type 0
ReplacesAll = (bytes file : List ℕ) → after_deeds (replacing bytes) (alone file) ≡ alone bytes

-- whenever a crash comes in their course, the whole old file is found or the whole new one
abbrev pub ReplacesWhole : Type 0
ReplacesWhole = (bytes file left : List ℕ) → MayLeave (replacing bytes) file left → (left ≡ file) ⊎ (left ≡ bytes)

-- how many pieces deeds keep
abbrev pub pieces : List Deed → ℕ
pieces [] = zero
pieces (cut len ∷ deeds) = pieces deeds
pieces (kept bytes returned held ∷ deeds) = suc (pieces deeds)
pieces (moved move ∷ deeds) = pieces deeds

-- a crash in the course of these deeds leaves this, where so many pieces were kept by then
pub record LeavesBy (deeds : List Deed) (start left : List ℕ) (count : ℕ) : Type 0 where
  pub may : MayLeave deeds start left
  pub count_is : pieces may.done ≡ count

-- Where a new file comes into the place of the one that deeds left, and deeds go on with it, a crash leaves what it may leave of the
-- deeds before, or what it may leave of those behind, to the new file.
abbrev pub ReplacesBetween : Type 0
ReplacesBetween =
    (before behind : List Deed) (start bytes mid left : List ℕ) (count : ℕ) → after_deeds before (alone start) ≡ alone mid
    → LeavesBy (before ++ (replacing bytes ++ behind)) start left count
    → LeavesBy before start left count ⊎ ((more : ℕ) × (count ≡ pieces before + more) × LeavesBy behind bytes left more)
