-- The faults 4 and 5 of an element, by the columns of what may stand in it.
use Rattle.std.specs.Prelude.{◌⊎◌, ℕ, ◌+◌, ◌<◌, Bool, ◌&&◌, not, List, [], codes, Some, slice_index_or}
use Rattle.bw_schema.specs.Words.{is_among}
use Rattle.bw_faults.specs.declared.fault.Fault.{Fault}
use Rattle.bw_faults.specs.Lists.{When}
use Rattle.bw_judge.specs.declared.content.Spot.{Spot}

-- that fault at that spot
abbrev pub fault_at : Spot → ℕ → List ℕ → Fault
fault_at s number detail = record { number = number; point = s.point; template = Some s.template; place = s.place; detail = detail }

-- the tag of that number isn't allowed
abbrev pub is_bad_tag : List (List ℕ) → List (List ℕ) → ℕ → Bool
is_bad_tag has tags k = not (is_among has (slice_index_or tags k []))

abbrev pub tag_fault : Spot → List (List ℕ) → ℕ → Fault
tag_fault s tags k = fault_at s 4 (slice_index_or tags k [])

-- a fault of a text, or of one of the first k tags, where `given` are the columns of what may stand in the element: 0 for a
-- text, and behind it the tags
abbrev pub OfContent : Spot → List (List ℕ) → Bool → List (List ℕ) → (ℕ → Bool) → ℕ → Fault → Type 0
OfContent s has text tags given k f =
    When (given 0 && not text) (fault_at s 5 (codes "text")) f ⊎ ((c : ℕ) × (c < k) × When (given (c + 1) && is_bad_tag has tags c) (tag_fault s tags c) f)
