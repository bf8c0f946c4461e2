-- Where journals start.
use Rattle.std.specs.Prelude.{ℕ, ◌≡◌, List, ◌++◌, ⊤}
use Rattle.bw_journal.specs.Heads.{IsNamed, head_of, start_sum}
use Rattle.bw_journal.specs.Saved.{FitsSaved, saved_head, saved_start}

-- a journal begins at the world in which nothing was requested yet, or at a saved world
pub data Origin : Type 0 where
  nothing : Origin
  saved : (bytes : List ℕ) → Origin

-- a saved world is within the limit
abbrev pub FitsOrigin : Origin → Type 0
FitsOrigin nothing = ⊤
FitsOrigin (saved bytes) = FitsSaved bytes

-- the head of a journal of the service that begins there
abbrev pub head_from : List ℕ → Origin → List ℕ
head_from text nothing = head_of text
head_from text (saved bytes) = saved_head text bytes

-- and the check behind it
abbrev pub sum_from : List ℕ → Origin → ℕ
sum_from text nothing = start_sum text
sum_from text (saved bytes) = saved_start text bytes

-- a journal's start: the service's file, and where it begins
pub record Start : Type 0 where
  pub text : List ℕ
  pub origin : Origin

-- it has bytes
pub record FitsStart (start : Start) : Type 0 where
  pub named : IsNamed start.text
  pub origin : FitsOrigin start.origin

-- its head
abbrev pub head_at : Start → List ℕ
head_at start = head_from start.text start.origin

-- and the check behind it
abbrev pub sum_at : Start → ℕ
sum_at start = sum_from start.text start.origin

-- bytes begin with one head of a service
abbrev pub StartsOnce : Type 0
StartsOnce =
    (text bytes rest more : List ℕ) (a b : Origin) → FitsOrigin a → FitsOrigin b → bytes ≡ head_from text a ++ rest → bytes ≡ head_from text b ++ more
    → (a ≡ b) × (rest ≡ more)
