-- A journal that is begun anew, as often as may be, and what a crash leaves of it.
use Rattle.std.specs.Prelude.{◌≡◌, ℕ, List, [], ◌∷◌, ◌++◌, length, Some}
use Rattle.std.specs.declared.option.Option.{Option}
use Rattle.std.specs.List.{AllByRecursion}
use Rattle.bw_format.specs.declared.format.Format.{Format}
use Rattle.bw_journal.specs.Layout.{Entry, Fits, last_sum}
use Rattle.bw_journal.specs.Starts.{FitsOrigin, Origin, Start, head_at, nothing, saved, sum_at}
use Rattle.bw_lang.specs.declared.service.Service.{Service}
use Rattle.bw_model.specs.Sessions.{World, empty}
use Rattle.bw_stable.specs.Deeds.{Deed, MayLeave}
use Rattle.bw_stable.specs.Replacing.{pieces, replacing}
use Rattle.bw_bringing.specs.Bringing.{Brings}
use Rattle.bw_survival.specs.Restarts.{IsFileOf, IsInFlight, Keeps, file_of, joined}

-- the world that saved bytes are loaded as, if they are
abbrev pub Loading : Type 0
Loading = List ℕ → Option World

-- the world that a journal begins at
abbrev pub BeginsAt : Loading → Service → Origin → World → Type 0
BeginsAt loading service nothing world = world ≡ empty service
BeginsAt loading service (saved bytes) world = loading bytes ≡ Some world

-- a file is a journal of the service whose file is this text, and brings this world about: its entries do, from the one that it begins at
pub record BringsBack (loading : Loading) (formats : List Format) (service : Service) (text file : List ℕ) (world : World) : Type 0 where
  pub origin : Origin
  pub fits : FitsOrigin origin
  pub first : World
  pub begins : BeginsAt loading service origin first
  pub entries : List Entry
  pub is_file : IsFileOf (record { text = text; origin = origin }) entries file
  pub brings : Brings formats service first entries world

-- a file brings back one world
abbrev pub BringsBackOnce : Type 0
BringsBackOnce =
    (loading : Loading) (formats : List Format) (service : Service) (text file : List ℕ) (a b : World) → BringsBack loading formats service text file a
    → BringsBack loading formats service text file b → a ≡ b

-- ---- one leg behind another

-- a leg of a journal's course: where the journal begins, the entries that stand there, and the groups that deeds keep behind them
pub record Leg : Type 0 where
  pub origin : Origin
  pub before : List Entry
  pub groups : List (List Entry)
  pub deeds : List Deed

-- where its journal starts
abbrev pub start_of : List ℕ → Leg → Start
start_of text leg = record { text = text; origin = leg.origin }

-- from the world that its journal begins at, its entries bring about another
pub record Leads (loading : Loading) (formats : List Format) (service : Service) (text : List ℕ) (from : World) (leg : Leg) (to : World) : Type 0 where
  pub begins : BeginsAt loading service leg.origin from
  pub origin_fits : FitsOrigin leg.origin
  pub fits : AllByRecursion Fits (leg.before ++ joined leg.groups)
  pub brings : Brings formats service from (leg.before ++ joined leg.groups) to
  pub keeps : Keeps (last_sum (sum_at (start_of text leg)) leg.before) leg.deeds leg.groups

-- each leg behind the first begins at a saved world that is loaded as the world to which the one in front of it leads
abbrev pub LeadOn : Loading → List Format → Service → List ℕ → World → Leg → List Leg → World → Type 0
LeadOn loading formats service text from leg [] to = Leads loading formats service text from leg to
LeadOn loading formats service text from leg (next ∷ legs) to =
    (mid : World) × Leads loading formats service text from leg mid × (next.before ≡ []) × LeadOn loading formats service text mid next legs to

-- what is done in their course: between two legs a new file, with the head of the second, comes into the journal's place
abbrev pub deeds_of : List ℕ → Leg → List Leg → List Deed
deeds_of text leg [] = leg.deeds
deeds_of text leg (next ∷ legs) = leg.deeds ++ (replacing (head_at (start_of text next)) ++ deeds_of text next legs)

-- the groups that are kept in their course
abbrev pub groups_of : Leg → List Leg → List (List Entry)
groups_of leg [] = leg.groups
groups_of leg (next ∷ legs) = leg.groups ++ groups_of next legs

-- Where so many groups were kept whole, a file brings back the world of the entries before, of these groups, and of the first entries of
-- at most one group more. From there the others bring about the world that all together did.
pub record Recovers (loading : Loading) (formats : List Format) (service : Service) (from to : World) (text : List ℕ) (leg : Leg) (legs : List Leg)
    (count : ℕ) (file : List ℕ) : Type 0 where
  pub whole : List (List Entry)
  pub rest : List (List Entry)
  pub first : List Entry
  pub others : List Entry
  pub groups_are : groups_of leg legs ≡ whole ++ rest
  pub all_kept : length whole ≡ count
  pub in_flight : IsInFlight first rest
  pub all : joined (groups_of leg legs) ≡ (joined whole ++ first) ++ others
  pub world : World
  pub brings : Brings formats service from (leg.before ++ (joined whole ++ first)) world
  pub found : BringsBack loading formats service text file world
  pub goes_on : Brings formats service world others to

-- so it is whenever a crash comes in the course of legs, and whatever it leaves
abbrev pub RotationsGoOn : Type 0
RotationsGoOn =
    (loading : Loading) (formats : List Format) (service : Service) (from to : World) (text : List ℕ) (leg : Leg) (legs : List Leg) (left : List ℕ)
    → LeadOn loading formats service text from leg legs to → (may : MayLeave (deeds_of text leg legs) (file_of (start_of text leg) leg.before) left)
    → Recovers loading formats service from to text leg legs (pieces may.done) left
