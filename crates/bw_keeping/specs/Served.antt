-- Links that are served beside a journal.
use Rattle.std.specs.Prelude.{◌≡◌, ◌⊎◌, ◌≤◌, ◌<◌, ◌+◌, ℕ, List, [], ◌++◌, length, Option, Some, ⊤}
use Rattle.bw_format.specs.declared.format.Format.{Format}
use Rattle.bw_journal.specs.Layout.{last_sum}
use Rattle.bw_lang.specs.declared.service.Service.{Service}
use Rattle.bw_out.specs.Doors.{Returned}
use Rattle.bw_out.specs.Told.{Coming}
use Rattle.bw_stable.specs.Deeds.{Deed}
use Rattle.bw_world.specs.Seen.{Seen}
use Rattle.bw_world.specs.Stands.{StandsFor}
use Rattle.bw_world.specs.Streams.Courses.{Between}
use Rattle.bw_keeping.specs.Answered.{AreAnswered, AreClosed, Exchange, backs_of, entries_of}
use Rattle.bw_keeping.specs.Kept.{AreKept}
use Rattle.bw_keeping.specs.declared.ended.Ended.{Ended}
use Rattle.bw_keeping.specs.declared.ended.Ended.TheVariants.{Done, DoorFault, JournalFault}

-- what is seen between two links: the world, the keys to come, the links to come and those given back, what was done to
-- the journal, the check behind what is put into it, and the steps so far
pub record View : Type 0 where
  pub world : Seen
  pub keys : Option Coming
  pub coming : Option (List (List ℕ))
  pub returned : Option (List Returned)
  pub deeds : Option (List Deed)
  pub sum : ℕ
  pub steps : ℕ

abbrev pub view : Seen → Option Coming → Option (List (List ℕ)) → Option (List Returned) → Option (List Deed) → ℕ → ℕ → View
view world keys coming returned deeds sum steps =
    record { world = world; keys = keys; coming = coming; returned = returned; deeds = deeds; sum = sum; steps = steps }

-- all of it is told, and the world stands for the model world
pub record Tells (seen : View) (at : Between) (links : List (List ℕ)) (given : List Returned) (done : List Deed) : Type 0 where
  pub stands : StandsFor seen.world at.world
  pub keys : seen.keys ≡ Some at.keys
  pub coming : seen.coming ≡ Some links
  pub returned : seen.returned ≡ Some given
  pub deeds : seen.deeds ≡ Some done
  pub steps : seen.steps ≡ at.steps

-- All links that were taken were answered, what is kept of them is behind this check, and no link is to come or there were as
-- many as may be.
pub record IsAllServed (most sum : ℕ) (xs : List Exchange) (closed : List Returned) (later : List (List ℕ)) (after : View) : Type 0 where
  pub none_closed : closed ≡ []
  pub sum_is : after.sum ≡ last_sum sum (entries_of xs)
  pub all : (later ≡ []) ⊎ (length xs ≡ most)

-- how that ended
abbrev pub IsOver : ℕ → ℕ → List Exchange → List Returned → List (List ℕ) → View → Ended → Type 0
IsOver most sum xs closed later after Done = IsAllServed most sum xs closed later after
IsOver most sum xs closed later after DoorFault = length xs + length closed < most
IsOver most sum xs closed later after JournalFault = ⊤

-- At most so many links were served from there on: some were answered and given back, and what is kept of each of them was
-- kept before; others behind them, of which nothing was kept, were given back without a byte. So it stands now: the world is ahead
-- of what is kept by the messages of these others.
pub record HasServed (formats : List Format) (service : Service) (most sum : ℕ) (from : Between) (links : List (List ℕ)) (given : List Returned)
    (deeds : List Deed) (after : View) (end : Ended) : Type 0 where
  pub exchanges : List Exchange
  pub to : Between
  pub rest : List (List ℕ)
  pub pieces : List Deed
  pub closed : List Returned
  pub ahead : Between
  pub later : List (List ℕ)
  pub answered : AreAnswered formats service from links exchanges to rest
  pub kept : AreKept sum given exchanges pieces
  pub unanswered : AreClosed formats service to rest closed ahead later
  pub tells : Tells after ahead later (given ++ (backs_of exchanges ++ closed)) (deeds ++ pieces)
  pub few : length exchanges + length closed ≤ most
  pub over : IsOver most sum exchanges closed later after end

-- so it is wherever all is told
abbrev pub Serves : List Format → Service → ℕ → View → View → Ended → Type 0
Serves formats service most before after end =
    (from : Between) (links : List (List ℕ)) (given : List Returned) (deeds : List Deed) → Tells before from links given deeds
    → HasServed formats service most before.sum from links given deeds after end
