-- What a crash leaves of links that are served beside a journal.
use Rattle.std.specs.Prelude.{◌≡◌, ℕ, List, ◌++◌}
use Rattle.std.specs.List.{AllByRecursion}
use Rattle.bw_format.specs.declared.format.Format.{Format}
use Rattle.bw_journal.specs.Layout.{Entry, Fits, last_sum}
use Rattle.bw_journal.specs.Starts.{Start, sum_at}
use Rattle.bw_lang.specs.declared.service.Service.{Service}
use Rattle.bw_model.specs.Sessions.{World}
use Rattle.bw_out.specs.Doors.{Returned}
use Rattle.bw_bringing.specs.Bringing.{Brings}
use Rattle.bw_survival.specs.Restarts.{IsFileOf, file_of}
use Rattle.bw_stable.specs.Deeds.{Deed, MayLeave}
use Rattle.bw_world.specs.Streams.Courses.{Between}
use Rattle.bw_keeping.specs.Answered.{AreAnswered, Exchange, entries_of}
use Rattle.bw_keeping.specs.Kept.{AreKept}
use Rattle.bw_survival.specs.Laws.{AreParted}

-- The file is a journal: of the entries before, of what is kept of the first links, by the pieces that were kept whole, and of the
-- first entries of what is kept of the others. No other link was given back by then but those of which nothing is kept, since the
-- next piece was to be kept before. From the world that these entries bring about, the lost ones bring about the world that all
-- links left.
pub record Survives (formats : List Format) (service : Service) (origin to : World) (start : Start) (before : List Entry) (given : List Returned)
    (exchanges : List Exchange) (done undone : List Deed) (file : List ℕ) : Type 0 where
  pub parts : AreParted (last_sum (sum_at start) before) given exchanges done undone
  pub found : List Entry
  pub lost : List Entry
  pub others_are : entries_of parts.others ≡ found ++ lost
  pub is_file : IsFileOf start (before ++ (entries_of parts.first ++ found)) file
  pub world : World
  pub brings : Brings formats service origin (before ++ (entries_of parts.first ++ found)) world
  pub goes_on : Brings formats service world lost to

-- so it is whenever a crash comes, and whatever it leaves of the piece that was in flight
abbrev pub LinksSurvive : Type 0
LinksSurvive =
    (formats : List Format) (service : Service) (origin : World) (start : Start) (before : List Entry) (from : Between) (links : List (List ℕ))
    (exchanges : List Exchange) (to : Between) (rest : List (List ℕ)) (given : List Returned) (deeds : List Deed) (left : List ℕ)
    → AllByRecursion Fits before → Brings formats service origin before from.world → AreAnswered formats service from links exchanges to rest
    → AreKept (last_sum (sum_at start) before) given exchanges deeds → (may : MayLeave deeds (file_of start before) left)
    → Survives formats service origin to.world start before given exchanges may.done may.undone left
