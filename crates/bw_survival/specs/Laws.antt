-- Laws of links that are served beside a journal.
use Rattle.std.specs.Prelude.{◌≡◌, ℕ, List, ◌++◌}
use Rattle.std.specs.List.{AllByRecursion}
use Rattle.bw_format.specs.declared.format.Format.{Format}
use Rattle.bw_journal.specs.Layout.{Entry, Fits, last_sum}
use Rattle.bw_lang.specs.declared.service.Service.{Service}
use Rattle.bw_out.specs.Doors.{Returned}
use Rattle.bw_bringing.specs.Bringing.{Brings}
use Rattle.bw_survival.specs.Restarts.{Keeps, joined}
use Rattle.bw_stable.specs.Deeds.{Deed}
use Rattle.bw_world.specs.Streams.Courses.{Between}
use Rattle.bw_keeping.specs.Answered.{AreAnswered, Exchange, backs_of, entries_of}
use Rattle.bw_keeping.specs.Kept.{AreKept}

-- what is kept of links that were answered one after another brings about the world that they left
abbrev pub AnsweredBring : Type 0
AnsweredBring =
    (formats : List Format) (service : Service) (from : Between) (links : List (List ℕ)) (exchanges : List Exchange) (to : Between) (rest : List (List ℕ)) →
    AreAnswered formats service from links exchanges to rest → Brings formats service from.world (entries_of exchanges) to.world

-- what is kept of links has bytes
abbrev pub AnsweredFit : Type 0
AnsweredFit =
    (formats : List Format) (service : Service) (from : Between) (links : List (List ℕ)) (exchanges : List Exchange) (to : Between) (rest : List (List ℕ)) →
    AreAnswered formats service from links exchanges to rest → AllByRecursion Fits (entries_of exchanges)

-- these entries are groups, and the deeds kept them one after another
pub record HasGroups (sum : ℕ) (entries : List Entry) (deeds : List Deed) : Type 0 where
  pub groups : List (List Entry)
  pub kept : Keeps sum deeds groups
  pub all : joined groups ≡ entries

-- so it is of all that is kept in pieces
abbrev pub PiecesAreGroups : Type 0
PiecesAreGroups =
    (sum : ℕ) (given : List Returned) (exchanges : List Exchange) (deeds : List Deed) → AreKept sum given exchanges deeds
    → HasGroups sum (entries_of exchanges) deeds

-- the first deeds kept what is kept of the first links, and the others what is kept of those behind them
pub record AreParted (sum : ℕ) (given : List Returned) (exchanges : List Exchange) (done undone : List Deed) : Type 0 where
  pub first : List Exchange
  pub others : List Exchange
  pub all : exchanges ≡ first ++ others
  pub before : AreKept sum given first done
  pub behind : AreKept (last_sum sum (entries_of first)) (given ++ backs_of first) others undone

-- so it is wherever the deeds are parted
abbrev pub KeptInParts : Type 0
KeptInParts =
    (sum : ℕ) (given : List Returned) (exchanges : List Exchange) (done undone : List Deed) → AreKept sum given exchanges (done ++ undone) →
    AreParted sum given exchanges done undone
