-- What one call of the loop did.
-- It only follows the steps of the code: nothing is promised by it.
use Rattle.std.specs.Prelude.{◌≡◌, ◌≢◌, ◌⊎◌, ℕ, List, [], ◌∷◌, ◌++◌, map, Option, None, Some, ⊤}
use Rattle.std.specs.Io.KnownBytes.{Appends}
use Rattle.bw_lang.specs.declared.service.Service.{Service}
use Rattle.bw_out.specs.Causes.{Rose}
use Rattle.bw_out.specs.Doors.{Returned}
use Rattle.bw_out.specs.Writes.{AppendsPart}
use Rattle.bw_out.specs.declared.outside.Channel.{Ghosts}
use Rattle.bw_world.specs.declared.outcomes.Taken.{Taken}
use Rattle.bw_world.specs.declared.outcomes.Taken.TheVariants as takens
use Rattle.bw_stable.specs.Deeds.{Deed, Does, kept}
use Rattle.bw_world.specs.Streams.Courses.{bytes_by}
use Rattle.bw_keeping.specs.declared.ended.Ended.{Ended}
use Rattle.bw_keeping.specs.declared.ended.Ended.TheVariants.{Done, DoorFault, JournalFault}
use Rattle.bw_keeping.specs.declared.waiting.Waiting.{Waiting}
use Rattle.bw_keeping.specs.Written.{written_on}

-- ---- replies

-- the bytes were written, or after a fault, which the count shows, a first part of them
abbrev pub Writes : Option (List ℕ) → Option (List ℕ) → ℕ → ℕ → List ℕ → Type 0
Writes held now faults after bytes = (Appends held now bytes × (after ≡ faults)) ⊎ (AppendsPart held now bytes × Rose faults after)

-- so on a link, of which nothing was read
pub record IsSent {Link : Type 0} (channel : Ghosts Link) (before now : Link) (bytes : List ℕ) : Type 0 where
  pub writes : Writes (channel.held before) (channel.held now) (channel.write_faults before) (channel.write_faults now) bytes
  pub left : channel.left now ≡ channel.left before
  pub read_faults : channel.read_faults now ≡ channel.read_faults before

-- the reply that is due was sent, if one is
abbrev pub Replies : {Link : Type 0} → Ghosts Link → Service → Link → Link → Taken → Type 0
Replies channel service before now takens.End = now ≡ before
Replies channel service before now takens.ReadFault = now ≡ before
Replies channel service before now (takens.Refused reply) = IsSent channel before now (bytes_by service reply)
Replies channel service before now (takens.Answered reply) = IsSent channel before now (bytes_by service reply)

-- what is told of a link that is given back
abbrev pub back_of : {Link : Type 0} → Ghosts Link → Link → Returned
back_of channel link = record {
  unread = channel.left link;
  written = channel.held link;
  read_faults = channel.read_faults link;
  write_faults = channel.write_faults link;
}

-- links were sent their replies and given back, one after another
abbrev pub AreReplied : {Link : Type 0} → Ghosts Link → Service → List (Waiting Link) → List Returned → Type 0
AreReplied channel service [] backs = backs ≡ []
AreReplied {Link} channel service (w ∷ ws) backs =
    (now : Link) × (more : List Returned) × Replies channel service w.link now w.taken × (backs ≡ back_of channel now ∷ more)
    × AreReplied channel service ws more

-- what is told of links that wait, where they are given back as they are
abbrev pub unanswered : {Link : Type 0} → Ghosts Link → List (Waiting Link) → List Returned
unanswered channel ws = map (λ w. back_of channel w.link) ws

-- links were given back, after those before them
abbrev pub GivesBackAll : Option (List Returned) → Option (List Returned) → List Returned → Type 0
GivesBackAll None now backs = ⊤
GivesBackAll (Some given) now backs = now ≡ Some (given ++ backs)

-- ---- keeping

-- what a flush changes: the links given back, what was done to the journal, the bytes that are to be kept with the check
-- behind them, and the links that wait
pub record Desk (Link : Type 0) : Type 0 where
  pub returned : Option (List Returned)
  pub deeds : Option (List Deed)
  pub bytes : List ℕ
  pub sum : ℕ
  pub waiting : List (Waiting Link)

abbrev pub desk : {Link : Type 0} → Option (List Returned) → Option (List Deed) → List ℕ → ℕ → List (Waiting Link) → Desk Link
desk returned deeds bytes sum waiting = record { returned = returned; deeds = deeds; bytes = bytes; sum = sum; waiting = waiting }

-- what is written on links that wait
abbrev pub written : {Link : Type 0} → Ghosts Link → List (Waiting Link) → Option (List ℕ)
written channel ws = written_on channel.held (map (λ w. w.link) ws)

-- the bytes were kept in one piece, if there are some
abbrev pub Keeps : Option (List Deed) → Option (List Deed) → List ℕ → Option (List Returned) → Option (List ℕ) → Type 0
Keeps before now bytes returned unsent = ((bytes ≡ []) × (now ≡ before)) ⊎ ((bytes ≢ []) × Does before now (kept bytes returned unsent))

-- what was to be kept was kept, and then the links that waited were sent their replies and given back
pub record Flushes {Link : Type 0} (channel : Ghosts Link) (service : Service) (before now : Desk Link) : Type 0 where
  pub keeps : Keeps before.deeds now.deeds before.bytes before.returned (written channel before.waiting)
  pub backs : List Returned
  pub replied : AreReplied channel service before.waiting backs
  pub returned : GivesBackAll before.returned now.returned backs
  pub bytes : now.bytes ≡ []
  pub sum : now.sum ≡ before.sum
  pub waiting : now.waiting ≡ []

-- nothing was kept, and the links that waited were given back as they were
pub record Closes {Link : Type 0} (channel : Ghosts Link) (before now : Desk Link) : Type 0 where
  pub deeds : now.deeds ≡ before.deeds
  pub returned : GivesBackAll before.returned now.returned (unanswered channel before.waiting)
  pub waiting : now.waiting ≡ []

-- how serving ended, where no further link is waited for: what waited was flushed, or the journal failed
abbrev pub Finishes : {Link : Type 0} → Ghosts Link → Service → Desk Link → Desk Link → Ended → Type 0
Finishes channel service before now Done = Flushes channel service before now
Finishes channel service before now DoorFault = ⊥
Finishes channel service before now JournalFault = Closes channel before now
