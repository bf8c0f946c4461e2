-- Links that were answered and given back, over one world, and what is kept of them.
use Rattle.std.specs.Prelude.{◌≡◌, ◌⊎◌, ◌+◌, ℕ, List, [], ◌∷◌, ◌++◌, map, Some}
use Rattle.bw_format.specs.declared.format.Format.{Format}
use Rattle.bw_http.specs.Messages.{IsShort}
use Rattle.bw_http.specs.declared.replies.Reply.{Reply}
use Rattle.bw_journal.specs.Layout.{Entry}
use Rattle.bw_lang.specs.declared.service.Service.{Service}
use Rattle.bw_model.specs.Runs.{Run}
use Rattle.bw_out.specs.Causes.{Shows}
use Rattle.bw_out.specs.Doors.{Returned}
use Rattle.bw_keeping.specs.Entering.{IsEntered}
use Rattle.bw_world.specs.Streams.Courses.{AreLeft, Course, Between, begins}
use Rattle.bw_world.specs.declared.ends.StreamEnd.{StreamEnd}
use Rattle.bw_world.specs.declared.ends.StreamEnd.TheVariants.{ReadFault, WriteFault}

-- A link that had these bytes was answered and given back, by a run of at most one message. What follows the message is
-- `rest`, of which some bytes were taken. A fault is what the counts of the link show. What is kept of it are these entries.
pub record IsAnswered (formats : List Format) (service : Service) (from : Between) (bytes : List ℕ) (back : Returned) (to : Between)
    (entries : List Entry) : Type 0 where
  pub rest : List ℕ
  pub taken : List ℕ
  pub cost : ℕ
  pub end : StreamEnd
  pub course : Course formats service 1 (begins from bytes) (begins to rest) (Some []) back.written taken cost end
  pub unhandled : AreLeft taken back.unread rest
  pub steps : to.steps ≡ from.steps + cost
  pub entered : IsEntered formats service (begins from bytes) (begins to rest) entries
  pub read_fault : Shows (end ≡ ReadFault) 0 back.read_faults
  pub write_fault : Shows (end ≡ WriteFault) 0 back.write_faults

-- a link that was answered and given back, and what is kept of it
pub record Exchange : Type 0 where
  pub back : Returned
  pub entries : List Entry

-- links were answered and given back in the order in which they came, over one world; the rest is to come
abbrev pub AreAnswered : List Format → Service → Between → List (List ℕ) → List Exchange → Between → List (List ℕ) → Type 0
AreAnswered formats service from links [] to rest = (to ≡ from) × (rest ≡ links)
AreAnswered formats service from links (x ∷ xs) to rest =
    (bytes : List ℕ) × (more : List (List ℕ)) × (mid : Between) × (links ≡ bytes ∷ more) × IsAnswered formats service from bytes x.back mid x.entries
    × AreAnswered formats service mid more xs to rest

-- A link that had these bytes was given back without a byte: its message was handled or refused, if there was one, and no reply
-- sent; or a read failed before it was whole. What follows it is `rest`, of which some bytes were taken.
pub record IsUnanswered (formats : List Format) (service : Service) (from : Between) (bytes : List ℕ) (back : Returned) (to : Between) : Type 0 where
  pub rest : List ℕ
  pub taken : List ℕ
  pub replies : List Reply
  pub cost : ℕ
  pub came : Run formats service 1 (begins from bytes) replies cost (begins to rest)
      ⊎ ((begins to rest ≡ begins from bytes) × IsShort taken × (cost ≡ 0))
  pub unhandled : AreLeft taken back.unread rest
  pub steps : to.steps ≡ from.steps + cost
  pub none : back.written ≡ Some []

-- so it is of links that came one after another; the rest is to come
abbrev pub AreClosed : List Format → Service → Between → List (List ℕ) → List Returned → Between → List (List ℕ) → Type 0
AreClosed formats service from links [] to rest = (to ≡ from) × (rest ≡ links)
AreClosed formats service from links (back ∷ backs) to rest =
    (bytes : List ℕ) × (more : List (List ℕ)) × (mid : Between) × (links ≡ bytes ∷ more) × IsUnanswered formats service from bytes back mid
    × AreClosed formats service mid more backs to rest

-- what is kept of all of them, in order
abbrev pub entries_of : List Exchange → List Entry
entries_of [] = []
entries_of (x ∷ xs) = x.entries ++ entries_of xs

-- what is told of them as they were given back
abbrev pub backs_of : List Exchange → List Returned
backs_of xs = map (λ x. x.back) xs
