-- How a visit went, as the code answers it.
use Rattle.std.specs.Prelude.{◌<◌, ℕ, List, length, Option, ⊤}
use Rattle.std.specs.Io.KnownBytes.{Appends}
use Rattle.bw_format.specs.declared.format.Format.{Format}
use Rattle.bw_http.specs.declared.replies.Reply.{Reply}
use Rattle.bw_lang.specs.declared.service.Service.{Service}
use Rattle.bw_model.specs.Runs.{answer_of}
use Rattle.bw_world.specs.Streams.Courses.{IsBroken, Between}
use Rattle.bw_visit.specs.Exchanges.{Standing, IsBetween}
use Rattle.bw_visit.specs.Scripts.{AreLines}
use Rattle.bw_visit.specs.Visits.{End, Done, Unknown, Wanted, Broken, Visits}
use Rattle.bw_visit.specs.declared.visiting.Turned.{Turned}
use Rattle.bw_visit.specs.declared.visiting.Turned.TheVariants as turns
use Rattle.bw_visit.specs.declared.visiting.VisitEnd.{VisitEnd}
use Rattle.bw_visit.specs.declared.visiting.VisitEnd.TheVariants as ends

abbrev pub end_of : VisitEnd → End
end_of ends.Done = Done
end_of (ends.Unknown name) = Unknown name
end_of ends.WriteFault = Broken
end_of ends.Memory = Wanted

-- the replies are printed, the last one in a first part where it broke
abbrev pub Prints : Service → (held now : Option (List ℕ)) → List Reply → VisitEnd → Type 0
Prints service held now replies ends.Done = Appends held now (answer_of service replies)
Prints service held now replies (ends.Unknown name) = Appends held now (answer_of service replies)
Prints service held now replies ends.WriteFault = IsBroken service held now replies
Prints service held now replies ends.Memory = Appends held now (answer_of service replies)

-- where the code stands afterwards; for want of memory this is not said
abbrev pub StandsAt : Standing → Between → VisitEnd → Type 0
StandsAt new to ends.Done = IsBetween new to
StandsAt new to (ends.Unknown name) = IsBetween new to
StandsAt new to ends.WriteFault = IsBetween new to
StandsAt new to ends.Memory = ⊤

-- a visit was made from this message on, and its replies were printed
pub record IsVisited (formats : List Format) (service : Service) (from : Between) (message lines : List ℕ) (new : Standing) (held now : Option (List ℕ))
    (end : VisitEnd) : Type 0 where
  pub to : Between
  pub replies : List Reply
  pub visits : Visits formats service from message lines replies to (end_of end)
  pub stands : StandsAt new to end
  pub prints : Prints service held now replies end

-- so from wherever the code stood
abbrev pub Visited : (message lines : List ℕ) → (old new : Standing) → (held now : Option (List ℕ)) → VisitEnd → Type 0
Visited message lines old new held now end =
    (from : Between) → IsBetween old from → IsVisited old.formats old.seen.service from message lines new held now end

-- What was made of one message: the visit that it ends; or each visit from there on makes one from here on.
abbrev pub IsTurned : (message lines : List ℕ) → (old : Standing) → (later : List ℕ) → (mid : Standing) → (held after : Option (List ℕ)) → Turned → Type 0
IsTurned message lines old later mid held after (turns.Goes rest) =
    (new : Standing) (now : Option (List ℕ)) (end : VisitEnd) → Visited later rest.now mid new after now end → Visited message lines old new held now end
IsTurned message lines old later mid held after (turns.Ended end) = Visited message lines old mid held after end

-- it goes on with lines that are shorter, and a message that isn't empty
abbrev pub GoesOn : (lines message : List ℕ) → Turned → Type 0
GoesOn lines message (turns.Goes rest) = (length rest.now < length lines) × AreLines rest.now × (0 < length message)
GoesOn lines message (turns.Ended end) = ⊤
