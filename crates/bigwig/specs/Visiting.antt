-- What a visit of a scripted user comes to.
use Rattle.std.specs.Prelude.{◌≡◌, ◌⊎◌, ℕ, false, List, Option, Some, ⊤}
use Rattle.std.specs.Io.KnownBytes.{Appends}
use Rattle.std.specs.List.{AllByRecursion}
use Rattle.bw_http.specs.Paths.{spelling}
use Rattle.bw_http.specs.declared.replies.Reply.{Reply}
use Rattle.bw_http.specs.declared.request.Path.TheVariants.{Start}
use Rattle.bw_lang.specs.declared.service.Service.{Service}
use Rattle.bw_model.specs.Runs.{answer_of}
use Rattle.bw_model.specs.Sessions.{empty}
use Rattle.bw_out.specs.Told.{Coming}
use Rattle.bw_user.specs.Messages.{get}
use Rattle.bw_visit.specs.Visits.{End, Visits, is_amiss}
use Rattle.bw_visit.specs.declared.script.Script.{Script as CodeScript}
use Rattle.bw_world.specs.Streams.Courses.{IsBroken, Between}
use Rattle.bw_questions.specs.Asked.{Ruled}
use Rattle.bw_questions.specs.Questions.{line}
use Rattle.bigwig.specs.Scripts.{unknown_line}
use Rattle.bw_questions.specs.Asked.{Script}
use Rattle.bigwig.specs.Works.{Outside}
use Rattle.bw_questions.specs.Reports.{Prints}
use Rattle.bw_command.specs.declared.status.Status.{Status}
use Rattle.bw_command.specs.declared.status.Status.TheVariants.{Done, WriteFault, Memory, ScriptRefused}

-- the script that the code holds
abbrev pub script_of : CodeScript → Script
script_of s = record { name = s.name.now; lines = s.lines.now }

-- the status of a visit that ended so: where an answer had no control, a line is still to be printed
abbrev pub IsStatusOf : End → Status → Type 0
IsStatusOf End.Done status = status ≡ Done
IsStatusOf (End.Unknown name) status = (status ≡ ScriptRefused) ⊎ ((status ≡ WriteFault) ⊎ (status ≡ Memory))
IsStatusOf End.Wanted status = status ≡ Memory
IsStatusOf End.Broken status = status ≡ WriteFault

-- the line that says which answer had no control was printed; or a first part of it; or there was no memory for it
abbrev pub SaysUnknown : (name : List ℕ) → (held now : Option (List ℕ)) → Status → Type 0
SaysUnknown name held now status =
    Prints (record { status = ScriptRefused; text = line (unknown_line name) }) held now status ⊎ ((status ≡ Memory) × (now ≡ held))

-- what is printed behind the replies, with the status
abbrev pub TellsEnd : End → (held now : Option (List ℕ)) → Status → Type 0
TellsEnd End.Done held now status = (status ≡ Done) × (now ≡ held)
TellsEnd (End.Unknown name) held now status = SaysUnknown name held now status
TellsEnd End.Wanted held now status = (status ≡ Memory) × (now ≡ held)
TellsEnd End.Broken held now status = (status ≡ WriteFault) × (now ≡ held)

-- The replies were printed, and behind them what the end has to say; where the last one couldn't be printed, a first part of
-- it was.
abbrev pub PrintsVisit : Service → List Reply → (held now : Option (List ℕ)) → Status → End → Type 0
PrintsVisit service replies held now status End.Done = Appends held now (answer_of service replies)
PrintsVisit service replies held now status (End.Unknown name) =
    (printed : Option (List ℕ)) × Appends held printed (answer_of service replies) × SaysUnknown name printed now status
PrintsVisit service replies held now status End.Wanted = Appends held now (answer_of service replies)
PrintsVisit service replies held now status End.Broken = IsBroken service held now replies

-- the keys to come and the steps are those behind the last message; for want of memory this isn't said
abbrev pub AreSpent : Between → Option Coming → ℕ → End → Type 0
AreSpent to keys steps End.Done = (keys ≡ Some to.keys) × (steps ≡ to.steps)
AreSpent to keys steps (End.Unknown name) = (keys ≡ Some to.keys) × (steps ≡ to.steps)
AreSpent to keys steps End.Wanted = ⊤
AreSpent to keys steps End.Broken = (keys ≡ Some to.keys) × (steps ≡ to.steps)

-- A script was followed from there: each reply is that to the message which the reply before and the next line make, and none
-- says that a field is lacking or repeated.
pub record HasVisited (ruled : Ruled) (script : Script) (from : Between) (held now : Option (List ℕ)) (keys : Option Coming) (steps : ℕ)
    (end : End) (status : Status) : Type 0 where
  pub to : Between
  pub replies : List Reply
  pub visits : Visits ruled.formats ruled.service from (get (spelling (Start script.name))) script.lines replies to end
  pub taken : AllByRecursion (λ (r : Reply). is_amiss r ≡ false) replies
  pub prints : PrintsVisit ruled.service replies held now status end
  pub spent : AreSpent to keys steps end

-- A script was followed from the world in which nothing was requested yet. It is said where the keys to come are told.
pub record IsVisited (ruled : Ruled) (script : Script) (before after : Outside) (status : Status) : Type 0 where
  pub end : End
  pub status_is : IsStatusOf end status
  pub visited : (keys : Coming) → before.keys ≡ Some keys
      → HasVisited ruled script (record { world = empty ruled.service; keys = keys; steps = before.steps }) before.printed after.printed after.keys
      after.steps end status
  pub kept : (after.asked ≡ before.asked) × (after.coming ≡ before.coming) × (after.returned ≡ before.returned)
