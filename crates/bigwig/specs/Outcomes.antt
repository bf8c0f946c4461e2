-- What the program comes to: its status, and what is then printed, drawn and given back.
use Rattle.std.specs.Prelude.{◌≡◌, ℕ, List, Option}
use Rattle.bw_out.specs.Told.{Coming}
use Rattle.bw_questions.specs.Asked.{Work}
use Rattle.bw_questions.specs.Asked.Work.{prints, replays, serves, keeps, freezes, visits}
use Rattle.bigwig.specs.Freezing.{IsFreezing}
use Rattle.bigwig.specs.Keeping.{IsKept}
use Rattle.bw_questions.specs.Questions.{Said, Question}
use Rattle.bigwig.specs.Visiting.{IsVisited}
use Rattle.bigwig.specs.Works.{Outside, IsReplayed, IsSaid, IsServing}
use Rattle.bw_command.specs.declared.status.Status.{Status}
use Rattle.bw_command.specs.declared.status.Status.TheVariants.{Done, ReadFault, Memory}

-- what comes of the work
abbrev pub IsDone : Work → Outside → Outside → Status → Type 0
IsDone (prints text) before after status = IsSaid (record { status = Done; text = text }) before after status
IsDone (replays ruled from stream most) before after status = IsReplayed ruled from stream most before after status × (after.deeds ≡ before.deeds)
IsDone (serves ruled from port most) before after status = IsServing ruled from port most before after status × (after.deeds ≡ before.deeds)
IsDone (keeps ruled text content task) before after status = IsKept ruled text content task before after status
IsDone (freezes ruled from text stream most) before after status =
    IsFreezing ruled from text stream most before after status × (after.deeds ≡ before.deeds)
IsDone (visits ruled script) before after status = IsVisited ruled script before after status × (after.deeds ≡ before.deeds)

-- What comes of the questions. What is said is printed; or the work is done; or, after a read fault or for want of
-- memory, nothing has changed, but for the files that were read.
pub data Comes (question : Question Work) (before after : Outside) (status : Status) : Type 0 where
  said : (what : Said) → question.says what → IsSaid what before after status → Comes question before after status
  done : (work : Work) → question.gives work → IsDone work before after status → Comes question before after status
  read_fault : status ≡ ReadFault → after ≡ record before { unread = after.unread } → Comes question before after status
  no_memory : status ≡ Memory → after ≡ record before { unread = after.unread } → Comes question before after status

-- the same, of code that only prints
abbrev pub Speaks : Question Work → Option (List ℕ) → Option (List ℕ) → Status → Type 0
Speaks question held now status =
    (o : Outside) (unread : Option (List ℕ)) → Comes question (record o { printed = held }) (record o { printed = now; unread = unread }) status

-- the same, of code that answers on `out`
abbrev pub Replies : Question Work → Option (List ℕ) → Option (List ℕ) → Option Coming → Option Coming → Option (List ℕ) → ℕ → ℕ → Status → Type 0
Replies question held now keys later unread steps after status =
    (o : Outside) → Comes question (record o { printed = held; keys = keys; steps = steps })
    (record o { printed = now; keys = later; unread = unread; steps = after }) status
