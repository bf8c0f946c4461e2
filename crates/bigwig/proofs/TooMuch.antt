-- What is too much to be saved, and with which statuses saving ends.
use Rattle.std.proofs.Common.{◌≡◌, ◌⊎◌, ℕ, zero, suc, Bool, true, false, List, Option, Some, refl, sym, ◌∙◌, ap, subst, inl, inr}
use Rattle.bw_keeping.specs.declared.ended.Ended.{Ended}
use Rattle.bw_keeping.specs.declared.ended.Ended.TheVariants as ended
use Rattle.bw_keeping.specs.declared.ended.StreamEnded.{StreamEnded}
use Rattle.bw_keeping.specs.declared.ended.StreamEnded.TheVariants as streamed
use Rattle.bw_model.specs.Sessions.{World}
use Rattle.bw_world.specs.declared.ends.StreamEnd.{StreamEnd}
use Rattle.bw_world.specs.declared.ends.StreamEnd.TheVariants as ends
use Rattle.bw_world.specs.Seen.{Seen}
use Rattle.bw_questions.specs.Asked.{Ruled, Task, Work}
use Rattle.bw_questions.specs.Asked.Task.{to_answer, to_save, to_serve}
use Rattle.bw_questions.specs.Asked.Work.{prints, replays, serves, keeps, freezes, visits}
use Rattle.bigwig.specs.Freezing.{FreezesAt, IsFrozen}
use Rattle.bigwig.specs.Freezing.IsFrozen.{saved, too_long, no_memory as no_room}
use Rattle.bigwig.specs.Keeping.{AnswersEndWith, EndsWith, Follows, IsKept, sum_behind}
use Rattle.bigwig.specs.Keeping.IsKept.{stopped, refused, failed, half_begun, begun, renewed, preserved}
use Rattle.bigwig.specs.Keeping.Keeps.{no_port as keep_no_port, no_line as keep_no_line, links_served as keep_links_served}
use Rattle.bigwig.specs.Laws.{Saves, SavesAreRefused}
use Rattle.bigwig.specs.Laws.Saves.{requests, journal}
use Rattle.bigwig.specs.Outcomes.{IsDone}
use Rattle.bigwig.specs.Outcomes.Comes.{said, done, read_fault, no_memory}
use Rattle.bw_questions.specs.Questions.{Said}
use Rattle.bigwig.specs.Works.{Outside, IsSaid, IsServing, status_of}
use Rattle.bigwig.specs.Works.IsServing.{no_port, no_line, links_served}
use Rattle.bw_command.specs.declared.status.Status.{Status}
use Rattle.bw_command.specs.declared.status.Status.TheVariants.{Done, ReadFault, WriteFault, DoorFault, Memory, SaveRefused, JournalFault, ScriptRefused}
use Rattle.bigwig.proofs.Refusals.{never_said}
use Rattle.bigwig.proofs.VisitEnds.{visit_status}

-- ---- saving what waits

-- none of the statuses of saving is meant
pub record IsNone (is_meant : Status → Bool) : Type 0 where
  pub at_done : is_meant Done ≡ false
  pub at_read : is_meant ReadFault ≡ false
  pub at_write : is_meant WriteFault ≡ false
  pub at_memory : is_meant Memory ≡ false
  pub at_save : is_meant SaveRefused ≡ false

neither : (b : Bool) → b ≡ false → b ≡ true → ⊥
neither b isnt is = cc

not_meant : (is_meant : Status → Bool) (s t : Status) → is_meant t ≡ false → s ≡ t → is_meant s ≡ true → ⊥
not_meant is_meant s t other e meant = neither (is_meant s) (ap is_meant e ∙ other) meant

pub frozen_not : (is_meant : Status → Bool) (text : List ℕ) (seen : Seen) (held now : Option (List ℕ)) (s : Status) → IsFrozen text seen held now s
    → IsNone is_meant → is_meant s ≡ true → ⊥
frozen_not is_meant text seen held now s (saved fits (inl p)) n = not_meant is_meant s Done n.at_done p.0
frozen_not is_meant text seen held now s (saved fits (inr p)) n = not_meant is_meant s WriteFault n.at_write p.0
frozen_not is_meant text seen held now s (too_long filled more (inl p)) n = not_meant is_meant s SaveRefused n.at_save p.0
frozen_not is_meant text seen held now s (too_long filled more (inr p)) n = not_meant is_meant s WriteFault n.at_write p.0
frozen_not is_meant text seen held now s (no_room e k) n = not_meant is_meant s Memory n.at_memory e

pub freezes_not : (is_meant : Status → Bool) (text : List ℕ) (seen : Seen) (end : StreamEnd) (held now : Option (List ℕ)) (s : Status)
    → FreezesAt text seen end held now s → IsNone is_meant → is_meant s ≡ true → ⊥
freezes_not is_meant text seen (ends.Ended zero) held now s f n = frozen_not is_meant text seen held now s f n
freezes_not is_meant text seen (ends.Ended (suc k)) held now s f n = not_meant is_meant s Memory n.at_memory f.0
freezes_not is_meant text seen ends.ReadFault held now s f n = not_meant is_meant s ReadFault n.at_read f.0
freezes_not is_meant text seen ends.WriteFault held now s f n = absurd f

-- ---- what is too much to be saved

abbrev is_too_much : Status → Bool
is_too_much SaveRefused = true
is_too_much status = false

serving_not : (ruled : Ruled) (from : World) (port most : ℕ) (before after : Outside) (s : Status) → IsServing ruled from port most before after s
    → is_too_much s ≡ true → ⊥
serving_not ruled from port most before after s (no_port e m k) = not_meant is_too_much s DoorFault refl e
serving_not ruled from port most before after s (no_line e a p k) = not_meant is_too_much s WriteFault refl e
serving_not ruled from port most before after s (links_served (inl e) a p l) = not_meant is_too_much s Done refl e
serving_not ruled from port most before after s (links_served (inr e) a p l) = not_meant is_too_much s DoorFault refl e

said_not : (x : Said) (before after : Outside) (s : Status) → IsSaid x before after s → is_too_much x.status ≡ false → is_too_much s ≡ true → ⊥
said_not x before after s i other = elim i.prints [
  | inl p ↦ not_meant is_too_much s x.status other p.0
  | inr p ↦ not_meant is_too_much s WriteFault refl p.0
]

stream_not : (end : StreamEnd) → is_too_much (status_of end) ≡ false
stream_not (ends.Ended n) = refl
stream_not ends.ReadFault = refl
stream_not ends.WriteFault = refl

links_not : (held now : Option (List ℕ)) (end : Ended) (s : Status) → EndsWith held now end s → is_too_much s ≡ true → ⊥
links_not held now ended.Done s e = not_meant is_too_much s Done refl e.0
links_not held now ended.DoorFault s e = not_meant is_too_much s DoorFault refl e.0
links_not held now ended.JournalFault s (inl e) = not_meant is_too_much s JournalFault refl e.0
links_not held now ended.JournalFault s (inr e) = not_meant is_too_much s WriteFault refl e.0

requests_not : (held now : Option (List ℕ)) (end : StreamEnded) (s : Status) → AnswersEndWith held now end s → is_too_much s ≡ true → ⊥
requests_not held now (streamed.Ended n) s e = not_meant is_too_much s Done refl e.0
requests_not held now streamed.ReadFault s e = not_meant is_too_much s ReadFault refl e.0
requests_not held now streamed.WriteFault s e = not_meant is_too_much s WriteFault refl e.0
requests_not held now streamed.JournalFault s (inl e) = not_meant is_too_much s JournalFault refl e.0
requests_not held now streamed.JournalFault s (inr e) = not_meant is_too_much s WriteFault refl e.0

follows_not : (ruled : Ruled) (task : Task) (world : World) (sum : ℕ) (before after : Outside) (s : Status) → Follows ruled task world sum before after s
    → is_too_much s ≡ true → ⊥
follows_not ruled (to_serve port most rotate) world sum before after s (keep_no_port e m l) = not_meant is_too_much s DoorFault refl e
follows_not ruled (to_serve port most rotate) world sum before after s (keep_no_line e a p l) = not_meant is_too_much s WriteFault refl e
follows_not ruled (to_serve port most rotate) world sum before after s (keep_links_served printed end a p e l) = links_not printed after.printed end s e
follows_not ruled (to_answer stream most) world sum before after s r = requests_not r.printed after.printed r.end s r.ends
follows_not ruled to_save world sum before after s r = absurd r

-- what a journal brings about is to be saved, where it is too much
kept_saves : (ruled : Ruled) (text content : List ℕ) (task : Task) (before after : Outside) (s : Status) → IsKept ruled text content task before after s
    → is_too_much s ≡ true → task ≡ to_save
kept_saves ruled text content task before after s (stopped (inl e) k u) m = absurd (not_meant is_too_much s ReadFault refl e m)
kept_saves ruled text content task before after s (stopped (inr e) k u) m = absurd (not_meant is_too_much s Memory refl e m)
kept_saves ruled text content task before after s (refused why r i u) m = absurd (said_not _ _ after s i refl m)
kept_saves ruled text content task before after s (failed n i u) m = absurd (said_not _ _ after s i refl m)
kept_saves ruled text content task before after s (half_begun n all w f i) m = absurd (said_not _ _ after s i refl m)
kept_saves ruled text content task before after s (begun f w mid h l k o follows) m =
    absurd (follows_not ruled task w (sum_behind text f) mid after s follows m)
kept_saves ruled text content task before after s (renewed len sum w seen mid h l b k o follows) m =
    absurd (follows_not ruled task w _ mid after s follows m)
kept_saves ruled text content task before after s (preserved f w seen is h e st fr k u) m = is

visit_not : (s : Status) → (s ≡ Done) ⊎ ((s ≡ ScriptRefused) ⊎ ((s ≡ WriteFault) ⊎ (s ≡ Memory))) → is_too_much s ≡ true → ⊥
visit_not s (inl e) m = not_meant is_too_much s Done refl e m
visit_not s (inr (inl e)) m = not_meant is_too_much s ScriptRefused refl e m
visit_not s (inr (inr (inl e))) m = not_meant is_too_much s WriteFault refl e m
visit_not s (inr (inr (inr e))) m = not_meant is_too_much s Memory refl e m

saving_work : (work : Work) (before after : Outside) (s : Status) → IsDone work before after s → is_too_much s ≡ true → Saves work
saving_work (prints text) before after s d m = absurd (said_not _ before after s d refl m)
saving_work (replays ruled from stream most) before after s d m = absurd (not_meant is_too_much s (status_of d.0.end) (stream_not d.0.end) d.0.status_is m)
saving_work (serves ruled from port most) before after s d m = absurd (serving_not ruled from port most before after s d.0 m)
saving_work (keeps ruled text content task) before after s d m =
    subst (λ t. Saves (keeps ruled text content t)) (sym (kept_saves ruled text content task before after s d m)) (journal ruled text content)
saving_work (freezes ruled from text stream most) before after s d m = requests ruled from text stream most
saving_work (visits ruled script) before after s d m = absurd (visit_not s (visit_status d.0.end s d.0.status_is) m)

pub saves_are_refused : SavesAreRefused
saves_are_refused words disk before after (said x p i) =
    absurd (elim i.prints [
      | inl y ↦ never_said words disk x SaveRefused refl p y.0
      | inr y ↦ not_meant is_too_much SaveRefused WriteFault refl y.0 refl
    ])
saves_are_refused words disk before after (done w p d) = (w, p, saving_work w before after SaveRefused d refl)
saves_are_refused words disk before after (read_fault e k) = absurd (not_meant is_too_much SaveRefused ReadFault refl e refl)
saves_are_refused words disk before after (no_memory e k) = absurd (not_meant is_too_much SaveRefused Memory refl e refl)
