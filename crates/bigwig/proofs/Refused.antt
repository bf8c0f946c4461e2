-- A script is refused only where its file has none, or an answer in it has no control.
use Rattle.std.proofs.Common.{◌≡◌, ◌⊎◌, List, ℕ, refl, sym, inl, inr}
use Rattle.bw_out.specs.Told.{Disk}
use Rattle.bw_questions.specs.Asked.{Work}
use Rattle.bigwig.specs.Asked.{asked}
use Rattle.bigwig.specs.Laws.{IsUnanswered, ScriptsAreRefused}
use Rattle.bigwig.specs.Outcomes.Comes.{said, done, read_fault, no_memory}
use Rattle.bw_questions.specs.Questions.{Said}
use Rattle.bw_command.specs.declared.status.Status.TheVariants.{Done, ReadFault, WriteFault, Memory, ScriptRefused}
use Rattle.bigwig.proofs.Due.{done_or_fault, unanswered}
use Rattle.bigwig.proofs.VisitEnds.{IsEnd, not_free}

by_work : (words : List (List ℕ)) (disk : Disk) (work : Work) → (asked words disk).gives work → IsEnd work ScriptRefused
    → ((said : Said) × (asked words disk).says said × (said.status ≡ ScriptRefused)) ⊎ IsUnanswered words disk ScriptRefused
by_work words disk work g (inl e) = absurd (let f : ScriptRefused ≡ Done = e in cc)
by_work words disk work g (inr (inl f)) = absurd (not_free f)
by_work words disk work g (inr (inr u)) = inr (unanswered words disk work ScriptRefused g u)

pub scripts_are_refused : ScriptsAreRefused
scripts_are_refused words disk before after (said x p i) = elim i.prints [
  | inl y ↦ inl (x, p, sym y.0)
  | inr y ↦ absurd (let f : ScriptRefused ≡ WriteFault = y.0 in cc)
]
scripts_are_refused words disk before after (done w p d) = by_work words disk w p (done_or_fault w before after ScriptRefused d)
scripts_are_refused words disk before after (read_fault e k) = absurd (let f : ScriptRefused ≡ ReadFault = e in cc)
scripts_are_refused words disk before after (no_memory e k) = absurd (let f : ScriptRefused ≡ Memory = e in cc)
