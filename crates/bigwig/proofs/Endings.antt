-- What comes of the work, and of the questions before it.
use Rattle.std.proofs.Common.{ℕ, List, Option, None, Some, IfSome, ◌≡◌, refl, sym, ap, subst, inl, inr}
use Rattle.bw_out.specs.Told.{Disk}
use Rattle.bw_questions.specs.Asked.{Work, command, usage_line}
use Rattle.bigwig.specs.Asked.{work, asked}
use Rattle.bw_questions.specs.Asked.Work.{prints}
use Rattle.bw_command.specs.Commands.{command_of}
use Rattle.bigwig.specs.Outcomes.{Comes, Speaks}
use Rattle.bigwig.specs.Works.{Outside}
use Rattle.bw_questions.specs.Reports.{Prints}
use Rattle.bigwig.specs.Outcomes.Comes.{said, done, read_fault, no_memory}
use Rattle.bw_questions.specs.Questions.{Question, ◌>>=◌, IsStop}
use Rattle.bw_questions.specs.Reports.{IsReported}
use Rattle.bw_command.specs.declared.command.Command.{Command}
use Rattle.bw_command.specs.declared.status.Status.{Status}
use Rattle.bw_command.specs.declared.status.Status.TheVariants as status
use Rattle.bw_questions.specs.declared.stop.Stop.{Stop}
use Rattle.bw_questions.specs.declared.stop.Stop.TheVariants as stop

-- ---- questions, and what comes of them

-- what comes of the second question comes of both
pub comes_then : {A : Type 0} (q : Question A) (next : A → Question Work) (a : A) (before after : Outside) (r : Status) → q.gives a
    → Comes (next a) before after r → Comes (q >>= next) before after r
comes_then q next a before after r g (said s p i) = said s (inr (a, g, p)) i
comes_then q next a before after r g (done w p d) = done w (a, g, p) d
comes_then q next a before after r g (read_fault e k) = read_fault e k
comes_then q next a before after r g (no_memory e k) = no_memory e k

-- the code stopped at one of the questions, and reported it
pub stopped_so : (q : Question Work) (s : Stop) (held now : Option (List ℕ)) (r : Status) → IsStop q s → IsReported s held now r → Speaks q held now r
stopped_so q (stop.Says refusal text) held now r i p o unread = said _ i (record { prints = p; kept = refl })
stopped_so q stop.ReadFault held now r i p o unread =
    read_fault p.0 (ap (λ (h : Option (List ℕ)). let x : Outside = record o { printed = h; unread = unread } in x) p.1)
stopped_so q stop.Memory held now r i p o unread =
    no_memory p.0 (ap (λ (h : Option (List ℕ)). let x : Outside = record o { printed = h; unread = unread } in x) p.1)

pub stopped_speaks : (told : Option Disk) (q : Disk → Question Work) (s : Stop) (held now : Option (List ℕ)) (r : Status)
    → IfSome told (λ d. IsStop (q d) s) → IsReported s held now r → IfSome told (λ d. Speaks (q d) held now r)
stopped_speaks None q s held now r i p = tt
stopped_speaks (Some d) q s held now r i p = stopped_so (q d) s held now r i p

-- the questions led to a text, and it was printed
pub text_so : (q : Question Work) (text : List ℕ) (held now : Option (List ℕ)) (r : Status) → q.gives (prints text)
    → Prints (record { status = status.Done; text = text }) held now r → Speaks q held now r
text_so q text held now r g p o unread = done (prints text) g (record { prints = p; kept = refl })

pub text_speaks : (told : Option Disk) (q : Disk → Question Work) (text : List ℕ) (held now : Option (List ℕ)) (r : Status)
    → IfSome told (λ d. (q d).gives (prints text)) → Prints (record { status = status.Done; text = text }) held now r
    → IfSome told (λ d. Speaks (q d) held now r)
text_speaks None q text held now r g p = tt
text_speaks (Some d) q text held now r g p = text_so (q d) text held now r g p

-- ---- the words

-- what was only printed is all that comes
pub speaks_comes : (told : Option Disk) (q : Disk → Question Work) (held now : Option (List ℕ)) (r : Status) (o : Outside) (unread : Option (List ℕ))
    → IfSome told (λ d. Speaks (q d) held now r)
    → IfSome told (λ d. Comes (q d) (record o { printed = held }) (record o { printed = now; unread = unread }) r)
speaks_comes None q held now r o unread s = tt
speaks_comes (Some d) q held now r o unread s = s o unread

-- the work is that of this command
pub of_command : (told : Option Disk) (c d : Command) (before after : Outside) (r : Status) → c ≡ d
    → IfSome told (λ disk. Comes (work disk d) before after r) → IfSome told (λ disk. Comes (work disk c) before after r)
of_command told c d before after r e h = subst (λ x. IfSome told (λ disk. Comes (work disk x) before after r)) (sym e) h

-- the words give this command
pub words_come : (told : Option Disk) (words : List (List ℕ)) (c : Command) (before after : Outside) (r : Status) → command_of words ≡ Some c
    → IfSome told (λ disk. Comes (work disk c) before after r) → IfSome told (λ disk. Comes (asked words disk) before after r)
words_come None words c before after r e h = tt
words_come (Some disk) words c before after r e h = comes_then (command words) (work disk) c before after r e h

-- the words are refused
pub usage_comes : (told : Option Disk) (words : List (List ℕ)) (held now : Option (List ℕ)) (r : Status) (o : Outside) (unread : Option (List ℕ))
    → command_of words ≡ None → Prints (record { status = status.Usage; text = usage_line }) held now r
    → IfSome told (λ disk. Comes (asked words disk) (record o { printed = held }) (record o { printed = now; unread = unread }) r)
usage_comes None words held now r o unread e p = tt
usage_comes (Some disk) words held now r o unread e p =
    said (record { status = status.Usage; text = usage_line }) (inl (e, refl)) (record { prints = p; kept = refl })

-- there was no memory for the words
pub memory_comes : (told : Option Disk) (words : List (List ℕ)) (o : Outside) (unread : Option (List ℕ))
    → IfSome told (λ disk. Comes (asked words disk) o (record o { unread = unread }) status.Memory)
memory_comes None words o unread = tt
memory_comes (Some disk) words o unread = no_memory refl refl
