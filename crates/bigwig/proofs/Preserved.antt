-- What a journal brings about is saved.
use Rattle.std.proofs.Common.{◌≡◌, ◌∙◌, ℕ, List, Option, None, Some, IfSome, refl, sym, subst, inl}
use Rattle.bw_format.specs.declared.format.Format.{Format}
use Rattle.bw_lang.specs.declared.service.Service.{Service}
use Rattle.bw_out.specs.Told.{Disk}
use Rattle.bw_world.specs.Seen.{Seen}
use Rattle.bw_questions.specs.Asked.{Ruled, Task}
use Rattle.bw_questions.specs.Asked.Task.{to_save}
use Rattle.bw_questions.specs.Behind.{content_of}
use Rattle.bw_questions.specs.Checks.{IsRuled}
use Rattle.bw_questions.specs.Reports.{IsReported}
use Rattle.bw_command.specs.declared.status.Status.{Status}
use Rattle.bw_questions.specs.declared.stop.Stop.{Stop}
use Rattle.bigwig.specs.Finding.{IsFoundIn, IsRefusedBy, recalled_of}
use Rattle.bigwig.specs.Freezing.{IsFrozen}
use Rattle.bigwig.specs.Keeping.{Holds, IsKept}
use Rattle.bigwig.specs.Keeping.IsKept.{preserved}
use Rattle.bigwig.specs.Works.{Outside}
use Rattle.bigwig.specs.declared.bringing.Found.{Found}
use Rattle.bigwig.proofs.Beside.{stopped_kept}

-- the program stopped at the journal
pub save_stopped : (told : Option Disk) (service : Service) (formats : List Format) (name text given : List ℕ) (o : Outside)
    (unread printed : Option (List ℕ)) (steps : ℕ) (why : Stop) (s : Status) → given ≡ text
    → IfSome told (λ disk. (ruled : Ruled) → IsRuled service formats ruled → IsRefusedBy ruled given (content_of (disk name)) why)
    → IsReported why o.printed printed s
    → IfSome told (λ disk. (ruled : Ruled) → IsRuled service formats ruled
    → IsKept ruled text (content_of (disk name)) to_save o (record o { printed = printed; unread = unread; steps = steps }) s)
save_stopped None service formats name text given o unread printed steps why s same r p = tt
save_stopped (Some disk) service formats name text given o unread printed steps why s same r says = λ ruled is.
    stopped_kept ruled text (content_of (disk name)) to_save o unread printed steps why s
    (subst (λ (t : List ℕ). IsRefusedBy ruled t (content_of (disk name)) why) same (r ruled is)) says

-- what waits in the world that it brings about was printed
pub world_saved : (told : Option Disk) (service : Service) (formats : List Format) (name text given other : List ℕ) (o : Outside)
    (unread printed : Option (List ℕ)) (steps : ℕ) (seen : Seen) (found : Found) (s : Status) → given ≡ text → other ≡ text → seen.service ≡ service
    → IfSome told (λ disk. (ruled : Ruled) → IsRuled service formats ruled → IsFoundIn ruled given (content_of (disk name)) seen found)
    → IsFrozen other seen o.printed printed s
    → IfSome told (λ disk. (ruled : Ruled) → IsRuled service formats ruled
    → IsKept ruled text (content_of (disk name)) to_save o (record o { printed = printed; unread = unread; steps = steps }) s)
world_saved None service formats name text given other o unread printed steps seen found s t v same finds frozen = tt
world_saved (Some disk) service formats name text given other o unread printed steps seen found s t v same finds frozen = λ ruled is.
    let f = finds ruled is in
    preserved (recalled_of found) f.0 seen refl
    (subst (λ (y : List ℕ). Holds ruled y (content_of (disk name)) (recalled_of found) f.0) t f.1) (same ∙ sym is.0) f.2
    (subst (λ (y : List ℕ). IsFrozen y seen o.printed printed s) v frozen) refl (inl refl)

-- the same of a task that is to save it
pub to_be_saved : (told : Option Disk) (service : Service) (formats : List Format) (name text : List ℕ) (before after : Outside) (s : Status)
    → IfSome told (λ d. (ruled : Ruled) → IsRuled service formats ruled → IsKept ruled text (content_of (d name)) to_save before after s)
    → IfSome told (λ d. (ruled : Ruled) (x : Task) → IsRuled service formats ruled → x ≡ to_save
    → IsKept ruled text (content_of (d name)) x before after s)
to_be_saved None service formats name text before after s h = tt
to_be_saved (Some d) service formats name text before after s h = λ ruled x is same.
    subst (λ (t : Task). IsKept ruled text (content_of (d name)) t before after s) (sym same) (h ruled is)
