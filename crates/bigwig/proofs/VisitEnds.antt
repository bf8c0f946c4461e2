-- How visits end: with no other status than these.
use Rattle.std.proofs.Common.{◌≡◌, ◌⊎◌, ◌∙◌, List, ℕ, refl, sym, subst, inl, inr}
use Rattle.bw_visit.specs.Visits.{End}
use Rattle.bw_questions.specs.Asked.{Ruled, Work}
use Rattle.bw_questions.specs.Asked.Work.{visits}
use Rattle.bigwig.specs.Laws.{IsFree}
use Rattle.bw_questions.specs.Asked.{Script}
use Rattle.bigwig.specs.Visiting.{IsStatusOf}
use Rattle.bw_command.specs.declared.status.Status.{Status}
use Rattle.bw_command.specs.declared.status.Status.TheVariants.{Done, ReadFault, WriteFault, DoorFault, Memory, JournalRefused, JournalFault, SaveRefused, ScriptRefused}

-- the work is a visit that ended where an answer had no control
abbrev pub IsUnknown : Work → Status → Type 0
IsUnknown work status = (status ≡ ScriptRefused) × (ruled : Ruled) × (script : Script) × (work ≡ visits ruled script)

-- the work is done, or it ends with a status that is free, or a visit ended so
abbrev pub IsEnd : Work → Status → Type 0
IsEnd work status = (status ≡ Done) ⊎ (IsFree status ⊎ IsUnknown work status)

-- no script was followed
pub no_visit : (work : Work) (status : Status) → (status ≡ Done) ⊎ IsFree status → IsEnd work status
no_visit work status (inl e) = inl e
no_visit work status (inr f) = inr (inl f)

pub visit_end : (ruled : Ruled) (script : Script) (end : End) (status : Status) → IsStatusOf end status → IsEnd (visits ruled script) status
visit_end ruled script End.Done status e = inl e
visit_end ruled script (End.Unknown name) status (inl e) = inr (inr (e, ruled, script, refl))
visit_end ruled script (End.Unknown name) status (inr (inl e)) = inr (inl (inr (inl e)))
visit_end ruled script (End.Unknown name) status (inr (inr e)) = inr (inl (inr (inr (inr (inl e)))))
visit_end ruled script End.Wanted status e = inr (inl (inr (inr (inr (inl e)))))
visit_end ruled script End.Broken status e = inr (inl (inr (inl e)))

-- a visit has no door
pub visit_no_door : (end : End) (status : Status) → IsStatusOf end status → status ≡ DoorFault → ⊥
visit_no_door End.Done status e d = let f : Done ≡ DoorFault = sym e ∙ d in cc
visit_no_door (End.Unknown name) status (inl e) d = let f : ScriptRefused ≡ DoorFault = sym e ∙ d in cc
visit_no_door (End.Unknown name) status (inr (inl e)) d = let f : WriteFault ≡ DoorFault = sym e ∙ d in cc
visit_no_door (End.Unknown name) status (inr (inr e)) d = let f : Memory ≡ DoorFault = sym e ∙ d in cc
visit_no_door End.Wanted status e d = let f : Memory ≡ DoorFault = sym e ∙ d in cc
visit_no_door End.Broken status e d = let f : WriteFault ≡ DoorFault = sym e ∙ d in cc

-- the statuses that a visit ends with
pub visit_status : (end : End) (status : Status) → IsStatusOf end status
    → (status ≡ Done) ⊎ ((status ≡ ScriptRefused) ⊎ ((status ≡ WriteFault) ⊎ (status ≡ Memory)))
visit_status End.Done status e = inl e
visit_status (End.Unknown name) status h = inr h
visit_status End.Wanted status e = inr (inr (inr e))
visit_status End.Broken status e = inr (inr (inl e))

-- no status that is free refuses a script
pub not_free : IsFree ScriptRefused → ⊥
not_free (inl e) = let f : ScriptRefused ≡ ReadFault = e in cc
not_free (inr (inl e)) = let f : ScriptRefused ≡ WriteFault = e in cc
not_free (inr (inr (inl e))) = let f : ScriptRefused ≡ DoorFault = e in cc
not_free (inr (inr (inr (inl e)))) = let f : ScriptRefused ≡ Memory = e in cc
not_free (inr (inr (inr (inr (inl e))))) = let f : ScriptRefused ≡ JournalFault = e in cc
not_free (inr (inr (inr (inr (inr (inl e)))))) = let f : ScriptRefused ≡ JournalRefused = e in cc
not_free (inr (inr (inr (inr (inr (inr e)))))) = let f : ScriptRefused ≡ SaveRefused = e in cc
