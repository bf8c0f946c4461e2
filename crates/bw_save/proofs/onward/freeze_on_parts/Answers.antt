use Rattle.std.proofs.Common.{◌≡◌, ◌∙◌, List, ℕ, Option, None, Some, Result, Ok, Err, IfOk, IfSome, IfNone, Vec, Global, ap, subst, sym}
use Rattle.bw_lang.specs.declared.service.Service.{Service}
use Rattle.bw_lang.specs.declared.text.Memory.{Memory}
use Rattle.bw_save.specs.Frozen.{saved_of}
use Rattle.bw_save.specs.Onward.{IsFileAgain, IsNoFile}
use Rattle.bw_save.specs.Saves.{FitSessions}
use Rattle.bw_save.specs.declared.onward.Frozen.{Frozen}
use Rattle.bw_save.proofs.Again.{parts_again, saved_of_parts}
use Rattle.bw_save.proofs.Fit.{fit_sessions}
use Rattle.bw_saved.specs.declared.saved.Saved.{Saved}
use Rattle.bw_world.specs.declared.restoring.Parts.{Parts}
use Rattle.bw_world.specs.Good.{IsSound}
use Rattle.bw_world.specs.Kept.{IsKept}
use Rattle.bw_world.specs.Restored.{seen_of}
use Rattle.bw_world.specs.Seen.{Seen}
use Rattle.bw_save.proofs.GoingOn.{file_carried, world_carried}
use Rattle.bw_save.proofs.onward.freeze_on_parts.Goals as goal

pub file_again-requires-clause-sessions : goal.file_again-requires-clause-sessions
file_again-requires-clause-sessions c =
    subst (λ (s : Saved). FitSessions s.records) (sym c.in-Ok.ensures) (fit_sessions c.args.parts c.requires.kept)

pub restored-requires-clause-kept : goal.restored-requires-clause-kept
restored-requires-clause-kept c =
    subst (λ (p : Parts). IsKept (seen_of p)) (sym (parts_again c.args.parts c.in-Ok.saved c.in-Ok.ensures)) c.requires.kept

pub restored-requires-clause-sound : goal.restored-requires-clause-sound
restored-requires-clause-sound c =
    subst (λ (p : Parts). ∥ IsSound (seen_of p) ∥₁) (sym (parts_again c.args.parts c.in-Ok.saved c.in-Ok.ensures)) c.requires.sound

pub returns-in-Ok-file_again-clause-same : goal.returns-in-Ok-file_again-clause-same
returns-in-Ok-file_again-clause-same c =
    world_carried c.restored.result _ _ (ap seen_of (parts_again c.args.parts c.in-Ok.saved c.in-Ok.ensures)) c.restored.ensures.world

pub returns-in-Ok-file_again-clause-some : goal.returns-in-Ok-file_again-clause-some
returns-in-Ok-file_again-clause-some c =
    file_carried c.restored.result c.in-Ok-file_again.file
    (λ (o : Option (Vec ℕ Global)). IfSome o (λ v. IsFileAgain c.args.parts.checked.typed.service c.args.text.now (saved_of (seen_of c.args.parts)) v.items))
    c.restored.ensures.file
    (subst (λ (s : Saved). IfSome c.in-Ok-file_again.file (λ v. IsFileAgain c.args.parts.checked.typed.service c.args.text.now s v.items))
    (saved_of_parts c.args.parts c.in-Ok.saved c.in-Ok.ensures) c.in-Ok-file_again.ensures.some)

pub returns-in-Ok-file_again-clause-none : goal.returns-in-Ok-file_again-clause-none
returns-in-Ok-file_again-clause-none c =
    file_carried c.restored.result c.in-Ok-file_again.file
    (λ (o : Option (Vec ℕ Global)). IfNone o (IsNoFile c.args.parts.checked.typed.service c.args.text.now (saved_of (seen_of c.args.parts))))
    c.restored.ensures.file
    (subst (λ (s : Saved). IfNone c.in-Ok-file_again.file (IsNoFile c.args.parts.checked.typed.service c.args.text.now s))
    (saved_of_parts c.args.parts c.in-Ok.saved c.in-Ok.ensures) c.in-Ok-file_again.ensures.none)
