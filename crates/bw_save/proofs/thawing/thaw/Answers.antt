use Rattle.std.proofs.Common.{◌≡◌, Ok, Err, sym, ap, subst, ◌∙◌}
use Rattle.bw_save.specs.Frozen.{saved_of}
use Rattle.bw_save.specs.Thawed.{Gives}
use Rattle.bw_save.proofs.Again.{thawed_saved}
use Rattle.bw_save.proofs.Fit.{kept}
use Rattle.bw_save.proofs.OneFacts.{gives, sound_loaded}
use Rattle.bw_save.proofs.Stood.{saved_stands, sound}
use Rattle.bw_lang.specs.declared.service.Service.{Service}
use Rattle.bw_saved.specs.FileLaws.{IsFile}
use Rattle.bw_saved.specs.Sessions.Demands.{IsSaved}
use Rattle.bw_saved.specs.declared.saved.Saved.{Saved}
use Rattle.bw_world.specs.declared.restoring.Parts.{Parts}
use Rattle.bw_world.specs.Good.{IsSound}
use Rattle.bw_world.specs.Kept.{IsKept}
use Rattle.bw_world.specs.Restored.{seen_of}
use Rattle.bw_world.specs.Seen.{Seen}
use Rattle.bw_save.proofs.thawing.thaw.Goals as goal

pub restore-requires-clause-kept : goal.restore-requires-clause-kept
restore-requires-clause-kept c =
    subst (λ (p : Parts). IsKept (seen_of p)) (sym c.in_ok-parts.ensures)
    (kept c.saved_is_fit.ensures.sessions c.saved_is_fit.ensures.shared c.args.checked c.in-Ok.saved c.in-Ok.ensures.file.saved)

pub restore-requires-clause-sound : goal.restore-requires-clause-sound
restore-requires-clause-sound c =
    subst (λ (p : Parts). ∥ IsSound (seen_of p) ∥₁) (sym c.in_ok-parts.ensures) (sound c.args.checked c.in-Ok.saved c.in-Ok.ensures.sound)

pub returns-clause-kept : goal.returns-clause-kept
returns-clause-kept c =
    subst IsKept (sym c.in_ok-world.ensures.same)
    (subst (λ (p : Parts). IsKept (seen_of p)) (sym c.in_ok-parts.ensures)
    (kept c.saved_is_fit.ensures.sessions c.saved_is_fit.ensures.shared c.args.checked c.in-Ok.saved c.in-Ok.ensures.file.saved))

pub returns-clause-loaded : goal.returns-clause-loaded
returns-clause-loaded c =
    let again = thawed_saved c.args.checked c.in-Ok.saved c.in_ok-parts.parts c.in_ok-world.world c.in_ok-parts.ensures c.in_ok-world.ensures.same in
    subst (λ (s : Saved). Gives c.args.checked.typed.service c.args.text.now c.args.bytes.now (Ok s)) (sym again)
    (gives c.args.checked.typed c.args.checked.schema c.args.checked.facts c.args.text.now c.args.bytes.now (Ok c.in-Ok.saved) c.args.checked.accepted
    c.in-Ok.ensures.loaded)

pub returns-clause-file : goal.returns-clause-file
returns-clause-file c =
    let again = thawed_saved c.args.checked c.in-Ok.saved c.in_ok-parts.parts c.in_ok-world.world c.in_ok-parts.ensures c.in_ok-world.ensures.same in
    let service : c.in_ok-world.world.service ≡ c.args.checked.typed.service =
    ap (λ (w : Seen). w.service) c.in_ok-world.ensures.same ∙ ap (λ (p : Parts). p.checked.typed.service) c.in_ok-parts.ensures in
    subst (λ (x : Service × Saved). IsFile x.0 c.args.text.now c.args.bytes.now x.1) (λ i. (sym service i, sym again i)) c.in-Ok.ensures.file

pub returns-clause-stands : goal.returns-clause-stands
returns-clause-stands c = saved_stands c.in_ok-world.world

pub returns-clause-sound : goal.returns-clause-sound
returns-clause-sound c =
    let again = thawed_saved c.args.checked c.in-Ok.saved c.in_ok-parts.parts c.in_ok-world.world c.in_ok-parts.ensures c.in_ok-world.ensures.same in
    let service : c.in_ok-world.world.service ≡ c.args.checked.typed.service =
    ap (λ (w : Seen). w.service) c.in_ok-world.ensures.same ∙ ap (λ (p : Parts). p.checked.typed.service) c.in_ok-parts.ensures in
    let given = gives c.args.checked.typed c.args.checked.schema c.args.checked.facts c.args.text.now c.args.bytes.now (Ok c.in-Ok.saved)
    c.args.checked.accepted c.in-Ok.ensures.loaded in
    sound_loaded c.loaded_is_sound.ensures c.args.checked.typed c.args.text.now c.args.bytes.now c.in_ok-world.world service
    (subst (IsSaved c.args.checked.typed.service) (sym again) c.in-Ok.ensures.file.saved)
    (subst (λ (s : Saved). Gives c.args.checked.typed.service c.args.text.now c.args.bytes.now (Ok s)) (sym again) given)

pub returns-in-Err-clause-fault : goal.returns-in-Err-clause-fault
returns-in-Err-clause-fault c =
    gives c.args.checked.typed c.args.checked.schema c.args.checked.facts c.args.text.now c.args.bytes.now (Err c.in-Err.fault) c.args.checked.accepted
    c.in-Err.ensures.loaded
