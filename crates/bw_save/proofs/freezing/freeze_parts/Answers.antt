use Rattle.std.proofs.Common.{◌≡◌, IfOk, IfErr, OnOk, subst, sym}
use Rattle.bw_save.specs.Freezes.{MayBeFrozen, IsFreezeFault}
use Rattle.bw_save.proofs.Again.{saved_of_parts}
use Rattle.bw_save.proofs.Fit.{fit_sessions}
use Rattle.bw_save.specs.Saves.{FitSessions}
use Rattle.bw_saved.specs.declared.saved.Saved.{Saved}
use Rattle.bw_flow.specs.Layout.{flow_of}
use Rattle.bw_saved.specs.Sessions.Layout.{file}
use Rattle.bw_save.proofs.freezing.freeze_parts.Goals as goal

pub file_of-bytes-requires-clause-sessions : goal.file_of-bytes-requires-clause-sessions
file_of-bytes-requires-clause-sessions c =
    subst (λ (s : Saved). FitSessions s.records) (sym c.in-Ok.ensures) (fit_sessions c.args.parts c.requires.kept)

pub returns-clause-file : goal.returns-clause-file
returns-clause-file c =
    subst (λ (s : Saved). IfOk c.file_of-bytes.result (λ v. v.items ≡ file (flow_of c.args.parts.checked.typed.service) c.args.text.now s))
    (saved_of_parts c.args.parts c.in-Ok.saved c.in-Ok.ensures) c.file_of-bytes.ensures.file

pub returns-clause-fit : goal.returns-clause-fit
returns-clause-fit c =
    subst (λ (s : Saved). OnOk c.file_of-bytes.result (MayBeFrozen c.args.parts.checked.typed.service s))
    (saved_of_parts c.args.parts c.in-Ok.saved c.in-Ok.ensures) c.file_of-bytes.ensures.fit

pub returns-clause-fault : goal.returns-clause-fault
returns-clause-fault c =
    subst (λ (s : Saved). IfErr c.file_of-bytes.result (IsFreezeFault c.args.parts.checked.typed.service s))
    (saved_of_parts c.args.parts c.in-Ok.saved c.in-Ok.ensures) c.file_of-bytes.ensures.fault
