use Rattle.std.proofs.Common.{◌∙◌, ap}
use Rattle.bw_places.specs.Drafted.{drafts_of}
use Rattle.bw_places.specs.Seeking.{declared_at}
use Rattle.bw_diagnose.proofs.Aimed.{no_declaration}
use Rattle.bw_diagnose.proofs.aim.aim_at.Goals as goal

pub returns-in-None : goal.returns-in-None
returns-in-None c =
    let ds = drafts_of c.args.known.now.declarations.items in
    no_declaration c.args.known.now.told.text.now ds c.args.blamed c.no_aim.result
    (c.in-None.ensures ∙ ap (λ l. declared_at (drafts_of l) c.args.blamed.declaration 3) c.deref.ensures.value) (c.no_aim.ensures ds)
