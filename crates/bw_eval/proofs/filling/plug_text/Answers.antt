use Rattle.std.proofs.Common.{sym, subst}
use Rattle.bw_doc.specs.Operations.{IsOf}
use Rattle.bw_doc.proofs.OfLaws.{text_is_of}
use Rattle.bw_eval.proofs.filling.plug_text.Goals as goal

pub returns-in-Ok-clause-sound : goal.returns-in-Ok-clause-sound
returns-in-Ok-clause-sound c ts b = subst (IsOf ts) (sym c.in-Ok.ensures.ok.0) (text_is_of ts c.args.doc.now c.args.gap c.args.text.now b)
