use Rattle.std.proofs.Common.{[], sym, subst}
use Rattle.std.specs.Prelude.{All}
use Rattle.bw_lang.specs.Service.Sorted.{templates_of, sessions_of}
use Rattle.bw_syntax.proofs.Sizes.{IsLight, HasFewLocals, read_small}
use Rattle.bw_syntax.proofs.Stages.{first_unread_refuses}
use Rattle.bw_syntax.proofs.reading.finish.Goals as goal

pub returns-in-Err-clause-refused : goal.returns-in-Err-clause-refused
returns-in-Err-clause-refused c = first_unread_refuses c.args.draft.name c.args.draft.drafts.items c.in-Err.fault c.in-Err.ensures.unread

pub too_many-requires-clause-locals : goal.too_many-requires-clause-locals
too_many-requires-clause-locals c =
    subst (λ rs. All HasFewLocals (sessions_of rs)) (sym c.deref.ensures.value)
    (read_small [] c.in-Ok.declared.gaps c.args.draft.drafts.items c.in-Ok.declared.declarations.items c.in-Ok.ensures.read c.requires.bounded).sessions

pub too_many-requires-clause-weights : goal.too_many-requires-clause-weights
too_many-requires-clause-weights c =
    subst (λ rs. All IsLight (templates_of rs)) (sym c.deref.ensures.value)
    (read_small [] c.in-Ok.declared.gaps c.args.draft.drafts.items c.in-Ok.declared.declarations.items c.in-Ok.ensures.read c.requires.bounded).templates
