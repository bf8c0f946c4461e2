use Rattle.std.proofs.Common.{arith}
use Rattle.bw_syntax.proofs.Bounds.{service_bounded}
use Rattle.bw_syntax.proofs.Stages.{told_text, unparsed_refuses, drafted, finish_refuses, finish_reads}
use Rattle.bw_syntax.proofs.reading.read.Goals as goal

pub returns-in-Err-clause-refused : goal.returns-in-Err-clause-refused
returns-in-Err-clause-refused c =
    unparsed_refuses c.args.bytes.now c.args.told.now.lexemes.items c.in-Err.fault (told_text c.args.bytes.now c.args.told.now c.requires)
    c.in-Err.ensures.unparsed

pub finish-requires-clause-bounded : goal.finish-requires-clause-bounded
finish-requires-clause-bounded c =
    service_bounded c.args.bytes.now c.args.told.now.lexemes.items c.in-Ok.draft.name c.in-Ok.draft.drafts.items
    (told_text c.args.bytes.now c.args.told.now c.requires) c.in-Ok.ensures.parsed.spelled
    (omega (arith, c.args.told.now.lexemes.ok.0))

pub returns-in-Ok-clause-read : goal.returns-in-Ok-clause-read
returns-in-Ok-clause-read c =
    finish_reads c.finish.result c.args.bytes.now c.in-Ok.draft.name c.in-Ok.draft.drafts.items
    (drafted c.args.bytes.now c.args.told.now.lexemes.items c.in-Ok.draft.name c.in-Ok.draft.drafts.items
    (told_text c.args.bytes.now c.args.told.now c.requires) c.in-Ok.ensures.parsed)
    c.finish.ensures.read

pub returns-in-Ok-clause-refused : goal.returns-in-Ok-clause-refused
returns-in-Ok-clause-refused c =
    finish_refuses c.finish.result c.args.bytes.now c.in-Ok.draft.name c.in-Ok.draft.drafts.items
    (drafted c.args.bytes.now c.args.told.now.lexemes.items c.in-Ok.draft.name c.in-Ok.draft.drafts.items
    (told_text c.args.bytes.now c.args.told.now c.requires) c.in-Ok.ensures.parsed)
    c.finish.ensures.refused
