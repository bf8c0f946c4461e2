use Rattle.std.proofs.Common.{[]}
use Rattle.bw_lang.specs.Template.Templates.{SpellsClosed}
use Rattle.bw_tmpl.proofs.AtOnce.{at_once_built}
use Rattle.bw_tmpl.proofs.GapLaws.{none_open}
use Rattle.bw_tmpl.proofs.Inverse.{built_reads}
use Rattle.bw_tmpl.proofs.Refusals.{read}
use Rattle.bw_tmpl.proofs.reading.read_closed.Goals as goal

pub returns-in-Some-clause-items : goal.returns-in-Some-clause-items
returns-in-Some-clause-items c =
    let b = at_once_built [] c.args.most c.args.bytes.now c.in-Some.items c.in_ok-items.field-0 c.in_ok-items.ensures c.in-Some.is in
    read SpellsClosed [] c.args.most c.args.bytes.now b.pieces c.in-Some.items (record { spells = b.spelled; closed = b.closed }) b.passes b.is

pub returns-in-Some-clause-closed : goal.returns-in-Some-clause-closed
returns-in-Some-clause-closed c =
    let b = at_once_built [] c.args.most c.args.bytes.now c.in-Some.items c.in_ok-items.field-0 c.in_ok-items.ensures c.in-Some.is in
    none_open [] b.pieces c.in-Some.items b.closed (built_reads [] b.pieces c.in-Some.items b.is)
