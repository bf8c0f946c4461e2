use Rattle.std.proofs.Common.{refl, ap, ◌∙◌, ◌+◌, take, drop}
use Rattle.bw_lang.specs.Document.Print.{printed_attr, printed_attrs}
use Rattle.bw_out.proofs.SendLaws.{sent, sent_more, then_sends, sends_stops}
use Rattle.bw_page.proofs.Printed.{printed_attrs-parts, printed_attrs-more}
use Rattle.bw_page.proofs.printing.print_attrs.Goals as goal

pub returns-in_err-print_attr : goal.returns-in_err-print_attr
returns-in_err-print_attr g c =
    let xs = c.as_slice-attr-items.result.now in let i = c.loop-attr.attr-index in let x = c.attr-item.result in
    then_sends g.W.Channel g.met.W.Sink.same_trans (printed_attrs (take i xs)) _ c.loop-attr.invariant
    (sends_stops (printed_attr x.name x.value) (printed_attrs (drop (i + 1) xs)) c.in_err-print_attr.ensures c.from_residual.ensures.0 refl)
    (printed_attrs-parts xs i x c.attr-item.is c.loop-attr-test.true ∙ ap printed_attrs c.as_slice-attr-items.ensures)

pub loop-attr-preserved : goal.loop-attr-preserved
loop-attr-preserved g c =
    let xs = c.as_slice-attr-items.result.now in let i = c.loop-attr.attr-index in let x = c.attr-item.result in
    sent_more g.W.Channel g.met.W.Sink.same_trans (printed_attrs (take i xs)) (printed_attr x.name x.value) c.loop-attr.invariant
    (sent c.in_ok-print_attr.ensures) (printed_attrs-more xs i x c.attr-item.is c.loop-attr-test.true)
