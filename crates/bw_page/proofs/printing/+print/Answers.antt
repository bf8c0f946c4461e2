use Rattle.std.proofs.Common.{refl, ap, sym, ◌∙◌, ◌+◌, ◌++◌, take, drop}
use Rattle.std.specs.Prelude.{codes}
use Rattle.std.proofs.lemmas.List.{append-nil}
use Rattle.bw_lang.specs.Document.Forest.{none}
use Rattle.bw_lang.specs.Document.View.{forest, before}
use Rattle.bw_lang.specs.Document.Print.{print, printed_start, printed_end}
use Rattle.bw_out.proofs.SendLaws.{sent, sent_more, then_sends, sends_stops}
use Rattle.bw_page.proofs.Printed.{print-parts, print-more, void_bytes, open_bytes}
use Rattle.bw_page.proofs.printing.+print.Goals as goal

pub print_items-returns-in_err-print_item : goal.print_items-returns-in_err-print_item
print_items-returns-in_err-print_item g t c =
    let xs = c.as_slice-item-items.result.now in let i = c.loop-item.item-index in let x = c.item-item.result in
    then_sends g.W.Channel g.met.W.Sink.same_trans (print (forest (take i xs))) _ c.loop-item.invariant
    (sends_stops (print (before x none)) (print (forest (drop (i + 1) xs))) c.in_err-print_item.ensures c.from_residual.ensures.0 refl)
    (print-parts xs i x c.item-item.is c.loop-item-test.true ∙ ap print c.as_slice-item-items.ensures)

pub print_items-loop-item-preserved : goal.print_items-loop-item-preserved
print_items-loop-item-preserved g t c =
    let xs = c.as_slice-item-items.result.now in let i = c.loop-item.item-index in let x = c.item-item.result in
    sent_more g.W.Channel g.met.W.Sink.same_trans (print (forest (take i xs))) (print (before x none)) c.loop-item.invariant
    (sent c.in_ok-print_item.ensures) (print-more xs i x c.item-item.is c.loop-item-test.true)

pub print_item-returns-in_err-print_start-in-Element : goal.print_item-returns-in_err-print_start-in-Element
print_item-returns-in_err-print_start-in-Element g t c =
    rw c.in-Element.is (sends_stops _ _ c.in_err-print_start-in-Element.ensures c.from_residual.ensures.0 (sym (append-nil _)))

pub print_item-returns-then-is_void : goal.print_item-returns-then-is_void
print_item-returns-then-is_void g t c =
    let e = c.in-Element.element in
    let start = sent c.in_ok-print_start-in-Element.ensures in
    rw c.in-Element.is (then_sends g.W.Channel g.met.W.Sink.same_trans (printed_start e.tag e.attrs) (codes "/>") start
    c.write_all.ensures (void_bytes e.tag e.attrs e.items c.if-is_void.ensures))

pub print_item-returns-in_err-write_all-in-Element : goal.print_item-returns-in_err-write_all-in-Element
print_item-returns-in_err-write_all-in-Element g t c =
    let e = c.in-Element.element in
    let start = sent c.in_ok-print_start-in-Element.ensures in
    let stopped = sends_stops (codes ">") (print e.items ++ printed_end e.tag) c.in_err-write_all-in-Element.ensures
    c.from_residual-in_err-write_all-in-Element.ensures.0 refl in
    rw c.in-Element.is (then_sends g.W.Channel g.met.W.Sink.same_trans (printed_start e.tag e.attrs) _ start
    stopped (open_bytes e.tag e.attrs e.items c.if-is_void.ensures))

pub print_item-returns-in_err-print_items-in-Element : goal.print_item-returns-in_err-print_items-in-Element
print_item-returns-in_err-print_items-in-Element g t c =
    let e = c.in-Element.element in
    let start = sent c.in_ok-print_start-in-Element.ensures in
    let stopped = sends_stops (print e.items) (printed_end e.tag) c.in_err-print_items-in-Element.ensures
    c.from_residual-in_err-print_items-in-Element.ensures.0 refl in
    rw c.in-Element.is (then_sends g.W.Channel g.met.W.Sink.same_trans (printed_start e.tag e.attrs) _ start
    (then_sends g.W.Channel g.met.W.Sink.same_trans (codes ">") _ (sent c.in_ok-write_all-in-Element.ensures) stopped refl)
    (open_bytes e.tag e.attrs e.items c.if-is_void.ensures))

pub print_item-returns-in_ok-print_items-in-Element : goal.print_item-returns-in_ok-print_items-in-Element
print_item-returns-in_ok-print_items-in-Element g t c =
    let e = c.in-Element.element in
    let start = sent c.in_ok-print_start-in-Element.ensures in
    let ending = then_sends g.W.Channel g.met.W.Sink.same_trans (print e.items) (printed_end e.tag)
    (sent c.in_ok-print_items-in-Element.ensures) c.print_end.ensures refl in
    rw c.in-Element.is (then_sends g.W.Channel g.met.W.Sink.same_trans (printed_start e.tag e.attrs) _ start
    (then_sends g.W.Channel g.met.W.Sink.same_trans (codes ">") _ (sent c.in_ok-write_all-in-Element.ensures) ending refl)
    (open_bytes e.tag e.attrs e.items c.if-is_void.ensures))
