use Rattle.std.proofs.Common.{refl, ap, ◌∙◌, ◌+◌, get_or, take, drop}
use Rattle.bw_lang.specs.Template.Markup.{escaped, escaped_byte}
use Rattle.bw_out.proofs.SendLaws.{sent, sent_more, then_sends, sends_stops}
use Rattle.bw_page.proofs.Printed.{escaped-parts, escaped-more}
use Rattle.bw_page.proofs.printing.print_text.Goals as goal

pub returns-in_err-print_byte : goal.returns-in_err-print_byte
returns-in_err-print_byte g c =
    let xs = c.as_bytes-byte-items.result.now in let i = c.loop-byte.byte-index in
    then_sends g.W.Channel g.met.W.Sink.same_trans (escaped (take i xs)) _ c.loop-byte.invariant
    (sends_stops (escaped_byte (get_or xs i 0)) (escaped (drop (i + 1) xs)) c.in_err-print_byte.ensures c.from_residual.ensures.0 refl)
    (escaped-parts xs i c.loop-byte-test.true ∙ ap escaped c.as_bytes-byte-items.ensures.value)

pub loop-byte-preserved : goal.loop-byte-preserved
loop-byte-preserved g c =
    let xs = c.as_bytes-byte-items.result.now in let i = c.loop-byte.byte-index in
    sent_more g.W.Channel g.met.W.Sink.same_trans (escaped (take i xs)) (escaped_byte (get_or xs i 0)) c.loop-byte.invariant
    (sent c.in_ok-print_byte.ensures) (escaped-more xs i c.loop-byte-test.true)
