use Rattle.bw_lang.specs.Document.Print.{printed_attrs}
use Rattle.bw_out.proofs.SendLaws.{sent, then_sends, sends_stops}
use Rattle.bw_page.proofs.Printed.{start_bytes}
use Rattle.bw_page.proofs.printing.print_start.Goals as goal

pub returns-in_err-write_parts : goal.returns-in_err-write_parts
returns-in_err-write_parts g c =
    sends_stops _ (printed_attrs c.args.attrs.now) c.in_err-write_parts.ensures c.from_residual.ensures.0 (start_bytes _ _ _ c.as_bytes.ensures)

pub returns : goal.returns
returns g c =
    then_sends g.W.Channel g.met.W.Sink.same_trans _ (printed_attrs c.args.attrs.now) (sent c.in_ok-write_parts.ensures) c.print_attrs.ensures
    (start_bytes _ _ _ c.as_bytes.ensures)
