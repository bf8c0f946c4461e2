use Rattle.std.proofs.Common.{ap, ◌++◌}
use Rattle.std.specs.Prelude.{codes}
use Rattle.bw_lang.specs.Template.Markup.{escaped}
use Rattle.bw_out.proofs.SendLaws.{sent, then_sends, sends_stops}
use Rattle.bw_page.proofs.Printed.{attr_bytes}
use Rattle.bw_page.proofs.printing.print_attr.Goals as goal

pub returns-in_err-write_parts-in-Fixed : goal.returns-in_err-write_parts-in-Fixed
returns-in_err-write_parts-in-Fixed g c =
    rw c.in-Fixed.is (sends_stops _ (escaped c.in-Fixed.value ++ codes "\"") c.in_err-write_parts-in-Fixed.ensures
    c.from_residual.ensures.0 (attr_bytes _ _ c.in-Fixed.value c.as_bytes.ensures))

pub returns-in_err-print_text-in-Fixed : goal.returns-in_err-print_text-in-Fixed
returns-in_err-print_text-in-Fixed g c =
    rw c.in-Fixed.is (then_sends g.W.Channel g.met.W.Sink.same_trans _ _ (sent c.in_ok-write_parts-in-Fixed.ensures)
    (sends_stops _ (codes "\"") c.in_err-print_text-in-Fixed.ensures c.from_residual-in_err-print_text-in-Fixed.ensures.0
    (ap (λ v. escaped v ++ codes "\"") c.as_str.ensures.text))
    (attr_bytes _ _ c.in-Fixed.value c.as_bytes.ensures))

pub returns-in_ok-print_text-in-Fixed : goal.returns-in_ok-print_text-in-Fixed
returns-in_ok-print_text-in-Fixed g c =
    rw c.in-Fixed.is (then_sends g.W.Channel g.met.W.Sink.same_trans _ _ (sent c.in_ok-write_parts-in-Fixed.ensures)
    (then_sends g.W.Channel g.met.W.Sink.same_trans _ _ (sent c.in_ok-print_text-in-Fixed.ensures) c.write_all.ensures
    (ap (λ v. escaped v ++ codes "\"") c.as_str.ensures.text))
    (attr_bytes _ _ c.in-Fixed.value c.as_bytes.ensures))
