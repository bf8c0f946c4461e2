use Rattle.bw_make.proofs.Lines.{five, shown_as}
use Rattle.bw_make.proofs.push_template.Goals as goal

pub returns : goal.returns
returns c =
    five _ _ _ _ _ _ _ _ _ _ _ c.in_ok-push_str.ensures.bytes (shown_as _ _ _ _ c.in_ok-push_str-2.ensures.bytes c.format-digits.ensures.text)
    c.in_ok-push_str-3.ensures.bytes (shown_as _ _ _ _ c.in_ok-push_str-4.ensures.bytes c.format-digits.ensures.text) c.in_ok-push_str-5.ensures.bytes
