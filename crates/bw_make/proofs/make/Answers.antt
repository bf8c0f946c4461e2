use Rattle.std.proofs.Common.{◌∙◌}
use Rattle.bw_make.proofs.Lines.{four, begun_as}
use Rattle.bw_make.proofs.make.Goals as goal

pub returns : goal.returns
returns c =
    c.from_string.ensures
    ∙ begun_as _ _ _ _ (four _ _ _ _ _ _ _ _ _ c.in_ok-push_templates.ensures c.in_ok-push_str.ensures.bytes c.in_ok-push_turns.ensures
    c.in_ok-push_str-2.ensures.bytes) c.in_ok-text.ensures.ok
