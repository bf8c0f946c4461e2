use Rattle.std.proofs.Common.{ap, ◌∙◌, List, ℕ}
use Rattle.bw_tmpl.specs.Steps.Reading.{each, char_at}
use Rattle.bw_tmpl.proofs.Many.{onto}
use Rattle.bw_tmpl.proofs.Characters.{chars_more, chars_end}
use Rattle.bw_tmpl.proofs.PlainRuns.{plain_start}
use Rattle.bw_tmpl.proofs.chars.chars_at.Goals as goal

pub chars-preserved : goal.chars-preserved
chars-preserved c =
    ap (λ (t : List ℕ). onto t (each (char_at c.args.stop) c.in-Some.after.now)) c.in_ok-push-in-Some.ensures.items
    ∙ chars_more c.args.stop c.chars.text.items c.chars.rest.now c.in-Some.c c.in-Some.after.now (each (char_at c.args.stop) c.args.bytes.now)
    c.in-Some.ensures c.chars.invariant

pub returns-in-None : goal.returns-in-None
returns-in-None c = chars_end c.args.stop c.chars.text.items c.chars.rest.now (each (char_at c.args.stop) c.args.bytes.now) c.in-None.ensures c.chars.invariant

pub chars-init : goal.chars-init
chars-init c =
    plain_start c.args.stop c.args.bytes.now c.in_ok-text.text.items c.plain_length-plain.result c.plain_length-plain.ensures.value c.in_ok-text.ensures.items
