use Rattle.std.proofs.Common.{◌∙◌, arith}
use Rattle.std.proofs.lemmas.Str.{IsUtf8-past_char, chars_past_char}
use Rattle.bw_format.proofs.Texts.{chars_nothing}
use Rattle.bw_format.proofs.pattern.Pattern.light_from.Goals as goal

pub loop-c-preserved : goal.loop-c-preserved
loop-c-preserved c =
    let held = c.loop-c.invariant in
    let parts = c.in-Some.ensures.steps.0 in (
      IsUtf8-past_char _ _ c.in-Some.c held.0 parts,
      rw (c.shift.ensures.marks) (rw (chars_past_char _ _ c.in-Some.c held.0 parts) at held.1),
      omega
          (arith, held.2, c.shift.auto.marks),
      c.shift.ensures.ended,
    )

pub returns : goal.returns
returns c = c.light_here.ensures ∙ rw (chars_nothing _ c.in-None.ensures.steps.0.0) at c.loop-c.invariant.1
