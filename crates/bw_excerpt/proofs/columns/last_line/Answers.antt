use Rattle.std.proofs.Common.{◌≡◌, ◌⊎◌, inl, inr, ◌-◌, drop, length, get_or, sym, ◌∙◌, arith, length-drop}
use Rattle.std.proofs.lemmas.List.{take_all}
use Rattle.bw_excerpt.proofs.Lines.{last_line_at}
use Rattle.bw_excerpt.proofs.columns.last_line.Goals as goal
use Rattle.bw_excerpt.proofs.columns.last_line.Goals.{then-loop-start-test+else-bytes-start-ne10, else-loop-start-test}

pub returns : goal.returns
returns c =
    let bytes = c.args.bytes.now in
    let start = c.loop-start.start in
    let begins : (start ≡ 0) ⊎ (get_or bytes (start - 1) 0 ≡ 10) = elim c.loop-start-test.branch [
      | then-loop-start-test+else-bytes-start-ne10 w ↦ inr w.if-bytes-start-ne10.false
      | else-loop-start-test w ↦ inl (omega (arith, w.loop-start-test.false))
    ] in
    take_all (length bytes - start) (drop start bytes) (omega (arith, length-drop start bytes))
    ∙ sym (last_line_at bytes start c.loop-start.invariant.within c.loop-start.invariant.plain begins)
