use Rattle.std.proofs.Common.{◌||◌, ap, sym, ◌∙◌, arith}
use Rattle.bw_shape.specs.Rows.Rows.{flag}
use Rattle.bw_shape.proofs.Rows.Steps.{step_new}
use Rattle.bw_shape.proofs.rule.step.Goals as goal

pub returns : goal.returns
returns g c =
    let n = c.args.n in
    let table = c.args.known.now in
    let row = c.in_ok-row.row in
    let m = c.is_within.ensures.no c.if-is_within.false in
    rw c.replace.ensures
    (step_new n table row c.join.new.self (omega (arith, c.requires.row, c.requires.known)) c.in_ok-row.ensures.len c.join.ensures.len c.in_ok-row.ensures.each
    (λ k l. c.join.ensures.each k l ∙ ap (λ r. flag row k || flag r k) c.row-4.ensures)
    (m.0, m.1, ap (λ r. flag r m.0) (sym c.row-3.ensures) ∙ m.2))
