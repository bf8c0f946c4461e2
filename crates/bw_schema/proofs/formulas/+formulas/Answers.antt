use Rattle.std.proofs.Common.{ap, sym, ◌∙◌}
use Rattle.bw_schema.specs.Forms.{is_nothing}
use Rattle.bw_schema.specs.Needs.{Needs}
use Rattle.bw_schema.specs.Steps.Reading.{formula_at}
use Rattle.bw_schema.proofs.FormulaLoops.{all_needs, formula_less, no_depth, onto, onto_more, onto_none, parts_found, some_needs}
use Rattle.bw_schema.proofs.formulas.+formulas.Goals as goal

pub needs_at-parts-smaller : goal.needs_at-parts-smaller
needs_at-parts-smaller t c = formula_less c.args.depth c.parts.rest.now (c.in-Ok.formula, c.in-Ok.behind.now) c.in-Ok.ensures

pub needs_at-parts-preserved : goal.needs_at-parts-preserved
needs_at-parts-preserved t c =
    ap (λ (n : Needs). onto n (all_needs c.args.depth c.in-Ok.behind.now)) c.in_ok-push-in-Ok.ensures.ok
    ∙ onto_more c.args.depth c.parts.needs c.parts.rest.now (c.in-Ok.formula, c.in-Ok.behind.now)
    (all_needs c.args.depth c.args.words.now) c.in-Ok.ensures c.parts.invariant

pub needs_at-returns-in-Err-Malformed : goal.needs_at-returns-in-Err-Malformed
needs_at-returns-in-Err-Malformed t c =
    onto_none c.args.depth c.parts.needs c.parts.rest.now (all_needs c.args.depth c.args.words.now)
    (rw c.in-Err-Malformed.field-0-is at c.in-Err-Malformed.ensures) c.parts.invariant

pub formula_at-returns-then-depth-eq0 : goal.formula_at-returns-then-depth-eq0
formula_at-returns-then-depth-eq0 t c = no_depth c.args.depth c.args.words.now c.if-depth-eq0.true

pub parts_at-returns-in-Some : goal.parts_at-returns-in-Some
parts_at-returns-in-Some t c =
    parts_found (formula_at c.args.depth) c.args.words.now c.in_ok-parts.parts c.in_ok-parts.behind.now c.in-Some.rest.now c.in_ok-parts.ensures
    (ap is_nothing (sym c.as_slice.ensures) ∙ some_needs c.as_slice.result.now (sym c.is_empty.ensures ∙ c.if-is_empty.false)) c.in-Some.ensures
