use Rattle.std.proofs.Common.{ap, ◌∙◌, arith}
use Rattle.std.proofs.lemmas.Grind.{common_steps}
use Rattle.bw_meaning.specs.Expressions.{fill}
use Rattle.bw_typed.specs.ShortStrings.{HaveShort}
use Rattle.bw_lang.specs.Table.Names as names
use Rattle.bw_lang.specs.Service.Term.{Fillings}
use Rattle.bw_lang.specs.Service.TermView.{fillings}
use Rattle.bw_eval.specs.View.{value, values}
use Rattle.bw_eval.specs.Bases.{HaveBases}
use Rattle.bw_eval.proofs.Fills.{next_at, stops_at, stops_with, pairs_from}
use Rattle.bw_eval.proofs.eval.Scene.+eval.Goals as goal
use Rattle.bw_types.proofs.Pairs.{pair_size_at_read}

pub fill-eval-requires : goal.fill-eval-requires
fill-eval-requires g t c lives within =
    let items = c.as_slice-pair-items.result.now in let i = c.loop-pair.pair-index in let x = c.pair-item.result in
    let scene = c.args.self.now in
    let bases = HaveBases scene.typed.now.service (values scene.locals.now) (values scene.shared.now) in (
      grind (arith, common_steps, pair_size_at_read),
      (
        within,
        (
          (pairs_from HaveShort items i x c.pair-item.is c.loop-pair-test.true c.loop-pair.invariant.strings_short).0,
          (
            (pairs_from bases items i x c.pair-item.is c.loop-pair-test.true c.loop-pair.invariant.bases).0,
            (c.requires.locals, c.requires.shared),
          ),
        ),
      ),
    )

pub fill-returns-in_err-filled-clause-value : goal.fill-returns-in_err-filled-clause-value
fill-returns-in_err-filled-clause-value g t c =
    let service = c.args.self.now.typed.now.service in let l = values c.args.self.now.locals.now in let s = values c.args.self.now.shared.now in
    let go = λ (ps : Fillings). fill service l s ps (value c.args.base) c.args.units.now in
    stops_with c.from_residual-in_err-filled.result c.in_err-filled.field-0.0 c.eval.new.units (go c.args.pairs.now) c.from_residual-in_err-filled.ensures.1
    (λ m. stops_at service l s c.as_slice-pair-items.result.now c.loop-pair.pair-index c.pair-item.result (value c.loop-pair.filled)
    (value c.in_ok-v.v) c.in_err-filled.field-0.0 c.loop-pair.units c.eval.new.units c.number-gap.result
    (go (fillings c.as_slice-pair-items.result.now))
    c.pair-item.is c.loop-pair-test.true c.loop-pair.invariant.same (c.in_ok-v.ensures.value tt) (c.number-gap.ensures
    ∙ (λ i. names.name_number (c.service.ensures i).gaps (c.as_str.ensures.text i))) (c.in_err-filled.ensures.value m)
    ∙ ap go c.as_slice-pair-items.ensures)

pub fill-loop-pair-preserved : goal.fill-loop-pair-preserved
fill-loop-pair-preserved g t c = record {
  same = next_at c.args.self.now.typed.now.service (values c.args.self.now.locals.now) (values c.args.self.now.shared.now)
      c.as_slice-pair-items.result.now c.loop-pair.pair-index c.pair-item.result (value c.loop-pair.filled) (value c.in_ok-v.v)
      (value c.in_ok-filled.filled) c.loop-pair.units c.eval.new.units c.number-gap.result
      (fill c.args.self.now.typed.now.service (values c.args.self.now.locals.now) (values c.args.self.now.shared.now)
      (fillings c.as_slice-pair-items.result.now) (value c.args.base) c.args.units.now)
      c.pair-item.is c.loop-pair-test.true c.loop-pair.invariant.same (c.in_ok-v.ensures.value tt) (c.number-gap.ensures
      ∙ (λ i. names.name_number (c.service.ensures i).gaps (c.as_str.ensures.text i))) (c.in_ok-filled.ensures.value tt);
  steps = omega (arith, c.loop-pair.invariant.steps, c.in_ok-v.ensures.steps);
  left = omega (arith, c.loop-pair.invariant.left, c.in_ok-v.ensures.left);
  filled_sound = c.in_ok-filled.ensures.sound c.args.self.now.typed.now.service.templates c.loop-pair.invariant.filled_sound c.in_ok-v.ensures.sound;
  filled_document = c.in_ok-filled.ensures.document;
  strings_short = (pairs_from HaveShort c.as_slice-pair-items.result.now c.loop-pair.pair-index c.pair-item.result c.pair-item.is
      c.loop-pair-test.true c.loop-pair.invariant.strings_short).1;
  bases = (pairs_from (HaveBases c.args.self.now.typed.now.service (values c.args.self.now.locals.now) (values c.args.self.now.shared.now))
      c.as_slice-pair-items.result.now c.loop-pair.pair-index c.pair-item.result c.pair-item.is c.loop-pair-test.true
      c.loop-pair.invariant.bases).1;
}

pub eval-returns-in_ok-w-in-Binary-clause-sound : goal.eval-returns-in_ok-w-in-Binary-clause-sound
eval-returns-in_ok-w-in-Binary-clause-sound g t c = c.combined.ensures.sound c.args.self.now.typed.now.service.templates c.in_ok-w-in-Binary.ensures.sound

pub eval-returns-in_ok-v-in-Call-clause-sound : goal.eval-returns-in_ok-v-in-Call-clause-sound
eval-returns-in_ok-v-in-Call-clause-sound g t c = c.called.ensures.sound c.args.self.now.typed.now.service.templates
