use Rattle.std.proofs.Common.{◌≡◌, true, false, ap, sym, ◌∙◌}
use Rattle.bw_schema.specs.Words.{is_among}
use Rattle.bw_explain.specs.Atoms.{passes}
use Rattle.bw_explain.proofs.Filling.{among_at, copied_as}
use Rattle.bw_explain.proofs.failing.first_failing.Goals as goal

pub returns-then-not-passes : goal.returns-then-not-passes
returns-then-not-passes c = copied_as (λ s. (is_among c.args.words.now s ≡ true) × (passes c.args.rule.now c.args.atom.now c.args.name.now s ≡ false))
    c.copy.result c.word-item.result (
      ap (λ ws. is_among ws c.word-item.result) (sym c.as_slice-word-items.ensures)
          ∙ among_at c.as_slice-word-items.result.now c.loop-word.word-index c.word-item.result c.word-item.is c.loop-word-test.true,
      ap (passes c.args.rule.now c.args.atom.now c.args.name.now) (sym c.as_str.ensures.text) ∙ sym c.if-not-passes.ensures,
    ) c.copy.ensures
