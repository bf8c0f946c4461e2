use Rattle.std.proofs.Common.{◌≡◌, not, true, ap, sym, ◌∙◌}
use Rattle.std.proofs.lemmas.Bool.{or_right}
use Rattle.bw_lang.specs.Text.Bytes.{is_blank_text}
use Rattle.bw_schema.specs.Words.{is_among}
use Rattle.bw_explain.specs.Ways.{Way, says}
use Rattle.bw_explain.proofs.Filling.{among_at, copied_as}
use Rattle.bw_explain.proofs.way.Way.wordy_word.Goals as goal

pub returns-then-not-is_blank_text : goal.returns-then-not-is_blank_text
returns-then-not-is_blank_text c = copied_as (λ s. (says c.args.self.now s ≡ true) × (not (is_blank_text s) ≡ true)) c.copy.result c.word-item.result (
  or_right c.args.self.now.is_free (is_among c.args.self.now.words c.word-item.result)
      (ap (λ ws. is_among ws c.word-item.result) (sym (c.as_slice-word-items.ensures ∙ ap (λ (w : Way). w.words) c.self.view_is))
      ∙ among_at c.as_slice-word-items.result.now c.loop-word.word-index c.word-item.result c.word-item.is c.loop-word-test.true),
  ap not (ap is_blank_text (sym c.as_str.ensures.text) ∙ sym c.if-not-is_blank_text.ensures),
) c.copy.ensures
