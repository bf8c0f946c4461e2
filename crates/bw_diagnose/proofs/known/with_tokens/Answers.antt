use Rattle.std.proofs.Common.{◌∙◌}
use Rattle.bw_diagnose.proofs.Read.{told_tokens, told_lexemes}
use Rattle.bw_diagnose.proofs.known.with_tokens.Goals as goal

pub invariant_of-result : goal.invariant_of-result
invariant_of-result c = record {
  cut = c.as_slice.ensures ∙ told_tokens c.args.text.now c.args.told.now c.requires;
  says = c.as_slice-2.ensures.value ∙ told_lexemes c.args.text.now c.args.told.now c.requires;
}
