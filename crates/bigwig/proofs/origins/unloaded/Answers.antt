use Rattle.std.proofs.Common.{ℕ, sym, subst, ◌∙◌}
use Rattle.bw_journal.proofs.HeadParts.{length-front_of, length-head}
use Rattle.bw_recall.specs.declared.recalling.Recalled.TheVariants as recalled
use Rattle.bigwig.specs.Finding.{IsToldBy}
use Rattle.bigwig.proofs.origins.unloaded.Goals as goal

pub returns-in_default-clause-told : goal.returns-in_default-clause-told
returns-in_default-clause-told c =
    let text = c.args.text.now in
    subst (λ (n : ℕ). IsToldBy (recalled.Damaged n) c.stop_of.result) (c.head_bytes.ensures ∙ length-head text ∙ sym (length-front_of 1 text))
    c.stop_of.ensures.told
