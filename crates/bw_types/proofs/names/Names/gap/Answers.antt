use Rattle.std.proofs.Common.{Some, ap, sym, ◌∙◌, inr}
use Rattle.bw_types.specs.declared.fault.TypeFault.TheVariants.{Unknown}
use Rattle.bw_types.specs.ExpressionFaults.{gap_unknown}
use Rattle.bw_types.specs.Faults.{first_member}
use Rattle.bw_types.specs.Gaps.{kind_of_gap}
use Rattle.bw_types.proofs.names.Names.gap.Goals as goal

pub returns-in_ok-copy-in-None-clause-first : goal.returns-in_ok-copy-in-None-clause-first
returns-in_ok-copy-in-None-clause-first c = record {
  why = inr (ap (λ o. first_member (gap_unknown c.args.name.now o))
      (ap (kind_of_gap c.args.self.now.service.now) (sym c.as_str.ensures.text) ∙ sym c.in-None.ensures)
      ∙ ap (λ v. Some (Unknown v)) (sym c.in_ok-copy-in-None.ensures));
}
