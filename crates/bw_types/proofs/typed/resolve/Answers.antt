use Rattle.bw_types.proofs.typed.resolve.Goals as goal

pub invariant_of-result : goal.invariant_of-result
invariant_of-result c = record {
  well_typed = c.in-Ok-fields_of.ensures.well_typed;
  readable = ∣ c.requires ∣₁;
  named = c.in-Ok-fields_of.ensures.names;
  known = c.in-Ok.ensures;
}
