use Rattle.std.proofs.Common.{List, sym, subst}
use Rattle.std.proofs.lemmas.Result.{err_from_is_err_and}
use Rattle.bw_schema.specs.Reads.{Reads}
use Rattle.bw_schema.specs.declared.rules.Rule.{Rule}
use Rattle.bw_schema.proofs.Schemas.{read_is, says_refused}
use Rattle.bw_schema.proofs.reading.read_schema.Goals as goal

pub returns-in_err-root-clause-refused : goal.returns-in_err-root-clause-refused
returns-in_err-root-clause-refused c =
    let p = err_from_is_err_and c.from_residual.result c.from_residual.ensures.1 in
    rw (p.1, p.2) (says_refused c.args.bytes.now c.in_err-root.field-0.0 c.in_err-root.ensures)

pub invariant_of-result : goal.invariant_of-result
invariant_of-result c = record {
  readable = ∣ (
    c.args.bytes.now,
    subst (λ (rules : List Rule). Reads c.args.bytes.now c.in_ok-root.root rules) (sym c.from_vec.ensures)
        (read_is c.args.bytes.now c.in_ok-root.root c.in_ok-root.rules.items c.in_ok-root.ensures),
  ) ∣₁;
}

pub returns-clause-ok : goal.returns-clause-ok
returns-clause-ok c =
    subst (λ (rules : List Rule). Reads c.args.bytes.now c.in_ok-root.root rules) (sym c.from_vec.ensures)
    (read_is c.args.bytes.now c.in_ok-root.root c.in_ok-root.rules.items c.in_ok-root.ensures)
