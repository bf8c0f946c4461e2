use Rattle.std.proofs.Common.{◌≡◌, inr, ap, sym, ◌∙◌}
use Rattle.bw_schema.specs.Steps.Reading.{read, read_said}
use Rattle.bw_schema.specs.Words.{said}
use Rattle.bw_schema.proofs.Schemas.{not_utf8, short_step}
use Rattle.bw_schema.proofs.reading.read.Goals as goal

pub returns-in_ok-said-in-Ok : goal.returns-in_ok-said-in-Ok
returns-in_ok-said-in-Ok c =
    let e : read c.args.bytes.now ≡ read_said c.as_slice.result.now =
    short_step c.args.bytes.now c.if-bytes-gt-MAX_SCHEMA_BYTES.false c.in-Ok.ensures.cases.1
    ∙ ap read_said (ap said (sym c.in-Ok.ensures.cases.0) ∙ sym c.in_ok-said-in-Ok.ensures ∙ sym c.as_slice.ensures.value) in
    rw e c.read_said.ensures

pub returns-in-Err : goal.returns-in-Err
returns-in-Err c = inr (not_utf8 c.args.bytes.now c.if-bytes-gt-MAX_SCHEMA_BYTES.false c.in-Err.ensures.cases.0)
