use Rattle.bw_schema.proofs.SchemaLaws.{one_schema, not_both, one_reason, read_or_refused}
use Rattle.bw_schema.proofs.laws.decided.Goals as goal

pub returns : goal.returns
returns c = record { one = one_schema; not_both = not_both; reason = one_reason; always = read_or_refused }
