use Rattle.bw_tmpl.proofs.Runs.{name_utf8}
use Rattle.bw_tmpl.proofs.chars.name_at.Goals as goal

pub returns-in-Err : goal.returns-in-Err
returns-in-Err c = absurd (c.in-Err.ensures.cases.0 (rw c.name_length-n.ensures.value (name_utf8 c.args.class c.args.bytes.now)))
