use Rattle.bigwig.proofs.BuiltIn.{built_in_reads, built_in_is_meant, built_in_is_not_refused}
use Rattle.bigwig.proofs.laws.built_in_is_read.Goals as goal

pub returns : goal.returns
returns c = record { reads = built_in_reads; meant = built_in_is_meant; never = built_in_is_not_refused }
