use Rattle.bw_read.proofs.Decided as decided
use Rattle.bw_read.proofs.laws.one_page.Goals as goal

pub returns : goal.returns
returns c = record { one = decided.one_page; always = decided.page_or_none }
