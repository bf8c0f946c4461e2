use Rattle.bw_stable.proofs.Replaced.{replaces_all, replaces_between, replaces_whole}
use Rattle.bw_stable.proofs.laws.files_are_replaced_whole.Goals as goal

pub returns-clause-all : goal.returns-clause-all
returns-clause-all c = replaces_all

pub returns-clause-whole : goal.returns-clause-whole
returns-clause-whole c = replaces_whole

pub returns-clause-between : goal.returns-clause-between
returns-clause-between c = replaces_between
