use Rattle.bw_saved.proofs.Files.{file_found, file_again}
use Rattle.bw_saved.proofs.Lengths.{file_is_short}
use Rattle.bw_saved.proofs.laws.files_read_back.Goals as goal

pub returns-clause-found : goal.returns-clause-found
returns-clause-found c = file_found

pub returns-clause-again : goal.returns-clause-again
returns-clause-again c = file_again

pub returns-clause-short : goal.returns-clause-short
returns-clause-short c = file_is_short
