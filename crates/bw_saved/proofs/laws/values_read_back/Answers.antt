use Rattle.bw_saved.proofs.DocumentLaws.{document_codec}
use Rattle.bw_saved.proofs.ValueLaws.{variables_codec}
use Rattle.bw_saved.proofs.SessionLaws.{session_codec}
use Rattle.bw_saved.proofs.Waiting.{waiting_codec}
use Rattle.bw_saved.proofs.laws.values_read_back.Goals as goal

pub returns-clause-documents : goal.returns-clause-documents
returns-clause-documents c = document_codec

pub returns-clause-variables : goal.returns-clause-variables
returns-clause-variables c = variables_codec

pub returns-clause-sessions : goal.returns-clause-sessions
returns-clause-sessions c = session_codec

pub returns-clause-waiting : goal.returns-clause-waiting
returns-clause-waiting c = waiting_codec
