use Rattle.bw_doc.proofs.DocLaws.{document}
use Rattle.bw_doc.proofs.laws.made_by_plugs.Goals as goal

pub returns : goal.returns
returns c = document
