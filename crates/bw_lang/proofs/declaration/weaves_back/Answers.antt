use Rattle.bw_lang.proofs.Declarations.{weaves_back}
use Rattle.bw_lang.proofs.declaration.weaves_back.Goals as goal

pub returns : goal.returns
returns c = weaves_back
