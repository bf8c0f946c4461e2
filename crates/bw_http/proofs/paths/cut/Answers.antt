use Rattle.bw_http.proofs.Spellings.{cuts}
use Rattle.bw_http.proofs.paths.cut.Goals as goal

pub returns : goal.returns
returns c = cuts c.args.mark c.args.text.now c.split_once.result c.split_once.ensures.cases c.requires
