use Rattle.bigwig.proofs.beginning.serve_beside.Goals as goal

pub returns-clause-keeps : goal.returns-clause-keeps
returns-clause-keeps g c ruled text content is read = c.keep_begun-status.ensures.keeps ruled text content is read
