use Rattle.bigwig.proofs.program.run.Goals as goal

pub returns-clause-words : goal.returns-clause-words
returns-clause-words g c = g.met.K.Keys.fit c.args.keys.now
