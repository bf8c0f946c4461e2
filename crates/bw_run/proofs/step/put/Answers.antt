use Rattle.bw_run.proofs.step.put.Goals as goal

pub returns-then-is_known-clause-sound : goal.returns-then-is_known-clause-sound
returns-then-is_known-clause-sound c = c.store.ensures.sound c.args.typed.now.service.templates c.requires.sound c.requires.value
