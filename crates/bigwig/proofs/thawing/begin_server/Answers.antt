use Rattle.bw_save.specs.Frozen.{loaded_of}
use Rattle.bigwig.specs.Asked.{start}
use Rattle.bigwig.specs.declared.server.Server.{Server}
use Rattle.bigwig.proofs.Begun.{fit_empty, named_load, no_load, no_room}
use Rattle.bigwig.proofs.thawing.begin_server.Goals as goal

pub returns-in-Some-clause-answers : goal.returns-in-Some-clause-answers
returns-in-Some-clause-answers g c =
    named_load (λ (s : Server). loaded_of s.world) _ c.args.load.now c.in-Some.name _ c.args.text.now _ _ c.load_server.result c.in-Some.is c.as_str.ensures.text
    c.load_server.ensures.answers

pub returns-in-Ok-clause-answers : goal.returns-in-Ok-clause-answers
returns-in-Ok-clause-answers g c =
    no_load _ c.args.load.now c.args.text.now _ _ c.in-Ok.server.world c.in-None.is c.in-Ok.ensures.stands c.in-Ok.ensures.service

pub returns-in-Ok-clause-fit : goal.returns-in-Ok-clause-fit
returns-in-Ok-clause-fit g c =
    fit_empty c.in-Ok.server.world c.in-Ok.server.formats c.in-Ok.ensures.stands c.in-Ok.ensures.sound

pub returns-in-Err-clause-answers : goal.returns-in-Err-clause-answers
returns-in-Err-clause-answers g c =
    no_room (λ (s : Server). loaded_of s.world) _ (λ d name. start d name c.args.load.now) _ _ c.args.text.now
