use Rattle.std.proofs.Common.{refl}
use Rattle.bw_save.specs.Frozen.{loaded_of}
use Rattle.bigwig.specs.declared.server.Server.{Server}
use Rattle.bigwig.proofs.Begun.{file_loaded, no_file_loaded}
use Rattle.bigwig.proofs.thawing.load_server.Goals as goal

pub returns-in-Ok-clause-answers : goal.returns-in-Ok-clause-answers
returns-in-Ok-clause-answers g c =
    file_loaded (λ (s : Server). loaded_of s.world) _ c.args.name.now c.args.text.now _ c.deref.result.now _ _ 69206017 c.thawed_server.result refl
    c.in-Ok.ensures.found c.deref.ensures.value c.thawed_server.ensures.answers

pub returns-in-Err-clause-answers : goal.returns-in-Err-clause-answers
returns-in-Err-clause-answers g c =
    no_file_loaded (λ (s : Server). loaded_of s.world) _ c.args.name.now c.args.text.now _ _ c.in-Err.stop c.in-Err.ensures.stops
