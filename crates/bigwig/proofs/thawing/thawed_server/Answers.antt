use Rattle.std.proofs.Common.{◌∙◌, ap}
use Rattle.bw_world.specs.Seen.{Seen}
use Rattle.bigwig.proofs.Begun.{fit_loaded, fit_server, refused_load, server_gives}
use Rattle.bigwig.proofs.thawing.thawed_server.Goals as goal

pub returns-in-Ok-of-clause-answers : goal.returns-in-Ok-of-clause-answers
returns-in-Ok-of-clause-answers c =
    server_gives c.args.served.checked.typed.service c.args.served.formats c.args.text.now c.args.bytes.now c.in-Ok.world c.in-Ok-of.server.world
    c.in-Ok-of.ensures.world c.in-Ok.ensures.service c.in-Ok.ensures.loaded

pub returns-in-Ok-of-clause-service : goal.returns-in-Ok-of-clause-service
returns-in-Ok-of-clause-service c = ap (λ (w : Seen). w.service) c.in-Ok-of.ensures.world ∙ c.in-Ok.ensures.service

pub returns-in-Ok-of-clause-fit : goal.returns-in-Ok-of-clause-fit
returns-in-Ok-of-clause-fit c =
    fit_server c.in-Ok.world c.in-Ok-of.server.world c.args.served.formats c.in-Ok-of.server.formats c.in-Ok-of.ensures.world c.in-Ok-of.ensures.formats
    (fit_loaded c.in-Ok.world c.args.served.formats c.in-Ok.ensures.sound)

pub returns-in-Err-clause-answers : goal.returns-in-Err-clause-answers
returns-in-Err-clause-answers c =
    refused_load c.args.served.checked.typed.service c.args.served.formats c.args.text.now c.args.bytes.now c.in-Err.fault c.load_line.result
    c.refused.result c.in-Err.ensures.fault c.refused.ensures.line c.refused.ensures.memory c.load_line.ensures.line c.load_line.ensures.reason
