use Rattle.std.proofs.Common.{◌≡◌, subst, sym}
use Rattle.bw_lang.specs.declared.service.Service.{Service}
use Rattle.bw_model.specs.Sessions.{empty}
use Rattle.bw_sound.specs.Worlds.{BeginsSound}
use Rattle.bw_world.specs.Seen.{Seen}
use Rattle.bw_world.specs.Stands.{StandsFor}
use Rattle.bigwig.proofs.Begun.{made_of}
use Rattle.bigwig.proofs.server.Server.new.Goals as goal

pub returns-clause-service : goal.returns-clause-service
returns-clause-service c =
    made_of (λ (w : Seen). w.service ≡ c.args.served.checked.typed.service) c.of.result c.in-Ok.world c.of.ensures.world c.in-Ok.ensures.service

pub returns-clause-stands : goal.returns-clause-stands
returns-clause-stands c =
    made_of (λ (w : Seen). StandsFor w (empty w.service)) c.of.result c.in-Ok.world c.of.ensures.world
    (subst (λ (s : Service). StandsFor c.in-Ok.world (empty s)) (sym c.in-Ok.ensures.service) c.in-Ok.ensures.stands)

pub returns-clause-sound : goal.returns-clause-sound
returns-clause-sound c = made_of (λ (w : Seen). BeginsSound w.service) c.of.result c.in-Ok.world c.of.ensures.world c.in-Ok.ensures.sound
