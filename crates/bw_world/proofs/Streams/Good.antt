-- The replies to a stream are good.
use Rattle.std.proofs.Common.{List}
use Rattle.bw_format.specs.declared.format.Format.{Format}
use Rattle.bw_lang.specs.declared.service.Service.{Service}
use Rattle.bw_sound.proofs.Runs.{runs_are_good}
use Rattle.bw_world.specs.Streams.Answers.{Place}
use Rattle.bw_world.specs.Streams.Good.{RepliesAreGood}

pub replies_are_good : (formats : List Format) (service : Service) (place : Place) → RepliesAreGood formats service place
replies_are_good formats service place schema at replies accepts here sound = runs_are_good formats service schema at replies accepts sound
