-- Worlds that are served.
use Rattle.bw_format.specs.declared.format.Format.{Format}
use Rattle.bw_save.specs.Frozen.{loaded_of}
use Rattle.bw_model.specs.Sessions.{World}
use Rattle.bw_model.specs.Within.{AreWithin}
use Rattle.bw_questions.specs.Asked.{Ruled}
use Rattle.bw_questions.specs.Checks.{IsRuled}
use Rattle.bw_sound.specs.Worlds.{IsSoundWorld}
use Rattle.bw_world.specs.Seen.{Seen}
use Rattle.std.specs.Prelude.{List}

-- a sound world, in which each value that a session stored is in its field's format
abbrev pub IsFitWorld : Ruled → World → Type 0
IsFitWorld ruled world = IsSoundWorld ruled.service world × AreWithin ruled.formats ruled.service world

-- the world in which what waits in this one was loaded is fit, where the check accepts the service
abbrev pub IsFitStart : List Format → Seen → Type 0
IsFitStart formats seen = (ruled : Ruled) → IsRuled seen.service formats ruled → IsFitWorld ruled (loaded_of seen)
