use Rattle.bw_sound.proofs.Runs.{empty_is_sound, steps_keep_sound, worlds_are_sound}
use Rattle.bw_sound.proofs.laws.worlds_are_sound.Goals as goal

pub returns : goal.returns
returns c = record { empty = empty_is_sound; steps = steps_keep_sound; reached = worlds_are_sound }
