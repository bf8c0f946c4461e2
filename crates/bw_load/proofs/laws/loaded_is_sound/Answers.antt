use Rattle.bw_load.proofs.Loaded.{loaded_is_sound}
use Rattle.bw_load.proofs.laws.loaded_is_sound.Goals as goal

pub returns : goal.returns
returns c = loaded_is_sound
