-- What was saved is loaded as it was.
use Rattle.std.proofs.Common.{◌≡◌, ◌<◌, ◌≤◌, ◌^◌, ℕ, List, length, ap, arith}
use Rattle.bw_load.specs.Loaded.{SavedIsLoaded}
use Rattle.bw_load.specs.Loads.{by_file}
use Rattle.bw_load.proofs.Lawful.{typed_is_small}
use Rattle.bw_saved.proofs.Files.{file_again}
use Rattle.bw_saved.proofs.Lengths.{file_is_short}

pub saved_is_loaded : SavedIsLoaded
saved_is_loaded t facts text s h short light =
    ap (by_file t.service facts)
    (file_again t.service (typed_is_small t) text s h (omega (arith, short)) (file_is_short t.service text s h short light))
