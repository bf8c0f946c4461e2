-- Saved sessions, from which a service goes on.
use Rattle.std.specs.Prelude.{◌≡◌, ◌≢◌, ℕ, List, [], ◌++◌, Result, Ok, Err, codes, decimal}
use Rattle.bw_analyse.specs.declared.facts.Facts.{Facts}
use Rattle.bw_analyse.specs.Facts.{AreFacts}
use Rattle.bw_lang.specs.declared.service.Service.{Service}
use Rattle.bw_load.specs.declared.loading.LoadFault.{LoadFault}
use Rattle.bw_load.specs.declared.loading.LoadFault.TheVariants as faults
use Rattle.bw_load.specs.Loaded.{world_of}
use Rattle.bw_load.specs.Loads.{loaded}
use Rattle.bw_model.specs.Sessions.{World}
use Rattle.bw_saved.specs.declared.saved.Saved.{Saved}
use Rattle.bw_questions.specs.Questions.{Question, line}
use Rattle.bw_command.specs.declared.status.Status.TheVariants.{LoadRefused}

-- why a file of saved sessions is refused
abbrev pub load_line : LoadFault → List ℕ
load_line faults.TooLong = codes "load too long"
load_line faults.Malformed = codes "load malformed"
load_line (faults.Version n) = codes "load version " ++ decimal n
load_line faults.OtherService = codes "load other service"
load_line (faults.NotCovered k) = codes "load not covered " ++ decimal k
load_line faults.Memory = []

-- the bytes give this for the service, whose file has this text, by the facts of the service
abbrev pub Loads : Service → (text bytes : List ℕ) → Result Saved LoadFault → Type 0
Loads service text bytes answer = (facts : Facts) × AreFacts service facts × (loaded service facts text bytes ≡ answer)

-- which world do saved bytes give? It is the one in which they were loaded, and in which nothing was requested since.
abbrev pub loads : Service → (text bytes : List ℕ) → Question World
loads service text bytes = record {
  gives = λ world. (s : Saved) × Loads service text bytes (Ok s) × (world ≡ world_of service s);
  says = λ said. (fault : LoadFault) × Loads service text bytes (Err fault) × (fault ≢ faults.Memory)
      × (said ≡ record { status = LoadRefused; text = line (load_line fault) });
}
