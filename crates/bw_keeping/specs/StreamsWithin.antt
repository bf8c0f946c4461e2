-- The law of streams that are answered beside a journal: what sessions stored.
use Rattle.std.specs.Prelude.{ℕ, List, Option}
use Rattle.bw_format.specs.declared.format.Format.{Format}
use Rattle.bw_lang.specs.declared.service.Service.{Service}
use Rattle.bw_model.specs.Runs.{At}
use Rattle.bw_model.specs.Within.{AreWithin}
use Rattle.bw_out.specs.Doors.{Returned}
use Rattle.bw_stable.specs.Deeds.{Deed}
use Rattle.bw_keeping.specs.Streamed.{HasStreamed, Sight}
use Rattle.bw_keeping.specs.declared.ended.StreamEnded.{StreamEnded}

-- however a stream was answered beside a journal, what sessions stored stays within the formats
abbrev pub StreamsKeepWithin : Type 0
StreamsKeepWithin =
    (formats : List Format) (service : Service) (most : ℕ) (returned : Option (List Returned)) (sum steps : ℕ) (at : At) (written : List ℕ)
    (done : List Deed) (after : Sight) (end : StreamEnded) (streamed : HasStreamed formats service most returned sum steps at written done after end)
    → AreWithin formats service at.world → AreWithin formats service streamed.to.world
