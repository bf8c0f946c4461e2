-- However a stream was answered beside a journal, what sessions stored stays within the formats.
use Rattle.std.proofs.Common.{ℕ, List, [], ◌∷◌, sym, subst, inl, inr}
use Rattle.bw_format.specs.declared.format.Format.{Format}
use Rattle.bw_http.specs.declared.replies.Reply.{Reply}
use Rattle.bw_lang.specs.declared.service.Service.{Service}
use Rattle.bw_model.specs.Runs.{At, Stops, ended, refused}
use Rattle.bw_model.specs.Within.{AreWithin}
use Rattle.bw_model.proofs.Storing.{turn_within}
use Rattle.bw_world.specs.Streams.Answers.{Place}
use Rattle.bw_keeping.specs.StreamsWithin.{StreamsKeepWithin}
use Rattle.bw_keeping.specs.Streamed.{AreHandled, IsOver, Message}
use Rattle.bw_keeping.specs.declared.ended.StreamEnded.{StreamEnded}
use Rattle.bw_keeping.specs.declared.ended.StreamEnded.TheVariants.{Ended, ReadFault, WriteFault, JournalFault}

module _ (formats : List Format) (service : Service) where
  handled_within : (at to : At) (xs : List Message) → AreHandled formats service at xs to → AreWithin formats service at.world
      → AreWithin formats service to.world
  handled_within at to [] same h = subst (λ (a : At). AreWithin formats service a.world) (sym same) h
  handled_within at to (x ∷ xs) (mid, one, rest) h =
      handled_within mid to xs rest (turn_within formats service at mid x.reply x.cost one.turn h)

  -- what stops a stream leaves the world
  stops_within : (at to : At) (last : List Reply) → Stops at last to → AreWithin formats service at.world → AreWithin formats service to.world
  stops_within at _ _ (ended rest end) h = h
  stops_within at _ _ (refused outcome reply rest wrong why) h = h

  over_within : (most later : ℕ) (written : List ℕ) (xs : List Message) (mid to : At) (now : Place) (end : StreamEnded)
      → IsOver formats service most written xs mid to now later end → AreWithin formats service mid.world → AreWithin formats service to.world
  over_within most later written xs mid to now (Ended count) (last, inl full, all, wanted, cost) h =
      subst (λ (a : At). AreWithin formats service a.world) (sym full.2) h
  over_within most later written xs mid to now (Ended count) (last, inr stops, all, wanted, cost) h = stops_within mid to last stops.1 h
  over_within most later written xs mid to now ReadFault over h = subst (λ (a : At). AreWithin formats service a.world) (sym over.0) h
  over_within most later written xs mid to now WriteFault (last, inl full, part, cost) h =
      subst (λ (a : At). AreWithin formats service a.world) (sym full.2) h
  over_within most later written xs mid to now WriteFault (last, inr stops, part, cost) h = stops_within mid to last stops.1 h
  over_within most later written xs mid to now JournalFault (lost, one, some, few, all, cost) h =
      turn_within formats service mid to lost.reply lost.cost one.turn h

pub streams_keep_within : StreamsKeepWithin
streams_keep_within formats service most returned sum steps at written done after end s h =
    over_within formats service most s.later written s.messages s.mid s.to after.place end s.over
    (handled_within formats service at s.mid s.messages s.handled h)
