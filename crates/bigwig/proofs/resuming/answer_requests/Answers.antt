use Rattle.std.proofs.Common.{List, ℕ, Option, ◌≡◌, refl, subst}
use Rattle.bw_format.specs.declared.format.Format.{Format}
use Rattle.bw_keeping.specs.Streamed.{Sight, Streams}
use Rattle.bw_keeping.specs.declared.ended.StreamEnded.{StreamEnded}
use Rattle.bw_keeping.specs.declared.ended.StreamEnded.TheVariants as ended
use Rattle.bw_lang.specs.declared.service.Service.{Service}
use Rattle.bw_out.specs.Doors.{Returned}
use Rattle.bigwig.proofs.resuming.answer_requests.Goals as goal

-- how it ended is what was matched
streams_so : (formats : List Format) (service : Service) (most : ℕ) (returned : Option (List Returned)) (before after : Sight) (end e : StreamEnded)
    → end ≡ e → Streams formats service most returned before after end → Streams formats service most returned before after e
streams_so formats service most returned before after end e is = subst (λ x. Streams formats service most returned before after x) is

pub returns-in-ReadFault-clause-streams : goal.returns-in-ReadFault-clause-streams
returns-in-ReadFault-clause-streams g c = (
  ended.ReadFault,
  g.W.Channel.held c.answer_stream-end.new.out,
  (refl, refl),
  streams_so _ _ _ _ _ _ c.answer_stream-end.result ended.ReadFault c.in-ReadFault.is c.answer_stream-end.ensures.streams,
)

pub returns-in-WriteFault-clause-streams : goal.returns-in-WriteFault-clause-streams
returns-in-WriteFault-clause-streams g c = (
  ended.WriteFault,
  g.W.Channel.held c.answer_stream-end.new.out,
  (refl, refl),
  streams_so _ _ _ _ _ _ c.answer_stream-end.result ended.WriteFault c.in-WriteFault.is c.answer_stream-end.ensures.streams,
)

pub returns-in-JournalFault-clause-streams : goal.returns-in-JournalFault-clause-streams
returns-in-JournalFault-clause-streams g c = (
  ended.JournalFault,
  g.W.Channel.held c.answer_stream-end.new.out,
  c.tell_fault.ensures.prints,
  streams_so _ _ _ _ _ _ c.answer_stream-end.result ended.JournalFault c.in-JournalFault.is c.answer_stream-end.ensures.streams,
)
