use Rattle.std.proofs.Common.{List, ℕ, ◌≡◌, refl, subst}
use Rattle.bw_format.specs.declared.format.Format.{Format}
use Rattle.bw_keeping.specs.Served.{Serves, View}
use Rattle.bw_keeping.specs.declared.ended.Ended.{Ended}
use Rattle.bw_keeping.specs.declared.ended.Ended.TheVariants as ended
use Rattle.bw_lang.specs.declared.service.Service.{Service}
use Rattle.bigwig.proofs.beginning.keep_links.Goals as goal

-- how it ended is what was matched
serves_so : (formats : List Format) (service : Service) (most : ℕ) (before after : View) (end e : Ended) → end ≡ e
    → Serves formats service most before after end → Serves formats service most before after e
serves_so formats service most before after end e is = subst (λ x. Serves formats service most before after x) is

pub returns-in-Done-clause-serves : goal.returns-in-Done-clause-serves
returns-in-Done-clause-serves g c =
    (ended.Done, (refl, refl), serves_so _ _ _ _ _ c.serve_kept-ended.result ended.Done c.in-Done.is c.serve_kept-ended.ensures.serves)

pub returns-in-DoorFault-clause-serves : goal.returns-in-DoorFault-clause-serves
returns-in-DoorFault-clause-serves g c =
    (ended.DoorFault, (refl, refl), serves_so _ _ _ _ _ c.serve_kept-ended.result ended.DoorFault c.in-DoorFault.is c.serve_kept-ended.ensures.serves)

pub returns-in-JournalFault-clause-serves : goal.returns-in-JournalFault-clause-serves
returns-in-JournalFault-clause-serves g c = (
  ended.JournalFault,
  c.tell_fault.ensures.prints,
  serves_so _ _ _ _ _ c.serve_kept-ended.result ended.JournalFault c.in-JournalFault.is c.serve_kept-ended.ensures.serves,
)
