-- What taking a message of a stream, and keeping it, does.
use Rattle.std.specs.Prelude.{◌≡◌, List, ⊤}
use Rattle.bw_format.specs.declared.format.Format.{Format}
use Rattle.bw_journal.specs.Layout.{Entry}
use Rattle.bw_lang.specs.declared.service.Service.{Service}
use Rattle.bw_model.specs.Runs.{At}
use Rattle.bw_world.specs.Streams.Answers.{Place, IsAt}
use Rattle.bw_world.specs.Streams.Taking.{Taking}
use Rattle.bw_world.specs.declared.outcomes.Taken.{Taken}
use Rattle.bw_world.specs.declared.outcomes.Taken.TheVariants as takens
use Rattle.bw_keeping.specs.Entering.{IsEntered}
use Rattle.bw_keeping.specs.Groups.{Grouped, Grows}

-- the code stands behind a message that was taken, and what is kept of it was put behind the entries of the group
pub record TakesFrom (formats : List Format) (service : Service) (old new : Place) (before after : Grouped) (taken : Taken) (at : At) : Type 0 where
  pub to : At
  pub stands : IsAt new to
  pub taking : Taking formats service at to old new taken
  pub entries : List Entry
  pub entered : IsEntered formats service at to entries
  pub grows : Grows before after entries

-- so it is from each place of a model stream at which the code stood
abbrev pub Takes : List Format → Service → Place → Place → Grouped → Grouped → Taken → Type 0
Takes formats service old new before after taken = (at : At) → IsAt old at → TakesFrom formats service old new before after taken at

-- nothing is put into the group where no message was handled
abbrev pub Leaves : Grouped → Grouped → Taken → Type 0
Leaves before after (takens.Answered reply) = ⊤
Leaves before after taken = after ≡ before
