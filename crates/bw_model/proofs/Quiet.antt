-- What is answered without a page leaves the world as it was, and what a request costs.
use Rattle.std.proofs.Common.{◌≡◌, ℕ, ◌≤◌, false, refl, arith}
use Rattle.std.specs.Prelude.{◌-◌}
use Rattle.bw_lang.specs.declared.service.Service.{Service}
use Rattle.bw_meaning.specs.States.{Form, Went, Shown, Exited, Failed}
use Rattle.bw_model.specs.Laws.{is_page, OthersChangeNothing, StepsAreShort}
use Rattle.bw_model.specs.Sessions.{World}
use Rattle.bw_model.specs.Steps.{Step, step}
use Rattle.bw_model.proofs.Views.{View, refused, again, begun, gone_on, viewed}

-- a step that leaves the world where its reply is no page, and that took 100,000 units at most
record IsQuiet (w : World) (s : Step) : Type 0 where
  stays : is_page s.reply ≡ false → s.world ≡ w
  short : s.cost ≤ 100000

left_over : (units : ℕ) → 100000 - units ≤ 100000
left_over units = omega arith

quiet : (service : Service) (w : World) (form : Form) (s : Step) → View service w form s → IsQuiet w s
quiet service w form _ (refused reply e) = record { stays = λ e. refl; short = omega arith }
quiet service w form _ (again l others number key at locals rests d shared units o e) = record { stays = λ e. cc; short = omega arith }
quiet service w form _ (begun key session (Went st) e) = record { stays = λ e. refl; short = omega arith }
quiet service w form _ (begun key session (Shown at locals rests d shared units) e) = record { stays = λ e. cc; short = left_over units }
quiet service w form _ (begun key session (Exited d shared units) e) = record { stays = λ e. cc; short = left_over units }
quiet service w form _ (begun key session (Failed f units) e) = record { stays = λ e. refl; short = left_over units }
quiet service w form _ (gone_on l others number key (Went st) o e) = record { stays = λ e. refl; short = omega arith }
quiet service w form _ (gone_on l others number key (Shown at locals rests d shared units) o e) = record { stays = λ e. cc; short = left_over units }
quiet service w form _ (gone_on l others number key (Exited d shared units) o e) = record { stays = λ e. cc; short = left_over units }
quiet service w form _ (gone_on l others number key (Failed f units) o e) = record { stays = λ e. refl; short = left_over units }

pub others_change_nothing : OthersChangeNothing
others_change_nothing service w request key e = (quiet service w request.form (step service w request key) (viewed service w request key)).stays e

pub steps_are_short : StepsAreShort
steps_are_short service w request key = (quiet service w request.form (step service w request key) (viewed service w request key)).short
