-- What is kept of links brings about the world that they left, and has bytes.
use Rattle.std.proofs.Common.{List, [], ◌∷◌, ◌++◌, ap, subst}
use Rattle.std.specs.List.{AllByRecursion}
use Rattle.bw_format.specs.declared.format.Format.{Format}
use Rattle.bw_journal.specs.Layout.{Entry, Fits}
use Rattle.bw_journal.proofs.Readings.{fits_then}
use Rattle.bw_lang.specs.declared.service.Service.{Service}
use Rattle.bw_model.specs.Runs.{At}
use Rattle.bw_model.specs.Sessions.{World}
use Rattle.bw_bringing.specs.Bringing.{Brings}
use Rattle.bw_keeping.specs.Entering.{IsEntered}
use Rattle.bw_keeping.specs.Entering.IsEntered.{nothing, kept}
use Rattle.bw_world.specs.Streams.Courses.{Between}
use Rattle.bw_keeping.specs.Answered.{entries_of}
use Rattle.bw_survival.specs.Laws.{AnsweredBring, AnsweredFit}

-- what is kept of a message brings about the world behind it, and others go on from there
pub entered_brings : (formats : List Format) (service : Service) (at to : At) (entries others : List Entry) (last : World)
    → IsEntered formats service at to entries → Brings formats service to.world others last → Brings formats service at.world (entries ++ others) last
entered_brings formats service at to _ others last (nothing same) brings = subst (λ (w : World). Brings formats service w others last) same brings
entered_brings formats service at to _ others last (kept e r s bytes key fits sends guarded page world) brings =
    (r, s, sends, guarded, subst (λ (w : World). Brings formats service w others last) world brings)

-- what is kept of links that were answered one after another brings about the world that they left
pub answered_bring : AnsweredBring
answered_bring formats service from links [] to rest answered = ap (λ (b : Between). b.world) answered.0
answered_bring formats service from links (x ∷ xs) to rest (bytes, more, mid, all, one, others) =
    entered_brings formats service _ _ x.entries (entries_of xs) to.world one.entered (answered_bring formats service mid more xs to rest others)

-- and it has bytes
pub entered_fit : (formats : List Format) (service : Service) (at to : At) (entries : List Entry) → IsEntered formats service at to entries
    → AllByRecursion Fits entries
entered_fit formats service at to _ (nothing same) = tt
entered_fit formats service at to _ (kept e r s bytes key fits sends guarded page world) = (fits, tt)

pub answered_fit : AnsweredFit
answered_fit formats service from links [] to rest answered = tt
answered_fit formats service from links (x ∷ xs) to rest (bytes, more, mid, all, one, others) =
    fits_then x.entries (entries_of xs) (entered_fit formats service _ _ x.entries one.entered) (answered_fit formats service mid more xs to rest others)
