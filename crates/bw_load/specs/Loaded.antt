-- What is loaded is a sound world, whatever the bytes were.
use Rattle.std.specs.Prelude.{◌≡◌, ◌≤◌, ℕ, List, map, length, [], None}
use Rattle.bw_analyse.specs.declared.facts.Facts.{Facts}
use Rattle.bw_analyse.specs.Facts.{AreFacts}
use Rattle.bw_eval.specs.View.{document, values}
use Rattle.bw_flow.specs.Layout.{plan_of, flow_of}
use Rattle.bw_lang.specs.declared.limits.TheConstants.{MAX_FILE_BYTES}
use Rattle.bw_lang.specs.declared.service.Service.{Service}
use Rattle.bw_load.specs.Loads.{uncovered, by_cells, loaded}
use Rattle.bw_model.specs.Sessions.{Origin, Loaded, Live, World}
use Rattle.bw_run.specs.Walks.{number_at}
use Rattle.bw_saved.specs.declared.saved.Record.{Record}
use Rattle.bw_saved.specs.declared.saved.Saved.{Saved}
use Rattle.bw_saved.specs.declared.limits.TheConstants.{MAX_SAVED_WEIGHT}
use Rattle.bw_saved.specs.Sessions.Demands.{IsSaved}
use Rattle.bw_saved.specs.Sessions.Layout.{file}
use Rattle.bw_saved.specs.Sessions.Weights.{total_weight}
use Rattle.bw_sound.specs.Worlds.{IsSoundWorld}
use Rattle.bw_types.specs.declared.typed.Typed.{Typed}

-- how a session begins that is loaded: where it waits, with what it has and shows
abbrev pub origin_of : Service → Record → Origin
origin_of service r = Loaded (number_at (plan_of service).steps r.frame.point) (values r.frame.locals) r.frame.rests (document r.page) r.turn

-- it is live, and was sent nothing since
abbrev pub live_of : Service → Record → Live
live_of service r = record { number = r.number; key = r.key; talk = record { session = r.session; origin = origin_of service r; inputs = [] } }

-- the world that is loaded
abbrev pub world_of : Service → Saved → World
world_of service s = record { shared = values s.shared; next = s.next; first = s.first; live = map (live_of service) s.records }

-- where no cell refuses what may be saved, that world is sound: all of it is covered, and its documents are made of the service's templates
abbrev pub LoadedIsSound : Type 0
LoadedIsSound =
    (t : Typed) (facts : Facts) (s : Saved) → AreFacts t.service facts → IsSaved t.service s → uncovered t.service facts s ≡ None →
    IsSoundWorld t.service (world_of t.service s)

-- What may be saved, and weighs no more than may be, is loaded from its file as it was: unless a cell refuses it, which is what is answered then.
abbrev pub SavedIsLoaded : Type 0
SavedIsLoaded =
    (t : Typed) (facts : Facts) (text : List ℕ) (s : Saved) → IsSaved t.service s → length text ≤ MAX_FILE_BYTES → total_weight s ≤ MAX_SAVED_WEIGHT →
    loaded t.service facts text (file (flow_of t.service) text s) ≡ by_cells s (uncovered t.service facts s)
