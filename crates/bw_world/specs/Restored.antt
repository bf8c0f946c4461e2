-- Worlds that go on from sessions that were kept.
use Rattle.std.specs.Prelude.{◌≡◌, ℕ, List, [], map}
use Rattle.std.specs.List.{All}
use Rattle.bw_eval.specs.View.{document, values}
use Rattle.bw_lang.specs.declared.service.Service.{Service}
use Rattle.bw_model.specs.Sessions.{Loaded, Live, World}
use Rattle.bw_run.specs.Walks.{number_at}
use Rattle.bw_world.specs.declared.restoring.Parts.{Parts}
use Rattle.bw_world.specs.declared.suspended.Suspended.{Suspended}
use Rattle.bw_flow.specs.Layout.{flow_of}
use Rattle.bw_world.specs.Seen.{Seen}

-- sessions by their numbers
abbrev pub by_number : List Suspended → List (ℕ × Suspended)
by_number live = map (λ (s : Suspended). (s.number, s)) live

-- each of them stands by its own number
abbrev pub AreNumbered : List (ℕ × Suspended) → Type 0
AreNumbered live = All (λ x. x.0 ≡ x.1.number) live

-- the world of these parts
abbrev pub seen_of : Parts → Seen
seen_of p = record { service = p.checked.typed.service; shared = p.shared; next = p.next; first = p.first; live = by_number p.live }

-- a session that was kept, in the meaning: it was loaded where it waits, and was sent nothing since
abbrev pub live_of : Service → Suspended → Live
live_of service s = record {
  number = s.number;
  key = s.key;
  talk = record {
    session = s.session;
    origin = Loaded (number_at (flow_of service) s.frame.point) (values s.frame.locals) s.frame.rests (document s.page) s.turn;
    inputs = [];
  };
}

-- and the world of such sessions
abbrev pub loaded_world : Parts → World
loaded_world p = record { shared = values p.shared; next = p.next; first = p.first; live = map (live_of p.checked.typed.service) p.live }
