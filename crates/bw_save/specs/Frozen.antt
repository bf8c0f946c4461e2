-- What is saved of a world, and what goes on from it.
use Rattle.std.specs.Prelude.{ℕ, map}
use Rattle.bw_check.specs.declared.checked.Checked.{Checked}
use Rattle.bw_load.specs.Loaded.{world_of}
use Rattle.bw_model.specs.Sessions.{World}
use Rattle.bw_saved.specs.declared.saved.Record.{Record}
use Rattle.bw_saved.specs.declared.saved.Saved.{Saved}
use Rattle.bw_world.specs.declared.restoring.Parts.{Parts}
use Rattle.bw_world.specs.declared.suspended.Suspended.{Suspended}
use Rattle.bw_world.specs.Seen.{Seen}

-- what is saved of a live session: all of it
abbrev pub record_of : Suspended → Record
record_of s = record { number = s.number; key = s.key; session = s.session; turn = s.turn; frame = s.frame; page = s.page }

-- and the session that goes on from it
abbrev pub suspended_of : Record → Suspended
suspended_of r = record { number = r.number; key = r.key; session = r.session; turn = r.turn; frame = r.frame; page = r.page }

-- what is saved of a world
abbrev pub saved_of : Seen → Saved
saved_of w = record { next = w.next; first = w.first; shared = w.shared; records = map (λ (x : ℕ × Suspended). record_of x.1) w.live }

-- and the parts of the world that goes on from it
abbrev pub parts_of : Checked → Saved → Parts
parts_of checked s = record { checked = checked; next = s.next; first = s.first; shared = s.shared; live = map suspended_of s.records }

-- the world of the meaning in which what is saved of a world was loaded, and in which nothing was requested since
abbrev pub loaded_of : Seen → World
loaded_of w = world_of w.service (saved_of w)
