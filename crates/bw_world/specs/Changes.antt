-- What a turn changes in a world.
use Rattle.std.specs.Prelude.{◌≡◌, ◌⊎◌, ℕ, suc, List, ◌∷◌, take, nat_eq}
use Rattle.std.specs.Map.{remove_entry}
use Rattle.bw_doc.specs.Made.{Made, tree}
use Rattle.bw_eval.specs.declared.value.Value.{Value}
use Rattle.bw_http.specs.declared.replies.Reply.{Reply}
use Rattle.bw_http.specs.declared.replies.Reply.TheVariants as replies
use Rattle.bw_http.specs.declared.request.Path.TheVariants as paths
use Rattle.bw_http.specs.Paths.{spelling}
use Rattle.bw_lang.specs.declared.service.Service.{Service}
use Rattle.bw_lang.specs.declared.turn.TurnFault.{TurnFault}
use Rattle.bw_lang.specs.declared.turn.TurnFault.TheVariants.{Memory}
use Rattle.bw_lang.specs.Document.Print.{print}
use Rattle.bw_page.specs.Pages.{show_page, exit_page}
use Rattle.bw_run.specs.declared.turn.Frame.{Frame}
use Rattle.bw_run.specs.declared.fields.FieldFault.{FieldFault}
use Rattle.bw_run.specs.declared.fields.FieldFault.TheVariants as fields
use Rattle.bw_world.specs.declared.suspended.Suspended.{Suspended}
use Rattle.bw_world.specs.Seen.{Seen}
use Rattle.bw_model.specs.declared.limits.TheConstants.{MAX_LIVE}

-- the page of a session's document, with the target of its turn, and a session's last page
abbrev pub shown_page : Service → (number key turn : ℕ) → Made → List ℕ
shown_page service number key turn d = print (show_page service.name (spelling (paths.Turn number key turn)) (tree d))

abbrev pub last_page : Service → Made → List ℕ
last_page service d = print (exit_page service.name (tree d))

-- a session at its first turn, and the same session at the next one
abbrev pub begun : Seen → ℕ → ℕ → Frame → Made → Suspended
begun w key session frame page = record { number = w.next; key = key; session = session; turn = w.first; frame = frame; page = page }

abbrev pub went_on : Suspended → Frame → Made → Suspended
went_on s frame page = record { number = s.number; key = s.key; session = s.session; turn = suc s.turn; frame = frame; page = page }

-- a new session in front, of at most 1,000
abbrev pub with_new : Seen → Suspended → List (List ℕ × Value) → Seen
with_new w s shared = record w { shared = shared; next = suc w.next; live = take MAX_LIVE ((w.next, s) ∷ w.live) }

-- a session that stands there already, in front
abbrev pub with_first : Seen → Suspended → List (List ℕ × Value) → Seen
with_first w s shared = record w { shared = shared; live = (s.number, s) ∷ remove_entry (nat_eq s.number) w.live }

-- without the session of this number
abbrev pub without : Seen → ℕ → List (List ℕ × Value) → Seen
without w number shared = record w { shared = shared; live = remove_entry (nat_eq number) w.live }

-- want of memory and no change, or this reply and this world
abbrev pub Either : Seen → Seen → Reply → Reply → Seen → Type 0
Either old new reply due then = ((reply ≡ replies.Memory) × (new ≡ old)) ⊎ ((reply ≡ due) × (new ≡ then))

-- the reply to a field that isn't as it is due
abbrev pub refused : FieldFault → Reply
refused (fields.Lacking f) = replies.Lacking f
refused (fields.Repeated f) = replies.Repeated f
refused (fields.TooLong f) = replies.FieldTooLong f

-- the reply to a turn that fails; want of memory isn't said to be the turn's
abbrev pub failure : TurnFault → Reply
failure Memory = replies.Memory
failure f = replies.Failed f
