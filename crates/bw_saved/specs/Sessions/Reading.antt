-- Reading of saved sessions from left to right.
use Rattle.std.specs.Prelude.{ℕ, ◌+◌, ◌==◌, nat_le, nat_lt, position, slice_get, Bool, true, false, ◌&&◌, List, length, Option, Some, None, if◌then◌else◌}
use Rattle.std.specs.Int.{w16, w32, w64}
use Rattle.bw_doc.specs.Made.{tree}
use Rattle.bw_eval.specs.declared.value.Value.{Value}
use Rattle.bw_eval.specs.View.{values}
use Rattle.bw_flow.specs.Flows.{is_show, is_statement}
use Rattle.bw_flow.specs.Steps.{Plan, Step}
use Rattle.bw_lang.specs.declared.service.Service.{Service}
use Rattle.bw_lang.specs.declared.turn.TheConstants.{MAX_DOCUMENT_BYTES, MAX_SESSION_WEIGHT, MAX_SHARED_WEIGHT}
use Rattle.bw_lang.specs.Document.Print.{print}
use Rattle.bw_meaning.specs.Values.{weights}
use Rattle.bw_model.specs.declared.limits.TheConstants.{MAX_LIVE, MAX_NUMBER}
use Rattle.bw_run.specs.declared.turn.Frame.{Frame}
use Rattle.bw_run.specs.Follow.Kinds.{kinds_in}
use Rattle.bw_saved.specs.declared.saved.Record.{Record}
use Rattle.bw_saved.specs.declared.saved.Saved.{Saved}
use Rattle.bw_saved.specs.Documents.Reading.{document_at}
use Rattle.bw_saved.specs.Fields.Reading.{◌>>=◌, number_at, strings_at, repeated}
use Rattle.bw_saved.specs.Sessions.Weights.{session_weight, are_apart}
use Rattle.bw_saved.specs.Values.Reading.{variables_at}
use Rattle.bw_types.specs.Scopes.{shared_kinds}

-- what is read, if the test holds
abbrev pub only_if : {A : Type 0} → Bool → Option A → Option A
only_if b read = if b then read else None

-- ---- the show at which a session waits

-- the number of the statement of a point
abbrev pub number_at_point : Option Step → Option ℕ
number_at_point None = None
number_at_point (Some x) = Some x.number

-- the number of a session's first statement, or of none behind the last session
abbrev pub number_of_first : Plan → ℕ → Option ℕ
number_of_first flow session = slice_get flow.firsts session >>= λ p. number_at_point (slice_get flow.steps p)

-- the number is below that of the first statement of the next session, if there is one
abbrev pub is_before : ℕ → Option ℕ → Bool
is_before n None = true
is_before n (Some behind) = nat_lt n behind

-- the number is at least that of the session's first statement, and before the next session
abbrev pub is_from : ℕ → Option ℕ → Option ℕ → Bool
is_from n None next = false
is_from n (Some first) next = if nat_lt n first then false else is_before n next

-- the number of a statement is one of the session's
abbrev pub is_own : Plan → ℕ → ℕ → Bool
is_own flow session n = is_from n (number_of_first flow session) (number_of_first flow (session + 1))

-- the place, if a show stands there
abbrev pub if_shows : ℕ → Option Step → Option ℕ
if_shows p None = None
if_shows p (Some x) = if is_show x.act then Some p else None

-- the place of the show of this number, if it is one of the session's
abbrev pub show_at : Plan → ℕ → ℕ → Option ℕ
show_at flow session n = if is_own flow session n then (position (is_statement n) flow.steps >>= λ p. if_shows p (slice_get flow.steps p)) else None

-- ---- sessions

-- a session may have this number and this turn, where that is the next number
abbrev pub may_be : ℕ → ℕ → ℕ → Bool
may_be next number turn = nat_lt 0 number && (nat_lt number next && nat_lt 0 turn)

-- it carries no more than a session may, and its document prints to no more than a page may have
abbrev pub is_light : Record → Bool
is_light r = nat_le (session_weight r) MAX_SESSION_WEIGHT && nat_le (length (print (tree r.page))) MAX_DOCUMENT_BYTES

-- the session, if it is light, and the bytes behind it
abbrev pub if_light : Record → List ℕ → Option (Record × List ℕ)
if_light r rest = if is_light r then Some (r, rest) else None

-- the locals and the rests at a point
unfoldable pub frame_of : Service → ℕ → Option Step → List ℕ → Option (Frame × List ℕ)
frame_of service place None bytes = None
frame_of service place (Some x) bytes = do
  locals ← variables_at service (kinds_in x.scope) bytes
  rests ← repeated strings_at x.inside locals.1
  Some (record { point = place; locals = locals.0; rests = rests.0 }, rests.1)

-- those at a place of the flow
unfoldable pub frame_at : Service → List Step → ℕ → List ℕ → Option (Frame × List ℕ)
frame_at service flow place bytes = frame_of service place (slice_get flow place) bytes

-- a session, where this is the next number
unfoldable pub session_at : Service → Plan → ℕ → List ℕ → Option (Record × List ℕ)
session_at service flow next bytes = do
  number ← number_at w32 bytes
  key ← number_at w64 number.1
  session ← number_at w16 key.1
  turn ← number_at w32 session.1
  at ← number_at w32 turn.1
  place ← show_at flow session.0 at.0
  frame ← frame_at service flow.steps place at.1
  page ← document_at service frame.1
  only_if (may_be next number.0 turn.0)
      (if_light (record { number = number.0; key = key.0; session = session.0; turn = turn.0; frame = frame.0; page = page.0 }) page.1)

-- ---- all that waits

-- the numbers, the weight of the shared variables and the number of sessions are as they may be
abbrev pub begins_well : ℕ → ℕ → List (List ℕ × Value) → ℕ → Bool
begins_well next first shared count =
    nat_lt 0 next && (nat_le next (MAX_NUMBER + 1) && (nat_lt 0 first && (nat_le (weights (values shared)) MAX_SHARED_WEIGHT && nat_le count MAX_LIVE)))

-- what was read, if its sessions have numbers of their own, and the bytes behind it
abbrev pub if_apart : Saved → List ℕ → Option (Saved × List ℕ)
if_apart s rest = if are_apart s.records then Some (s, rest) else None

-- so many sessions, behind what stands in front of them
unfoldable pub sessions_at : Service → Plan → ℕ → ℕ → List (List ℕ × Value) → ℕ → List ℕ → Option (Saved × List ℕ)
sessions_at service flow next first shared count bytes = do
  records ← repeated (session_at service flow next) count bytes
  if_apart (record { next = next; first = first; shared = shared; records = records.0 }) records.1

-- all that waits
unfoldable pub waiting_at : Service → Plan → List ℕ → Option (Saved × List ℕ)
waiting_at service flow bytes = do
  next ← number_at w64 bytes
  first ← number_at w32 next.1
  shared ← variables_at service (shared_kinds service) first.1
  count ← number_at w32 shared.1
  only_if (begins_well next.0 first.0 shared.0 count.0) (sessions_at service flow next.0 first.0 shared.0 count.0 count.1)

-- what was read, if nothing stands behind it
abbrev pub ended : {A : Type 0} → Option (A × List ℕ) → Option A
ended None = None
ended (Some x) = if length x.1 == 0 then Some x.0 else None
