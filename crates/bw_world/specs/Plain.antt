-- Requests that are answered without memory.
use Rattle.std.specs.Prelude.{ℕ, Bool, true, false, not, ◌||◌, ◌==◌, nat_lt, List, Option, Some, None}
use Rattle.bw_flow.specs.Steps.{Step}
use Rattle.bw_http.specs.declared.request.Method.{Method}
use Rattle.bw_http.specs.declared.request.Method.TheVariants.{Get, Other}
use Rattle.bw_http.specs.declared.request.Path.{Path}
use Rattle.bw_http.specs.declared.request.Path.TheVariants as paths
use Rattle.bw_http.specs.declared.request.Request.{Request}
use Rattle.bw_meaning.specs.States.{Form}
use Rattle.bw_types.specs.Scopes.{session_of}
use Rattle.bw_run.specs.declared.fields.FieldFault.{FieldFault}
use Rattle.bw_run.specs.Missing.{first_missing}
use Rattle.bw_run.specs.Turns.{receives_of}
use Rattle.bw_world.specs.declared.suspended.Suspended.{Suspended}
use Rattle.bw_flow.specs.Layout.{flow_of}
use Rattle.bw_world.specs.Seen.{Seen, found}
use Rattle.bw_model.specs.declared.limits.TheConstants.{MAX_NUMBER}

-- a form that is refused, or one for a session that has had all its turns
abbrev pub takes_no_turn : Option FieldFault → ℕ → Bool
takes_no_turn (Some fault) turn = true
takes_no_turn None turn = turn == MAX_NUMBER

-- no session of that number and key, another turn than the current one, or a form that makes no turn
abbrev pub is_plain_visit : List Step → Method → Form → ℕ → Option Suspended → Bool
is_plain_visit flow method form turn None = true
is_plain_visit flow Get form turn (Some s) = not (turn == s.turn)
is_plain_visit flow method form turn (Some s) = not (turn == s.turn) || takes_no_turn (first_missing (receives_of flow s.frame) form) s.turn

-- no session of that name, or no number left
abbrev pub is_plain_start : ℕ → Option ℕ → Bool
is_plain_start next None = true
is_plain_start next (Some session) = nat_lt MAX_NUMBER next

-- by its path: a path or a method that isn't served, or one of these
abbrev pub is_plain_on : Seen → Method → Form → Path → Bool
is_plain_on w method form paths.Other = true
is_plain_on w Get form paths.Index = false
is_plain_on w method form paths.Index = true
is_plain_on w Get form (paths.Start name) = is_plain_start w.next (session_of w.service name)
is_plain_on w method form (paths.Start name) = true
is_plain_on w Other form (paths.Turn number key turn) = true
is_plain_on w method form (paths.Turn number key turn) = is_plain_visit (flow_of w.service) method form turn (found number key w.live)

-- the request is answered without memory
abbrev pub is_plain : Seen → Request → Bool
is_plain w request = is_plain_on w request.method request.form request.path
