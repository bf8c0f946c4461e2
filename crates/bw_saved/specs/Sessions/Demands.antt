-- Which sessions may stand in a file.
use Rattle.std.specs.Prelude.{◌≡◌, ◌<◌, ◌≤◌, ◌+◌, ◌^◌, ℕ, true, length, Some}
use Rattle.std.specs.List.{AllByRecursion}
use Rattle.bw_doc.specs.Made.{tree}
use Rattle.bw_eval.specs.View.{values}
use Rattle.bw_flow.specs.Layout.{plan_of, flow_of}
use Rattle.bw_flow.specs.Stands.{IsAt}
use Rattle.bw_flow.specs.Steps.{Step}
use Rattle.bw_lang.specs.declared.service.Service.{Service}
use Rattle.bw_lang.specs.declared.turn.TheConstants.{MAX_DOCUMENT_BYTES, MAX_SESSION_WEIGHT, MAX_SHARED_WEIGHT}
use Rattle.bw_lang.specs.Document.Print.{print}
use Rattle.bw_meaning.specs.Values.{weights}
use Rattle.bw_model.specs.declared.limits.TheConstants.{MAX_LIVE, MAX_NUMBER}
use Rattle.bw_run.specs.Follow.Kinds.{kinds_in}
use Rattle.bw_run.specs.Walks.{number_at}
use Rattle.bw_saved.specs.declared.saved.Record.{Record}
use Rattle.bw_saved.specs.declared.saved.Saved.{Saved}
use Rattle.bw_saved.specs.Documents.Demands.{IsDocument}
use Rattle.bw_saved.specs.Fields.Spelling.{AreTexts}
use Rattle.bw_saved.specs.Sessions.Reading.{show_at}
use Rattle.bw_saved.specs.Sessions.Weights.{session_weight, are_apart}
use Rattle.bw_saved.specs.Values.Demands.{AreVariables}
use Rattle.bw_types.specs.Scopes.{shared_kinds}

-- the session waits at this show of its own, with a value for each local in scope and a rest for each foreach around it
pub record WaitsAt (service : Service) (r : Record) (x : Step) : Type 0 where
  pub is : IsAt (flow_of service) r.frame.point x
  pub shows : show_at (plan_of service) r.session (number_at (flow_of service) r.frame.point) ≡ Some r.frame.point
  pub locals : AreVariables service (kinds_in x.scope) r.frame.locals
  pub rests : length r.frame.rests ≡ x.inside
  pub strings : AllByRecursion AreTexts r.frame.rests

-- a session that may wait where this is the next number
pub record IsSession (service : Service) (next : ℕ) (r : Record) : Type 0 where
  pub number : 1 ≤ r.number
  pub below : r.number < next
  pub few : r.number < 2 ^ 32
  pub key : r.key < 2 ^ 64
  pub session : r.session < 2 ^ 16
  pub turn : 1 ≤ r.turn
  pub last : r.turn < 2 ^ 32
  pub show : number_at (flow_of service) r.frame.point < 2 ^ 32
  pub step : Step
  pub waits : WaitsAt service r step
  pub page : IsDocument service r.page
  pub weight : session_weight r ≤ MAX_SESSION_WEIGHT
  pub prints : length (print (tree r.page)) ≤ MAX_DOCUMENT_BYTES

-- what may be saved and loaded
pub record IsSaved (service : Service) (s : Saved) : Type 0 where
  pub next : 1 ≤ s.next
  pub numbers : s.next ≤ MAX_NUMBER + 1
  pub first : 1 ≤ s.first
  pub turns : s.first < 2 ^ 32
  pub shared : AreVariables service (shared_kinds service) s.shared
  pub weight : weights (values s.shared) ≤ MAX_SHARED_WEIGHT
  pub few : length s.records ≤ MAX_LIVE
  pub sessions : AllByRecursion (IsSession service s.next) s.records
  pub apart : are_apart s.records ≡ true
