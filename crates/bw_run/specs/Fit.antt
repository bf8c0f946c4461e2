-- Frames and shared variables that are fit.
use Rattle.std.specs.Prelude.{◌≡◌, ℕ, List, length}
use Rattle.std.specs.List.{All}
use Rattle.bw_lang.specs.declared.service.Service.{Service}
use Rattle.bw_lang.specs.declared.service.Template.{Template}
use Rattle.bw_lang.specs.declared.stmt.Kind.{Kind}
use Rattle.bw_lang.specs.Service.Term.{Term}
use Rattle.bw_types.specs.Scopes.{shared_kinds}
use Rattle.bw_flow.specs.declared.point.Received.{Received}
use Rattle.bw_flow.specs.Stands.{IsAt}
use Rattle.bw_flow.specs.Steps.{Step, shows}
use Rattle.bw_doc.specs.Operations.{IsOf}
use Rattle.bw_eval.specs.declared.value.Value.{Value}
use Rattle.bw_eval.specs.Sound.{AreSound}
use Rattle.bw_typed.specs.ShortStrings.{IsShort}
use Rattle.bw_eval.specs.View.{values}
use Rattle.bw_run.specs.Follow.Kinds.{kinds_of, kinds_in}
use Rattle.bw_run.specs.declared.turn.Frame.{Frame}
use Rattle.bw_run.specs.declared.turn.Turn.{Turn}
use Rattle.bw_run.specs.declared.turn.Turn.TheVariants.{Shown, Exited}
use Rattle.bw_run.specs.Walks.{AtShow}

-- The values are those of variables of these names and kinds, in this order. Their strings are short, and their documents
-- are of the service with these templates.
pub record AreFit (templates : List Template) (kinds : List (List ℕ × Kind)) (variables : List (List ℕ × Value)) : Type 0 where
  pub kinds_are : kinds_of (values variables) ≡ kinds
  pub sound : AreSound templates variables

-- there is a value for each shared variable
abbrev pub AreShared : Service → List (List ℕ × Value) → Type 0
AreShared service shared = AreFit service.templates (shared_kinds service) shared

-- The frame waits at a show of the flow: it has a value for each local in scope there, in order of declaration, and what is
-- still to come of each foreach around it.
pub record IsFrame (service : Service) (flow : List Step) (frame : Frame) : Type 0 where
  pub point : Step
  pub page : Term
  pub fields : List Received
  pub is : IsAt flow frame.point point
  pub acts : point.act ≡ shows page fields
  pub locals : AreFit service.templates (kinds_in point.scope) frame.locals
  pub rests : length frame.rests ≡ point.inside
  pub short : All (All IsShort) frame.rests

-- the frame, the shared variables and the document that a turn gives
abbrev pub IsFitTurn : Service → List Step → Turn → Type 0
IsFitTurn service flow (Shown frame d shared) = IsFrame service flow frame × IsOf service.templates d × AreShared service shared
IsFitTurn service flow (Exited d shared) = IsOf service.templates d × AreShared service shared

-- what a turn gives, but for names and kinds
abbrev pub IsSoundTurn : List Template → List Step → Turn → Type 0
IsSoundTurn templates flow (Shown frame d shared) =
    AtShow flow frame.point × AreSound templates frame.locals × All (All IsShort) frame.rests × IsOf templates d × AreSound templates shared
IsSoundTurn templates flow (Exited d shared) = IsOf templates d × AreSound templates shared
