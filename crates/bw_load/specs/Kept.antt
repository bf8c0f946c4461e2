-- What may be saved meets what a world asks of the sessions that it takes.
use Rattle.std.specs.Prelude.{ℕ}
use Rattle.bw_doc.specs.Operations.{IsOf as IsOfTemplates}
use Rattle.bw_flow.specs.Layout.{plan_of}
use Rattle.bw_run.specs.Follow.Laws as follow
use Rattle.bw_run.specs.Fit.{IsFrame, AreShared}
use Rattle.bw_run.specs.Walks.{number_at}
use Rattle.bw_saved.specs.declared.saved.Record.{Record}
use Rattle.bw_saved.specs.declared.saved.Saved.{Saved}
use Rattle.bw_saved.specs.Sessions.Demands.{IsSession, IsSaved}
use Rattle.bw_types.specs.declared.typed.Typed.{Typed}

-- the session waits at a show of its own, with a frame that is fit and a document of the service
pub record IsFitRecord (t : Typed) (r : Record) : Type 0 where
  pub frame : IsFrame t.service (plan_of t.service).steps r.frame
  pub page : IsOfTemplates t.service.templates r.page
  pub own : follow.IsOf t.service r.session (number_at (plan_of t.service).steps r.frame.point)

-- so does each session that may be saved
abbrev pub SessionsAreFit : Type 0
SessionsAreFit = (t : Typed) (next : ℕ) (r : Record) → IsSession t.service next r → IsFitRecord t r

-- and the shared variables are fit
abbrev pub SharedAreFit : Type 0
SharedAreFit = (t : Typed) (s : Saved) → IsSaved t.service s → AreShared t.service s.shared
