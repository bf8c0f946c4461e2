-- What holds of each world.
use Rattle.std.specs.Prelude.{◌≡◌, ◌≢◌, ◌<◌, ◌≤◌, ℕ, List, [], ◌∷◌, length, ⊤}
use Rattle.std.specs.List.{All}
use Rattle.bw_lang.specs.declared.service.Service.{Service}
use Rattle.bw_types.specs.declared.typed.Typed.{Typed}
use Rattle.bw_doc.specs.Operations.{IsOf}
use Rattle.bw_run.specs.Follow.Laws as follow
use Rattle.bw_run.specs.declared.turn.Turn.{Turn}
use Rattle.bw_run.specs.declared.turn.Turn.TheVariants as turns
use Rattle.bw_run.specs.Fit.{IsFrame, AreShared}
use Rattle.bw_run.specs.Walks.{number_at}
use Rattle.bw_world.specs.declared.suspended.Suspended.{Suspended}
use Rattle.bw_flow.specs.Layout.{flow_of}
use Rattle.bw_world.specs.Seen.{Seen}
use Rattle.bw_model.specs.declared.limits.TheConstants.{MAX_LIVE}

-- a session waits at a show of its own, with a frame that is fit and a document of the service
pub record IsSuspended (service : Service) (s : Suspended) : Type 0 where
  pub frame : IsFrame service (flow_of service) s.frame
  pub page : IsOf service.templates s.page
  pub own : follow.IsOf service s.session (number_at (flow_of service) s.frame.point)

-- the show at which a turn waits, if it does, is one of the session
abbrev pub IsOwn : Service → ℕ → Turn → Type 0
IsOwn service session (turns.Shown frame page shared) = follow.IsOf service session (number_at (flow_of service) frame.point)
IsOwn service session (turns.Exited page shared) = ⊤

-- sessions stand by their numbers, no two of them have one, and each is below the next one
abbrev pub AreApart : ℕ → List (ℕ × Suspended) → Type 0
AreApart next [] = ⊤
AreApart next (x ∷ live) = (x.0 ≡ x.1.number) × (x.0 < next) × All (λ y. y.0 ≢ x.0) live × AreApart next live

-- the service is well typed, the shared variables are fit, so are the live sessions, and at most 1,000 are live
pub record IsKept (w : Seen) : Type 0 where
  pub typed : Typed
  pub is : typed.service ≡ w.service
  pub shared : AreShared w.service w.shared
  pub sessions : All (λ x. IsSuspended w.service x.1) w.live
  pub apart : AreApart w.next w.live
  pub few : length w.live ≤ MAX_LIVE
