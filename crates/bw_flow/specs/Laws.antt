-- Laws of the layout.
use Rattle.std.specs.Prelude.{◌≡◌, ◌≤◌, ℕ, List, length}
use Rattle.bw_lang.specs.Service.Code.{Code}
use Rattle.bw_lang.specs.declared.limits.TheConstants.{MAX_FILE_BYTES}
use Rattle.bw_lang.specs.declared.service.Service.{Service}
use Rattle.bw_lang.specs.Service.Reads.{IsReadable}
use Rattle.bw_flow.specs.declared.point.Local.{Local}
use Rattle.bw_flow.specs.Layout.{count, points, steps}

-- there are as many points as are counted
abbrev pub PointsAreCounted : Type 0
PointsAreCounted = (service : Service) (c : Code) (n : ℕ) (sc : List Local) (d p q : ℕ) → length (steps service c n sc d p q) ≡ count c

-- a service that was read has no more points than a file has bytes
abbrev pub PointsAreFew : Type 0
PointsAreFew = (service : Service) → ∥ IsReadable service ∥₁ → points service.sessions ≤ MAX_FILE_BYTES
