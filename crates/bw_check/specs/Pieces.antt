-- The pieces of the check.
use Rattle.std.specs.Prelude.{ℕ, ◌+◌, List, [], ◌∷◌, is_some, if◌then◌else◌}
use Rattle.bw_analyse.specs.Facts.{page_of}
use Rattle.bw_flow.specs.Layout.{flow_of}
use Rattle.bw_flow.specs.Steps.{Step}
use Rattle.bw_lang.specs.declared.service.Service.{Service}

-- the places of the shows and exits among these points, the first of which stands at place p
abbrev pub pages_from : ℕ → List Step → List ℕ
pages_from p [] = []
pages_from p (x ∷ xs) = if is_some (page_of x.act) then p ∷ pages_from (p + 1) xs else pages_from (p + 1) xs

-- the pieces of a service: the places of its shows and exits, in source order
abbrev pub pieces : Service → List ℕ
pieces service = pages_from 0 (flow_of service)
