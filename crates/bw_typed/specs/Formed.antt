-- The sessions and the shared variables of a service that was read.
use Rattle.std.specs.List.{All}
use Rattle.bw_lang.specs.declared.service.Service.{Service}
use Rattle.bw_lang.specs.Service.Drafts.{IsShareable}
use Rattle.bw_lang.specs.Service.Reads.{IsReadable}
use Rattle.bw_lang.specs.Text.Spelling.{IsCode}

-- the body of each session is code
abbrev pub BodiesAreCode : Type 0
BodiesAreCode = (service : Service) → ∥ IsReadable service ∥₁ → All (λ s. IsCode s.body) service.sessions

-- no shared variable is a list
abbrev pub SharedAreNoLists : Type 0
SharedAreNoLists = (service : Service) → ∥ IsReadable service ∥₁ → All (λ v. IsShareable v.kind) service.shared
