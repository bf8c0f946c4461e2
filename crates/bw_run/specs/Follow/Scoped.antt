-- Services that are ready to run: names are declared once, and before they are used, and sessions end in `exit`.
use Rattle.std.specs.Prelude.{◌≡◌, true, ℕ, List, [], map}
use Rattle.std.specs.List.{All}
use Rattle.bw_lang.specs.declared.service.Service.{Service}
use Rattle.bw_types.specs.Faults.{ends_in_exit}
use Rattle.bw_flow.specs.declared.point.Local.{Local}
use Rattle.bw_flow.specs.Scoped.{IsScoped}

-- the names of the locals in scope
abbrev pub names_in : List Local → List (List ℕ)
names_in scope = map (λ l. l.name) scope

-- each session's names are in order, and each ends in `exit`
pub record IsReady (service : Service) : Type 0 where
  pub scoped : All (λ s. IsScoped service s.body []) service.sessions
  pub closed : All (λ s. ends_in_exit s.body ≡ true) service.sessions
