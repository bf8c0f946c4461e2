-- The order in which a service's declarations stand.
use Rattle.std.specs.Prelude.{◌≡◌, List, [], ◌∷◌, drop, map}
use Rattle.bw_lang.specs.declared.declaration.Declaration.{Declaration}
use Rattle.bw_lang.specs.declared.declaration.Declaration.TheVariants as declarations
use Rattle.bw_lang.specs.declared.declaration.Declared.{Declared}
use Rattle.bw_lang.specs.declared.declaration.Declared.TheVariants as standing
use Rattle.bw_lang.specs.declared.declaration.Lists.{Lists}
use Rattle.bw_lang.specs.declared.declaration.Passed.{Passed}
use Rattle.bw_lang.specs.declared.service.Service.{Service}
use Rattle.bw_lang.specs.declared.service.Session.{Session}
use Rattle.bw_lang.specs.declared.service.Shared.{Shared}
use Rattle.bw_lang.specs.declared.service.Sort.{Sort}
use Rattle.bw_lang.specs.declared.service.Sort.TheVariants as sorts
use Rattle.bw_lang.specs.declared.service.Template.{Template}
use Rattle.bw_lang.specs.Service.Sorted.{sort_of, templates_of, shared_of, sessions_of}

-- the declarations of three lists, in the order of these sorts
abbrev pub woven : List Sort → List Template → List Shared → List Session → List Declaration
woven [] ts vs ss = []
woven (sorts.Template ∷ order) [] vs ss = []
woven (sorts.Template ∷ order) (t ∷ ts) vs ss = declarations.Template t ∷ woven order ts vs ss
woven (sorts.Shared ∷ order) ts [] ss = []
woven (sorts.Shared ∷ order) ts (v ∷ vs) ss = declarations.Shared v ∷ woven order ts vs ss
woven (sorts.Session ∷ order) ts vs [] = []
woven (sorts.Session ∷ order) ts vs (s ∷ ss) = declarations.Session s ∷ woven order ts vs ss

-- the declarations of a service, in source order
abbrev pub declarations_of : Service → List Declaration
declarations_of service = woven service.order service.templates service.shared service.sessions

-- those behind the first of each sort that were passed, in the order of these sorts
abbrev pub rest_of : Service → Passed → List Sort → List Declaration
rest_of service passed order =
    woven order (drop passed.templates service.templates) (drop passed.shared service.shared) (drop passed.sessions service.sessions)

-- the service's lists are those of its declarations
pub record IsWoven (service : Service) : Type 0 where
  pub templates : templates_of (declarations_of service) ≡ service.templates
  pub shared : shared_of (declarations_of service) ≡ service.shared
  pub sessions : sessions_of (declarations_of service) ≡ service.sessions

-- the lists are those of these declarations, by their sorts
pub record AreListed (ds : List Declaration) (lists : Lists) : Type 0 where
  pub order : lists.order.items ≡ map sort_of ds
  pub templates : lists.templates.items ≡ templates_of ds
  pub shared : lists.shared.items ≡ shared_of ds
  pub sessions : lists.sessions.items ≡ sessions_of ds

-- a declaration that stands in a service
abbrev pub seen : Declared → Declaration
seen (standing.Template t) = declarations.Template t.now
seen (standing.Shared v) = declarations.Shared v.now
seen (standing.Session s) = declarations.Session s.now

-- the lists of some declarations, woven in their order, are these declarations
abbrev pub WeavesBack : Type 0
WeavesBack = (ds : List Declaration) → woven (map sort_of ds) (templates_of ds) (shared_of ds) (sessions_of ds) ≡ ds
