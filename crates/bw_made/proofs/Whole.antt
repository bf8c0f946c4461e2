-- Documents of a service are made of its templates.
use Rattle.std.proofs.Common.{zero, suc, List, [], ◌∷◌, refl, arith}
use Rattle.std.specs.List.{All, AllByRecursion, Contains}
use Rattle.std.proofs.lemmas.List.Elements.{All-head, All-tail}
use Rattle.bw_lang.specs.declared.service.Service.{Service}
use Rattle.bw_lang.specs.declared.service.Template.{Template}
use Rattle.bw_lang.specs.Service.Reads.{IsReadable}
use Rattle.bw_typed.specs.Measured.{IsMeasured}
use Rattle.bw_typed.proofs.Services.{templates_are_measured}
use Rattle.bw_typed.proofs.Utf8.{sessions_are_utf8, shared_are_utf8}
use Rattle.bw_made.specs.Laws.{ValuesAreMade, StatementsMake, FirstAreMade, TurnsAreMade, GoingOnIsMade}
use Rattle.bw_made.specs.Made.{IsItemsOf, template, nothing}
use Rattle.bw_made.specs.Worlds.{ResultsAreMade, EmptyIsMade, StepsKeepMade, WorldsAreMade, NextAreMade}
use Rattle.bw_made.proofs.Worlds.{first_talk, next_talk, now_comes, stepped, reached}
use Rattle.bw_made.proofs.Turns.{exec_comes, turn_comes, going_on_comes, first_texts}
use Rattle.bw_made.proofs.Values.{IsOwn, AreConstants, value_text}

pub contains_later : (t : Template) (ts : List Template) (x : Template) → Contains ts x → Contains (t ∷ ts) x
contains_later t ts x c = (suc c.0, omega (arith, c.1), c.2)

own_constants : (service : Service) (ts : List Template) → ((x : Template) → Contains ts x → Contains service.templates x) → All (λ t. IsMeasured t.items) ts →
    AllByRecursion (IsOwn (IsItemsOf service)) ts
own_constants service [] f h = tt
own_constants service (t ∷ ts) f h = (
  (template t (f t (zero, omega arith, refl)), (All-head (λ t. IsMeasured t.items) t ts h).within),
  own_constants service ts (λ x c. f x (contains_later t ts x c)) (All-tail (λ t. IsMeasured t.items) t ts h),
)

pub constants_of : (service : Service) → ∥ IsReadable service ∥₁ → AreConstants (IsItemsOf service) service
constants_of service r = record {
  templates = own_constants service service.templates (λ x c. c) (templates_are_measured service r);
  empty = nothing;
}

pub values_are_made : ValuesAreMade
values_are_made service e locals shared units r h hl hs =
    value_text (IsItemsOf service) service (constants_of service r) locals shared hl hs e units h

pub statements_make : StatementsMake
statements_make service c n around st r h k = exec_comes service (IsItemsOf service) (constants_of service r) c n around st h k

pub first_are_made : FirstAreMade
first_are_made service r = first_texts service (IsItemsOf service) (constants_of service r) (shared_are_utf8 service r)

pub turns_are_made : TurnsAreMade
turns_are_made service session shared inputs r h i =
    turn_comes service (IsItemsOf service) (constants_of service r) (sessions_are_utf8 service r) session shared inputs h i

pub going_on_is_made : GoingOnIsMade
going_on_is_made service session a r l h i =
    going_on_comes service (IsItemsOf service) (constants_of service r) (sessions_are_utf8 service r) session a l h i

-- ---- worlds

pub results_are_made : ResultsAreMade
results_are_made service talk r h = now_comes service (IsItemsOf service) (constants_of service r) (sessions_are_utf8 service r) talk h

pub empty_is_made : EmptyIsMade
empty_is_made service next first r = record { shared = first_are_made service r; live = tt }

pub steps_keep_made : StepsKeepMade
steps_keep_made service w request key r f h =
    stepped service (IsItemsOf service) (constants_of service r) (sessions_are_utf8 service r) w request key h f

pub worlds_are_made : WorldsAreMade
worlds_are_made service from to r h m = reached service (IsItemsOf service) (constants_of service r) (sessions_are_utf8 service r) from to h m

pub next_are_made : NextAreMade
next_are_made service w h = (
  λ session. first_talk (IsItemsOf service) w session h,
  λ talk form t f. next_talk (IsItemsOf service) talk form w.shared t f h.shared,
)
