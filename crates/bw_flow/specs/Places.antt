-- The places of points that come next, and where sessions begin.
use Rattle.std.specs.Prelude.{◌≡◌, ◌<◌, ◌⊎◌, ℕ, Bool, true, false, List, [], ◌∷◌, length, slice_get, Option, Some, None}
use Rattle.std.specs.List.{All}
use Rattle.bw_lang.specs.declared.service.Service.{Service}
use Rattle.bw_types.specs.Faults.{ends_in_exit}
use Rattle.bw_flow.specs.Flows.{is_join}
use Rattle.bw_flow.specs.Layout.{plan_of}
use Rattle.bw_flow.specs.Stands.{IsAt}
use Rattle.bw_flow.specs.Steps.{Act, sets, tests, goes_over, shows, exits, joins, Step}

-- x is one of these
abbrev pub Among : {A : Type 0} → A → List A → Type 0
Among x [] = ⊥
Among x (y ∷ ys) = (x ≡ y) ⊎ Among x ys

-- ---- how many points come next

-- there is one
abbrev pub IsOne : List ℕ → Type 0
IsOne next = (q : ℕ) × (next ≡ q ∷ [])

-- there are two
abbrev pub AreTwo : List ℕ → Type 0
AreTwo next = (q : ℕ) × (r : ℕ) × (next ≡ q ∷ r ∷ [])

-- from a test and from a foreach two, from an exit none, and else one
abbrev pub HasNexts : Act → List ℕ → Type 0
HasNexts (sets w e) next = IsOne next
HasNexts (tests e) next = AreTwo next
HasNexts (goes_over w e) next = AreTwo next
HasNexts (shows e rs) next = IsOne next
HasNexts (exits e) next = next ≡ []
HasNexts joins next = IsOne next

-- so at each point of the flow
abbrev pub AllHaveNexts : Type 0
AllHaveNexts = (service : Service) (p : ℕ) (x : Step) → IsAt (plan_of service).steps p x → HasNexts x.act x.next

-- ---- where they stand

-- where all sessions end in `exit`, each point that comes next, and each first point, stands in the flow
abbrev pub IsShut : Type 0
IsShut =
    (service : Service) → All (λ s. ends_in_exit s.body ≡ true) service.sessions → let plan = plan_of service in
    ((p q : ℕ) (x : Step) → IsAt plan.steps p x → Among q x.next → q < length plan.steps)
    × ((k q : ℕ) → slice_get plan.firsts k ≡ Some q → q < length plan.steps)

-- there is one first place for each session
abbrev pub FirstsAreAll : Type 0
FirstsAreAll = (service : Service) → length (plan_of service).firsts ≡ length service.sessions

-- whether a join stands at that place
abbrev pub join_of : Option Step → Bool
join_of None = false
join_of (Some x) = is_join x.act

-- from a join to a join places rise: so joins alone make no circle
abbrev pub JoinsRise : List Step → Type 0
JoinsRise flow = (p q : ℕ) (x : Step) → IsAt flow p x → is_join x.act ≡ true → x.next ≡ q ∷ [] → (p < q) ⊎ (join_of (slice_get flow q) ≡ false)

-- so in the flow of a service
abbrev pub AllJoinsRise : Type 0
AllJoinsRise = (service : Service) → JoinsRise (plan_of service).steps
