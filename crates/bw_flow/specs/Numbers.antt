-- The numbers of points.
use Rattle.std.specs.Prelude.{◌≡◌, ◌≤◌, ℕ, zero, suc, ◌+◌, false, List, [], ◌∷◌, position, Some, if◌then◌else◌}
use Rattle.bw_lang.specs.declared.service.Service.{Service}
use Rattle.bw_lang.specs.Service.Numbers.{statements}
use Rattle.bw_flow.specs.Flows.{is_join, is_statement}
use Rattle.bw_flow.specs.Layout.{plan_of}
use Rattle.bw_flow.specs.Stands.{IsAt}
use Rattle.bw_flow.specs.Steps.{Step}

-- the numbers of points other than joins, in order
abbrev pub numbers_of : List Step → List ℕ
numbers_of [] = []
numbers_of (x ∷ xs) = if is_join x.act then numbers_of xs else x.number ∷ numbers_of xs

-- so many numbers from n on
abbrev pub numbers_from : ℕ → ℕ → List ℕ
numbers_from n zero = []
numbers_from n (suc k) = n ∷ numbers_from (n + 1) k

-- the points other than joins are the statements 1, 2, 3 .., each once, in this order
abbrev pub StatementsInOrder : Type 0
StatementsInOrder = (service : Service) → numbers_of (plan_of service).steps ≡ numbers_from 1 (statements service.sessions)

-- no two points other than joins have the same number
abbrev pub HasNumbers : List Step → Type 0
HasNumbers flow = (p q : ℕ) (x y : Step) → IsAt flow p x → IsAt flow q y → is_join x.act ≡ false → is_join y.act ≡ false → x.number ≡ y.number → p ≡ q

-- so in the flow of a service
abbrev pub AllHaveNumbers : Type 0
AllHaveNumbers = (service : Service) → HasNumbers (plan_of service).steps

-- at this place stands the point of statement k, which is one of so many
abbrev pub IsFound : (flow : List Step) → (number count place : ℕ) → Type 0
IsFound flow k count p = (x : Step) × IsAt flow p x × (x.number ≡ k) × (is_join x.act ≡ false) × (1 ≤ k) × (k ≤ count)

-- the place that `find` answers for a statement's number: its point's, for each number that a statement has
abbrev pub FindsEach : Type 0
FindsEach =
    (service : Service) (k : ℕ) → let flow = (plan_of service).steps in
    ((p : ℕ) → position (is_statement k) flow ≡ Some p → IsFound flow k (statements service.sessions) p)
    × (1 ≤ k → k ≤ statements service.sessions → (p : ℕ) × (position (is_statement k) flow ≡ Some p))
