-- Lists of the faults of which something holds.
use Rattle.std.specs.Prelude.{◌≡◌, ◌⊎◌, Bool, true, List, [], ◌∷◌}
use Rattle.bw_solve.specs.Sets.{IsSet, has}
use Rattle.bw_faults.specs.declared.fault.Fault.{Fault}
use Rattle.bw_faults.specs.Order.{fault_cmp}

-- the list has exactly the faults of which P holds, in their order and without doubles
pub record Lists (P : Fault → Type 0) (list : List Fault) : Type 0 where
  pub set : IsSet fault_cmp list
  pub sound : (f : Fault) → has fault_cmp list f ≡ true → P f
  pub whole : (f : Fault) → P f → has fault_cmp list f ≡ true

-- there is one such list: two with the same members are equal
abbrev pub OneList : Type 0
OneList = (list other : List Fault) → IsSet fault_cmp list → IsSet fault_cmp other → ((f : Fault) → has fault_cmp list f ≡ has fault_cmp other f) → list ≡ other

-- the new list has the faults of the old one, and those of which P holds
pub record Adds (P : Fault → Type 0) (old new : List Fault) : Type 0 where
  pub sound : (f : Fault) → has fault_cmp new f ≡ true → (has fault_cmp old f ≡ true) ⊎ P f
  pub kept : (f : Fault) → has fault_cmp old f ≡ true → has fault_cmp new f ≡ true
  pub whole : (f : Fault) → P f → has fault_cmp new f ≡ true

-- the fault, where the test holds
abbrev pub When : Bool → Fault → Fault → Type 0
When b f x = (b ≡ true) × (x ≡ f)

-- a fault of one of these
abbrev pub OfSome : {X : Type 0} → (X → Fault → Type 0) → List X → Fault → Type 0
OfSome P [] f = ⊥
OfSome P (x ∷ xs) f = P x f ⊎ OfSome P xs f
