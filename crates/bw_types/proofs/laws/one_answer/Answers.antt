use Rattle.std.proofs.Common.{◌≡◌, ◌⊎◌, inl, inr, List, [], ◌∷◌, Some, refl}
use Rattle.bw_types.specs.declared.fault.TypeFault.{TypeFault}
use Rattle.bw_types.specs.Faults.{faults_of, first_member}
use Rattle.bw_types.proofs.laws.one_answer.Goals as goal

none_or_first : (l : List TypeFault) → (l ≡ []) ⊎ ((fault : TypeFault) × (first_member l ≡ Some fault))
none_or_first [] = inl refl
none_or_first (f ∷ l) = inr (f, refl)

pub returns-clause-some : goal.returns-clause-some
returns-clause-some c = λ s. none_or_first (faults_of s)
