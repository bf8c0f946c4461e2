-- Which fault is given.
use Rattle.std.specs.Prelude.{◌≡◌, ◌⊎◌, List, Some}
use Rattle.bw_types.specs.declared.fault.TypeFault.{TypeFault}
use Rattle.bw_types.specs.declared.fault.TypeFault.TheVariants as faults
use Rattle.bw_types.specs.Faults.{first_member}

-- it is the first of the faults, or there was no memory
pub record IsFirst (fault : TypeFault) (found : List TypeFault) : Type 0 where
  pub why : (fault ≡ faults.Memory) ⊎ (first_member found ≡ Some fault)
