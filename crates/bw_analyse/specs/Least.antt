-- The least solution of a service, and when there is none.
use Rattle.std.specs.Prelude.{ℕ, ◌+◌, ◌<◌, List, length}
use Rattle.bw_lang.specs.declared.service.Service.{Service}
use Rattle.bw_flow.specs.Layout.{flow_of}
use Rattle.bw_solve.specs.System.{IsLeast, IsOver}
use Rattle.bw_analyse.specs.declared.abstracts.Abstract.{Abstract}
use Rattle.bw_analyse.specs.declared.fault.AnalyseFault.{AnalyseFault}
use Rattle.bw_analyse.specs.declared.fault.AnalyseFault.TheVariants.{TooLarge, Memory}
use Rattle.bw_analyse.specs.Abstracts.{is_below, size_of}
use Rattle.bw_analyse.specs.Rounds.{empty, round}
use Rattle.bw_analyse.specs.Rows.{each_below, all_sizes}
use Rattle.bw_analyse.specs.declared.analysis.TheConstants.{MAX_MEMBERS}

-- one row for each point, and one for the shared variables
abbrev pub rows : Service → ℕ
rows service = length (flow_of service) + 1

-- the union of all numbers of rounds from empty rows
abbrev pub IsLeastSolution : Service → (ℕ → List Abstract) → Type 0
IsLeastSolution service f = IsLeast (each_below is_below) (rows service) (empty service (flow_of service)) (round service (flow_of service)) f

-- the least solution has more members than that
abbrev pub IsTooLarge : Service → ℕ → Type 0
IsTooLarge service limit = IsOver (all_sizes size_of) (rows service) (empty service (flow_of service)) (round service (flow_of service)) limit

-- when each fault comes: so many members, more than 2,000,000; want of memory is free
abbrev pub IsFault : Service → AnalyseFault → Type 0
IsFault service (TooLarge count) = (MAX_MEMBERS < count) × IsTooLarge service MAX_MEMBERS
IsFault service Memory = Unit {0}
