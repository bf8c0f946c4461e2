-- The values that the cells of a service's least solution have.
use Rattle.std.specs.Prelude.{◌≡◌, List, length}
use Rattle.bw_lang.specs.declared.service.Service.{Service}
use Rattle.bw_solve.specs.System.{family, EachFits}
use Rattle.bw_analyse.specs.declared.abstracts.Abstract.{Abstract}
use Rattle.bw_analyse.specs.Fits.{FitsCell}
use Rattle.bw_flow.specs.Layout.{flow_of}
use Rattle.bw_analyse.specs.Least.{rows, IsLeastSolution}
use Rattle.bw_analyse.specs.Rounds.{empty}

-- there is a row for each cell, each fits its cell, and together they are the least solution
pub record IsSolution (service : Service) (values : List (List Abstract)) : Type 0 where
  pub cells : length values ≡ rows service
  pub least : IsLeastSolution service (family (empty service (flow_of service)) values)
  pub fits : EachFits (rows service) (FitsCell service) (family (empty service (flow_of service)) values)
