use Rattle.bw_eval.specs.View.{values}
use Rattle.bw_lang.specs.Table.Names.{beside}
use Rattle.bw_run.proofs.Stores.{variable_local, variable_shared}
use Rattle.bw_run.proofs.standing.Standing.variable.Goals as goal

pub returns-in-Some : goal.returns-in-Some
returns-in-Some c =
    variable_local c.get.result c.in-Some.found c.args.name.now c.args.self.now.locals
    (beside c.args.name.now (values c.args.self.now.shared)) c.get.ensures c.in-Some.is

pub returns-in-None : goal.returns-in-None
returns-in-None c =
    variable_shared c.get.result c.get-in-None.result c.args.name.now c.args.self.now.locals c.args.self.now.shared c.get.ensures c.in-None.is
    c.get-in-None.ensures
