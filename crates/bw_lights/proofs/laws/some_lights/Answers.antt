use Rattle.bw_lights.proofs.OneLights.{lights_once}
use Rattle.bw_lights.proofs.SomeLights.{some_lights}
use Rattle.bw_lights.proofs.laws.some_lights.Goals as goal

pub returns-clause-some : goal.returns-clause-some
returns-clause-some c = some_lights

pub returns-clause-one : goal.returns-clause-one
returns-clause-one c = lights_once
