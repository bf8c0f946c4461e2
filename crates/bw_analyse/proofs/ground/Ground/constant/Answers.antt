use Rattle.std.proofs.Common.{◌≡◌, Some}
use Rattle.bw_types.specs.Scopes.{template_of}
use Rattle.bw_analyse.proofs.Walks.{constant_found}
use Rattle.bw_analyse.proofs.ground.Ground.constant.Goals as goal

pub returns-in-Some : goal.returns-in-Some
returns-in-Some c =
    let s = c.args.self.now in
    let w = c.args.name.now in
    let e : template_of s.typed.now.service w ≡ Some c.number.result = cc in
    constant_found s.typed.now.service w s.constants.now c.number.result c.get.result s.constants_are e c.get.ensures.lookup
