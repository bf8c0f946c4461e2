use Rattle.bw_http.specs.Paths.{spelling}
use Rattle.bw_http.specs.declared.request.Path.TheVariants.{Start}
use Rattle.bw_user.specs.Messages.{get}
use Rattle.bw_visit.specs.Exchanges.{standing}
use Rattle.bw_visit.proofs.Going.{quiet_visit}
use Rattle.bw_visit.proofs.visiting.visit.Goals as goal

pub returns-in-Err-clause-visited : goal.returns-in-Err-clause-visited
returns-in-Err-clause-visited g c =
    quiet_visit (get (spelling (Start c.args.script.now.name.now))) c.args.script.now.lines.now (standing g.K.Keys c.args.host.now)
    (standing g.K.Keys c.args.host.now) (g.W.Channel.held c.args.out.now)
