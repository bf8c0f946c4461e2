use Rattle.std.proofs.Common.{refl}
use Rattle.bw_world.specs.Streams.Courses.{bytes_by}
use Rattle.bw_keeping.proofs.Sending.{sent_so}
use Rattle.bw_keeping.proofs.replying.send_on.Goals as goal

pub returns : goal.returns
returns g c =
    let bytes = bytes_by c.args.world.now.service c.args.reply in
    sent_so g.C.Channel c.args.link c.send.new.link bytes bytes c.send.result refl c.send.ensures
