use Rattle.bigwig.proofs.Opened.{reading_begins, reading_stops, takes_as}
use Rattle.bigwig.proofs.origins.begin_reading.Goals as goal

pub returns-clause-begun : goal.returns-clause-begun
returns-clause-begun g c =
    reading_begins (g.S.Channel.left c.args.source.now) c.read_start-started.new.reader.window (g.S.Channel.left c.read_start-started.new.source)
    c.read_start-started.result c.args.served.checked.typed.service c.args.served.formats c.args.text.now c.begin_at.result
    c.read_start-started.ensures.started c.begin_at.ensures.begun

pub returns-clause-stops : goal.returns-clause-stops
returns-clause-stops g c =
    reading_stops (g.S.Channel.left c.args.source.now) c.read_start-started.new.reader.window (g.S.Channel.left c.read_start-started.new.source)
    c.read_start-started.result c.args.served.checked.typed.service c.args.served.formats c.args.text.now c.begin_at.result
    c.read_start-started.ensures.started c.begin_at.ensures.stops

pub returns-clause-takes : goal.returns-clause-takes
returns-clause-takes g c =
    takes_as g.S.Channel c.args.source.now c.read_start-started.new.source c.begin_at.ensures.read c.begin_at.ensures.reads
    c.read_start-started.ensures.takes
