use Rattle.bigwig.proofs.Opened.{takes_as, takes_both}
use Rattle.bigwig.proofs.Brought.{entries_brought, entries_stop, memory_stops, none_brought}
use Rattle.bigwig.proofs.bringing.bring_file.Goals as goal

pub returns-in_default-clause-stops : goal.returns-in_default-clause-stops
returns-in_default-clause-stops g c =
    memory_stops (g.S.Channel.left c.args.source.now) c.args.served.checked.typed.service c.args.served.formats c.args.text.now

pub returns-in-None-clause-found : goal.returns-in-None-clause-found
returns-in-None-clause-found g c =
    none_brought (g.S.Channel.left c.args.source.now) c.args.served.checked.typed.service c.args.served.formats c.in-Ok-begin_reading.begun.server.formats
    c.args.text.now c.in-Ok-begin_reading.begun.server.world c.in-Ok-begin_reading.begun.mark c.begin_reading.new.reader.window (g.S.Channel.left c.begin_reading.new.source)
    c.in-Ok-begin_reading.ensures.service c.in-Ok-begin_reading.ensures.formats c.in-Ok-begin_reading.ensures.begun c.in-None.is c.in-Ok-begin_reading.ensures.fit

pub returns-clause-found : goal.returns-clause-found
returns-clause-found g c =
    entries_brought (g.S.Channel.left c.args.source.now) c.args.served.checked.typed.service c.args.served.formats c.in-Ok-begin_reading.begun.server.formats
    c.args.text.now c.in-Ok-begin_reading.begun.server.world c.in-Ok-begin_reading.begun.mark c.begin_reading.new.reader.window (g.S.Channel.left c.begin_reading.new.source)
    c.in-Ok-begin_reading.ensures.service c.in-Ok-begin_reading.ensures.formats c.in-Ok-begin_reading.ensures.begun c.in-Some.mark c.bring_entries.result c.in-Some.is
    c.bring_entries.ensures.found

pub returns-clause-stops : goal.returns-clause-stops
returns-clause-stops g c =
    entries_stop (g.S.Channel.left c.args.source.now) c.args.served.checked.typed.service c.args.served.formats c.in-Ok-begin_reading.begun.server.formats
    c.args.text.now c.in-Ok-begin_reading.begun.server.world c.in-Ok-begin_reading.begun.mark c.begin_reading.new.reader.window (g.S.Channel.left c.begin_reading.new.source)
    c.in-Ok-begin_reading.ensures.service c.in-Ok-begin_reading.ensures.formats c.in-Ok-begin_reading.ensures.begun c.in-Some.mark c.bring_entries.result c.in-Some.is
    c.bring_entries.ensures.stops

pub returns-in-None-clause-takes : goal.returns-in-None-clause-takes
returns-in-None-clause-takes g c =
    takes_as g.S.Channel c.args.source.now c.begin_reading.new.source (λ e. absurd cc) (λ e. absurd cc) c.in-Ok-begin_reading.ensures.takes

pub returns-clause-takes : goal.returns-clause-takes
returns-clause-takes g c =
    takes_both g.S.Channel c.args.source.now c.begin_reading.new.source c.bring_entries.new.source g.met.S.Source.same_trans (λ e. absurd cc)
    c.in-Ok-begin_reading.ensures.takes c.bring_entries.ensures.takes
