use Rattle.std.proofs.Common.{◌≡◌, Err, ap, subst}
use Rattle.bw_questions.specs.declared.stop.Stop.TheVariants.{ReadFault}
use Rattle.bigwig.specs.Finding.{IsToldBy}
use Rattle.bigwig.proofs.Opened.{takes_as}
use Rattle.bigwig.proofs.Brought.{entries_found, entries_refused}
use Rattle.bigwig.proofs.bringing.bring_entries.Goals as goal

pub returns-in-Ok-clause-found : goal.returns-in-Ok-clause-found
returns-in-Ok-clause-found g c =
    entries_found c.args.server.formats c.args.server.world c.recall_behind-recalled.new.world c.args.start c.args.reader.now.window
    (g.S.Channel.left c.args.source.now) c.recall_behind-recalled.result c.recall_behind-recalled.ensures.recalled c.requires.fit c.in-Ok.found
    c.in-Ok.ensures.found

pub returns-in-Err-clause-stops : goal.returns-in-Err-clause-stops
returns-in-Err-clause-stops g c =
    entries_refused c.args.server.formats c.args.server.world c.recall_behind-recalled.new.world c.args.start c.args.reader.now.window
    (g.S.Channel.left c.args.source.now) c.recall_behind-recalled.result c.recall_behind-recalled.ensures.recalled c.requires.fit c.in-Err.stop
    c.in-Err.ensures.stops

pub returns-in-Ok-clause-takes : goal.returns-in-Ok-clause-takes
returns-in-Ok-clause-takes g c =
    takes_as g.S.Channel c.args.source.now c.recall_behind-recalled.new.source (λ e. absurd (let h = c.in-Ok.ensures.reads e in cc)) (λ e. absurd cc)
    c.recall_behind-recalled.ensures.takes

pub returns-in-Err-clause-takes : goal.returns-in-Err-clause-takes
returns-in-Err-clause-takes g c =
    takes_as g.S.Channel c.args.source.now c.recall_behind-recalled.new.source
    (λ r. let h = c.in-Err.ensures.reads r in let f : c.in-Err.stop ≡ ReadFault = cc in ap Err f)
    (λ e. let f : c.in-Err.stop ≡ ReadFault = cc in subst (IsToldBy c.recall_behind-recalled.result) f c.in-Err.ensures.stops)
    c.recall_behind-recalled.ensures.takes
