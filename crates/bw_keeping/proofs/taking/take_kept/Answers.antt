use Rattle.std.proofs.Common.{◌≡◌, ◌≤◌, ℕ, List, ◌++◌, Some, length, sym, subst}
use Rattle.bw_http.specs.Cuts.{Tells}
use Rattle.bw_http.specs.Messages.{ComesOf}
use Rattle.bw_journal.specs.declared.limits.TheConstants.{MAX_MESSAGE_BYTES}
use Rattle.bw_world.proofs.Streams.Good.{replies_are_good}
use Rattle.bw_world.proofs.Streams.Messages.{short_taken}
use Rattle.bw_keeping.proofs.Entering.{IsNoted, front_is_short, noted_as, outcome_kept, request_kept, request_lost}
use Rattle.bw_keeping.proofs.taking.take_kept.Goals as goal

pub returns-then-lost-clause-takes : goal.returns-then-lost-clause-takes
returns-then-lost-clause-takes g c =
    let told = g.C.Channel.left c.args.link.now in
    let after = g.C.Channel.left c.read_noted-outcome.new.link in
    let now = c.read_noted-outcome.new.intake in
    let tells = subst (λ o. Tells told after c.args.intake.now o now) c.in-Ok.is c.read_noted-outcome.ensures.stream in
    request_lost c.args.formats.now _ now after _ c.args.group.now c.in-Ok.request tells

pub returns-else-lost-clause-takes : goal.returns-else-lost-clause-takes
returns-else-lost-clause-takes g c =
    let told = g.C.Channel.left c.args.link.now in
    let after = g.C.Channel.left c.read_noted-outcome.new.link in
    let now = c.read_noted-outcome.new.intake in
    let r = c.in-Ok.request in
    let tells = subst (λ o. Tells told after c.args.intake.now o now) c.in-Ok.is c.read_noted-outcome.ensures.stream in
    let message = c.front_of-message.result.now in
    let noted : (bytes : List ℕ) → told ≡ Some bytes → IsNoted (c.args.intake.now ++ bytes) message r =
    λ bytes is. noted_as told after bytes c.args.intake.now c.read_noted-outcome.new.notes now c.bytes.result.now c.bytes-in-Ok.result.now message r is
    tells (c.read_noted-outcome.ensures.noted c.if-lost.false) c.bytes.ensures.value c.bytes-in-Ok.ensures.value c.front_of-message.ensures in
    let few = subst (λ (x : List ℕ). length x ≤ MAX_MESSAGE_BYTES) (sym c.bytes.ensures.value) c.bytes.ensures.few in
    request_kept c.args.formats.now _ _ c.args.group.now c.handle_kept.new.group r c.draw-key.result c.handle_kept.result message tells c.draw-key.ensures
    c.handle_kept.ensures.step c.handle_kept.ensures.service c.handle_kept.ensures.kept (g.met.K.Keys.fit c.args.keys.now)
    (front_is_short c.bytes.result.now message _ c.front_of-message.ensures few) noted

pub returns-in-Err-clause-takes : goal.returns-in-Err-clause-takes
returns-in-Err-clause-takes g c =
    let told = g.C.Channel.left c.args.link.now in
    let after = g.C.Channel.left c.read_noted-outcome.new.link in
    let now = c.read_noted-outcome.new.intake in
    let o = c.in-Err.outcome in
    let tells = subst (λ x. Tells told after c.args.intake.now x now) c.in-Err.is c.read_noted-outcome.ensures.stream in
    let comes = subst (λ x. ComesOf told after c.args.intake.now x now) c.in-Err.is c.read_noted-outcome.ensures.taken in
    outcome_kept c.args.formats.now _ now after _ c.args.group.now o c.without_request.result c.without_request.ensures tells
    (short_taken told after c.args.intake.now now o comes)

pub returns-then-lost-clause-pages : goal.returns-then-lost-clause-pages
returns-then-lost-clause-pages g c = replies_are_good c.args.formats.now _ _

pub returns-else-lost-clause-pages : goal.returns-else-lost-clause-pages
returns-else-lost-clause-pages g c = replies_are_good c.args.formats.now _ _

pub returns-in-Err-clause-pages : goal.returns-in-Err-clause-pages
returns-in-Err-clause-pages g c = replies_are_good c.args.formats.now _ _
