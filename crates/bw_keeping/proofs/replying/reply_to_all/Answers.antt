use Rattle.std.proofs.Common.{◌≡◌, ◌∷◌, length, refl, ap, ◌∙◌, subst, arith}
use Rattle.std.specs.List.{AllByRecursion}
use Rattle.bw_world.specs.Streams.Taking.{AreFit}
use Rattle.bw_keeping.proofs.Giving.{none_replied, one_replied}
use Rattle.bw_keeping.proofs.replying.reply_to_all.Goals as goal

pub loop-waiting-init : goal.loop-waiting-init
loop-waiting-init g c = record {
  given = none_replied g.D.Link.Channel c.args.world.now.service c.args.queue.now.links.items (g.D.Door.returned c.args.door.now);
  fit = c.requires.fit;
  out = c.requires.out;
  coming = refl;
  asked = refl;
  quiet = refl;
}

pub loop-waiting-preserved : goal.loop-waiting-preserved
loop-waiting-preserved g c =
    let was = c.loop-waiting.queue.links.items in
    let rest = c.pop.new.self.links.items in
    let w = c.in-Some.waiting in
    let first : was ≡ w ∷ rest = c.in-Some.ensures.items in
    let service = c.args.world.now.service in
    let size : length was ≡ length (w ∷ rest) = ap length first in
    let held = c.loop-waiting.invariant in
    record {
      given = one_replied g.D.Link.Channel service c.args.queue.now.links.items was rest w c.reply_to-link.result
          (g.D.Door.returned c.args.door.now) (g.D.Door.returned c.loop-waiting.door) (g.D.Door.returned c.take_back.new.self) held.given first
          c.reply_to-link.ensures c.take_back.ensures.returned;
      fit = (subst (λ ws. AllByRecursion (λ v. AreFit service v.taken) ws) first held.fit).1;
      out = omega (arith, size, held.out, c.take_back.ensures.out);
      coming = ◌∙◌ {a = g.D.Door.coming c.take_back.new.self} c.take_back.ensures.coming held.coming;
      asked = ◌∙◌ {a = g.D.Door.asked c.take_back.new.self} c.take_back.ensures.asked held.asked;
      quiet = ◌∙◌ {a = g.D.Door.faults c.take_back.new.self} c.take_back.ensures.quiet held.quiet;
    }
