use Rattle.std.proofs.Common.{◌≡◌, ◌∷◌, length, refl, ap, ◌∙◌, arith}
use Rattle.bw_keeping.proofs.Giving.{none_given_up, one_given_up}
use Rattle.bw_keeping.proofs.replying.give_up_all.Goals as goal

pub loop-waiting-init : goal.loop-waiting-init
loop-waiting-init g c = record {
  given = none_given_up g.D.Link.Channel c.args.queue.now.links.items (g.D.Door.returned c.args.door.now);
  out = c.requires.out;
  coming = refl;
  asked = refl;
  quiet = refl;
}

pub loop-waiting-preserved : goal.loop-waiting-preserved
loop-waiting-preserved g c =
    let was = c.loop-waiting.queue.links.items in
    let rest = c.pop.new.self.links.items in
    let w = c.in-Some.waiting in
    let first : was ≡ w ∷ rest = c.in-Some.ensures.items in
    let size : length was ≡ length (w ∷ rest) = ap length first in
    let held = c.loop-waiting.invariant in
    record {
      given = one_given_up g.D.Link.Channel c.args.queue.now.links.items was rest w
          (g.D.Door.returned c.args.door.now) (g.D.Door.returned c.loop-waiting.door) (g.D.Door.returned c.take_back.new.self) held.given first
          c.take_back.ensures.returned;
      out = omega (arith, size, held.out, c.take_back.ensures.out);
      coming = ◌∙◌ {a = g.D.Door.coming c.take_back.new.self} c.take_back.ensures.coming held.coming;
      asked = ◌∙◌ {a = g.D.Door.asked c.take_back.new.self} c.take_back.ensures.asked held.asked;
      quiet = ◌∙◌ {a = g.D.Door.faults c.take_back.new.self} c.take_back.ensures.quiet held.quiet;
    }
