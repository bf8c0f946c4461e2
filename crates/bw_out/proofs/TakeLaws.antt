-- Reads one after another on one channel.
use Rattle.std.proofs.Common.{refl, ◌∙◌, subst}
use Rattle.bw_out.specs.Causes.{Shows}
use Rattle.bw_out.specs.Sends.{Takes, Took}
use Rattle.bw_out.specs.declared.outside.Channel.{Ghosts}
use Rattle.bw_out.proofs.SendLaws.{Goes}

-- what a reader that had no fault did
pub took : {C fault : Type 0} {c : Ghosts C} {a b : C} → Takes c a b fault → (fault → ⊥) → Took c a b
took t none = record { quiet = t.cause.other none; held = t.held; write_faults = t.write_faults; same = t.same }

-- no read at all
pub took_none : {C : Type 0} (c : Ghosts C) {a : C} → c.same a a → Took c a a
took_none c same = record { quiet = refl; held = refl; write_faults = refl; same = same }

-- reads, and more reads after them
pub took_more : {C : Type 0} (c : Ghosts C) → Goes c.same → {a b d : C} → Took c a b → Took c b d → Took c a d
took_more c goes {a = a} {b = b} {d = d} s t = record {
  quiet = t.quiet ∙ s.quiet;
  held = t.held ∙ s.held;
  write_faults = t.write_faults ∙ s.write_faults;
  same = goes a b d s.same t.same;
}

-- reads without a fault, and then a read that may have one
pub then_takes : {C fault : Type 0} (c : Ghosts C) → Goes c.same → {a b d : C} → Took c a b → Takes c b d fault → Takes c a d fault
then_takes {fault = fault} c goes {a = a} {b = b} {d = d} s t = record {
  cause = subst (λ n. Shows fault n (c.read_faults d)) s.quiet t.cause;
  held = t.held ∙ s.held;
  write_faults = t.write_faults ∙ s.write_faults;
  same = goes a b d s.same t.same;
}

-- a fault under another name
pub takes_as : {C p q : Type 0} {c : Ghosts C} {a b : C} → (q → p) → (p → q) → Takes c a b p → Takes c a b q
takes_as back forth t = record {
  cause = record { only = λ x. t.cause.only (back x); other = λ none. t.cause.other (λ x. none (forth x)) };
  held = t.held;
  write_faults = t.write_faults;
  same = t.same;
}

-- reads without a fault are reads that had none
pub no_fault : {C fault : Type 0} {c : Ghosts C} {a b : C} → Took c a b → (fault → ⊥) → Takes c a b fault
no_fault t none = record {
  cause = record { only = λ x. absurd (none x); other = λ _. t.quiet };
  held = t.held;
  write_faults = t.write_faults;
  same = t.same;
}
