-- Writes one after another on one channel.
use Rattle.std.proofs.Common.{◌≡◌, ℕ, List, ◌++◌, Result, Ok, Err, ◌∙◌, subst}
use Rattle.std.specs.Result.{IsErr}
use Rattle.bw_out.specs.Causes.{HasCause}
use Rattle.bw_out.specs.Sends.{Sends, Sent}
use Rattle.bw_out.specs.declared.outside.Channel.{Ghosts}
use Rattle.bw_out.proofs.WriteLaws.{then_writes, writes_more, stops}

-- what a writer that succeeded did
pub sent : {C T E : Type 0} {c : Ghosts C} {a b : C} {bytes : List ℕ} {x : T} → Sends {E = E} c a b bytes (Ok x) → Sent c a b bytes
sent s = record { appended = s.writes.whole; quiet = s.cause.quiet; left = s.left; read_faults = s.read_faults; same = s.same }

-- a cause counts from where the count stood before it
cause_after : {T E : Type 0} {m n k : ℕ} {r : Result T E} → n ≡ m → HasCause n k r → HasCause m k r
cause_after {k = k} {r = r} e h = subst (λ x. HasCause x k r) e h

-- a channel that is the same as the same channel is the same
abbrev pub Goes : {C : Type 0} → (C → C → Type 0) → Type 0
Goes {C = C} same = (a b d : C) → same a b → same b d → same a d

-- bytes, and more bytes after them
pub sent_more : {C : Type 0} (c : Ghosts C) → Goes c.same → {a b d : C} {all : List ℕ} (p q : List ℕ)
    → Sent c a b p → Sent c b d q → p ++ q ≡ all → Sent c a d all
sent_more c goes {a = a} {b = b} {d = d} p q s t e = record {
  appended = writes_more _ _ _ p q s.appended t.appended e;
  quiet = t.quiet ∙ s.quiet;
  left = t.left ∙ s.left;
  read_faults = t.read_faults ∙ s.read_faults;
  same = goes a b d s.same t.same;
}

-- a part that was written whole, and then the rest
pub then_sends : {C T E : Type 0} (c : Ghosts C) → Goes c.same → {a b d : C} {all : List ℕ} {r : Result T E} (p q : List ℕ)
    → Sent c a b p → Sends c b d q r → p ++ q ≡ all → Sends c a d all r
then_sends c goes {a = a} {b = b} {d = d} p q s t e = record {
  writes = then_writes p q s.appended t.writes e;
  cause = cause_after s.quiet t.cause;
  left = t.left ∙ s.left;
  read_faults = t.read_faults ∙ s.read_faults;
  same = goes a b d s.same t.same;
}

-- a cause of one failure is one of another
failed_by : {T T' E E' : Type 0} {m k : ℕ} {e : E} {r : Result T' E'} → IsErr r → HasCause {T = T} m k (Err e) → HasCause m k r
failed_by {r = Ok x} f h = cc
failed_by {r = Err x} f h = record { later = h.later; failed = h.failed; quiet = tt }

-- a fault in the first part is a fault of both
pub sends_stops : {C T T' E E' : Type 0} {c : Ghosts C} {a b : C} {all : List ℕ} {e : E} {r : Result T' E'} (p q : List ℕ)
    → Sends {T = T} c a b p (Err e) → IsErr r → p ++ q ≡ all → Sends c a b all r
sends_stops p q s f e = record {
  writes = stops p q s.writes f e;
  cause = failed_by f s.cause;
  left = s.left;
  read_faults = s.read_faults;
  same = s.same;
}
