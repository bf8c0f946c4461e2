-- A link whose message was handled is sent its reply: so it is answered.
use Rattle.std.proofs.Common.{◌≡◌, ◌⊎◌, ◌+◌, ℕ, List, [], ◌∷◌, Option, Some, refl, sym, ◌∙◌, subst, inl, inr, arith, append-nil}
use Rattle.std.specs.Io.KnownBytes.{Appends}
use Rattle.bw_format.specs.declared.format.Format.{Format}
use Rattle.bw_http.specs.Messages.{IsShort}
use Rattle.bw_http.specs.declared.replies.Reply.{Reply}
use Rattle.bw_journal.specs.Layout.{Entry}
use Rattle.bw_lang.specs.declared.service.Service.{Service}
use Rattle.bw_model.specs.Runs.{At, Run, Turn, Stops, wants}
use Rattle.bw_out.specs.Causes.{Rose, Shows}
use Rattle.bw_out.specs.Writes.{AppendsPart}
use Rattle.bw_out.specs.declared.outside.Channel.{Ghosts}
use Rattle.bw_keeping.specs.Entering.{IsEntered}
use Rattle.bw_world.specs.Streams.Taking.{Taking}
use Rattle.bw_world.specs.declared.outcomes.Taken.{Taken}
use Rattle.bw_world.specs.declared.outcomes.Taken.TheVariants as takens
use Rattle.bw_world.specs.Streams.Answers.{Place}
use Rattle.bw_world.specs.Streams.Courses.{AreLeft, bytes_by, Between, begins}
use Rattle.bw_world.specs.declared.ends.StreamEnd.TheVariants as ends
use Rattle.bw_keeping.specs.Answered.{IsAnswered, IsUnanswered}
use Rattle.bw_keeping.specs.Steps.{Replies, Writes, back_of}

-- A link waits: its message was handled between there and there, so many bytes of it were not used, nothing is written on
-- it, and this is to be kept of it.
pub record IsTaken {Link : Type 0} (channel : Ghosts Link) (formats : List Format) (service : Service) (from : Between) (bytes : List ℕ)
    (link : Link) (taken : Taken) (to : Between) (entries : List Entry) : Type 0 where
  pub old : Place
  pub new : Place
  pub rest : List ℕ
  pub taking : Taking formats service (begins from bytes) (begins to rest) old new taken
  pub began : old.steps ≡ from.steps
  pub ended : new.steps ≡ to.steps
  pub unhandled : AreLeft new.taken (channel.left link) rest
  pub entered : IsEntered formats service (begins from bytes) (begins to rest) entries
  pub read_fault : Shows (taken ≡ takens.ReadFault) 0 (channel.read_faults link)
  pub held : channel.held link ≡ Some []
  pub quiet : channel.write_faults link ≡ 0

-- a count that stands at nothing shows no fault
none_shown : (fact : Type 0) (count : ℕ) → (fact → ⊥) → count ≡ 0 → Shows fact 0 count
none_shown fact count never none = record { only = λ f. absurd (never f); other = λ f. none }

-- what was appended to nothing
appended : (held now : Option (List ℕ)) (bytes : List ℕ) → held ≡ Some [] → Appends held now bytes → Appends (Some []) now bytes
appended held now bytes none a = subst (λ (h : Option (List ℕ)). Appends h now bytes) none a

-- the messages of a run that is over at once
stopped_run : (formats : List Format) (service : Service) (at to : At) (replies : List Reply) → Stops at replies to → Run formats service 1 at replies 0 to
stopped_run formats service at to replies stops =
    record { first = []; last = replies; mid = at; turns = (refl, refl); all = refl; ends = inr (omega arith, stops) }

one_run : (formats : List Format) (service : Service) (at to : At) (reply : Reply) (cost : ℕ) → Turn formats service at reply cost to
    → Run formats service 1 at (reply ∷ []) cost to
one_run formats service at to reply cost turn = record {
  first = reply ∷ [];
  last = [];
  mid = to;
  turns = (cost, 0, to, turn, (refl, refl), omega arith);
  all = refl;
  ends = inl (refl, refl, refl);
}

-- nothing is due on the link, since its stream has ended or a read failed
module _ {Link : Type 0} (channel : Ghosts Link) (formats : List Format) (service : Service) (from to : Between) (bytes : List ℕ) (link : Link)
    (entries : List Entry) where
  nothing_due : IsTaken channel formats service from bytes link takens.End to entries
      → IsAnswered formats service from bytes (back_of channel link) to entries
  nothing_due t = record {
    rest = t.rest;
    taken = t.new.taken;
    cost = 0;
    end = ends.Ended 0;
    course = (
      [],
      stopped_run formats service (begins from bytes) (begins to t.rest) [] t.taking.0,
      subst (λ (h : Option (List ℕ)). Appends (Some []) h []) (sym t.held) refl,
      refl,
    );
    unhandled = t.unhandled;
    steps = omega (arith, t.began, t.ended, t.taking.1);
    entered = t.entered;
    read_fault = none_shown (ends.Ended 0 ≡ ends.ReadFault) (channel.read_faults link) (λ e. cc) (t.read_fault.other (λ e. cc));
    write_fault = none_shown (ends.Ended 0 ≡ ends.WriteFault) (channel.write_faults link) (λ e. cc) t.quiet;
  }

  nothing_read : IsTaken channel formats service from bytes link takens.ReadFault to entries
      → IsAnswered formats service from bytes (back_of channel link) to entries
  nothing_read t = record {
    rest = t.rest;
    taken = t.new.taken;
    cost = 0;
    end = ends.ReadFault;
    course = (
      [],
      (refl, t.taking.0),
      omega arith,
      subst (λ (h : Option (List ℕ)). Appends (Some []) h []) (sym t.held) refl,
      t.taking.1,
    );
    unhandled = t.unhandled;
    steps = omega (arith, t.began, t.ended, t.taking.2);
    entered = t.entered;
    read_fault = record { only = λ e. t.read_fault.only refl; other = λ never. absurd (never refl) };
    write_fault = none_shown (ends.ReadFault ≡ ends.WriteFault) (channel.write_faults link) (λ e. cc) t.quiet;
  }

-- a reply was due, and was sent, or a first part of it
module _ {Link : Type 0} (channel : Ghosts Link) (formats : List Format) (service : Service) (from to : Between) (bytes rest taken : List ℕ) (reply : Reply)
    (cost : ℕ) (link now : Link) (entries : List Entry) (run : Run formats service 1 (begins from bytes) (reply ∷ []) cost (begins to rest))
    (unhandled : AreLeft taken (channel.left link) rest) (steps : to.steps ≡ from.steps + cost)
    (entered : IsEntered formats service (begins from bytes) (begins to rest) entries) (read : channel.read_faults link ≡ 0)
    (held : channel.held link ≡ Some []) (quiet : channel.write_faults link ≡ 0) (left : channel.left now ≡ channel.left link)
    (reads : channel.read_faults now ≡ channel.read_faults link) where
  abbrev IsGivenBack : Type 0
  IsGivenBack = IsAnswered formats service from bytes (back_of channel now) to entries

  still : AreLeft taken (channel.left now) rest
  still = subst (λ (l : Option (List ℕ)). AreLeft taken l rest) (sym left) unhandled

  sent_whole : Appends (channel.held link) (channel.held now) (bytes_by service reply) → channel.write_faults now ≡ channel.write_faults link → IsGivenBack
  sent_whole all same = record {
    rest = rest;
    taken = taken;
    cost = cost;
    end = ends.Ended (wants (reply ∷ []));
    course = (
      reply ∷ [],
      run,
      subst (λ (b : List ℕ). Appends (Some []) (channel.held now) b) (sym (append-nil (bytes_by service reply)))
          (appended (channel.held link) (channel.held now) (bytes_by service reply) held all),
      refl,
    );
    unhandled = still;
    steps = steps;
    entered = entered;
    read_fault = none_shown (ends.Ended (wants (reply ∷ [])) ≡ ends.ReadFault) (channel.read_faults now) (λ e. cc) (reads ∙ read);
    write_fault = none_shown (ends.Ended (wants (reply ∷ [])) ≡ ends.WriteFault) (channel.write_faults now) (λ e. cc) (same ∙ quiet);
  }

  sent_part : AppendsPart (channel.held link) (channel.held now) (bytes_by service reply) → Rose (channel.write_faults link) (channel.write_faults now)
      → IsGivenBack
  sent_part (front, back, whole, part) rose = record {
    rest = rest;
    taken = taken;
    cost = cost;
    end = ends.WriteFault;
    course = (
      reply ∷ [],
      run,
      omega arith,
      record {
        earlier = [];
        last = reply;
        front = front;
        back = back;
        all = refl;
        part = whole;
        holds = appended (channel.held link) (channel.held now) front held part;
      },
    );
    unhandled = still;
    steps = steps;
    entered = entered;
    read_fault = none_shown (ends.WriteFault ≡ ends.ReadFault) (channel.read_faults now) (λ e. cc) (reads ∙ read);
    write_fault = record {
      only = λ e. subst (λ (n : ℕ). Rose n (channel.write_faults now)) quiet rose;
      other = λ never. absurd (never refl);
    };
  }

  sent : Writes (channel.held link) (channel.held now) (channel.write_faults link) (channel.write_faults now) (bytes_by service reply) → IsGivenBack
  sent (inl w) = sent_whole w.0 w.1
  sent (inr w) = sent_part w.0 w.1

pub answered : {Link : Type 0} (channel : Ghosts Link) (formats : List Format) (service : Service) (from to : Between) (bytes : List ℕ) (link now : Link)
    (taken : Taken) (entries : List Entry) → IsTaken channel formats service from bytes link taken to entries → Replies channel service link now taken
    → IsAnswered formats service from bytes (back_of channel now) to entries
answered {Link} channel formats service from to bytes link now takens.End entries t same =
    subst (λ (l : Link). IsAnswered formats service from bytes (back_of channel l) to entries) (sym same)
    (nothing_due channel formats service from to bytes link entries t)
answered {Link} channel formats service from to bytes link now takens.ReadFault entries t same =
    subst (λ (l : Link). IsAnswered formats service from bytes (back_of channel l) to entries) (sym same)
    (nothing_read channel formats service from to bytes link entries t)
answered channel formats service from to bytes link now (takens.Refused reply) entries t s =
    sent channel formats service from to bytes t.rest t.new.taken reply 0 link now entries
    (stopped_run formats service (begins from bytes) (begins to t.rest) (reply ∷ []) t.taking.0) t.unhandled
    (omega (arith, t.began, t.ended, t.taking.1)) t.entered (t.read_fault.other (λ e. cc)) t.held t.quiet s.left s.read_faults s.writes
answered channel formats service from to bytes link now (takens.Answered reply) entries t s =
    sent channel formats service from to bytes t.rest t.new.taken reply t.taking.0 link now entries
    (one_run formats service (begins from bytes) (begins to t.rest) reply t.taking.0 t.taking.1) t.unhandled
    (omega (arith, t.began, t.ended, t.taking.2)) t.entered (t.read_fault.other (λ e. cc)) t.held t.quiet s.left s.read_faults s.writes

-- nothing is sent on a link that waits
module _ {Link : Type 0} (channel : Ghosts Link) (formats : List Format) (service : Service) (from to : Between) (bytes : List ℕ) (link : Link)
    (entries : List Entry) where
  unsent : (taken : Taken) (t : IsTaken channel formats service from bytes link taken to entries) (replies : List Reply) (cost : ℕ)
      → Run formats service 1 (begins from bytes) replies cost (begins to t.rest)
      ⊎ ((begins to t.rest ≡ begins from bytes) × IsShort t.new.taken × (cost ≡ 0))
      → to.steps ≡ from.steps + cost → IsUnanswered formats service from bytes (back_of channel link) to
  unsent taken t replies cost came steps = record {
    rest = t.rest;
    taken = t.new.taken;
    replies = replies;
    cost = cost;
    came = came;
    unhandled = t.unhandled;
    steps = steps;
    none = t.held;
  }

  pub unanswered_so : (taken : Taken) → IsTaken channel formats service from bytes link taken to entries
      → IsUnanswered formats service from bytes (back_of channel link) to
  unanswered_so takens.End t =
      unsent takens.End t [] 0 (inl (stopped_run formats service (begins from bytes) (begins to t.rest) [] t.taking.0))
      (omega (arith, t.began, t.ended, t.taking.1))
  unanswered_so takens.ReadFault t =
      unsent takens.ReadFault t [] 0 (inr (t.taking.0, t.taking.1, refl)) (omega (arith, t.began, t.ended, t.taking.2))
  unanswered_so (takens.Refused reply) t =
      unsent (takens.Refused reply) t (reply ∷ []) 0
      (inl (stopped_run formats service (begins from bytes) (begins to t.rest) (reply ∷ []) t.taking.0))
      (omega (arith, t.began, t.ended, t.taking.1))
  unanswered_so (takens.Answered reply) t =
      unsent (takens.Answered reply) t (reply ∷ []) t.taking.0
      (inl (one_run formats service (begins from bytes) (begins to t.rest) reply t.taking.0 t.taking.1))
      (omega (arith, t.began, t.ended, t.taking.2))
