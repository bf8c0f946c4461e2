-- One message has one reply.
use Rattle.std.proofs.Common.{◌≡◌, ◌≢◌, ◌<◌, ◌+◌, ◌^◌, ◌⊎◌, inl, inr, ℕ, List, [], ◌∷◌, ◌++◌, length, refl, sym, ap, ◌∙◌, subst, arith, append-nil, Option}
use Rattle.std.proofs.Common.{Some}
use Rattle.bw_format.specs.declared.format.Format.{Format}
use Rattle.bw_http.specs.declared.replies.Reply.{Reply}
use Rattle.bw_lang.specs.declared.service.Service.{Service}
use Rattle.bw_model.specs.Runs.{At, Turns, Stops, ended, refused, Run, answer_of}
use Rattle.bw_world.specs.Streams.Answers.{between, IsAt, Answers}
use Rattle.bw_world.specs.Streams.Courses.{Course, bytes_by, Between, begins}
use Rattle.bw_world.specs.declared.ends.StreamEnd.TheVariants.{Ended}
use Rattle.bw_visit.specs.Exchanges.{Standing, IsBetween, IsExchanged, Exchanges}

-- a run over a message that isn't empty has one reply
one_reply : (formats : List Format) (service : Service) (at to : At) (replies : List Reply) (cost : ℕ) → at.bytes ≢ []
    → Run formats service 1 at replies cost to → (reply : Reply) × (replies ≡ reply ∷ [])
one_reply formats service at to replies cost some run = by_turns run.first run.last run.mid run.turns run.all run.ends
  where
    by_stop : (mid : At) (others : List Reply) → Stops mid others to → mid.bytes ≢ [] → replies ≡ others → (reply : Reply) × (replies ≡ reply ∷ [])
    by_stop mid _ (ended rest cut) f e = absurd (f cut.0)
    by_stop mid _ (refused outcome reply rest cut is) f e = (reply, e)

    by_turns : (first others : List Reply) (mid : At) → Turns formats service at first cost mid → replies ≡ first ++ others
        → ((length first ≡ 1) × (others ≡ []) × (to ≡ mid)) ⊎ ((length first < 1) × Stops mid others to) → (reply : Reply) × (replies ≡ reply ∷ [])
    by_turns [] others mid t e (inl x) = absurd (omega (arith, x.0))
    by_turns (r ∷ []) others mid t e (inl x) = (r, e ∙ ap (λ l. r ∷ l) x.1)
    by_turns (r ∷ (q ∷ first)) others mid t e (inl x) = absurd (omega (arith, x.0))
    by_turns [] others mid t e (inr x) = by_stop mid others x.1 (λ f. some (sym (ap (λ (a : At). a.bytes) t.1) ∙ f)) e
    by_turns (r ∷ first) others mid t e (inr x) = absurd (omega (arith, x.0))

module _ (message : List ℕ) (old new : Standing) (taken : List ℕ) (left : Option (List ℕ)) (held : List ℕ) (some : 0 < length message)
    (short : length message < 2 ^ 64) (small : length held < 2 ^ 64) where
  by_course : (from : Between) → IsBetween old from → (to : At) (cost count : ℕ) → IsAt (between new.seen taken left (Some held) new.keys new.steps) to
      → new.steps ≡ old.steps + cost
      → Course old.formats old.seen.service 1 (begins from message) to (Some []) (Some held) taken cost (Ended count)
      → IsExchanged old from message new held
  by_course from b to cost count at steps course =
      let service = old.seen.service in
      let one = one_reply old.formats service (begins from message) to course.0 cost (λ e. absurd (omega (arith, some, ap length e))) course.1 in
      let reply = one.0 in
      let is : held ≡ bytes_by service reply = course.2 ∙ ap (answer_of service) one.1 ∙ append-nil (bytes_by service reply) in
      record {
        to = record { world = to.world; keys = to.keys; steps = new.steps };
        reply = reply;
        stands = record { world = at.stands; keys = at.keys; steps = refl };
        exchange = record {
          cost = cost;
          rest = to.bytes;
          run = subst (λ rs. Run old.formats service 1 (begins from message) rs cost to) one.1 course.1;
          steps = steps ∙ ap (λ n. n + cost) b.steps;
          sent_fits = short;
          reply_fits = subst (λ l. length l < 2 ^ 64) is small;
        };
        is = is;
      }

  exchanged : (count : ℕ)
      → Answers old.formats old.seen.service 1 (between old.seen [] (Some message) (Some []) old.keys old.steps)
      (between new.seen taken left (Some held) new.keys new.steps) (Ended count)
      → Exchanges message old new held
  exchanged count answers from b =
      let a = answers (begins from message) (record { stands = b.world; bytes = (message, refl, refl); keys = b.keys }) in
      by_course from b a.0 a.1 count a.2 a.3 a.4

  -- so from an intake and a sink that are empty
  pub exchanged_from : (count : ℕ) (taken0 held0 : List ℕ) (left0 : Option (List ℕ)) → left0 ≡ Some message → taken0 ≡ [] → held0 ≡ []
      → Answers old.formats old.seen.service 1 (between old.seen taken0 left0 (Some held0) old.keys old.steps)
      (between new.seen taken left (Some held) new.keys new.steps) (Ended count)
      → Exchanges message old new held
  exchanged_from count taken0 held0 left0 is t h answers =
      exchanged count
      (subst (λ x. Answers old.formats old.seen.service 1 (between old.seen x (Some message) (Some []) old.keys old.steps)
      (between new.seen taken left (Some held) new.keys new.steps) (Ended count)) t
      (subst (λ x. Answers old.formats old.seen.service 1 (between old.seen taken0 (Some message) (Some x) old.keys old.steps)
      (between new.seen taken left (Some held) new.keys new.steps) (Ended count)) h
      (subst (λ x. Answers old.formats old.seen.service 1 (between old.seen taken0 x (Some held0) old.keys old.steps)
      (between new.seen taken left (Some held) new.keys new.steps) (Ended count)) is answers)))
