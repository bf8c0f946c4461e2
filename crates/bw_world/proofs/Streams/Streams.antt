-- Message after message, what is sent in answer to a stream is what its run says.
use Rattle.std.proofs.Common.{◌≡◌, ◌⊎◌, ◌<◌, ◌+◌, ℕ, List, [], ◌∷◌, ◌++◌, length, Option, refl, sym, ap, ◌∙◌, subst, inl, inr, arith, append-nil, append_assoc}
use Rattle.std.proofs.Common.{length-append}
use Rattle.std.specs.Io.KnownBytes.{Appends}
use Rattle.std.proofs.KnownBytes.{Appends-nil, Appends-trans}
use Rattle.bw_format.specs.declared.format.Format.{Format}
use Rattle.bw_http.specs.declared.replies.Reply.{Reply}
use Rattle.bw_lang.specs.declared.service.Service.{Service}
use Rattle.bw_model.specs.Runs.{At, Turn, Turns, Stops, Run, wants, answer_of}
use Rattle.bw_world.specs.Streams.Answers.{Place, Answers}
use Rattle.bw_world.specs.Streams.Courses.{bytes_by}
use Rattle.bw_world.specs.Streams.Steps.Turns.{Goes, Stands}
use Rattle.bw_world.specs.declared.outcomes.Next.{Next}
use Rattle.bw_world.specs.declared.outcomes.Next.TheVariants as nexts
use Rattle.bw_world.specs.declared.ends.StreamEnd.TheVariants as ends

pub turns_then : (formats : List Format) (service : Service) (first rest : List Reply) (c d : ℕ) (at mid to : At) → Turns formats service at first c mid → Turns formats service mid rest d to
    → Turns formats service at (first ++ rest) (c + d) to
turns_then formats service [] rest c d at mid to t u =
    let sum : d ≡ c + d = omega (arith, t.0) in
    subst (λ x. Turns formats service at rest x to) sum (subst (λ a. Turns formats service a rest d to) t.1 u)
turns_then formats service (r ∷ rs) rest c d at mid to t u =
    (t.0, t.1 + d, t.2, t.3, turns_then formats service rs rest t.1 d t.2 mid to t.4 u, omega (arith, t.5))

pub wants_then : (first rest : List Reply) → wants (first ++ rest) ≡ wants first + wants rest
wants_then [] rest = omega arith
wants_then (r ∷ rs) rest = let e = wants_then rs rest in omega (arith, e)

pub answer_then : (service : Service) (first rest : List Reply) → answer_of service (first ++ rest) ≡ answer_of service first ++ answer_of service rest
answer_then service [] rest = refl
answer_then service (r ∷ rs) rest =
    ap (λ l. bytes_by service r ++ l) (answer_then service rs rest) ∙ sym (append_assoc (bytes_by service r) (answer_of service rs) (answer_of service rest))

appends_then : (service : Service) (a b c : Option (List ℕ)) (replies more : List Reply) → Appends a b (answer_of service replies)
    → Appends b c (answer_of service more) → Appends a c (answer_of service (replies ++ more))
appends_then service a b c replies more p q =
    subst (Appends a c) (sym (answer_then service replies more)) (Appends-trans a b c (answer_of service replies) (answer_of service more) p q)

one_answer : (service : Service) (reply : Reply) → bytes_by service reply ≡ answer_of service (reply ∷ [])
one_answer service reply = sym (append-nil (bytes_by service reply))

-- the service is the one with which the call began
pub at_service : (formats : List Format) (now first : Service) (old new : Place) (next : Next) → now ≡ first → Goes formats now old new next → Goes formats first old new next
at_service formats now first old new next e goes = subst (λ s. Goes formats s old new next) e goes

pub stands_none : (formats : List Format) (service : Service) (p : Place) → Stands formats service 0 0 p p
stands_none formats service p at is = (at, is, ([], 0, (refl, refl), refl, omega arith, Appends-nil p.held, refl))

pub stands_more : (formats : List Format) (service : Service) (n count k : ℕ) (first old new : Place) → Stands formats service n count first old → Goes formats service old new (nexts.Answered k)
    → Stands formats service (n + 1) (count + k) first new
stands_more formats service n count k first old new stands goes at is =
    let s = stands at is in
    let so = s.2 in
    let t = goes s.0 s.1 in
    let now = t.2 in
    let replies = so.0 in
    let reply = now.0 in
    let len = length-append replies (reply ∷ []) in
    let sum = wants_then replies (reply ∷ []) in (
      t.0,
      t.1,
      (
        replies ++ reply ∷ [],
        so.1 + (now.1 + 0),
        turns_then formats service replies (reply ∷ []) so.1 (now.1 + 0) at s.0 t.0 so.2 (now.1, 0, t.0, now.2, (refl, refl), refl),
        omega (arith, len, so.3),
        omega (arith, so.4, now.3),
        appends_then service first.held old.held new.held replies (reply ∷ []) so.5 (subst (Appends old.held new.held) (one_answer service reply) now.4),
        omega (arith, sum, so.6, now.5),
      ),
    )

-- as many messages were handled as were to be
pub over_full : (formats : List Format) (service : Service) (most n count : ℕ) (first now : Place) → Stands formats service n count first now → n ≡ most
    → Answers formats service most first now (ends.Ended count)
over_full formats service most n count first now stands full at is =
    let s = stands at is in
    let so = s.2 in
    let run : Run formats service most at so.0 so.1 s.0 = record {
      first = so.0;
      last = [];
      mid = s.0;
      turns = so.2;
      all = sym (append-nil so.0);
      ends = inl (so.3 ∙ full, refl, refl);
    } in
    (s.0, so.1, s.1, so.4, (so.0, run, so.5, so.6))

-- none follows
pub over_ended : (formats : List Format) (service : Service) (most n count : ℕ) (first old new : Place) → n < most → Stands formats service n count first old
    → Goes formats service old new nexts.Ended → Answers formats service most first new (ends.Ended count)
over_ended formats service most n count first old new fewer stands goes at is =
    let s = stands at is in
    let so = s.2 in
    let t = goes s.0 s.1 in
    let now = t.2 in
    let sum = wants_then so.0 now.0 in
    let run : Run formats service most at (so.0 ++ now.0) so.1 t.0 =
    record { first = so.0; last = now.0; mid = s.0; turns = so.2; all = refl; ends = inr (omega (arith, so.3, fewer), now.1) } in (
      t.0,
      so.1,
      t.1,
      omega (arith, so.4, now.2),
      (
        so.0 ++ now.0,
        run,
        appends_then service first.held old.held new.held so.0 now.0 so.5 now.3,
        omega (arith, sum, so.6, now.4),
      ),
    )

-- a read failed
pub over_read : (formats : List Format) (service : Service) (most n count : ℕ) (first old new : Place) → n < most → Stands formats service n count first old
    → Goes formats service old new nexts.ReadFault → Answers formats service most first new ends.ReadFault
over_read formats service most n count first old new fewer stands goes at is =
    let s = stands at is in
    let so = s.2 in
    let t = goes s.0 s.1 in
    let now = t.2 in (
      t.0,
      so.1,
      t.1,
      omega (arith, so.4, now.2),
      (
        so.0,
        subst (Turns formats service at so.0 so.1) (sym now.0) so.2,
        omega (arith, so.3, fewer),
        subst (λ h. Appends first.held h (answer_of service so.0)) (sym now.3) so.5,
        now.1,
      ),
    )

-- a run whose last message was handled, or refused
last_run : (formats : List Format) (service : Service) (replies : List Reply) (reply : Reply) (c d : ℕ) (at mid to : At) → Turns formats service at replies c mid
    → Turn formats service mid reply d to ⊎ ((d ≡ 0) × Stops mid (reply ∷ []) to)
    → Run formats service (length (replies ++ reply ∷ [])) at (replies ++ reply ∷ []) (c + d) to
last_run formats service replies reply c d at mid to t (inl turn) =
    let one : Turns formats service mid (reply ∷ []) d to = (d, 0, to, turn, (refl, refl), omega arith) in
    record {
      first = replies ++ reply ∷ [];
      last = [];
      mid = to;
      turns = turns_then formats service replies (reply ∷ []) c d at mid to t one;
      all = sym (append-nil (replies ++ reply ∷ []));
      ends = inl (refl, refl, refl);
    }
last_run formats service replies reply c d at mid to t (inr stops) =
    let same : c ≡ c + d = omega (arith, stops.0) in
    let len = length-append replies (reply ∷ []) in
    record {
      first = replies;
      last = reply ∷ [];
      mid = mid;
      turns = subst (λ x. Turns formats service at replies x mid) same t;
      all = refl;
      ends = inr (omega (arith, len), stops.1);
    }

-- a write failed
pub over_write : (formats : List Format) (service : Service) (most n count : ℕ) (first old new : Place) → n < most → Stands formats service n count first old
    → Goes formats service old new nexts.WriteFault → Answers formats service most first new ends.WriteFault
over_write formats service most n count first old new fewer stands goes at is =
    let s = stands at is in
    let so = s.2 in
    let t = goes s.0 s.1 in
    let now = t.2 in
    let replies = so.0 in
    let reply = now.0 in
    let len = length-append replies (reply ∷ []) in
    let part = now.4 in (
      t.0,
      so.1 + now.1,
      t.1,
      omega (arith, so.4, now.3),
      (
        replies ++ reply ∷ [],
        last_run formats service replies reply so.1 now.1 at s.0 t.0 so.2 now.2,
        omega (arith, len, so.3, fewer),
        record {
          earlier = replies;
          last = reply;
          front = part.0;
          back = part.1;
          all = refl;
          part = part.2;
          holds = Appends-trans first.held old.held new.held (answer_of service replies) part.0 so.5 part.3;
        },
      ),
    )
