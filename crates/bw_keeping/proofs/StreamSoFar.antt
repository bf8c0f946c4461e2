-- Message after message, what a stream got is what its definition says.
use Rattle.std.proofs.Common.{◌≡◌, ◌<◌, ◌+◌, ℕ, List, [], ◌∷◌, ◌++◌, length, Option, Some, None, refl, sym, ap, ◌∙◌, subst, inl, inr, arith}
use Rattle.std.proofs.Common.{append_assoc, append-nil, length-append}
use Rattle.std.proofs.KnownBytes.{Appends-trans}
use Rattle.std.specs.Io.KnownBytes.{Appends}
use Rattle.bw_format.specs.declared.format.Format.{Format}
use Rattle.bw_http.specs.declared.replies.Reply.{Reply}
use Rattle.bw_journal.specs.Layout.{Entry, last_sum}
use Rattle.bw_journal.proofs.Readings.{sum_then}
use Rattle.bw_lang.specs.declared.service.Service.{Service}
use Rattle.bw_model.specs.Runs.{At, Stops, answer_of, wants}
use Rattle.bw_out.specs.Doors.{Returned}
use Rattle.bw_out.specs.Writes.{AppendsPart}
use Rattle.bw_stable.specs.Deeds.{Deed}
use Rattle.bw_world.specs.Streams.Answers.{IsAt}
use Rattle.bw_world.specs.Streams.Courses.{IsBroken, bytes_by}
use Rattle.bw_world.proofs.Streams.Streams.{answer_then, wants_then}
use Rattle.bw_keeping.specs.StreamSteps.{Goes, IsKeptOne, IsQuiet}
use Rattle.bw_keeping.specs.Streamed.{AreHandled, AreKeptAt, AreKeptFirst, HasStreamed, Message, Sight, Streams, costs_of, entries_of, replies_to}
use Rattle.bw_keeping.specs.declared.ended.StreamEnded.TheVariants as ends
use Rattle.bw_keeping.specs.declared.streaming.Next.{Next}
use Rattle.bw_keeping.specs.declared.streaming.Next.TheVariants as nexts
use Rattle.bw_keeping.proofs.StreamLists.{costs_then, entries_then, handled_then, kept_one, kept_then, replies_then}

-- the service and the formats are those with which the call began
pub with_first : (held formats : List Format) (now first : Service) (returned : Option (List Returned)) (old new : Sight) (next : Next) → held ≡ formats
    → now ≡ first → Goes held now returned old new next → Goes formats first returned old new next
with_first held formats now first returned old new next e f goes =
    subst (λ (s : Service). Goes formats s returned old new next) f (subst (λ (x : List Format). Goes x now returned old new next) e goes)

-- known bytes that grew
grown : (written bytes : List ℕ) (now : Option (List ℕ)) → Appends (Some written) now bytes → now ≡ Some (written ++ bytes)
grown written bytes None a = absurd a
grown written bytes (Some all) a = ap Some a

-- these messages were handled and kept, and the code stands behind them
pub record AreDone (formats : List Format) (service : Service) (returned : Option (List Returned)) (before now : Sight) (at mid : At) (written : List ℕ)
    (done : List Deed) (xs : List Message) (pieces : List Deed) : Type 0 where
  pub handled : AreHandled formats service at xs mid
  pub kept : AreKeptFirst service before.sum returned written xs pieces
  pub deeds : now.deeds ≡ Some (done ++ pieces)
  pub steps : now.place.steps ≡ before.place.steps + costs_of xs
  pub sum : now.sum ≡ last_sum before.sum (entries_of xs)

-- so many were answered, and so many of the replies are wants
pub record HasGone (formats : List Format) (service : Service) (returned : Option (List Returned)) (n count : ℕ) (before now : Sight) (at : At)
    (written : List ℕ) (done : List Deed) : Type 0 where
  pub messages : List Message
  pub mid : At
  pub pieces : List Deed
  pub are : AreDone formats service returned before now at mid written done messages pieces
  pub stands : IsAt now.place mid
  pub held : now.place.held ≡ Some (written ++ answer_of service (replies_to messages))
  pub size : length messages ≡ n
  pub counts : count ≡ wants (replies_to messages)

-- so it is where all is told
abbrev pub SoFar : List Format → Service → Option (List Returned) → ℕ → ℕ → Sight → Sight → Type 0
SoFar formats service returned n count before now =
    (at : At) (written : List ℕ) (done : List Deed) → IsAt before.place at → before.place.held ≡ Some written → before.deeds ≡ Some done
    → HasGone formats service returned n count before now at written done

pub gone_none : (formats : List Format) (service : Service) (returned : Option (List Returned)) (s : Sight) → SoFar formats service returned 0 0 s s
gone_none formats service returned s at written done is told did = record {
  messages = [];
  mid = at;
  pieces = [];
  are = record { handled = refl; kept = refl; deeds = did ∙ ap Some (sym (append-nil done)); steps = omega arith; sum = refl };
  stands = is;
  held = told ∙ ap Some (sym (append-nil written));
  size = refl;
  counts = refl;
}

-- the replies to some messages, and to one more
answers_more : (service : Service) (written : List ℕ) (xs : List Message) (x : Message)
    → (written ++ answer_of service (replies_to xs)) ++ bytes_by service x.reply ≡ written ++ answer_of service (replies_to (xs ++ x ∷ []))
answers_more service written xs x =
    append_assoc written (answer_of service (replies_to xs)) (bytes_by service x.reply)
    ∙ ap (λ (b : List ℕ). written ++ (answer_of service (replies_to xs) ++ b)) (sym (append-nil (bytes_by service x.reply)))
    ∙ ap (λ (b : List ℕ). written ++ b) (sym (answer_then service (replies_to xs) (x.reply ∷ [])))
    ∙ ap (λ (rs : List Reply). written ++ answer_of service rs) (sym (replies_then xs (x ∷ [])))

module _ (formats : List Format) (service : Service) (returned : Option (List Returned)) (before old new : Sight) (at mid to : At) (written : List ℕ)
    (done pieces : List Deed) (xs : List Message) (x : Message) (are : AreDone formats service returned before old at mid written done xs pieces)
    (one : IsKeptOne formats service returned old new mid to (written ++ answer_of service (replies_to xs)) (done ++ pieces) x) where
  sum_more : new.sum ≡ last_sum before.sum (entries_of (xs ++ x ∷ []))
  sum_more =
      one.sum ∙ ap (λ (n : ℕ). last_sum n x.entries) are.sum ∙ sym (sum_then before.sum (entries_of xs) x.entries)
      ∙ ap (λ (es : List Entry). last_sum before.sum (entries_of xs ++ es)) (sym (append-nil x.entries))
      ∙ ap (λ (es : List Entry). last_sum before.sum es) (sym (entries_then xs (x ∷ [])))

  -- one message more
  done_more : AreDone formats service returned before new at to written done (xs ++ x ∷ []) (pieces ++ one.piece)
  done_more =
      let at_sum : AreKeptAt (last_sum before.sum (entries_of xs)) x.entries returned (written ++ answer_of service (replies_to xs)) one.piece =
      subst (λ (n : ℕ). AreKeptAt n x.entries returned (written ++ answer_of service (replies_to xs)) one.piece) are.sum one.kept in
      let costs = costs_then xs (x ∷ []) in
      record {
        handled = handled_then formats service at mid to xs (x ∷ []) are.handled (to, one.handled, refl);
        kept = kept_then service before.sum returned written xs (x ∷ []) pieces one.piece are.kept
            (kept_one service (last_sum before.sum (entries_of xs)) returned (written ++ answer_of service (replies_to xs)) x one.piece at_sum);
        deeds = one.deeds ∙ ap Some (append_assoc done pieces one.piece);
        steps = omega (arith, are.steps, one.steps, costs);
        sum = sum_more;
      }

pub gone_more : (formats : List Format) (service : Service) (returned : Option (List Returned)) (n count k : ℕ) (before old new : Sight)
    → SoFar formats service returned n count before old → Goes formats service returned old new (nexts.Answered k)
    → SoFar formats service returned (n + 1) (count + k) before new
gone_more formats service returned n count k before old new so goes at written done is told did =
    let h = so at written done is told did in
    let shown = written ++ answer_of service (replies_to h.messages) in
    let g = goes h.mid shown (done ++ h.pieces) h.stands h.held h.are.deeds in
    let x = g.2.0 in
    let one = g.2.1 in
    let size = length-append h.messages (x ∷ []) in
    let counts : wants (replies_to (h.messages ++ x ∷ [])) ≡ wants (replies_to h.messages) + wants (x.reply ∷ []) =
    ap wants (replies_then h.messages (x ∷ [])) ∙ wants_then (replies_to h.messages) (x.reply ∷ []) in
    record {
      messages = h.messages ++ x ∷ [];
      mid = g.0;
      pieces = h.pieces ++ one.piece;
      are = done_more formats service returned before old new at h.mid g.0 written done h.pieces h.messages x h.are one;
      stands = g.1;
      held = grown shown (bytes_by service x.reply) new.place.held g.2.2 ∙ ap Some (answers_more service written h.messages x);
      size = omega (arith, size, h.size);
      counts = omega (arith, counts, h.counts, g.2.3);
    }

-- ---- how it ends

-- behind the replies to messages, others were written
answers_last : (service : Service) (written : List ℕ) (xs : List Message) (last : List Reply) (now : Option (List ℕ))
    → Appends (Some (written ++ answer_of service (replies_to xs))) now (answer_of service last)
    → Appends (Some written) now (answer_of service (replies_to xs ++ last))
answers_last service written xs last now a =
    subst (λ (b : List ℕ). Appends (Some written) now b) (sym (answer_then service (replies_to xs) last))
    (Appends-trans (Some written) (Some (written ++ answer_of service (replies_to xs))) now (answer_of service (replies_to xs)) (answer_of service last) refl a)

-- what is written now is what was written behind these messages
answers_now : (service : Service) (written : List ℕ) (xs : List Message) (now : Option (List ℕ)) → now ≡ Some (written ++ answer_of service (replies_to xs))
    → Appends (Some written) now (answer_of service (replies_to xs))
answers_now service written xs now e =
    subst (λ (o : Option (List ℕ)). Appends (Some written) o (answer_of service (replies_to xs))) (sym e) refl

module _ (formats : List Format) (service : Service) (returned : Option (List Returned)) (most n count : ℕ) (before old : Sight)
    (so : SoFar formats service returned n count before old) where
  -- as many messages were answered as were to be
  pub over_full : n ≡ most → Streams formats service most returned before old (ends.Ended count)
  over_full full at written done is told did =
      let h = so at written done is told did in
      let all = answers_now service written h.messages old.place.held h.held in record {
        messages = h.messages;
        mid = h.mid;
        to = h.mid;
        pieces = h.pieces;
        later = 0;
        handled = h.are.handled;
        kept = h.are.kept;
        over = (
          [],
          inl (h.size ∙ full, refl, refl),
          subst (λ (rs : List Reply). Appends (Some written) old.place.held (answer_of service rs)) (sym (append-nil (replies_to h.messages))) all,
          h.counts ∙ ap wants (sym (append-nil (replies_to h.messages))),
          refl,
        );
        stands = h.stands;
        deeds = h.are.deeds;
        steps_are = omega (arith, h.are.steps);
        sum_is = λ never. h.are.sum;
      }

  module _ (new : Sight) (fewer : n < most) where
    -- nothing was handled since
    quiet_steps : (written : List ℕ) (at : At) (done : List Deed) (h : HasGone formats service returned n count before old at written done)
        → new.place.steps ≡ old.place.steps → new.place.steps ≡ before.place.steps + (costs_of h.messages + 0)
    quiet_steps written at done h same = omega (arith, h.are.steps, same)

    -- none follows
    pub over_ended : Goes formats service returned old new nexts.Ended → Streams formats service most returned before new (ends.Ended count)
    over_ended goes at written done is told did =
        let h = so at written done is told did in
        let g = goes h.mid (written ++ answer_of service (replies_to h.messages)) (done ++ h.pieces) h.stands h.held h.are.deeds in
        let last = g.2.0 in
        let counts = wants_then (replies_to h.messages) last in
        record {
          messages = h.messages;
          mid = h.mid;
          to = g.0;
          pieces = h.pieces;
          later = 0;
          handled = h.are.handled;
          kept = h.are.kept;
          over = (
            last,
            inr (omega (arith, h.size, fewer), g.2.1),
            answers_last service written h.messages last new.place.held g.2.3,
            omega (arith, counts, h.counts, g.2.4),
            refl,
          );
          stands = g.1;
          deeds = g.2.2.deeds;
          steps_are = quiet_steps written at done h g.2.2.steps;
          sum_is = λ never. g.2.2.sum ∙ h.are.sum;
        }

    -- a read failed
    pub over_read : Goes formats service returned old new nexts.ReadFault → Streams formats service most returned before new ends.ReadFault
    over_read goes at written done is told did =
        let h = so at written done is told did in
        let g = goes h.mid (written ++ answer_of service (replies_to h.messages)) (done ++ h.pieces) h.stands h.held h.are.deeds in
        record {
          messages = h.messages;
          mid = h.mid;
          to = g.0;
          pieces = h.pieces;
          later = 0;
          handled = h.are.handled;
          kept = h.are.kept;
          over = (
            g.2.0,
            omega (arith, h.size, fewer),
            answers_now service written h.messages new.place.held g.2.3,
            g.2.1,
            refl,
          );
          stands = g.1;
          deeds = g.2.2.deeds;
          steps_are = quiet_steps written at done h g.2.2.steps;
          sum_is = λ never. g.2.2.sum ∙ h.are.sum;
        }

    -- the journal failed
    pub over_journal : Goes formats service returned old new nexts.JournalFault → Streams formats service most returned before new ends.JournalFault
    over_journal goes at written done is told did =
        let h = so at written done is told did in
        let g = goes h.mid (written ++ answer_of service (replies_to h.messages)) (done ++ h.pieces) h.stands h.held h.are.deeds in
        let lost = g.2.0 in
        record {
          messages = h.messages;
          mid = h.mid;
          to = g.0;
          pieces = h.pieces;
          later = lost.cost;
          handled = h.are.handled;
          kept = h.are.kept;
          over = (lost, g.2.1, g.2.2, omega (arith, h.size, fewer), answers_now service written h.messages new.place.held g.2.5, refl);
          stands = g.1;
          deeds = g.2.3;
          steps_are = omega (arith, h.are.steps, g.2.4);
          sum_is = λ never. absurd (never refl);
        }

    -- a write failed, in the midst of a reply or of a refusal
    module _ (at to : At) (written : List ℕ) (done : List Deed) (h : HasGone formats service returned n count before old at written done)
        (stands : IsAt new.place to) where
      abbrev shown : List ℕ
      shown = written ++ answer_of service (replies_to h.messages)

      abbrev Breaks : Type 0
      Breaks = HasStreamed formats service most returned before.sum before.place.steps at written done new ends.WriteFault

      broken : (reply : Reply) → AppendsPart (Some shown) new.place.held (bytes_by service reply) → (all : List Reply)
          → all ≡ replies_to h.messages ++ reply ∷ [] → IsBroken service (Some written) new.place.held all
      broken reply part all is = record {
        earlier = replies_to h.messages;
        last = reply;
        front = part.0;
        back = part.1;
        all = is;
        part = part.2;
        holds = Appends-trans (Some written) (Some shown) new.place.held (answer_of service (replies_to h.messages)) part.0 refl part.3;
      }

      answer_broke : (x : Message) → IsKeptOne formats service returned old new h.mid to shown (done ++ h.pieces) x
          → AppendsPart (Some shown) new.place.held (bytes_by service x.reply) → Breaks
      answer_broke x one part =
          let all = done_more formats service returned before old new at h.mid to written done h.pieces h.messages x h.are one in
          let size = length-append h.messages (x ∷ []) in
          let replies = replies_to (h.messages ++ x ∷ []) in
          record {
            messages = h.messages ++ x ∷ [];
            mid = to;
            to = to;
            pieces = h.pieces ++ one.piece;
            later = 0;
            handled = all.handled;
            kept = all.kept;
            over = (
              [],
              inl (omega (arith, size, h.size, fewer), refl, refl),
              broken x.reply part (replies ++ []) (append-nil replies ∙ replies_then h.messages (x ∷ [])),
              refl,
            );
            stands = stands;
            deeds = all.deeds;
            steps_are = omega (arith, all.steps);
            sum_is = λ never. all.sum;
          }

      refusal_broke : (reply : Reply) → Stops h.mid (reply ∷ []) to → IsQuiet old new (done ++ h.pieces)
          → AppendsPart (Some shown) new.place.held (bytes_by service reply) → Breaks
      refusal_broke reply stops quiet part = record {
        messages = h.messages;
        mid = h.mid;
        to = to;
        pieces = h.pieces;
        later = 0;
        handled = h.are.handled;
        kept = h.are.kept;
        over = (
          reply ∷ [],
          inr (omega (arith, h.size, fewer), stops),
          broken reply part (replies_to h.messages ++ reply ∷ []) refl,
          refl,
        );
        stands = stands;
        deeds = quiet.deeds;
        steps_are = quiet_steps written at done h quiet.steps;
        sum_is = λ never. quiet.sum ∙ h.are.sum;
      }

    pub over_write : Goes formats service returned old new nexts.WriteFault → Streams formats service most returned before new ends.WriteFault
    over_write goes at written done is told did =
        let h = so at written done is told did in
        let g = goes h.mid (written ++ answer_of service (replies_to h.messages)) (done ++ h.pieces) h.stands h.held h.are.deeds in
        elim (g.2) as (λ _. HasStreamed formats service most returned before.sum before.place.steps at written done new ends.WriteFault) [
          | inl w ↦ answer_broke at g.0 written done h g.1 w.0 w.1 w.2
          | inr w ↦ refusal_broke at g.0 written done h g.1 w.0 w.1 w.2 w.3
        ]
