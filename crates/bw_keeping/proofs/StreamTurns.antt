-- One message of a stream is handled, its entry kept, and its reply sent.
use Rattle.std.proofs.Common.{◌≡◌, ◌≢◌, ℕ, List, [], ◌∷◌, ◌++◌, Option, Some, refl, sym, ap, ◌∙◌, subst, inl, inr, arith, append-nil}
use Rattle.std.proofs.KnownBytes.{Appends-nil}
use Rattle.std.specs.Io.KnownBytes.{Appends}
use Rattle.bw_format.specs.declared.format.Format.{Format}
use Rattle.bw_http.specs.declared.replies.Reply.{Reply}
use Rattle.bw_journal.specs.Layout.{Entry, entries_bytes}
use Rattle.bw_lang.specs.declared.service.Service.{Service}
use Rattle.bw_model.specs.Runs.{At, want}
use Rattle.bw_out.specs.Doors.{Returned}
use Rattle.bw_out.specs.Writes.{AppendsPart}
use Rattle.bw_stable.specs.Deeds.{Deed, Does, kept}
use Rattle.bw_world.specs.Streams.Answers.{IsAt, Place}
use Rattle.bw_world.specs.Streams.Courses.{bytes_by}
use Rattle.bw_keeping.specs.Groups.{Grouped}
use Rattle.bw_keeping.specs.Steps.{Keeps}
use Rattle.bw_keeping.specs.StreamSteps.{Goes, IsKeptOne}
use Rattle.bw_keeping.specs.Streamed.{AreKeptAt, Message, sight}
use Rattle.bw_keeping.specs.Taking.{Takes, TakesFrom}
use Rattle.bw_keeping.specs.declared.streaming.Next.TheVariants as nexts
use Rattle.bw_world.specs.declared.outcomes.Taken.TheVariants as takens
use Rattle.bw_keeping.proofs.Pieces.{no_bytes}

-- the code stands where it stood, while a reply is sent
still : (mid : Place) (left held : Option (List ℕ)) (to : At) → left ≡ mid.left → IsAt mid to → IsAt (record mid { left = left; held = held }) to
still mid left held to e i = record { stands = i.stands; bytes = (i.bytes.0, e ∙ i.bytes.1, i.bytes.2); keys = i.keys }

-- what was kept, where it was told what had been done and what was written
pub record Kept (sum : ℕ) (es : List Entry) (returned : Option (List Returned)) (written : List ℕ) (done : List Deed) (deeds : Option (List Deed)) : Type 0 where
  pub piece : List Deed
  pub kept : AreKeptAt sum es returned written piece
  pub told : deeds ≡ Some (done ++ piece)

kept_at : (sum : ℕ) (es : List Entry) (returned : Option (List Returned)) (held : Option (List ℕ)) (written : List ℕ) (done : List Deed)
    (before after : Option (List Deed)) (bytes : List ℕ) → bytes ≡ entries_bytes sum es → held ≡ Some written → before ≡ Some done
    → Keeps before after bytes returned held → Kept sum es returned written done after
kept_at sum [] returned held written done before after bytes is h d (inl k) =
    record { piece = []; kept = refl; told = k.1 ∙ d ∙ ap Some (sym (append-nil done)) }
kept_at sum [] returned held written done before after bytes is h d (inr k) = absurd (k.0 is)
kept_at sum (e ∷ es) returned held written done before after bytes is h d (inl k) =
    let never : e ∷ es ≡ [] = no_bytes sum (e ∷ es) (sym is ∙ k.0) in absurd cc
kept_at sum (e ∷ es) returned held written done before after bytes is h d (inr k) =
    let does : Does (Some done) after (kept bytes returned held) = subst (λ (o : Option (List Deed)). Does o after (kept bytes returned held)) d k.1 in
    record {
      piece = kept (entries_bytes sum (e ∷ es)) returned (Some written) ∷ [];
      kept = refl;
      told = does ∙ ap (λ (b : List ℕ). Some (done ++ kept b returned held ∷ [])) is
          ∙ ap (λ (o : Option (List ℕ)). Some (done ++ kept (entries_bytes sum (e ∷ es)) returned o ∷ [])) h;
    }

-- a first part was written behind what was written before
part_on : (held now : Option (List ℕ)) (written bytes : List ℕ) → held ≡ Some written → AppendsPart held now bytes → AppendsPart (Some written) now bytes
part_on held now written bytes h w = subst (λ (o : Option (List ℕ)). AppendsPart o now bytes) h w

module _ (formats : List Format) (service : Service) (returned : Option (List Returned)) (old mid : Place) (first group : Grouped) where
  -- ---- no message follows

  pub end_goes : (deeds : Option (List Deed)) → Takes formats service old mid first group takens.End → mid.held ≡ old.held → group ≡ first
      → Goes formats service returned (sight old deeds first.sum) (sight mid deeds group.sum) nexts.Ended
  end_goes deeds takes same none at written done is told did =
      let f = takes at is in (
        f.to,
        f.stands,
        (
          [],
          f.taking.0,
          record { deeds = did; steps = f.taking.1; sum = ap (λ (g : Grouped). g.sum) none },
          subst (λ (h : Option (List ℕ)). Appends (Some written) h []) (sym (same ∙ told)) (Appends-nil (Some written)),
          refl,
        ),
      )

  pub read_goes : (deeds : Option (List Deed)) → Takes formats service old mid first group takens.ReadFault → mid.held ≡ old.held → group ≡ first
      → Goes formats service returned (sight old deeds first.sum) (sight mid deeds group.sum) nexts.ReadFault
  read_goes deeds takes same none at written done is told did =
      let f = takes at is in
      (f.to, f.stands, (f.taking.0, f.taking.1, record { deeds = did; steps = f.taking.2; sum = ap (λ (g : Grouped). g.sum) none }, same ∙ told))

  module _ (reply : Reply) (left held : Option (List ℕ)) (same : mid.held ≡ old.held) (stays : left ≡ mid.left) where
    pub refusal_goes : (deeds : Option (List Deed)) → Takes formats service old mid first group (takens.Refused reply) → group ≡ first → want reply ≡ 0
        → Appends mid.held held (bytes_by service reply)
        → Goes formats service returned (sight old deeds first.sum) (sight (record mid { left = left; held = held }) deeds group.sum) nexts.Ended
    refusal_goes deeds takes none few sent at written done is told did =
        let f = takes at is in
        let whole = subst (λ (o : Option (List ℕ)). Appends o held (bytes_by service reply)) (same ∙ told) sent in (
          f.to,
          still mid left held f.to stays f.stands,
          (
            reply ∷ [],
            f.taking.0,
            record { deeds = did; steps = f.taking.1; sum = ap (λ (g : Grouped). g.sum) none },
            subst (λ (b : List ℕ). Appends (Some written) held b) (sym (append-nil (bytes_by service reply))) whole,
            omega (arith, few),
          ),
        )

    pub refusal_breaks : (deeds : Option (List Deed)) → Takes formats service old mid first group (takens.Refused reply) → group ≡ first
        → AppendsPart mid.held held (bytes_by service reply)
        → Goes formats service returned (sight old deeds first.sum) (sight (record mid { left = left; held = held }) deeds group.sum) nexts.WriteFault
    refusal_breaks deeds takes none sent at written done is told did =
        let f = takes at is in (
          f.to,
          still mid left held f.to stays f.stands,
          inr (
            reply,
            f.taking.0,
            record { deeds = did; steps = f.taking.1; sum = ap (λ (g : Grouped). g.sum) none },
            part_on mid.held held written (bytes_by service reply) (same ∙ told) sent,
          ),
        )

  -- ---- a message was handled

  module _ (reply : Reply) (takes : Takes formats service old mid first group (takens.Answered reply)) (same : mid.held ≡ old.held) (empty : first.bytes ≡ []) where
    entered_bytes : (at : At) (f : TakesFrom formats service old mid first group (takens.Answered reply) at)
        → group.bytes ≡ entries_bytes first.sum f.entries
    entered_bytes at f = f.grows.bytes ∙ ap (λ (b : List ℕ). b ++ entries_bytes first.sum f.entries) empty

    abbrev message : (at : At) → TakesFrom formats service old mid first group (takens.Answered reply) at → Message
    message at f = record { reply = reply; cost = f.taking.0; entries = f.entries }

    -- what was to be kept of it couldn't be
    pub unkept_goes : (before after : Option (List Deed)) (sum : ℕ) → after ≡ before → (group.bytes ≢ [])
        → Goes formats service returned (sight old before first.sum) (sight mid after sum) nexts.JournalFault
    unkept_goes before after sum none some at written done is told did =
        let f = takes at is in (
          f.to,
          f.stands,
          (
            message at f,
            record { turn = f.taking.1; entered = f.entered },
            λ e. some (entered_bytes at f ∙ ap (λ (es : List Entry). entries_bytes first.sum es) e),
            none ∙ did,
            f.taking.2,
            same ∙ told,
          ),
        )

    module _ (left held : Option (List ℕ)) (before after : Option (List Deed)) (sum : ℕ) (stays : left ≡ mid.left) (check : sum ≡ group.sum)
        (keeps : Keeps before after group.bytes returned mid.held) where
      one_kept : (at : At) (written : List ℕ) (done : List Deed) (f : TakesFrom formats service old mid first group (takens.Answered reply) at)
          → old.held ≡ Some written → before ≡ Some done
          → IsKeptOne formats service returned (sight old before first.sum) (sight (record mid { left = left; held = held }) after sum) at f.to written done
          (message at f)
      one_kept at written done f told did =
          let k = kept_at first.sum f.entries returned mid.held written done before after group.bytes (entered_bytes at f) (same ∙ told) did keeps in
          record {
            handled = record { turn = f.taking.1; entered = f.entered };
            piece = k.piece;
            kept = k.kept;
            deeds = k.told;
            steps = f.taking.2;
            sum = check ∙ f.grows.sum;
          }

      pub answer_goes : (count : ℕ) → count ≡ want reply → Appends mid.held held (bytes_by service reply)
          → Goes formats service returned (sight old before first.sum) (sight (record mid { left = left; held = held }) after sum)
          (nexts.Answered count)
      answer_goes count is_want sent at written done is told did =
          let f = takes at is in (
            f.to,
            still mid left held f.to stays f.stands,
            (
              message at f,
              one_kept at written done f told did,
              subst (λ (o : Option (List ℕ)). Appends o held (bytes_by service reply)) (same ∙ told) sent,
              is_want,
            ),
          )

      pub answer_breaks : AppendsPart mid.held held (bytes_by service reply)
          → Goes formats service returned (sight old before first.sum) (sight (record mid { left = left; held = held }) after sum) nexts.WriteFault
      answer_breaks sent at written done is told did =
          let f = takes at is in (
            f.to,
            still mid left held f.to stays f.stands,
            inl (message at f, one_kept at written done f told did, part_on mid.held held written (bytes_by service reply) (same ∙ told) sent),
          )
