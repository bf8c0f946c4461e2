-- Links that wait, one after another.
use Rattle.std.proofs.Common.{◌≡◌, ℕ, suc, List, [], ◌∷◌, ◌++◌, length, Option, Some, refl, sym, ap, ◌∙◌, subst, append_assoc, append-nil}
use Rattle.bw_format.specs.declared.format.Format.{Format}
use Rattle.bw_journal.specs.Layout.{Entry}
use Rattle.bw_lang.specs.declared.service.Service.{Service}
use Rattle.bw_out.specs.Doors.{Returned}
use Rattle.bw_out.specs.declared.outside.Channel.{Ghosts}
use Rattle.bw_world.specs.Streams.Courses.{Between}
use Rattle.bw_keeping.specs.Answered.{AreAnswered, AreClosed, Exchange, backs_of, entries_of}
use Rattle.bw_keeping.specs.Steps.{AreReplied, back_of, unanswered, written}
use Rattle.bw_keeping.specs.Written.{both}
use Rattle.bw_keeping.specs.declared.waiting.Waiting.{Waiting}
use Rattle.bw_keeping.proofs.Answering.{IsTaken, answered, unanswered_so}

-- these links wait, the messages of which were handled in order and over one world, and this is to be kept of them
abbrev pub AreTaken : {Link : Type 0} → Ghosts Link → List Format → Service → Between → List (List ℕ) → List (Waiting Link) → List Entry → Between
    → List (List ℕ) → Type 0
AreTaken channel formats service from links [] entries to rest = (to ≡ from) × (rest ≡ links) × (entries ≡ [])
AreTaken channel formats service from links (w ∷ ws) entries to rest =
    (bytes : List ℕ) × (more : List (List ℕ)) × (mid : Between) × (first : List Entry) × (others : List Entry) × (links ≡ bytes ∷ more)
    × (entries ≡ first ++ others) × IsTaken channel formats service from bytes w.link w.taken mid first
    × AreTaken channel formats service mid more ws others to rest

module _ {Link : Type 0} (channel : Ghosts Link) (formats : List Format) (service : Service) where
  -- one link more waits
  pub taken_more : (from to next : Between) (links rest more : List (List ℕ)) (ws : List (Waiting Link)) (w : Waiting Link) (entries first : List Entry)
      (bytes : List ℕ)
      → AreTaken channel formats service from links ws entries to rest → rest ≡ bytes ∷ more
      → IsTaken channel formats service to bytes w.link w.taken next first
      → AreTaken channel formats service from links (ws ++ w ∷ []) (entries ++ first) next more
  taken_more from to next links rest more [] w entries first bytes t is one = (
    bytes,
    more,
    next,
    first,
    [],
    sym t.1 ∙ is,
    ap (λ (es : List Entry). es ++ first) t.2 ∙ sym (append-nil first),
    subst (λ (b : Between). IsTaken channel formats service b bytes w.link w.taken next first) t.0 one,
    (refl, refl, refl),
  )
  taken_more from to next links rest more (v ∷ ws) w entries first bytes (b, m, mid, f, others, came, all, taken, later) is one = (
    b,
    m,
    mid,
    f,
    others ++ first,
    came,
    ap (λ (es : List Entry). es ++ first) all ∙ append_assoc f others first,
    taken,
    taken_more mid to next m rest more ws w others first bytes later is one,
  )

  -- links that waited and were sent their replies are answered
  abbrev pub WereAnswered : Between → List (List ℕ) → List (Waiting Link) → List Entry → Between → List (List ℕ) → List Returned → Type 0
  WereAnswered from links ws entries to rest backs =
      (xs : List Exchange) × (backs_of xs ≡ backs) × (entries_of xs ≡ entries) × (length xs ≡ length ws)
      × AreAnswered formats service from links xs to rest

  pub all_answered : (from to : Between) (links rest : List (List ℕ)) (ws : List (Waiting Link)) (entries : List Entry) (backs : List Returned)
      → AreTaken channel formats service from links ws entries to rest → AreReplied channel service ws backs
      → WereAnswered from links ws entries to rest backs
  all_answered from to links rest [] entries backs t r = ([], sym r, sym t.2, refl, (t.0, t.1))
  all_answered from to links rest (w ∷ ws) entries backs (bytes, more, mid, first, others, came, all, taken, later) (now, back, replies, is, replied) =
      let x : Exchange = record { back = back_of channel now; entries = first } in
      let rec : WereAnswered mid more ws others to rest back = all_answered mid to more rest ws others back later replied in (
        x ∷ rec.0,
        ap (λ (bs : List Returned). back_of channel now ∷ bs) rec.1 ∙ sym is,
        ap (λ (es : List Entry). first ++ es) rec.2 ∙ sym all,
        ap suc rec.3,
        (bytes, more, mid, came, answered channel formats service from mid bytes w.link now w.taken first taken replies, rec.4),
      )

  -- links that waited and were given back as they were are unanswered
  pub all_closed : (from to : Between) (links rest : List (List ℕ)) (ws : List (Waiting Link)) (entries : List Entry)
      → AreTaken channel formats service from links ws entries to rest → AreClosed formats service from links (unanswered channel ws) to rest
  all_closed from to links rest [] entries t = (t.0, t.1)
  all_closed from to links rest (w ∷ ws) entries (bytes, more, mid, first, others, came, all, taken, later) = (
    bytes,
    more,
    mid,
    came,
    unanswered_so channel formats service from mid bytes w.link first w.taken taken,
    all_closed mid to more rest ws others later,
  )

  -- nothing is written on links that wait
  pub none_written : (from to : Between) (links rest : List (List ℕ)) (ws : List (Waiting Link)) (entries : List Entry)
      → AreTaken channel formats service from links ws entries to rest → written channel ws ≡ Some []
  none_written from to links rest [] entries t = refl
  none_written from to links rest (w ∷ ws) entries (bytes, more, mid, first, others, came, all, taken, later) =
      ap (λ (h : Option (List ℕ)). both h (written channel ws)) taken.held
      ∙ ap (λ (h : Option (List ℕ)). both (Some []) h) (none_written mid to more rest ws others later)

-- links that were answered, and then others
pub answered_then : (formats : List Format) (service : Service) (from mid to : Between) (links came rest : List (List ℕ)) (xs ys : List Exchange)
    → AreAnswered formats service from links xs mid came → AreAnswered formats service mid came ys to rest
    → AreAnswered formats service from links (xs ++ ys) to rest
answered_then formats service from mid to links came rest [] ys first then =
    subst (λ (b : Between). AreAnswered formats service b links ys to rest) first.0
    (subst (λ (l : List (List ℕ)). AreAnswered formats service mid l ys to rest) first.1 then)
answered_then formats service from mid to links came rest (x ∷ xs) ys (bytes, more, next, all, one, others) then =
    (bytes, more, next, all, one, answered_then formats service next mid to more came rest xs ys others then)
