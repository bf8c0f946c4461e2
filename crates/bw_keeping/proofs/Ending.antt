-- Serving is over.
use Rattle.std.proofs.Common.{◌≡◌, ◌⊎◌, ◌≤◌, ◌<◌, ◌+◌, ℕ, List, [], ◌++◌, length, Option, None, Some, refl, sym, ap}
use Rattle.std.proofs.Common.{◌∙◌, subst, inl, inr, arith, append_assoc, append-nil}
use Rattle.std.proofs.lemmas.List.{length-map}
use Rattle.bw_format.specs.declared.format.Format.{Format}
use Rattle.bw_journal.specs.Layout.{Entry, last_sum}
use Rattle.bw_lang.specs.declared.service.Service.{Service}
use Rattle.bw_out.specs.Doors.{Returned, Arrives}
use Rattle.bw_out.specs.Told.{Coming}
use Rattle.bw_out.specs.declared.outside.Channel.{Ghosts}
use Rattle.bw_world.specs.Seen.{Seen}
use Rattle.bw_keeping.specs.Answered.{Exchange, backs_of, entries_of}
use Rattle.bw_keeping.specs.Served.{IsOver, Serves, View}
use Rattle.bw_keeping.specs.Steps.{Closes, Desk, Finishes, GivesBackAll, unanswered}
use Rattle.bw_keeping.specs.declared.ended.Ended.{Ended}
use Rattle.bw_keeping.specs.declared.ended.Ended.TheVariants.{Done, DoorFault, JournalFault}
use Rattle.bw_keeping.specs.declared.waiting.Waiting.{Waiting}
use Rattle.bw_keeping.proofs.Queued.{AreTaken, all_closed}
use Rattle.bw_keeping.proofs.ServedSoFar.{HasTaken, by_service, flushed, seen, sight}

module _ {Link : Type 0} (channel : Ghosts Link) (formats : List Format) (service : Service) where
  -- no link is to come, or as many as may be were taken
  abbrev pub Ends : ℕ → ℕ → Option (List (List ℕ)) → Option (List (List ℕ)) → Type 0
  Ends n most coming later = (rest : List (List ℕ)) → coming ≡ Some rest → (later ≡ Some rest) × ((rest ≡ []) ⊎ (n ≡ most))

  pub ends_none : (n most : ℕ) (coming mid later : Option (List (List ℕ))) (next : Option Link) → next ≡ None
      → Arrives channel.left channel.held coming mid next → later ≡ mid → Ends n most coming later
  ends_none n most coming mid later next none arrives same rest told =
      let a = subst (λ (c : Option (List (List ℕ))). Arrives channel.left channel.held c mid None) told
      (subst (λ (x : Option Link). Arrives channel.left channel.held coming mid x) none arrives) in
      (same ∙ a.1 ∙ ap Some (sym a.0), inl a.0)

  pub ends_full : (n most : ℕ) (coming later : Option (List (List ℕ))) → n ≡ most → later ≡ coming → Ends n most coming later
  ends_full n most coming later full same rest told = (same ∙ told, inr full)

  -- all links that came were answered
  over_done : (n most : ℕ) (before : View) (world : Seen) (keys : Option Coming) (coming later : Option (List (List ℕ))) (steps : ℕ) (d : Desk Link)
      → HasTaken channel formats service n before (sight world keys coming steps) d → d.waiting ≡ [] → n ≤ most → Ends n most coming later
      → Serves formats service most before (seen (sight world keys later steps) d) Done
  over_done n most before world keys coming later steps d had none few ends from links given deeds told =
      let h = had from links given deeds told in
      let end = ends h.rest h.tells.coming in
      let size : length d.waiting ≡ 0 = ap length none in
      let last : (h.to ≡ h.mid) × (h.rest ≡ h.came) × (h.entries ≡ []) =
      subst (λ (ws : List (Waiting Link)). AreTaken channel formats service h.mid h.came ws h.entries h.to h.rest) none h.taken in
      let count : length h.exchanges ≡ n = omega (arith, h.count, size) in
      record {
        exchanges = h.exchanges;
        to = h.mid;
        rest = h.came;
        pieces = h.pieces;
        closed = [];
        ahead = h.to;
        later = h.rest;
        answered = h.answered;
        kept = h.kept;
        unanswered = (last.0, last.1);
        tells = record {
          stands = h.tells.stands;
          keys = h.tells.keys;
          coming = end.0;
          returned = h.tells.returned ∙ ap (λ (bs : List Returned). Some (given ++ bs)) (sym (append-nil (backs_of h.exchanges)));
          deeds = h.tells.deeds;
          steps = h.tells.steps;
        };
        few = omega (arith, count, few);
        over = record {
          none_closed = refl;
          sum_is = h.sum_is ∙ ap (λ (es : List Entry). last_sum (last_sum before.sum (entries_of h.exchanges)) es) last.2;
          all = elim end.1 [ inl e ↦ inl e | inr e ↦ inr (count ∙ e) ];
        };
      }

  -- the links that waited were given back as they were
  over_closed : (n most : ℕ) (before : View) (world : Seen) (keys : Option Coming) (coming later : Option (List (List ℕ))) (steps : ℕ)
      (d then : Desk Link) (end : Ended)
      → HasTaken channel formats service n before (sight world keys coming steps) d → n ≤ most → Closes channel d then
      → ((rest : List (List ℕ)) → coming ≡ Some rest → later ≡ Some rest)
      → ((xs : List Exchange) (closed : List Returned) (rest : List (List ℕ)) → length xs + length closed ≡ n
      → IsOver most before.sum xs closed rest (seen (sight world keys later steps) then) end)
      → Serves formats service most before (seen (sight world keys later steps) then) end
  over_closed n most before world keys coming later steps d then end had few c moves over from links given deeds told =
      let h = had from links given deeds told in
      let closed = unanswered channel d.waiting in
      let back : then.returned ≡ Some ((given ++ backs_of h.exchanges) ++ closed) =
      subst (λ (b : Option (List Returned)). GivesBackAll b then.returned closed) h.tells.returned c.returned in
      let size : length closed ≡ length d.waiting = length-map d.waiting _ in
      let count : length h.exchanges + length closed ≡ n = omega (arith, size, h.count) in
      record {
        exchanges = h.exchanges;
        to = h.mid;
        rest = h.came;
        pieces = h.pieces;
        closed = closed;
        ahead = h.to;
        later = h.rest;
        answered = h.answered;
        kept = h.kept;
        unanswered = all_closed channel formats service h.mid h.to h.came h.rest d.waiting h.entries h.taken;
        tells = record {
          stands = h.tells.stands;
          keys = h.tells.keys;
          coming = moves h.rest h.tells.coming;
          returned = back ∙ ap Some (append_assoc given (backs_of h.exchanges) closed);
          deeds = c.deeds ∙ h.tells.deeds;
          steps = h.tells.steps;
        };
        few = omega (arith, count, few);
        over = over h.exchanges closed h.rest count;
      }

  pub over_door : (n most : ℕ) (before : View) (world : Seen) (keys : Option Coming) (coming later : Option (List (List ℕ))) (steps : ℕ)
      (d then : Desk Link)
      → HasTaken channel formats service n before (sight world keys coming steps) d → n < most → Closes channel d then → later ≡ coming
      → Serves formats service most before (seen (sight world keys later steps) then) DoorFault
  over_door n most before world keys coming later steps d then had few c same =
      over_closed n most before world keys coming later steps d then DoorFault had (omega (arith, few)) c (λ rest told. same ∙ told)
      (λ xs closed rest count. omega (arith, count, few))

  pub over_journal : (n most : ℕ) (before : View) (world : Seen) (keys : Option Coming) (coming later : Option (List (List ℕ))) (steps : ℕ)
      (d then : Desk Link)
      → HasTaken channel formats service n before (sight world keys coming steps) d → n ≤ most → Closes channel d then
      → ((rest : List (List ℕ)) → coming ≡ Some rest → later ≡ Some rest)
      → Serves formats service most before (seen (sight world keys later steps) then) JournalFault
  over_journal n most before world keys coming later steps d then had few c moves =
      over_closed n most before world keys coming later steps d then JournalFault had few c moves (λ xs closed rest count. tt)

  -- no further link was waited for
  pub over_finish : (n most : ℕ) (before : View) (world : Seen) (keys : Option Coming) (coming later : Option (List (List ℕ))) (steps : ℕ) (v : Service)
      (d then : Desk Link) (end : Ended)
      → HasTaken channel formats service n before (sight world keys coming steps) d → v ≡ service
      → Finishes channel v d then end → n ≤ most → Ends n most coming later
      → Serves formats service most before (seen (sight world keys later steps) then) end
  over_finish n most before world keys coming later steps v d then Done had by f few ends =
      let now = flushed channel formats service n before (sight world keys coming steps) d then had
      (by_service channel formats service v d then by f) in
      over_done n most before world keys coming later steps then now f.waiting few ends
  over_finish n most before world keys coming later steps v d then DoorFault had by f few ends = absurd f
  over_finish n most before world keys coming later steps v d then JournalFault had by f few ends =
      over_journal n most before world keys coming later steps d then had few f (λ rest told. (ends rest told).0)
