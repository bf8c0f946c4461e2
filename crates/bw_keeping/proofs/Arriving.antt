-- A link more was taken, and waits.
use Rattle.std.proofs.Common.{◌≡◌, ◌+◌, ℕ, List, [], ◌∷◌, ◌++◌, length, Option, Some, IfSome, refl, sym, ap, ◌∙◌, subst, arith, length-append}
use Rattle.bw_format.specs.declared.format.Format.{Format}
use Rattle.bw_journal.specs.Layout.{Entry, entries_bytes, last_sum}
use Rattle.bw_journal.proofs.Readings.{bytes_then, sum_then}
use Rattle.bw_lang.specs.declared.service.Service.{Service}
use Rattle.bw_out.specs.Causes.{Shows}
use Rattle.bw_out.specs.Doors.{Returned, Arrives}
use Rattle.bw_out.specs.Sends as sends
use Rattle.bw_out.specs.Told.{Coming}
use Rattle.bw_out.specs.declared.outside.Channel.{Ghosts}
use Rattle.bw_keeping.specs.Groups.{Grouped}
use Rattle.bw_keeping.specs.Taking.{Takes}
use Rattle.bw_world.specs.declared.outcomes.Taken.TheVariants as takens
use Rattle.bw_world.specs.Seen.{Seen}
use Rattle.bw_world.specs.Streams.Answers.{IsAt, place}
use Rattle.bw_world.specs.Streams.Courses.{Between, begins}
use Rattle.bw_keeping.specs.Answered.{entries_of}
use Rattle.bw_keeping.specs.Served.{View}
use Rattle.bw_keeping.specs.Steps.{Desk, desk}
use Rattle.bw_keeping.specs.declared.waiting.Waiting.{Waiting}
use Rattle.bw_keeping.proofs.Answering.{IsTaken}
use Rattle.bw_keeping.proofs.Queued.{AreTaken, taken_more}
use Rattle.bw_keeping.proofs.ServedSoFar.{HasTaken, Sight, sight}

module _ {Link : Type 0} (channel : Ghosts Link) (formats : List Format) (service : Service) where
  -- a link came and its message was handled
  came_in : (w : Waiting Link) (link : Link) (world next : Seen) (intake : List ℕ) (keys later : Option Coming) (steps after : ℕ) (group grown : Grouped)
      (bytes : List ℕ) (at : Between) → IsAt (place channel world [] link keys steps) (begins at bytes)
      → steps ≡ at.steps → channel.held link ≡ Some [] → channel.read_faults link ≡ 0 → channel.write_faults link ≡ 0
      → sends.Takes channel link w.link (w.taken ≡ takens.ReadFault)
      → Takes formats service (place channel world [] link keys steps) (place channel next intake w.link later after) group grown w.taken
      → (to : Between) × (rest : List ℕ) × (entries : List Entry) × IsTaken channel formats service at bytes w.link w.taken to entries
      × IsAt (place channel next intake w.link later after) (begins to rest) × (after ≡ to.steps)
      × (grown.bytes ≡ group.bytes ++ entries_bytes group.sum entries) × (grown.sum ≡ last_sum group.sum entries)
  came_in w link world next intake keys later steps after group grown bytes at is began held reads writes takes t =
      let f = t (begins at bytes) is in
      let to : Between = record { world = f.to.world; keys = f.to.keys; steps = after } in (
        to,
        f.to.bytes,
        f.entries,
        record {
          old = place channel world [] link keys steps;
          new = place channel next intake w.link later after;
          rest = f.to.bytes;
          taking = f.taking;
          began = began;
          ended = refl;
          unhandled = f.stands.bytes;
          entered = f.entered;
          read_fault = subst (λ (m : ℕ). Shows (w.taken ≡ takens.ReadFault) m (channel.read_faults w.link)) reads takes.cause;
          held = takes.held ∙ held;
          quiet = takes.write_faults ∙ writes;
        },
        f.stands,
        refl,
        f.grows.bytes,
        f.grows.sum,
      )

  pub one_taken : (n : ℕ) (before : View) (s : Sight) (d : Desk Link) (group grown : Grouped) (next : Seen) (coming : Option (List (List ℕ)))
      (returned : Option (List Returned)) (came : Option Link) (link : Link) (w : Waiting Link) (ws : List (Waiting Link)) (intake : List ℕ)
      (later : Option Coming) (after : ℕ)
      → HasTaken channel formats service n before s d → came ≡ Some link → IfSome came (λ l. (channel.read_faults l ≡ 0) × (channel.write_faults l ≡ 0))
      → Arrives channel.left channel.held s.coming coming came → returned ≡ d.returned → d.bytes ≡ group.bytes → d.sum ≡ group.sum
      → sends.Takes channel link w.link (w.taken ≡ takens.ReadFault) → s.world.service ≡ service
      → Takes formats s.world.service (place channel s.world [] link s.keys s.steps) (place channel next intake w.link later after) group grown w.taken
      → ws ≡ d.waiting ++ w ∷ []
      → HasTaken channel formats service (n + 1) before (sight next later coming after) (desk returned d.deeds grown.bytes grown.sum ws)
  one_taken n before s d group grown next coming returned came link w ws intake later after had some fresh arrives same put check takes by taken pushed
      from links given deeds told =
      let h = had from links given deeds told in
      let quiet = subst (λ (x : Option Link). IfSome x (λ l. (channel.read_faults l ≡ 0) × (channel.write_faults l ≡ 0))) some fresh in
      let a = subst (λ (c : Option (List (List ℕ))). Arrives channel.left channel.held c coming (Some link)) h.tells.coming
      (subst (λ (x : Option Link). Arrives channel.left channel.held s.coming coming x) some arrives) in
      let at : IsAt (place channel s.world [] link s.keys s.steps) (begins h.to a.0) =
      record { stands = h.tells.stands; bytes = (a.0, a.4, refl); keys = h.tells.keys } in
      let one = came_in w link s.world next intake s.keys later s.steps after group grown a.0 h.to at h.tells.steps a.5 quiet.0 quiet.1 takes
      (subst (λ (v : Service). Takes formats v (place channel s.world [] link s.keys s.steps) (place channel next intake w.link later after) group grown
      w.taken) by taken) in
      let S = last_sum before.sum (entries_of h.exchanges) in
      let summed : group.sum ≡ last_sum S h.entries = sym check ∙ h.sum_is in
      let size : length ws ≡ length d.waiting + 1 = ap length pushed ∙ length-append d.waiting (w ∷ []) in
      record {
        exchanges = h.exchanges;
        mid = h.mid;
        came = h.came;
        pieces = h.pieces;
        entries = h.entries ++ one.2;
        to = one.0;
        rest = a.1;
        answered = h.answered;
        taken = subst (λ (x : List (Waiting Link)). AreTaken channel formats service h.mid h.came x (h.entries ++ one.2) one.0 a.1) (sym pushed)
            (taken_more channel formats service h.mid h.to one.0 h.came h.rest a.1 d.waiting w h.entries one.2 a.0 h.taken a.2 one.3);
        kept = h.kept;
        tells = record {
          stands = one.4.stands;
          keys = one.4.keys;
          coming = a.3;
          returned = same ∙ h.tells.returned;
          deeds = h.tells.deeds;
          steps = one.5;
        };
        bytes = one.6 ∙ ap (λ (b : List ℕ). b ++ entries_bytes group.sum one.2) (sym put ∙ h.bytes)
            ∙ ap (λ (m : ℕ). entries_bytes S h.entries ++ entries_bytes m one.2) summed ∙ sym (bytes_then S h.entries one.2);
        sum_is = one.7 ∙ ap (λ (m : ℕ). last_sum m one.2) summed ∙ sym (sum_then S h.entries one.2);
        count = omega (arith, size, h.count);
      }
