-- Links that are served, one after another.
use Rattle.std.proofs.Common.{◌≡◌, ◌<◌, ◌+◌, ℕ, List, [], ◌∷◌, ◌++◌, length, Option, None, Some, IfSome, refl, sym, ap, ◌∙◌, subst, inl, inr, arith, append-nil}
use Rattle.std.proofs.Common.{append_assoc, length-append}
use Rattle.bw_world.specs.Streams.Answers.{Place, IsAt, Answers}
use Rattle.bw_world.specs.Streams.Courses.{Course, Between, begins}
use Rattle.bw_world.specs.Streams.Good.{RepliesAreGood}
use Rattle.bw_world.specs.declared.ends.StreamEnd.{StreamEnd}
use Rattle.bw_world.specs.declared.ends.StreamEnd.TheVariants as ends
use Rattle.bw_check.specs.Accepts.{Accepts}
use Rattle.bw_format.specs.declared.format.Format.{Format}
use Rattle.bw_model.specs.Runs.{At}
use Rattle.bw_model.specs.Sessions.{World}
use Rattle.bw_out.specs.Causes.{Shows}
use Rattle.bw_out.specs.Doors.{Returned, Arrives, GivesBack}
use Rattle.bw_out.specs.Told.{Coming}
use Rattle.bw_world.specs.Seen.{Seen}
use Rattle.bw_world.specs.Stands.{StandsFor}
use Rattle.bw_questions.specs.Asked.{Ruled}
use Rattle.bw_questions.specs.Checks.{IsRuled}
use Rattle.bigwig.specs.Fits.{IsFitWorld}
use Rattle.bigwig.specs.Works.{Outside, AreServed, IsServed, AreGivenBack, ServesLinks}
use Rattle.bw_command.specs.declared.status.Status.TheVariants.{Done, DoorFault}
use Rattle.bigwig.proofs.Reaching.{course_is_fit}

-- so many links were given back, and the world of the code stands for the model world that they leave, which is fit
abbrev pub HasServed : List Format → ℕ → Seen → Seen → Outside → Outside → Type 0
HasServed formats n first seen before after =
    (ruled : Ruled) (world : World) → IsRuled first.service formats ruled → StandsFor first world → IsFitWorld ruled world
    → (keys : Coming) → before.keys ≡ Some keys → (links : List (List ℕ)) → before.coming ≡ Some links
    → (given : List Returned) → before.returned ≡ Some given
    → (backs : List Returned) × (rest : List (List ℕ)) × (to : Between)
    × AreGivenBack ruled (record { world = world; keys = keys; steps = before.steps }) links given backs rest to after
    × (length backs ≡ n) × StandsFor seen to.world × IsFitWorld ruled to.world

pub served_none : (formats : List Format) (seen : Seen) (o : Outside) → HasServed formats 0 seen seen o o
served_none formats seen o ruled world is stands sound keys k links l given g = (
  [],
  links,
  record { world = world; keys = keys; steps = o.steps },
  record { served = (refl, refl); returned = g ∙ ap Some (sym (append-nil given)); coming = l; keys = k; steps = refl },
  refl,
  stands,
  sound,
)

-- one link more was served
serves_one : (ruled : Ruled) (from to next : Between) (links : List (List ℕ)) (backs : List Returned) (rest more : List (List ℕ)) (bytes : List ℕ)
    (back : Returned)
    → AreServed ruled from links backs to rest → rest ≡ bytes ∷ more → IsServed ruled to bytes back next
    → AreServed ruled from links (backs ++ back ∷ []) next more
serves_one ruled from to next links [] rest more bytes back s e i =
    (bytes, more, next, sym s.1 ∙ e, subst (λ b. IsServed ruled b bytes back next) s.0 i, (refl, refl))
serves_one ruled from to next links (b ∷ backs) rest more bytes back s e i =
    (s.0, s.1, s.2, s.3, s.4, serves_one ruled s.2 to next s.1 backs rest more bytes back s.5 e i)

-- a link was answered on its first message
link_served : (ruled : Ruled) (from : Between) (bytes : List ℕ) (old new : Place) (back : Returned) (end : StreamEnd)
    → Accepts ruled.service ruled.schema → IsFitWorld ruled from.world
    → StandsFor old.seen from.world → old.taken ≡ [] → old.left ≡ Some bytes → old.held ≡ Some [] → old.keys ≡ Some from.keys → old.steps ≡ from.steps
    → new.held ≡ back.written → new.left ≡ back.unread → Shows (end ≡ ends.ReadFault) 0 back.read_faults
    → Shows (end ≡ ends.WriteFault) 0 back.write_faults → Answers ruled.formats ruled.service 1 old new end
    → RepliesAreGood ruled.formats ruled.service old
    → (to : Between) × (new.keys ≡ Some to.keys) × (new.steps ≡ to.steps) × StandsFor new.seen to.world × IsServed ruled from bytes back to
    × IsFitWorld ruled to.world
link_served ruled from bytes old new back end accepts fit stands none left held keys steps written unread read write answers good =
    let at : At = begins from bytes in
    let is : IsAt old at = record { stands = stands; bytes = (bytes, left, sym (ap (λ l. l ++ bytes) none)); keys = keys } in
    let a = answers at is in
    let course = subst (λ h. Course ruled.formats ruled.service 1 at a.0 h back.written new.taken a.1 end) held
    (subst (λ n. Course ruled.formats ruled.service 1 at a.0 old.held n new.taken a.1 end) written a.4) in
    let later = course_is_fit ruled 1 at a.0 old.held new.held new.taken a.1 end accepts a.4 fit in (
      record { world = a.0.world; keys = a.0.keys; steps = new.steps },
      a.2.keys,
      refl,
      a.2.stands,
      record {
        end = end;
        streamed = record {
          rest = a.0.bytes;
          taken = new.taken;
          cost = a.1;
          course = course;
          unhandled = (a.2.bytes.0, sym unread ∙ a.2.bytes.1, a.2.bytes.2);
          steps = a.3 ∙ ap (λ n. n + a.1) steps;
          pages = λ replies. good ruled.schema at replies accepts is fit.0;
          within = later.1;
        };
        read_fault = read;
        write_fault = write;
      },
      later,
    )

-- what a count shows from nothing on
pub shows_first : (fact : Type 0) (before now : ℕ) → before ≡ 0 → Shows fact before now → Shows fact 0 now
shows_first fact before now e s = subst (λ b. Shows fact b now) e s

pub served_more : {Link : Type 0} (formats : List Format) (left held : Link → Option (List ℕ)) (n : ℕ) (first seen later : Seen)
    (before mid after : Outside) (coming : Option (List (List ℕ))) (returned : Option (List Returned)) (next : Option Link) (link : Link) (back : Returned) (old new : Place)
    (end : StreamEnd)
    → HasServed formats n first seen before mid → seen.service ≡ first.service
    → next ≡ Some link → Arrives left held mid.coming coming next
    → old.seen ≡ seen → old.taken ≡ [] → old.left ≡ left link → old.held ≡ held link → old.keys ≡ mid.keys → old.steps ≡ mid.steps
    → Answers formats seen.service 1 old new end → RepliesAreGood formats seen.service old
    → new.held ≡ back.written → new.left ≡ back.unread → Shows (end ≡ ends.ReadFault) 0 back.read_faults
    → Shows (end ≡ ends.WriteFault) 0 back.write_faults
    → new.seen ≡ later → after.keys ≡ new.keys → after.steps ≡ new.steps → after.coming ≡ coming → returned ≡ mid.returned
    → GivesBack returned after.returned back
    → HasServed formats (n + 1) first later before after
served_more formats left held n first seen later before mid after coming returned next link back old new end had by is arrives seen_is taken left_is held_is
    keys_is steps_is answers good written unread read write later_is drawn spent coming_is returned_is gives ruled world ruled_is stands fit keys k
    links l given g =
    let h = had ruled world ruled_is stands fit keys k links l given g in
    let backs = h.0 in
    let to = h.2 in
    let were = h.3 in
    let same : seen.service ≡ ruled.service = by ∙ sym ruled_is.0 in
    let form : formats ≡ ruled.formats = sym ruled_is.2 in
    let came = subst (λ c. Arrives left held c coming (Some link)) were.coming (subst (λ x. Arrives left held mid.coming coming x) is arrives) in
    let gave = subst (λ r. GivesBack r after.returned back) (returned_is ∙ were.returned) gives in
    let one = link_served ruled to came.0 old new back end ruled_is.1 h.6 (subst (λ s. StandsFor s to.world) (sym seen_is) h.5) taken
    (left_is ∙ came.4) (held_is ∙ came.5) (keys_is ∙ were.keys) (steps_is ∙ were.steps) written unread read write
    (subst (λ f. Answers f ruled.service 1 old new end) form (subst (λ s. Answers formats s 1 old new end) same answers))
    (subst (λ f. RepliesAreGood f ruled.service old) form (subst (λ s. RepliesAreGood formats s old) same good)) in
    let len = length-append backs (back ∷ []) in (
      backs ++ back ∷ [],
      came.1,
      one.0,
      record {
        served = serves_one ruled _ to one.0 links backs h.1 came.1 came.0 back were.served came.2 one.4;
        returned = gave ∙ ap Some (append_assoc given backs (back ∷ []));
        coming = coming_is ∙ came.3;
        keys = drawn ∙ one.1;
        steps = spent ∙ one.2;
      },
      omega (arith, len, h.4),
      subst (λ s. StandsFor s one.0.world) later_is one.3,
      one.5,
    )

-- ---- serving is over

-- the same, where nothing else is seen
pub given_so : (ruled : Ruled) (from : Between) (links : List (List ℕ)) (given backs : List Returned) (rest : List (List ℕ)) (to : Between)
    (mid after : Outside) → AreGivenBack ruled from links given backs rest to mid
    → after.coming ≡ mid.coming → after.returned ≡ mid.returned → after.keys ≡ mid.keys → after.steps ≡ mid.steps
    → AreGivenBack ruled from links given backs rest to after
given_so ruled from links given backs rest to mid after g c r k s =
    record { served = g.served; returned = r ∙ g.returned; coming = c ∙ g.coming; keys = k ∙ g.keys; steps = s ∙ g.steps }

pub over_most : (formats : List Format) (n most : ℕ) (first seen : Seen) (before after : Outside) → HasServed formats n first seen before after → n ≡ most
    → (ruled : Ruled) (w : World)
    → IsRuled first.service formats ruled → StandsFor first w → IsFitWorld ruled w → ServesLinks ruled w most before after Done
over_most formats n most first seen before after had full ruled w is stands sound keys k links l given g =
    let h = had ruled w is stands sound keys k links l given g in
    (h.0, h.1, h.2, h.3, omega (arith, h.4), inl (refl, inr (h.4 ∙ full)))

pub over_none : {Link : Type 0} (formats : List Format) (left held : Link → Option (List ℕ)) (n most : ℕ) (first seen : Seen) (before mid after : Outside)
    (next : Option Link) → n < most → HasServed formats n first seen before mid → next ≡ None
    → Arrives left held mid.coming after.coming next → after.returned ≡ mid.returned → after.keys ≡ mid.keys → after.steps ≡ mid.steps
    → (ruled : Ruled) (w : World) → IsRuled first.service formats ruled → StandsFor first w → IsFitWorld ruled w
    → ServesLinks ruled w most before after Done
over_none formats left held n most first seen before mid after next fewer had none arrives r ks st ruled w is stands sound keys k links l given g =
    let h = had ruled w is stands sound keys k links l given g in
    let were = h.3 in
    let came = subst (λ c. Arrives left held c after.coming None) were.coming (subst (λ x. Arrives left held mid.coming after.coming x) none arrives) in
    let same : after.coming ≡ mid.coming = came.1 ∙ ap Some (sym came.0) ∙ sym were.coming in
    (h.0, h.1, h.2, given_so ruled _ links given h.0 h.1 h.2 mid after were same r ks st, omega (arith, h.4), inl (refl, inl came.0))

pub over_fault : (formats : List Format) (n most : ℕ) (first seen : Seen) (before mid after : Outside) → n < most → HasServed formats n first seen before mid → after.coming ≡ mid.coming
    → after.returned ≡ mid.returned → after.keys ≡ mid.keys → after.steps ≡ mid.steps
    → (ruled : Ruled) (w : World) → IsRuled first.service formats ruled → StandsFor first w → IsFitWorld ruled w
    → ServesLinks ruled w most before after DoorFault
over_fault formats n most first seen before mid after fewer had c r ks st ruled w is stands sound keys k links l given g =
    let h = had ruled w is stands sound keys k links l given g in
    (h.0, h.1, h.2, given_so ruled _ links given h.0 h.1 h.2 mid after h.3 c r ks st, omega (arith, h.4), inr (refl, omega (arith, h.4)))

-- what is said of a link that came
pub of_link : {Link : Type 0} (P : Link → Type 0) (next : Option Link) (link : Link) → next ≡ Some link → IfSome next P → P link
of_link P next link is h = subst (λ x. IfSome x P) is h
