-- What the worlds behind messages keep, the world behind an answered stream keeps.
use Rattle.std.proofs.Common.{◌≡◌, ◌⊎◌, ◌<◌, ℕ, List, [], length, Option, sym, subst, inl, inr}
use Rattle.bw_format.specs.declared.format.Format.{Format}
use Rattle.bw_http.specs.declared.replies.Reply.{Reply}
use Rattle.bw_lang.specs.declared.service.Service.{Service}
use Rattle.bw_model.specs.Runs.{At, Turns, Run, Stops, ended, refused}
use Rattle.bw_model.specs.Sessions.{World}
use Rattle.bw_model.specs.Within.{AreWithin}
use Rattle.bw_model.proofs.Storing.{streams_keep_within}
use Rattle.bw_world.specs.Streams.Courses.{Course}
use Rattle.bw_world.specs.Streams.Laws.{CoursesKeepWithin}
use Rattle.bw_world.specs.declared.ends.StreamEnd.{StreamEnd}
use Rattle.bw_world.specs.declared.ends.StreamEnd.TheVariants.{Ended, ReadFault, WriteFault}

module _ (P : World → Type 0) (formats : List Format) (service : Service) (at : At)
    (leads : (replies : List Reply) (cost : ℕ) (to : At) → Turns formats service at replies cost to → P to.world) where
  -- what stops a run leaves the world
  stops_lead : (mid to : At) (last : List Reply) → Stops mid last to → P mid.world → P to.world
  stops_lead mid _ _ (ended rest end) h = h
  stops_lead mid _ _ (refused outcome reply rest wrong why) h = h

  end_leads : (most : ℕ) (first last : List Reply) (mid to : At)
      → ((length first ≡ most) × (last ≡ []) × (to ≡ mid)) ⊎ ((length first < most) × Stops mid last to) → P mid.world → P to.world
  end_leads most first last mid to (inl x) h = subst (λ (a : At). P a.world) (sym x.2) h
  end_leads most first last mid to (inr x) h = stops_lead mid to last x.1 h

  run_leads : (most : ℕ) (to : At) (replies : List Reply) (cost : ℕ) → Run formats service most at replies cost to → P to.world
  run_leads most to replies cost run = end_leads most run.first run.last run.mid to run.ends (leads run.first cost run.mid run.turns)

  pub course_leads : (most : ℕ) (to : At) (held now : Option (List ℕ)) (taken : List ℕ) (cost : ℕ) (end : StreamEnd)
      → Course formats service most at to held now taken cost end → P to.world
  course_leads most to held now taken cost (Ended count) c = run_leads most to c.0 cost c.1
  course_leads most to held now taken cost ReadFault c = leads c.0 cost to c.1
  course_leads most to held now taken cost WriteFault c = run_leads (length c.0) to c.0 cost c.1

pub courses_keep_within : CoursesKeepWithin
courses_keep_within formats service most at to held now taken cost end c h =
    course_leads (AreWithin formats service) formats service at (λ replies cost to turns. streams_keep_within formats service at to replies cost turns h)
    most to held now taken cost end c
