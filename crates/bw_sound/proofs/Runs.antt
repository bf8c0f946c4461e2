-- Worlds stay sound, and each reply to the messages of a stream is good.
use Rattle.std.proofs.Common.{ℕ, List, [], ◌∷◌, Option, Some, None, refl, sym, subst}
use Rattle.std.specs.List.{slice_index_or, slice_get}
use Rattle.bw_format.specs.declared.format.Format.{Format}
use Rattle.bw_http.specs.declared.replies.Reply.{Reply}
use Rattle.bw_http.specs.declared.request.Request.{Request}
use Rattle.bw_lang.specs.Service.Submissions.{IsTextForm}
use Rattle.bw_http.proofs.Lossy.{cuts_are_text}
use Rattle.bw_lang.specs.declared.service.Service.{Service}
use Rattle.bw_model.specs.Guards.{guarded_by}
use Rattle.bw_model.specs.Reached.{none, one_more}
use Rattle.bw_model.specs.Runs.{At, Turn, request as by_request, no_memory}
use Rattle.bw_model.specs.Sessions.{World}
use Rattle.bw_model.specs.Steps.{Step, step}
use Rattle.bw_model.proofs.Views.{viewed}
use Rattle.bw_schema.specs.declared.schema.Schema.{Schema}
use Rattle.bw_types.specs.declared.typed.Typed.{Typed}
use Rattle.bw_made.proofs.Whole.{empty_is_made, steps_keep_made}
use Rattle.bw_cover.specs.Worlds.{CoversWorld}
use Rattle.bw_cover.proofs.FlowWorlds.{flow_empty_is_covered, flow_steps_keep_covering}
use Rattle.bw_analyse.specs.declared.abstracts.Abstract.{Abstract}
use Rattle.bw_analyse.specs.Facts.{joined_option}
use Rattle.bw_sound.specs.Found.Seen.{facts_of}
use Rattle.bw_check.proofs.Within.OneSolution.{facts_are_one}
use Rattle.bw_check.specs.Accepts.{Accepts}
use Rattle.bw_sum.specs.declared.summary.Summary.{Summary}
use Rattle.bw_sound.specs.Good.{IsGood, PagesAreGood, RunsAreGood}
use Rattle.bw_sound.specs.Worlds.{IsSoundWorld, EmptyIsSound, StepsKeepSound, WorldsAreSound}
use Rattle.bw_sound.proofs.Covered.{F, places}
use Rattle.bw_sound.proofs.Steps.{step_good}

-- the facts by which a sound world is covered are those of the check
by_check : (t : Typed) (schema : Schema) (w : World) (a : Accepts t.service schema) → IsSoundWorld t.service w
    → CoversWorld t.service (F t schema a.0 a.1) w
by_check t schema w a h =
    let same = facts_are_one t h.facts a.0 h.are a.1.facts_are in
    let known = λ (rows : List (List Abstract)) (pages : List (Option Summary)).
    facts_of t.service (λ p. slice_index_or rows p []) (λ p. joined_option (slice_get pages p)) in
    subst (λ f. CoversWorld t.service f w) (λ i. known (same.0 i) (same.1 i)) h.covered

pub empty_is_sound : EmptyIsSound
empty_is_sound t schema next first a = record {
  typed = t;
  is = refl;
  facts = a.0;
  are = a.1.facts_are;
  covered = flow_empty_is_covered t.service (F t schema a.0 a.1) (places t schema a.0 a.1) next first;
  made = empty_is_made t.service next first t.readable;
}

-- ---- a step, of a service that is typed

step_sound : (t : Typed) (schema : Schema) (w : World) (request : Request) (key : ℕ) → Accepts t.service schema → IsTextForm request.form
    → IsSoundWorld t.service w → IsSoundWorld t.service (step t.service w request key).world
step_sound t schema w request key a text h = record {
  typed = t;
  is = refl;
  facts = a.0;
  are = a.1.facts_are;
  covered = (flow_steps_keep_covering t.service (F t schema a.0 a.1) w request key (places t schema a.0 a.1) (by_check t schema w a h)).0;
  made = steps_keep_made t.service w request key t.readable text h.made;
}

reply_good : (t : Typed) (schema : Schema) (w : World) (request : Request) (key : ℕ) → Accepts t.service schema → IsTextForm request.form
    → IsSoundWorld t.service w → IsGood t.service schema w (step t.service w request key).world (step t.service w request key).reply
reply_good t schema w request key a text h =
    let c = by_check t schema w a h in
    let next = (flow_steps_keep_covering t.service (F t schema a.0 a.1) w request key (places t schema a.0 a.1) c).1 in
    step_good t schema a.0 a.1 w request.form c next h.made text (step t.service w request key) (viewed t.service w request key)

-- ---- of any service that has a sound world

pub steps_keep_sound : StepsKeepSound
steps_keep_sound service schema w request key a text h =
    subst (λ s. Accepts s schema → IsSoundWorld s w → IsSoundWorld s (step s w request key).world) h.is
    (λ b k. step_sound h.typed schema w request key b text k) a h

pub next_is_good : (service : Service) (schema : Schema) (w : World) (request : Request) (key : ℕ) → Accepts service schema → IsTextForm request.form
    → IsSoundWorld service w → IsGood service schema w (step service w request key).world (step service w request key).reply
next_is_good service schema w request key a text h =
    subst (λ s. Accepts s schema → IsSoundWorld s w → IsGood s schema w (step s w request key).world (step s w request key).reply) h.is
    (λ b k. reply_good h.typed schema w request key b text k) a h

pub worlds_are_sound : WorldsAreSound
worlds_are_sound service schema from _ a h none = h
worlds_are_sound service schema from _ a h (one_more w request key text r) =
    steps_keep_sound service schema w request key a text (worlds_are_sound service schema from w a h r)

pub pages_are_good : PagesAreGood
pages_are_good service schema from w request key a h r text =
    next_is_good service schema w request key a text (worlds_are_sound service schema from w a h r)

-- ---- streams

-- a step leaves a sound world, and its reply is good
record IsGoodStep (service : Service) (schema : Schema) (w : World) (s : Step) : Type 0 where
  good : IsGood service schema w s.world s.reply
  sound : IsSoundWorld service s.world

-- what is turned away has no page and leaves the world
guarded_good : (service : Service) (schema : Schema) (w : World) (q : Request) (key : ℕ) → Accepts service schema → IsTextForm q.form
    → IsSoundWorld service w → (first : Option (List ℕ)) → IsGoodStep service schema w (guarded_by service w (step service w q key) first)
guarded_good service schema w q key a text h None =
    record { good = next_is_good service schema w q key a text h; sound = steps_keep_sound service schema w q key a text h }
guarded_good service schema w q key a text h (Some field) = record { good = tt; sound = h }

turn_good : (formats : List Format) (service : Service) (schema : Schema) (at to : At) (reply : Reply) (cost : ℕ) → Accepts service schema
    → IsSoundWorld service at.world → Turn formats service at reply cost to
    → IsGoodStep service schema at.world (record { reply = reply; world = to.world; cost = cost })
turn_good formats service schema at to reply cost a h (by_request q cut is keys) =
    subst (IsGoodStep service schema at.world) (sym is.is_step)
    (guarded_good service schema at.world q (at.keys 0) a (cuts_are_text at.bytes q to.bytes cut) h is.first)
turn_good formats service schema at to reply cost a h (no_memory cut is same keys few) = record {
  good = subst (IsGood service schema at.world to.world) (sym is) tt;
  sound = subst (IsSoundWorld service) (sym same) h;
}

pub runs_are_good : RunsAreGood
runs_are_good formats service schema at [] a h = tt
runs_are_good formats service schema at (reply ∷ replies) a h = λ cost mid turn.
    let g = turn_good formats service schema at mid reply cost a h turn in (g.good, runs_are_good formats service schema mid replies a g.sound)
