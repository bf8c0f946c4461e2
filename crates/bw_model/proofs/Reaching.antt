-- What requests and the messages of a stream reach.
use Rattle.std.proofs.Common.{inl, inr, ℕ, List, [], ◌∷◌, sym, subst}
use Rattle.bw_format.specs.declared.format.Format.{Format}
use Rattle.bw_http.specs.declared.replies.Reply.{Reply}
use Rattle.bw_http.specs.declared.request.Request.{Request}
use Rattle.bw_http.proofs.Lossy.{cuts_are_text}
use Rattle.bw_lang.specs.Service.Submissions.{IsTextForm}
use Rattle.bw_lang.specs.declared.service.Service.{Service}
use Rattle.bw_model.specs.Guards.{IsGuarded}
use Rattle.bw_model.specs.Reached.{Reached, none, one_more, ReachedOn, StreamsReach}
use Rattle.bw_model.specs.Runs.{At, Turn, request as by_request, no_memory}
use Rattle.bw_model.specs.Sessions.{World}
use Rattle.bw_model.specs.Steps.{Step}
use Rattle.bw_model.proofs.Cases.{is_step_or_nothing}

pub reached_on : ReachedOn
reached_on service from mid _ r none = r
reached_on service from mid _ r (one_more w request key text s) = one_more w request key text (reached_on service from mid w r s)

-- with formats a request comes to the step, or the world stays
step_reaches : (formats : List Format) (service : Service) (from w : World) (r : Request) (key : ℕ) (s : Step) → IsGuarded formats service w r key s →
    IsTextForm r.form → Reached service from w → Reached service from s.world
step_reaches formats service from w r key s is text h =
    elim ((is_step_or_nothing service w r key formats s is).cases) [
      | inl k ↦ subst (λ (x : Step). Reached service from x.world) (sym k) (one_more w r key text h)
      | inr k ↦ subst (Reached service from) (sym k.1) h
    ]

turn_reaches : (formats : List Format) (service : Service) (from : World) (at to : At) (reply : Reply) (cost : ℕ) → Turn formats service at reply cost to →
    Reached service from at.world → Reached service from to.world
turn_reaches formats service from at to reply cost (by_request r cut is keys) h =
    step_reaches formats service from at.world r (at.keys 0) (record { reply = reply; world = to.world; cost = cost }) is
    (cuts_are_text at.bytes r to.bytes cut) h
turn_reaches formats service from at to reply cost (no_memory cut r same keys few) h = subst (Reached service from) (sym same) h

pub streams_reach : StreamsReach
streams_reach formats service from at to [] cost h r = subst (λ (x : At). Reached service from x.world) (sym h.1) r
streams_reach formats service from at to (reply ∷ replies) cost (first, later, mid, one, more, sum) r =
    streams_reach formats service from mid to replies later more (turn_reaches formats service from at mid reply first one r)
