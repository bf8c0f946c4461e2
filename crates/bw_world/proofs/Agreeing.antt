-- The flow turns away by the field by which the model world does.
use Rattle.std.proofs.Common.{◌≡◌, inl, inr, ℕ, ◌<◌, ◌==◌, Bool, true, false, List, [], ◌∷◌, length, Option, Some, None, refl, sym, ap, ◌∙◌, subst, IfSome}
use Rattle.std.specs.Prelude.{if◌then◌else◌}
use Rattle.std.specs.List.{All}
use Rattle.std.specs.Option.{option_map}
use Rattle.std.proofs.lemmas.List.Elements.{All-head, All-tail}
use Rattle.bw_eval.specs.View.{values}
use Rattle.bw_flow.specs.declared.point.Local.{Local}
use Rattle.bw_flow.specs.Layout.{receives, flow_of}
use Rattle.bw_flow.specs.Steps.{Step}
use Rattle.bw_format.specs.declared.format.Format.{Format}
use Rattle.bw_model.specs.Guards.{fields_of, unless_refused, stored_at, stored_by}
use Rattle.bw_lang.specs.declared.service.Service.{Service}
use Rattle.bw_lang.specs.declared.stmt.Receive.{Receive}
use Rattle.bw_lang.specs.Service.Numbers.{first_number}
use Rattle.bw_meaning.specs.States.{Form}
use Rattle.bw_model.specs.Received.{receives_of, number_of_field, first_refusal}
use Rattle.bw_model.specs.Sessions.{Live, World, now, current}
use Rattle.bw_model.specs.Steps.{taken_out}
use Rattle.bw_run.specs.declared.fields.FieldFault.{FieldFault}
use Rattle.bw_run.specs.declared.turn.Frame.{Frame}
use Rattle.bw_run.specs.Fit.{IsFrame}
use Rattle.bw_run.specs.Follow.Laws.{IsOf}
use Rattle.bw_run.specs.Missing.{first_missing}
use Rattle.bw_run.specs.Turns as run
use Rattle.bw_run.specs.Walks.{number_at}
use Rattle.bw_types.specs.declared.typed.Typed.{Typed}
use Rattle.bw_world.specs.declared.suspended.Suspended.{Suspended}
use Rattle.bw_world.specs.Changes.{refused}
use Rattle.bw_world.specs.Kept.{AreApart, IsSuspended, IsKept}
use Rattle.bw_world.specs.Seen.{Seen, found}
use Rattle.bw_world.specs.Stands as world
use Rattle.bw_world.specs.Stands.{StandsFor}
use Rattle.bw_world.proofs.Live.{Taken, taken, not_taken}
use Rattle.bw_world.proofs.Named.{shows_are_there}
use Rattle.bw_world.proofs.Refused.{at_is, fields_are, received_are as show_receives, refused_of}
use Rattle.bw_world.specs.Away.{FirstOutside, IsFirst, IsAwayFrom, unless_missing, received_by}

-- ---- receives

module _ (formats : List Format) (form : Form) (service : Service) where
  abbrev First : List (List ℕ) → Option ℕ → Type 0
  First fields o = IsFirst formats form (number_of_field service) fields o

  nothing_first : (o : Option ℕ) → o ≡ None → First [] o
  nothing_first o e = record { first = None; is_first = refl; is = e }

  first_agrees : (scope : List Local) (rs : List Receive) (o : Option ℕ) → FirstOutside formats form (receives service scope rs) o → First (fields_of rs) o
  first_agrees scope [] o h = nothing_first o h
  first_agrees scope (r ∷ rs) o (inl h) =
      let k = first_agrees scope rs o h.1 in record { first = k.first; is_first = inl (h.0, k.is_first); is = k.is }
  first_agrees scope (r ∷ rs) o (inr h) = record { first = Some r.field; is_first = inr (h.0, refl); is = h.1 }

  -- what is turned away by has a number that is there
  abbrev IsThere : Option ℕ → Type 0
  IsThere o = IfSome o (λ f. f < length (world.fields_of service))

  nothing_there : (o : Option ℕ) → o ≡ None → IsThere o
  nothing_there o e = subst IsThere (sym e) tt

  first_there : (scope : List Local) (rs : List Receive) (o : Option ℕ) → All (λ r. number_of_field service r.field < length (world.fields_of service)) rs
      → FirstOutside formats form (receives service scope rs) o → IsThere o
  first_there scope [] o all h = nothing_there o h
  first_there scope (r ∷ rs) o all (inl h) =
      first_there scope rs o (All-tail (λ (r : Receive). number_of_field service r.field < length (world.fields_of service)) r rs all) h.1
  first_there scope (r ∷ rs) o all (inr h) =
      subst IsThere (sym h.1) (All-head (λ (r : Receive). number_of_field service r.field < length (world.fields_of service)) r rs all)

-- ---- at a show

-- what the frame's show receives is what its statement receives, and the numbers of its fields are there
module _ (typed : Typed) (session : ℕ) (frame : Frame) (fit : IsFrame typed.service (flow_of typed.service) frame)
    (own : IsOf typed.service session (number_at (flow_of typed.service) frame.point)) where
  abbrev service : Service
  service = typed.service

  abbrev flow : List Step
  flow = flow_of typed.service

  abbrev received : List Receive
  received = receives_of service session (number_at flow frame.point)

  abbrev first : ℕ
  first = first_number typed.service session

  received_are : run.receives_of flow frame ≡ receives service fit.point.scope received
  received_are =
      sym (fields_are typed session frame fit own []) ∙ show_receives typed session frame fit own []
      ∙ ap (λ k. receives service fit.point.scope (receives_of service session k)) (sym (at_is typed session frame fit own []))

  module _ (formats : List Format) (form : Form) (o : Option ℕ) where
    taken_alike : (x : Option FieldFault) → FirstOutside formats form (unless_missing x (run.receives_of flow frame)) o
        → First formats form service (unless_refused (option_map refused x) received) o
    taken_alike None h = first_agrees formats form service fit.point.scope received o (subst (λ l. FirstOutside formats form l o) received_are h)
    taken_alike (Some f) h = nothing_first formats form service o h

    taken_there : (x : Option FieldFault) → FirstOutside formats form (unless_missing x (run.receives_of flow frame)) o → IsThere formats form service o
    taken_there None h =
        first_there formats form service fit.point.scope received o (shows_are_there typed session first (number_at flow frame.point))
        (subst (λ l. FirstOutside formats form l o) received_are h)
    taken_there (Some f) h = nothing_there formats form service o h

-- so for the same service by another name
module _ (typed : Typed) (session : ℕ) (frame : Frame) (formats : List Format) (form : Form) (o : Option ℕ) where
  abbrev Shows : Service → Type 0
  Shows u = IsFrame u (flow_of u) frame → IsOf u session (number_at (flow_of u) frame.point) → (x : Option FieldFault)
      → FirstOutside formats form (unless_missing x (run.receives_of (flow_of u) frame)) o
      → First formats form u (unless_refused (option_map refused x) (receives_of u session (number_at (flow_of u) frame.point))) o × IsThere formats form u o

  shows_alike : (v : Service) → typed.service ≡ v → Shows v
  shows_alike v is =
      subst Shows is (λ fit own x h. (taken_alike typed session frame fit own formats form o x h, taken_there typed session frame fit own formats form o x h))

-- ---- in a world

module _ (w : Seen) (kept : IsKept w) (formats : List Format) (form : Form) (number key turn : ℕ) where
  abbrev apart : AreApart w.next w.live
  apart = kept.apart

  module _ (s : Suspended) (e : found number key w.live ≡ Some s) (fit : IsSuspended w.service s) (o : Option ℕ)
      (h : FirstOutside formats form (received_by (flow_of w.service) s turn form) o) where
    abbrev at_show : (x : Option FieldFault) → FirstOutside formats form (unless_missing x (run.receives_of (flow_of w.service) s.frame)) o
        → First formats form w.service (unless_refused (option_map refused x)
        (receives_of w.service s.session (number_at (flow_of w.service) s.frame.point))) o × IsThere formats form w.service o
    at_show = shows_alike kept.typed s.session s.frame formats form o w.service kept.is fit.frame fit.own

    abbrev missing : Option FieldFault
    missing = first_missing (run.receives_of (flow_of w.service) s.frame) form

    pub away_there : IsThere formats form w.service o
    away_there = by (turn == s.turn) h
      where
        by : (b : Bool) → FirstOutside formats form (if b then unless_missing missing (run.receives_of (flow_of w.service) s.frame) else []) o
            → IsThere formats form w.service o
        by true k = (at_show missing k).1
        by false k = nothing_there formats form w.service o k

    module _ (m : World) (stands : StandsFor w m) where
      abbrev k : Taken number key w.service w.first w.live m.live s
      k = taken number key w.service w.first w.next w.live m.live apart stands.live s e

      abbrev l : Live
      l = k.one

      turn_is : s.turn ≡ current m.first l.talk
      turn_is = k.stands.turn ∙ ap (λ n. current n l.talk) stands.first

      abbrev at : ℕ
      at = number_at (flow_of w.service) s.frame.point

      -- what is stored is what the frame's show receives, unless the form is refused
      abbrev waiting : List (List ℕ)
      waiting = unless_refused (option_map refused missing) (receives_of w.service s.session at)

      waits_is : stored_at w.service l.talk form (now w.service l.talk) ≡ waiting
      waits_is =
          ap (stored_at w.service l.talk form) k.stands.waits.2
          ∙ ap (λ n. unless_refused (first_refusal w.service (receives_of w.service n at) (values s.frame.locals) form) (receives_of w.service n at))
          (sym k.stands.session)
          ∙ ap (λ x. unless_refused x (receives_of w.service s.session at)) (refused_of kept.typed w.service kept.is s.session s.frame form fit.frame fit.own)

      stored_is : stored_by w.service m.first turn form (taken_out number key m.live) ≡ (if turn == s.turn then waiting else [])
      stored_is =
          ap (stored_by w.service m.first turn form) k.is
          ∙ ap (λ n. if turn == n then stored_at w.service l.talk form (now w.service l.talk) else []) (sym turn_is)
          ∙ ap (λ fields. if turn == s.turn then fields else []) waits_is

      by_turn : (b : Bool) → FirstOutside formats form (if b then unless_missing missing (run.receives_of (flow_of w.service) s.frame) else []) o
          → First formats form w.service (if b then waiting else []) o
      by_turn true x = (at_show missing x).0
      by_turn false x = nothing_first formats form w.service o x

      away : First formats form w.service (stored_by w.service m.first turn form (taken_out number key m.live)) o
      away = subst (λ fields. First formats form w.service fields o) (sym stored_is) (by_turn (turn == s.turn) h)

    pub away_from : IsAwayFrom w formats form number key turn o
    away_from m stands = away m stands

  -- a session that isn't there turns nothing away
  pub away_from_none : found number key w.live ≡ None → IsAwayFrom w formats form number key turn None
  away_from_none e m stands =
      subst (λ x. First formats form w.service (stored_by w.service m.first turn form x) None)
      (sym (not_taken number key w.service w.first w.live m.live stands.live e)) (nothing_first formats form w.service None refl)
