-- A request to a session that is live.
use Rattle.std.proofs.Common.{◌≡◌, ◌≢◌, ◌==◌, ℕ, suc, Bool, List, [], ◌∷◌, Option, Some, None, Ok, Err, refl, sym, ap}
use Rattle.std.proofs.Common.{◌∙◌, subst, inl, inr, arith, length-append}
use Rattle.std.specs.Prelude.{nat_eq, if◌then◌else◌}
use Rattle.std.specs.Map.{remove_entry}
use Rattle.std.specs.Option.{option_map}
use Rattle.std.proofs.lemmas.Bool.{eq-eqb, ne_eqb}
use Rattle.bw_doc.specs.Made.{Made}
use Rattle.bw_eval.specs.declared.value.Value.{Value}
use Rattle.bw_eval.specs.Evaluations.{HasMemory}
use Rattle.bw_eval.specs.View.{document, values}
use Rattle.bw_http.specs.declared.replies.Reply.{Reply}
use Rattle.bw_http.specs.declared.replies.Reply.TheVariants as replies
use Rattle.bw_http.specs.declared.request.Method.{Method}
use Rattle.bw_http.specs.declared.request.Method.TheVariants.{Get, Post}
use Rattle.bw_lang.specs.declared.service.Service.{Service}
use Rattle.bw_types.specs.declared.typed.Typed.{Typed}
use Rattle.bw_lang.specs.declared.turn.TurnFault.{TurnFault}
use Rattle.bw_meaning.specs.GoOn.{go_on}
use Rattle.bw_meaning.specs.States.{Form, Outcome, Shown}
use Rattle.bw_model.specs.Answers.{Answered, Said, with_input, takes, turned, waits, answered, refuses}
use Rattle.bw_model.specs.Received.{receives_of, first_refusal}
use Rattle.bw_model.specs.Sessions.{Talk, Live, World, now, current}
use Rattle.bw_model.specs.Steps.{Step, asks, visits, taken_out}
use Rattle.bw_run.specs.declared.fields.FieldFault.{FieldFault}
use Rattle.bw_run.specs.declared.turn.Frame.{Frame}
use Rattle.bw_run.specs.declared.turn.Turn.{Turn}
use Rattle.bw_run.specs.declared.turn.Turn.TheVariants as turns
use Rattle.bw_run.specs.Missing.{first_missing}
use Rattle.bw_run.specs.Turns as run
use Rattle.bw_run.specs.Turns.{IsTurn, answered_frame}
use Rattle.bw_run.specs.Walks.{number_at}
use Rattle.bw_world.specs.declared.suspended.Suspended.{Suspended}
use Rattle.bw_world.specs.Changes.{shown_page, last_page, went_on, with_first, without, Either, failure, refused}
use Rattle.bw_world.specs.Kept.{AreApart, IsSuspended}
use Rattle.bw_flow.specs.Layout.{flow_of}
use Rattle.bw_world.specs.Seen.{Seen, found}
use Rattle.bw_world.specs.Stands.{LiveStands, AllStand, StandsFor, Takes, Ends, Rises, model}
use Rattle.bw_world.proofs.GoesOn.{result_goes_on}
use Rattle.bw_world.proofs.Live.{Taken, taken, is_found}
use Rattle.bw_world.proofs.Refused.{refused_of}
use Rattle.bw_world.proofs.Standing.{fault_cases, itself, wanted}

module _ (w : Seen) (apart : AreApart w.next w.live) (ls : List Live) (h : AllStand w.service w.first w.live ls) (number key : ℕ) (s : Suspended)
    (e : found number key w.live ≡ Some s) (form : Form) where
  abbrev service : Service
  service = w.service

  abbrev m : World
  m = model w ls

  abbrev k : Taken number key service w.first w.live ls s
  k = taken number key service w.first w.next w.live ls apart h s e

  abbrev l : Live
  l = k.one

  number_is : s.number ≡ number
  number_is = (is_found number key w.next w.live apart s e).1

  -- the step, by what the session is answered
  abbrev step : Answered → Step
  step a = visits service m l k.others a

  abbrev said : Method → ℕ → Said
  said method turn = record { method = method; form = form; turn = turn; shared = values w.shared }

  asked_is : (method : Method) (turn : ℕ) → asks service m method form turn (taken_out number key ls) ≡ step
      (answered service w.first l.talk (said method turn))
  asked_is method turn = ap (asks service m method form turn) k.is

  -- another turn is stale
  pub stale : (method : Method) (turn : ℕ) → turn ≢ s.turn → asks service m method form turn (taken_out number key ls) ≡ step (refuses (replies.Stale s.turn))
  stale method turn n =
      asked_is method turn
      ∙ ap (λ b. step (if b then waits service w.first l.talk method form (values w.shared) (now service l.talk) else refuses
      (replies.Stale (current w.first l.talk)))) (ne_eqb turn (current w.first l.talk) (λ f. n (f ∙ sym k.stands.turn)))
      ∙ ap (λ n. step (refuses (replies.Stale n))) (sym k.stands.turn)

  -- at the current turn it waits where the frame says
  abbrev shows : Outcome
  shows = Shown (number_at (flow_of service) s.frame.point) (values s.frame.locals) s.frame.rests (document s.page) k.stands.waits.0 k.stands.waits.1

  current_is : (method : Method) (turn : ℕ) → turn ≡ s.turn → asks service m method form turn (taken_out number key ls) ≡ step
      (waits service w.first l.talk method form (values w.shared) shows)
  current_is method turn f =
      asked_is method turn
      ∙ ap (λ b. step (if b then waits service w.first l.talk method form (values w.shared) (now service l.talk) else refuses
      (replies.Stale (current w.first l.talk)))) (eq-eqb turn (current w.first l.talk) (f ∙ k.stands.turn))
      ∙ ap (λ o. step (waits service w.first l.talk method form (values w.shared) o)) k.stands.waits.2

  -- ---- the page again

  front : (s1 : Suspended) (l1 : Live) → LiveStands service w.first s1 l1
      → AllStand service w.first ((s.number, s1) ∷ remove_entry (nat_eq s.number) w.live) (l1 ∷ k.others)
  front s1 l1 stands = (stands, subst (λ n. AllStand service w.first (remove_entry (nat_eq n) w.live) k.others) (sym number_is) k.rest)

  page_is : (d : Made) (turn turn1 : ℕ) → turn ≡ turn1 → shown_page service s.number s.key turn d ≡ shown_page service l.number l.key turn1 d
  page_is d turn turn1 f = λ i. shown_page service (k.stands.number i) (k.stands.key i) (f i) d

  pub sent_again : (turn a : ℕ) (new : Seen) (reply : Reply) → turn ≡ s.turn
      → Either w new reply (replies.Page (shown_page service s.number s.key s.turn s.page)) (with_first w s w.shared)
      → Ends w new reply a a (asks service m Get form turn (taken_out number key ls))
  sent_again turn a new reply f c =
      let p = current_is Get turn f in
      elim c [
        | inl x ↦ wanted w ls h new reply a a (asks service m Get form turn (taken_out number key ls)) x.0 x.1 (omega arith)
        | inr x ↦ inr (subst (Takes new reply a a) (sym p) (record {
          reply = x.0 ∙ ap (λ z. replies.Page z) (page_is s.page s.turn (current w.first l.talk) k.stands.turn);
          world = subst (λ z. StandsFor z (record m { live = l ∷ k.others })) (sym x.1)
              (record { shared = refl; next = refl; first = refl; live = front s l k.stands });
          cost = omega arith;
        }))
      ]

  pub answered_stale : (method : Method) (turn a : ℕ) → turn ≢ s.turn → Ends w w (replies.Stale s.turn) a a
      (asks service m method form turn (taken_out number key ls))
  answered_stale method turn a n =
      inr (subst (Takes w (replies.Stale s.turn) a a) (sym (stale method turn n))
      (record { reply = refl; world = itself w ls h w (replies.Stale s.turn) a a; cost = omega arith }))

  -- ---- a form

  module _ (typed : Typed) (is : typed.service ≡ service) (fit : IsSuspended service s) (turn : ℕ) (now_is : turn ≡ s.turn) where
    abbrev posts : Step
    posts = asks service m Post form turn (taken_out number key ls)

    abbrev missing : Option FieldFault
    missing = first_missing (run.receives_of (flow_of service) s.frame) form

    post_is : posts ≡ step (takes service w.first l.talk form (values w.shared) (option_map refused missing))
    post_is =
        current_is Post turn now_is
        ∙ ap (λ n. step (takes service w.first l.talk form (values w.shared)
        (first_refusal service (receives_of service n (number_at (flow_of service) s.frame.point)) (values s.frame.locals) form))) (sym k.stands.session)
        ∙ ap (λ o. step (takes service w.first l.talk form (values w.shared) o)) (refused_of typed service is s.session s.frame form fit.frame fit.own)

    pub post_refused : (f : FieldFault) (reply : Reply) (a : ℕ) → missing ≡ Some f → reply ≡ refused f → Ends w w reply a a posts
    post_refused f reply a q r =
        let p = post_is ∙ ap (λ o. step (takes service w.first l.talk form (values w.shared) (option_map refused o))) q in
        inr (subst (Takes w reply a a) (sym p) (record { reply = r; world = itself w ls h w reply a a; cost = omega arith }))

    abbrev next : Talk
    next = with_input l.talk form (values w.shared)

    abbrev choose : Bool → Step
    choose b = step (if b then refuses replies.NoTurns else turned (suc (current w.first l.talk)) next (now service next))

    taken_is : missing ≡ None → (b : Bool) → (current w.first l.talk == 4294967295) ≡ b → posts ≡ choose b
    taken_is q b f = post_is ∙ ap (λ o. step (takes service w.first l.talk form (values w.shared) (option_map refused o))) q ∙ ap choose f

    pub post_last : (a : ℕ) → missing ≡ None → s.turn ≡ 4294967295 → Ends w w replies.NoTurns a a posts
    post_last a q f =
        let p = taken_is q _ (eq-eqb (current w.first l.talk) 4294967295 (sym k.stands.turn ∙ f)) in
        inr (subst (Takes w replies.NoTurns a a) (sym p) (record { reply = refl; world = itself w ls h w replies.NoTurns a a; cost = omega arith }))

    -- what the turn comes to
    abbrev o : Outcome
    o = go_on service s.session (answered_frame (flow_of service) s.frame form w.shared)

    next_is : now service next ≡ o
    next_is =
        result_goes_on service l.talk.session l.talk.origin l.talk.inputs (record { form = form; shared = values w.shared })
        (number_at (flow_of service) s.frame.point) (values s.frame.locals) s.frame.rests
        (document s.page) k.stands.waits.0 k.stands.waits.1 k.stands.waits.2
        ∙ ap (λ n. go_on service n (answered_frame (flow_of service) s.frame form w.shared)) (sym k.stands.session)

    module _ (none : missing ≡ None) (more : s.turn ≢ 4294967295) (a b : ℕ) (rises : Rises a b) where
      abbrev after : Outcome → Step
      after p = step (turned (suc (current w.first l.talk)) next p)

      posts_is : posts ≡ after o
      posts_is = taken_is none _ (ne_eqb (current w.first l.talk) 4294967295 (λ f. more (k.stands.turn ∙ f))) ∙ ap after next_is

      pub post_failed : (reply : Reply) (f : TurnFault) → reply ≡ failure f → (HasMemory {A = Turn} (Err f) → IsTurn (flow_of service) (Err f) a b o)
          → Ends w w reply a b posts
      post_failed reply f r t =
          elim (fault_cases f) [
            | inl x ↦ wanted w ls h w reply a b posts (r ∙ ap failure x) refl rises
            | inr x ↦ let u = t x.0 in inr (subst (Takes w reply a b) (sym posts_is)
                (subst (λ z. Takes w reply a b (after z)) u.outcome (record { reply = r ∙ x.1; world = itself w ls h w reply a b; cost = u.counter })))
          ]

      pub post_exited : (new : Seen) (reply : Reply) (d : Made) (shared : List (List ℕ × Value)) → IsTurn (flow_of service) (Ok (turns.Exited d shared)) a b o
          → Either w new reply (replies.Final (last_page service d)) (without w number shared) → Ends w new reply a b posts
      post_exited new reply d shared t c =
          elim c [
            | inl x ↦ wanted w ls h new reply a b posts x.0 x.1 rises
            | inr x ↦ inr (subst (Takes new reply a b) (sym posts_is) (subst (λ z. Takes new reply a b (after z)) t.outcome (record {
              reply = x.0;
              world = subst (λ z. StandsFor z (record m { shared = values shared; live = k.others })) (sym x.1)
                  (record { shared = refl; next = refl; first = refl; live = k.rest });
              cost = t.counter;
            })))
          ]

      pub post_shown : (new : Seen) (reply : Reply) (f : Frame) (d : Made) (shared : List (List ℕ × Value))
          → IsTurn (flow_of service) (Ok (turns.Shown f d shared)) a b o
          → Either w new reply (replies.Page (shown_page service s.number s.key (suc s.turn) d)) (with_first w (went_on s f d) shared)
          → Ends w new reply a b posts
      post_shown new reply f d shared t c =
          elim c [
            | inl x ↦ wanted w ls h new reply a b posts x.0 x.1 rises
            | inr x ↦ inr (subst (Takes new reply a b) (sym posts_is) (subst (λ z. Takes new reply a b (after z)) t.outcome (record {
              reply = x.0 ∙ ap (λ z. replies.Page z) (page_is d (suc s.turn) (suc (current w.first l.talk)) (ap suc k.stands.turn));
              world = subst (λ z. StandsFor z (record m { shared = values shared; live = record l { talk = next } ∷ k.others })) (sym x.1) (record {
                shared = refl;
                next = refl;
                first = refl;
                live = front (went_on s f d) (record l { talk = next }) (record {
                  number = k.stands.number;
                  key = k.stands.key;
                  session = k.stands.session;
                  turn = omega (arith, k.stands.turn, length-append l.talk.inputs (record { form = form; shared = values w.shared } ∷ []));
                  waits = (values shared, _, next_is ∙ sym t.outcome);
                });
              });
              cost = t.counter;
            })))
          ]
