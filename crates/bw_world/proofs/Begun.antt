-- A session's first turn.
use Rattle.std.proofs.Common.{◌≡◌, ℕ, suc, List, ◌∷◌, take, Ok, Err, refl, sym, ap, ◌∙◌, subst, inl, inr, arith}
use Rattle.bw_doc.specs.Made.{Made}
use Rattle.bw_eval.specs.declared.value.Value.{Value}
use Rattle.bw_eval.specs.Evaluations.{HasMemory}
use Rattle.bw_eval.specs.View.{values}
use Rattle.bw_http.specs.declared.replies.Reply.{Reply}
use Rattle.bw_http.specs.declared.replies.Reply.TheVariants as replies
use Rattle.bw_lang.specs.declared.service.Service.{Service}
use Rattle.bw_lang.specs.declared.turn.TurnFault.{TurnFault}
use Rattle.bw_meaning.specs.States.{Outcome}
use Rattle.bw_model.specs.Answers.{turned}
use Rattle.bw_model.specs.Sessions.{Talk, Live, World, now}
use Rattle.bw_model.specs.Steps.{Step, begins, beginner}
use Rattle.bw_run.specs.declared.turn.Frame.{Frame}
use Rattle.bw_run.specs.declared.turn.Turn.{Turn}
use Rattle.bw_run.specs.declared.turn.Turn.TheVariants as turns
use Rattle.bw_run.specs.Turns.{IsTurn}
use Rattle.bw_world.specs.Changes.{shown_page, last_page, begun, with_new, Either, failure}
use Rattle.bw_flow.specs.Layout.{flow_of}
use Rattle.bw_world.specs.Seen.{Seen}
use Rattle.bw_world.specs.Stands.{AllStand, StandsFor, Takes, Ends, Rises, model}
use Rattle.bw_world.proofs.Standing.{take_stands, fault_cases, itself, wanted}

module _ (w : Seen) (ls : List Live) (h : AllStand w.service w.first w.live ls) (key session a b : ℕ) (rises : Rises a b) where
  abbrev service : Service
  service = w.service

  abbrev m : World
  m = model w ls

  abbrev talk : Talk
  talk = beginner m session

  -- what the first turn comes to
  abbrev o : Outcome
  o = now service talk

  abbrev after : Outcome → Step
  after p = begins service m key (turned m.first talk p)

  pub begun_exit : (new : Seen) (reply : Reply) (d : Made) (shared : List (List ℕ × Value)) → IsTurn (flow_of service) (Ok (turns.Exited d shared)) a b o
      → Either w new reply (replies.Final (last_page service d)) (record w { shared = shared }) → Ends w new reply a b (after o)
  begun_exit new reply d shared t c =
      elim c [
        | inl x ↦ wanted w ls h new reply a b (after o) x.0 x.1 rises
        | inr x ↦ inr (subst (λ z. Takes new reply a b (after z)) t.outcome (record {
          reply = x.0;
          world = subst (λ z. StandsFor z (record m { shared = values shared })) (sym x.1) (record { shared = refl; next = refl; first = refl; live = h });
          cost = t.counter;
        }))
      ]

  pub begun_show : (new : Seen) (reply : Reply) (f : Frame) (d : Made) (shared : List (List ℕ × Value))
      → IsTurn (flow_of service) (Ok (turns.Shown f d shared)) a b o
      → Either w new reply (replies.Page (shown_page service w.next key w.first d)) (with_new w (begun w key session f d) shared)
      → Ends w new reply a b (after o)
  begun_show new reply f d shared t c =
      elim c [
        | inl x ↦ wanted w ls h new reply a b (after o) x.0 x.1 rises
        | inr x ↦ inr (subst (λ z. Takes new reply a b (after z)) t.outcome (record {
          reply = x.0;
          world = subst (λ z. StandsFor z (record m {
            shared = values shared;
            next = suc w.next;
            live = take 1000 (record { number = w.next; key = key; talk = talk } ∷ ls);
          })) (sym x.1) (record {
            shared = refl;
            next = refl;
            first = refl;
            live = take_stands service w.first 1000 ((w.next, begun w key session f d) ∷ w.live) (record { number = w.next; key = key; talk = talk } ∷ ls)
                (record { number = refl; key = refl; session = refl; turn = omega arith; waits = (values shared, _, sym t.outcome) }, h);
          });
          cost = t.counter;
        }))
      ]

  pub begun_failed : (reply : Reply) (f : TurnFault) → reply ≡ failure f → (HasMemory {A = Turn} (Err f) → IsTurn (flow_of service) (Err f) a b o)
      → Ends w w reply a b (after o)
  begun_failed reply f e t =
      elim (fault_cases f) [
        | inl x ↦ wanted w ls h w reply a b (after o) (e ∙ ap failure x) refl rises
        | inr x ↦ let k = t x.0 in inr (subst (λ z. Takes w reply a b (after z)) k.outcome
            (record { reply = e ∙ x.1; world = itself w ls h w reply a b; cost = k.counter }))
      ]
