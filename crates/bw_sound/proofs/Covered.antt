-- What the worlds of an accepted service wait at and end with has good pages.
use Rattle.std.proofs.Common.{◌≡◌, ◌⊎◌, ◌≤◌, ◌<◌, ◌+◌, ℕ, true, List, Option, Some, None, refl, sym, ap, ◌∙◌, subst, inl, inr, arith}
use Rattle.std.specs.Prelude.{slice_get}
use Rattle.std.specs.List.{All}
use Rattle.std.proofs.lemmas.Bool.{false≢true}
use Rattle.std.proofs.lemmas.List.Elements.{All-nil}
use Rattle.bw_fields.specs.Received.{HasField}
use Rattle.bw_flow.specs.Layout.{receives, flow_of}
use Rattle.bw_lang.specs.declared.service.Service.{Service}
use Rattle.bw_lang.specs.Document.Forest.{Forest}
use Rattle.bw_lang.specs.Service.Code.{numbered}
use Rattle.bw_lang.specs.Service.Numbers.{first_number}
use Rattle.bw_meaning.specs.GoOn.{body_of}
use Rattle.bw_page.specs.Pages.{show_page, exit_page}
use Rattle.bw_schema.specs.declared.schema.Schema.{Schema}
use Rattle.bw_schema.specs.Validity.{Valid}
use Rattle.bw_sum.specs.declared.summary.Summary.{Summary}
use Rattle.bw_types.specs.declared.typed.Typed.{Typed}
use Rattle.bw_cover.specs.Abstracts.{CoversTree}
use Rattle.bw_cover.specs.Facts.{Facts as CoverFacts}
use Rattle.bw_cover.specs.FlowWorlds.{AcceptsPlaces}
use Rattle.bw_cover.specs.Received.{scope_of, received_of}
use Rattle.bw_cover.proofs.Received.{inside_or_not, receives_outside, shows_receive}
use Rattle.bw_cover.proofs.Shows.{IsOutside}
use Rattle.bw_analyse.specs.declared.facts.Facts.{Facts}
use Rattle.bw_analyse.specs.Facts.{shown_fact}
use Rattle.bw_analyse.proofs.PageLaws.{has_page}
use Rattle.bw_sound.specs.Found.Seen.{graph_of, known_of}
use Rattle.bw_sound.proofs.Found.Accepted.{facts_are_accepted}
use Rattle.bw_sound.proofs.Found.Places.{ShowsAt, show_found, exit_found}
use Rattle.bw_check.specs.Accepts.{IsAccepted}
use Rattle.bw_check.specs.Faults.{received_at}
use Rattle.bw_sound.proofs.Pages.{show_valid, show_fields, exit_valid}

module _ (t : Typed) (schema : Schema) (facts : Facts) (accepted : IsAccepted t.service schema facts) where
  abbrev service : Service
  service = t.service

  abbrev pub F : CoverFacts ℕ
  F = known_of service facts

  pub places : AcceptsPlaces service F
  places = facts_are_accepted t facts accepted.facts_are (λ g k. accepted.faultless g (inr k))

  -- a document is covered at the place of a number only where the show of that number stands there
  has_show : (k : ℕ) (d : Forest) → CoversTree service (F.shown (F.place k)) d → ShowsAt service k (F.place k)
  has_show k d h = by_fact (shown_fact facts (F.place k)) refl h
    where
      by_fact : (o : Option Summary) → shown_fact facts (F.place k) ≡ o → CoversTree service (graph_of service o) d → ShowsAt service k (F.place k)
      by_fact None e c = absurd (false≢true c.is_root)
      by_fact (Some s) e c = let x = has_page service facts (F.place k) s accepted.facts_are e in show_found service k x.0 x.1

  -- what a session receives at a show: what the flow has there, or nothing where the show is none of its own
  own_fields : (session k : ℕ) (page : Forest) (s : ShowsAt service k (F.place k)) → All (HasField service page) (received_at s.step.act)
      → All (HasField service page) (received_of service session k)
  own_fields session k page s h = by_number (inside_or_not k (first_number service session) (numbered (body_of service session)))
    where
      by_number : ((first_number service session ≤ k) × (k < first_number service session + numbered (body_of service session)))
          ⊎ IsOutside k (first_number service session) (numbered (body_of service session)) → All (HasField service page) (received_of service session k)
      by_number (inl (from, below)) =
          let same = s.number in
          let agree = shows_receive service session (F.place k) s.step s.term s.received s.is_at s.acts (omega (arith, from, same))
          (omega (arith, below, same)) in
          subst (All (HasField service page)) (ap received_at s.acts ∙ agree ∙ ap (received_of service session) same) h
      by_number (inr out) =
          subst (λ rs. All (HasField service page) (receives service (scope_of service session k) rs)) (sym (receives_outside service session k out))
          (All-nil (HasField service page))

  pub record GoodShow (session k : ℕ) (link : List ℕ) (d : Forest) : Type 0 where
    pub valid : Valid schema (show_page service.name link d)
    pub fields : All (HasField service (show_page service.name link d)) (received_of service session k)

  pub show_good : (session k : ℕ) (link : List ℕ) (d : Forest) → CoversTree service (F.shown (F.place k)) d → GoodShow session k link d
  show_good session k link d h =
      let s = has_show k d h in
      record {
        valid = show_valid t schema facts accepted k (F.place k) s d h link;
        fields = own_fields session k (show_page service.name link d) s (show_fields t schema facts accepted k (F.place k) s d h link);
      }

  pub end_good : (p : ℕ) (d : Forest) → F.is_exit p ≡ true → CoversTree service (F.shown p) d → Valid schema (exit_page service.name d)
  end_good p d e h = exit_valid t schema facts accepted p (exit_found service p (slice_get (flow_of service) p) refl e) d h
