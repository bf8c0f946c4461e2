-- The page of each show and exit of an accepted service is valid, and a shown page has each field that its show receives.
use Rattle.std.proofs.Common.{◌≡◌, ℕ, ◌+◌, ◌<◌, ◌^◌, List, [], length, get_or, codes, Option, Some, None, refl, sym, ap, ◌∙◌, subst, inl, inr, arith}
use Rattle.std.specs.Prelude.{slice_get}
use Rattle.std.specs.List.{All}
use Rattle.std.proofs.lemmas.List.Elements.{Contains-get_or}
use Rattle.bw_faults.specs.declared.fault.Fault.{Fault}
use Rattle.bw_fields.specs.Received.{IsReceived, HasField}
use Rattle.bw_fields.proofs.Closed.{field_there}
use Rattle.bw_fields.proofs.Services.{templates_plain, templates_agree}
use Rattle.bw_flow.specs.Steps.{Step}
use Rattle.bw_flow.specs.TypedFlow.{HasKindAt, IsTypedAct}
use Rattle.bw_judge.specs.Faults.{IsFault}
use Rattle.bw_judge.specs.Pages.{IsWrapper}
use Rattle.bw_judge.proofs.Sound.{no_fault_valid}
use Rattle.bw_lang.proofs.Small.{readable_is_small}
use Rattle.bw_lang.specs.declared.service.Service.{Service}
use Rattle.bw_lang.specs.declared.stmt.Kind.TheVariants as kinds
use Rattle.bw_lang.specs.Document.Documents.{close}
use Rattle.bw_lang.specs.Document.Forest.{Forest}
use Rattle.bw_lang.specs.Service.Term.{Term}
use Rattle.bw_page.specs.Pages.{show_page, exit_page}
use Rattle.bw_schema.specs.declared.schema.Schema.{Schema}
use Rattle.bw_schema.specs.Validity.{Valid}
use Rattle.bw_shape.specs.Outlines.{root_of}
use Rattle.bw_strings.specs.Literals.{literals_of}
use Rattle.bw_sum.specs.Graph.{graph}
use Rattle.bw_sum.specs.Small.{IsWellFormed}
use Rattle.bw_sum.specs.Templates.{template_items, HasKnownGaps}
use Rattle.bw_sum.specs.Unfolding.{Unfolds}
use Rattle.bw_sum.specs.declared.summary.Summary.{Summary}
use Rattle.bw_types.specs.declared.typed.Typed.{Typed}
use Rattle.bw_cover.specs.Abstracts.{CoversTree, is_gap}
use Rattle.bw_analyse.specs.declared.abstracts.Abstract.{Abstract}
use Rattle.bw_analyse.specs.declared.abstracts.Abstract.TheVariants.{Nothing, Str, Html}
use Rattle.bw_analyse.specs.declared.facts.Facts.{Facts}
use Rattle.bw_analyse.specs.Facts.{AreFacts, summary_of, page_of, summary_at, names_at, rows_of, shown_fact}
use Rattle.bw_analyse.specs.Fits.{Fits}
use Rattle.bw_analyse.specs.Lawful.KindLaws.{all_itself}
use Rattle.bw_analyse.specs.Known.{look, known}
use Rattle.bw_flow.specs.Layout.{flow_of}
use Rattle.bw_analyse.specs.Pages.{shown_page, exited_page, name_of, page_by, page_graph, page_at as page_in}
use Rattle.bw_analyse.specs.Lawful.StepLaws.{HasFew, expression_up}
use Rattle.bw_analyse.specs.Lawful.TypedSystem.{few_of}
use Rattle.bw_check.proofs.Within.Named.{received_have_numbers}
use Rattle.bw_sound.specs.Found.Seen.{graph_of}
use Rattle.bw_sound.proofs.Found.Cells.{typed_flow, typed_service, known_gaps, row_fits, last_fits}
use Rattle.bw_sound.proofs.Found.Places.{ShowsAt, ExitsAt}
use Rattle.bw_sound.proofs.Found.Told.{f_fits, page_is}
use Rattle.bw_check.specs.Accepts.{IsAccepted}
use Rattle.bw_check.specs.Faults.{received_at}
use Rattle.bw_sound.proofs.Summed.{show_there, exit_there, has_title, title, target, shown_is, exited_is}
use Rattle.bw_sound.proofs.Unfolded.{shown_unfolds, ended_unfolds}
use Rattle.bw_sound.proofs.Wrapped.{shown, ended, shown_closed, ended_closed}

summary_fine : (a : Abstract) → Fits kinds.Html a → IsWellFormed (summary_of a)
summary_fine Nothing h = absurd h
summary_fine (Str s) h = absurd h
summary_fine (Html s) h = h

-- the summary of the page at a place
record HasSummary (facts : Facts) (p : ℕ) : Type 0 where
  summary : Summary
  is_shown : shown_fact facts p ≡ Some summary
  fine : IsWellFormed summary

module _ (t : Typed) (schema : Schema) (facts : Facts) (accepted : IsAccepted t.service schema facts) where
  abbrev service : Service
  service = t.service

  abbrev are : AreFacts service facts
  are = accepted.facts_are

  abbrev L : List (List ℕ)
  L = literals_of service

  abbrev T : ℕ → Forest
  T = template_items service

  abbrev f : ℕ → List Abstract
  f = rows_of facts

  abbrev behind : ℕ
  behind = length (flow_of service)

  few : HasFew service
  few = few_of t are.few

  module _ (p : ℕ) (x : Step) (at : slice_get (flow_of service) p ≡ Some x) where
    has_summary : (e : Term) → page_of x.act ≡ Some e → HasKindAt service x.scope e kinds.Html → HasSummary facts p
    has_summary e k html =
        let v = known service (look service x.scope (f p) (f behind)) e in record {
          summary = summary_of v;
          is_shown = page_is t facts are p x at ∙ ap (summary_at service (names_at service f (record { place = p; step = x }))) k;
          fine = summary_fine v
              (expression_up service few x.scope (f p) (f p) (f behind) (f behind)
              (all_itself _ (f p) (row_fits t are.few f (shown_fact facts) f (f_fits t facts are) p x at))
              (all_itself _ (f behind) (last_fits t are.few f (shown_fact facts) f (f_fits t facts are))) e kinds.Html html).0;
        }

    acts_typed : IsTypedAct service x.scope x.act
    acts_typed = (typed_flow t are.few f (shown_fact facts)).acts p x at

    module _ (some : page_of x.act ≡ None → ⊥) (page : Summary) (is : page_graph service facts p ≡ page) where
      -- no page of this graph has a fault
      faultless : (g : Fault) → IsFault T (graph L page) (root_of page) schema x.number g → ⊥
      faultless g k =
          accepted.faultless g
          (inl (p, (x, at, some, inr (subst (λ s. IsFault T (graph L s) (root_of s) schema x.number g) (sym is) k))))

      -- so each is valid
      valid_page : IsWrapper (T (root_of page)) → (d : Forest) → Unfolds T (graph L page) (root_of page) d → Valid schema (close d)
      valid_page wrapper d u = no_fault_valid T (graph L page) (root_of page) schema x.number wrapper faultless d u

      -- and has each field that is received
      has_fields : All (IsReceived service) (received_at x.act) → (d : Forest) → Unfolds T (graph L page) (length service.templates) d
          → All (HasField service (close d)) (received_at x.act)
      has_fields numbers d u = λ i y low.
          let rs = received_at x.act in
          let r = get_or rs i y in
          let G = graph L (page_graph service facts p) in
          let typed = typed_service t are.few f (shown_fact facts) in
          field_there T G (length service.templates) service x.number r (templates_plain service typed) (templates_agree service typed r.field)
          (numbers i y low) (λ g m. accepted.faultless g (inl (p, (x, at, some, inl (r, Contains-get_or rs i y low, m))))) d
          (subst (λ s. Unfolds T (graph L s) (length service.templates) d) (sym is) u)

  covered : (p : ℕ) (s : HasSummary facts p) (d : Forest) → CoversTree service (graph_of service (shown_fact facts p)) d
      → CoversTree service (graph L s.summary) d
  covered p s d h = subst (λ o. CoversTree service (graph_of service o) d) s.is_shown h

  gaps_known : (m : ℕ) → HasKnownGaps (length service.gaps) (T m)
  gaps_known m = known_gaps t are.few f (shown_fact facts) m

  some_is : {A : Type 0} (o : Option A) (a : A) → o ≡ Some a → o ≡ None → ⊥
  some_is o a e k = let d : None ≡ Some a = sym k ∙ e in absurd (cc)

  -- ---- shows

  module _ (k p : ℕ) (s : ShowsAt service k p) (d : Forest) (h : CoversTree service (graph_of service (shown_fact facts p)) d) (link : List ℕ) where
    show_summary : HasSummary facts p
    show_summary =
        has_summary p s.step s.is_at s.term (ap page_of s.acts)
        (subst (IsTypedAct service s.step.scope) s.acts (acts_typed p s.step s.is_at)).0

    abbrev show_summary_page : Summary
    show_summary_page = shown_page service (name_of service) show_summary.summary

    show_page_is : page_graph service facts p ≡ show_summary_page
    show_page_is = (λ i. page_in service (show_summary.is_shown i) (s.is_at i)) ∙ ap (page_by service show_summary.summary) s.acts

    show_some : page_of s.step.act ≡ None → ⊥
    show_some = some_is (page_of s.step.act) s.term (ap page_of s.acts)

    show_unfolds : Unfolds T (graph L show_summary_page) (length service.templates) (shown service.name link d)
    show_unfolds =
        let r = length service.templates in
        let sum = show_summary.summary in
        subst (λ G. Unfolds T G r (shown service.name link d))
        (sym (shown_is service few gaps_known sum show_summary.fine few.templates))
        (shown_unfolds T (is_gap service) r (length service.gaps) (title service few gaps_known) (graph L sum) service.name d (has_title service)
        (covered p show_summary d h) (target service few gaps_known) link refl (show_there service))

    pub show_valid : Valid schema (show_page service.name link d)
    show_valid =
        subst (Valid schema) (shown_closed service.name link d)
        (valid_page p s.step s.is_at show_some show_summary_page show_page_is (codes "html", [], _, show_there service) (shown service.name link d)
        show_unfolds)

    show_numbers : All (IsReceived service) (received_at s.step.act)
    show_numbers =
        subst (λ a. All (IsReceived service) (received_at a)) (sym s.acts)
        (received_have_numbers t p s.step s.term s.received s.is_at s.acts)

    pub show_fields : All (HasField service (show_page service.name link d)) (received_at s.step.act)
    show_fields =
        subst (λ page. All (HasField service page) (received_at s.step.act)) (shown_closed service.name link d)
        (has_fields p s.step s.is_at show_some show_summary_page show_page_is show_numbers (shown service.name link d) show_unfolds)

  -- ---- exits

  module _ (p : ℕ) (s : ExitsAt service p) (d : Forest) (h : CoversTree service (graph_of service (shown_fact facts p)) d) where
    exit_summary : HasSummary facts p
    exit_summary =
        has_summary p s.step s.is_at s.term (ap page_of s.acts) (subst (IsTypedAct service s.step.scope) s.acts (acts_typed p s.step s.is_at))

    abbrev exit_summary_page : Summary
    exit_summary_page = exited_page service (name_of service) exit_summary.summary

    exit_page_is : page_graph service facts p ≡ exit_summary_page
    exit_page_is = (λ i. page_in service (exit_summary.is_shown i) (s.is_at i)) ∙ ap (page_by service exit_summary.summary) s.acts

    exit_unfolds : Unfolds T (graph L exit_summary_page) (length service.templates + 1) (ended service.name d)
    exit_unfolds =
        let r = length service.templates + 1 in
        let sum = exit_summary.summary in
        let small : r < 2 ^ 32 = let k = (readable_is_small service t.readable).templates in omega (arith, k) in
        subst (λ G. Unfolds T G r (ended service.name d)) (sym (exited_is service few gaps_known sum exit_summary.fine small))
        (ended_unfolds T (is_gap service) r (length service.gaps) (title service few gaps_known) (graph L sum) service.name d (has_title service)
        (covered p exit_summary d h) (exit_there service))

    pub exit_valid : Valid schema (exit_page service.name d)
    exit_valid =
        subst (Valid schema) (ended_closed service.name d)
        (valid_page p s.step s.is_at (some_is (page_of s.step.act) s.term (ap page_of s.acts)) exit_summary_page exit_page_is
        (codes "html", [], _, exit_there service) (ended service.name d) exit_unfolds)
