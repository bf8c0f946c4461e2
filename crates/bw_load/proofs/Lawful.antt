-- What the laws of loading ask of a service, every one has of which there are facts.
use Rattle.std.proofs.Common.{◌≡◌, ◌<◌, ◌≤◌, ℕ, ◌+◌, ◌^◌, Bool, true, List, length, Option, Some, None, refl, sym, ap, subst, ◌∙◌, arith}
use Rattle.std.specs.Prelude.{slice_get}
use Rattle.bw_analyse.specs.declared.abstracts.Abstract.{Abstract}
use Rattle.bw_analyse.specs.declared.abstracts.Abstract.TheVariants.{Nothing, Str, Html}
use Rattle.bw_analyse.specs.declared.facts.Facts.{Facts}
use Rattle.bw_analyse.specs.Facts.{AreFacts, summary_of, page_of, summary_at, names_at, rows_of, shown_fact}
use Rattle.bw_analyse.specs.Fits.{Fits}
use Rattle.bw_analyse.specs.Known.{look, known}
use Rattle.bw_analyse.specs.Lawful.KindLaws.{all_itself}
use Rattle.bw_analyse.specs.Lawful.StepLaws.{HasFew, expression_up}
use Rattle.bw_analyse.specs.Lawful.TypedSystem.{few_of}
use Rattle.bw_flow.specs.Layout.{flow_of}
use Rattle.bw_cover.proofs.ContentGaps.{content_has_no_hole}
use Rattle.bw_flow.specs.Flows.{is_show}
use Rattle.bw_flow.specs.Steps.{Act, sets, tests, goes_over, shows, exits, joins, Step}
use Rattle.bw_flow.specs.TypedFlow.{HasKindAt, IsTypedAct}
use Rattle.bw_lang.proofs.Small.{readable_is_small}
use Rattle.bw_lang.specs.declared.service.Service.{Service}
use Rattle.bw_lang.specs.declared.stmt.Kind.TheVariants as kinds
use Rattle.bw_lang.specs.Service.Term.{Term}
use Rattle.bw_load.specs.SumLaws.{IsLawful, TypedIsLawful}
use Rattle.bw_saved.proofs.Codecs.{some_is}
use Rattle.bw_saved.specs.Documents.Demands.{IsSmall}
use Rattle.bw_sound.proofs.Found.Cells.{typed_flow, typed_service, known_gaps, row_fits, last_fits}
use Rattle.bw_sound.proofs.Found.Told.{f_fits, page_is}
use Rattle.bw_strings.specs.Literals.{literals_of}
use Rattle.bw_sum.specs.declared.summary.Summary.{Summary}
use Rattle.bw_sum.specs.Small.{IsWellFormed}
use Rattle.bw_types.specs.declared.typed.Typed.{Typed}

pub typed_is_small : (t : Typed) → IsSmall t.service
typed_is_small t =
    let s = readable_is_small t.service t.readable in
    record { templates = omega (arith, s.templates); gaps = omega (arith, s.gaps) }

pub typed_is_lawful : TypedIsLawful
typed_is_lawful t facts are =
    let few = few_of t are.few in
    let f = rows_of facts in
    record {
      templates = few.templates;
      gaps = few.gaps;
      known = known_gaps t are.few f (shown_fact facts);
      content = content_has_no_hole t.service (typed_service t are.few f (shown_fact facts)).gaps;
      literals = few.literals;
    }

-- ---- the summaries of shows are well formed

summary_fine : (a : Abstract) → Fits kinds.Html a → IsWellFormed (summary_of a)
summary_fine Nothing h = absurd h
summary_fine (Str s) h = absurd h
summary_fine (Html s) h = h

module _ (t : Typed) (facts : Facts) (are : AreFacts t.service facts) where
  abbrev service : Service
  service = t.service

  abbrev f : ℕ → List Abstract
  f = rows_of facts

  abbrev behind : ℕ
  behind = length (flow_of service)

  few : HasFew service
  few = few_of t are.few

  module _ (p : ℕ) (x : Step) (at : slice_get (flow_of service) p ≡ Some x) where
    document_fine : (e : Term) (cell : Summary) → HasKindAt service x.scope e kinds.Html
        → summary_at service (names_at service f (record { place = p; step = x })) (Some e) ≡ Some cell → IsWellFormed cell
    document_fine e cell html is =
        let v = known service (look service x.scope (f p) (f behind)) e in
        subst IsWellFormed (some_is (summary_of v) cell is)
        (summary_fine v (expression_up service few x.scope (f p) (f p) (f behind) (f behind)
        (all_itself _ (f p) (row_fits t are.few f (shown_fact facts) f (f_fits t facts are) p x at))
        (all_itself _ (f behind) (last_fits t are.few f (shown_fact facts) f (f_fits t facts are))) e kinds.Html html).0)

    by_act : (a : Act) → is_show a ≡ true → IsTypedAct service x.scope a → (cell : Summary)
        → summary_at service (names_at service f (record { place = p; step = x })) (page_of a) ≡ Some cell → IsWellFormed cell
    by_act (shows e rs) h typed cell is = document_fine e cell typed.0 is
    by_act (sets w e) h typed cell is = absurd (cc)
    by_act (tests e) h typed cell is = absurd (cc)
    by_act (goes_over w e) h typed cell is = absurd (cc)
    by_act (exits e) h typed cell is = absurd (cc)
    by_act joins h typed cell is = absurd (cc)

    pub page_formed : is_show x.act ≡ true → (cell : Summary) → shown_fact facts p ≡ Some cell → IsWellFormed cell
    page_formed shown cell e =
        by_act x.act shown ((typed_flow t are.few f (shown_fact facts)).acts p x at) cell (sym (page_is t facts are p x at) ∙ e)
