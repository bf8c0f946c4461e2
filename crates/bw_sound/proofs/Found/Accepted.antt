-- The facts of a typed service of which no plug may miss its gap are accepted by the laws of covering.
use Rattle.std.specs.Prelude.{◌≡◌, ℕ, true, List}
use Rattle.std.specs.Prelude.{length, slice_get, Some}
use Rattle.std.proofs.Common.{refl, sym, ap, ◌∙◌, subst, inl, inr}
use Rattle.std.proofs.lemmas.Bool.{false≢true, cases_Bool}
use Rattle.bw_lang.specs.declared.service.Service.{Service}
use Rattle.bw_lang.specs.declared.stmt.Kind.{Kind}
use Rattle.bw_lang.specs.declared.stmt.Kind.TheVariants as kinds
use Rattle.bw_lang.specs.Table.Names.{name_number}
use Rattle.bw_lang.specs.Service.Term.{Term, int, truth, string, name, paren, not as negated, neg, binary, call, plug, nothing, Fillings, no_more, filling}
use Rattle.bw_strings.specs.Literals.{literals_of, term_strings, filling_strings}
use Rattle.bw_sum.specs.Graph.{IsBelow}
use Rattle.bw_types.specs.declared.typed.Typed.{Typed}
use Rattle.bw_types.specs.ExpressionFaults.{fun_takes}
use Rattle.bw_types.specs.Scopes.{shared_kind}
use Rattle.bw_types.specs.Typing.{AreTyped}
use Rattle.bw_flow.specs.Scopes.{kind_in}
use Rattle.bw_flow.specs.Steps.{Act, sets, tests, goes_over, shows, exits, joins, Step}
use Rattle.bw_flow.specs.TypedFlow.{names_at, HasKindAt, IsTypedAct}
use Rattle.bw_flow.specs.Flows.{is_show}
use Rattle.bw_flow.proofs.Names.{kind_in_is}
use Rattle.bw_cover.specs.Abstracts as cover
use Rattle.bw_cover.specs.Abstracts.{EachPair, EachFilling, IsNotLacked}
use Rattle.bw_cover.specs.Facts.{Facts as CoverFacts, look as looked}
use Rattle.bw_cover.specs.FlowKinds.{ActHasGaps, ActShows, SolvesPlaces}
use Rattle.bw_cover.specs.Kinds.{IsOf, LocalsAreOf, SharedAreOf, summary_of}
use Rattle.bw_cover.proofs.FlowKinds.{solved_places_are_accepted}
use Rattle.bw_cover.proofs.Flows.{flow_least_obeys}
use Rattle.bw_cover.proofs.FlowWorlds.{flow_empty_is_covered, flow_worlds_are_covered}
use Rattle.bw_analyse.specs.declared.abstracts.Abstract.{Abstract}
use Rattle.bw_analyse.specs.declared.abstracts.Abstract.TheVariants.{Nothing, Str, Html}
use Rattle.bw_analyse.specs.declared.facts.Facts.{Facts}
use Rattle.bw_analyse.specs.Abstracts.{plugged_by}
use Rattle.bw_analyse.specs.Facts as own
use Rattle.bw_analyse.specs.Facts.{AreFacts, rows_of, shown_fact, page_of, summary_at}
use Rattle.bw_analyse.specs.Fits.{Fits}
use Rattle.bw_analyse.specs.GapFaults.{lacks, Misses, FillingMisses, term_of, gap_fault}
use Rattle.bw_analyse.specs.Lawful.KindLaws.{all_itself}
use Rattle.bw_analyse.specs.Known.{local_names, of_local, of_shared, look, known}
use Rattle.bw_flow.specs.Layout.{flow_of}
use Rattle.bw_analyse.specs.Rounds.{empty}
use Rattle.bw_analyse.specs.Lawful.StepLaws.{local_up, shared_up, expression_up}
use Rattle.bw_sound.specs.Found.Laws.{HasNoGapFault, NoneIsListed, FactsSolve, FactsAreAccepted, FactsCoverWorlds}
use Rattle.bw_sound.specs.Found.Seen.{seen, seen_some, scope_of, graph_of, cells_of, facts_of, known_of, ends, ends_at}
use Rattle.bw_sound.proofs.Found.Told.{f_fits, f_least, page_is}
use Rattle.bw_sound.proofs.Found.Cells.{few, woven, typed_flow, row_fits, last_fits, known_at, cells_agree, cells_are_least}
use Rattle.bw_check.proofs.Within.Named.{AreNamed, two_named, HasLiterals, ActLiterals, point_literals}
use Rattle.bw_sound.proofs.Found.KindLaws.{of_kind, summary_seen, same_below, plug_fits}
use Rattle.bw_sound.proofs.Found.Places.{show_placed}
use Rattle.bw_sound.proofs.Found.Seen.{plugged_seen}

module _ (t : Typed) (facts : Facts) (h : AreFacts t.service facts) (never : HasNoGapFault t.service facts) where
  abbrev service : Service
  service = t.service

  abbrev flow : List Step
  flow = flow_of service

  abbrev n : ℕ
  n = length flow

  abbrev f : ℕ → List Abstract
  f = rows_of facts

  abbrev F : CoverFacts ℕ
  F = facts_of service f (shown_fact facts)

  shared_of : SharedAreOf service F
  shared_of w kind e =
      let row = last_fits t h.few f (shown_fact facts) f (f_fits t facts h) in
      of_kind service (shared_kind service w) (of_shared service.shared (f n) w) kind e
      (shared_up service.shared (f n) (f n) w (all_itself _ (f n) row))

  -- ---- at a point

  module _ (p : ℕ) (x : Step) (at : slice_get flow p ≡ Some x) where
    abbrev names : List ℕ → Abstract
    names = look service x.scope (f p) (f n)

    locals_of : LocalsAreOf F p (names_at x.scope)
    locals_of w kind e =
        subst (λ o. IsOf kind (seen_some service (of_local (scope_of o) (f p) w))) (sym at)
        (of_kind service (kind_in x.scope w) (of_local x.scope (f p) w) kind (sym (kind_in_is x.scope w) ∙ e)
        (local_up x.scope (f p) (f p) w (all_itself _ (f p) (row_fits t h.few f (shown_fact facts) f (f_fits t facts h) p x at))))

    is_known : (e : Term) (kind : Kind) → HasKindAt service x.scope e kind → HasLiterals service e
        → seen service (known service names e) ≡ cover.known service (looked service F p) e
    is_known e kind k l =
        known_at t h.few f (shown_fact facts) f (f_fits t facts h) (cells_of service f) (cells_agree t h.few f (shown_fact facts) f) p x at e kind k l

    is_kind : (e : Term) (kind : Kind) → HasKindAt service x.scope e kind → Fits kind (known service names e)
    is_kind e kind k =
        (expression_up service (few t h.few f (shown_fact facts)) x.scope (f p) (f p) (f n) (f n)
        (all_itself _ (f p) (row_fits t h.few f (shown_fact facts) f (f_fits t facts h) p x at)) (all_itself _ (f n)
        (last_fits t h.few f (shown_fact facts) f (f_fits t facts h))) e kind k).0

    -- ---- plugs

    not_lacks : (v : Abstract) (k : ℕ) (b : cover.Abstract) → (lacks v k ≡ true → ⊥) → IsNotLacked (seen service v) k b
    not_lacks Nothing k b never = tt
    not_lacks (Str s) k b never = tt
    not_lacks (Html s) k b never = elim (cases_Bool (lacks (Html s) k)) [ inl e ↦ absurd (never e) | inr e ↦ e ]

    mutual
      has_gaps : (e : Term) (kind : Kind) → HasKindAt service x.scope e kind → HasLiterals service e → ((w : List ℕ) → Misses service names e w → ⊥)
          → EachPair IsNotLacked service (looked service F p) e
      has_gaps (int z) kind k l never = tt
      has_gaps (truth b) kind k l never = tt
      has_gaps (string s) kind k l never = tt
      has_gaps nothing kind k l never = tt
      has_gaps (name w) kind k l never = tt
      has_gaps (paren e) kind k l never = has_gaps e kind k l never
      has_gaps (negated e) kind k l never = has_gaps e kinds.Bool k.0 l never
      has_gaps (neg e) kind k l never = has_gaps e kinds.Int k.0 l never
      has_gaps (call g e) kind k l never = has_gaps e (fun_takes g) k.0 l never
      has_gaps (binary op a b) kind k l never =
          let parts = two_named (literals_of service) (term_strings a) (term_strings b) l in
          (has_gaps a k.0 k.1 parts.0 (λ w m. never w (inl m)), has_gaps b k.0 k.2 parts.1 (λ w m. never w (inr m)))
      has_gaps (plug b ps) kind k l never =
          let parts = two_named (literals_of service) (term_strings b) (filling_strings ps) l in (
            has_gaps b kinds.Html k.0 parts.0 (λ w m. never w (inl m)),
            have_gaps ps (known service names b) (cover.known service (looked service F p) b) (is_kind b kinds.Html k.0)
                (is_known b kinds.Html k.0 parts.0) k.1 parts.1
                (λ w m. never w (inr m)),
          )

      have_gaps : (ps : Fillings) (v : Abstract) (u : cover.Abstract) → Fits kinds.Html v → seen service v ≡ u → AreTyped service (names_at x.scope) ps
          → AreNamed (literals_of service) (filling_strings ps) → ((w : List ℕ) → FillingMisses service names ps v w → ⊥)
          → EachFilling IsNotLacked service (looked service F p) ps u
      have_gaps no_more v u k e a l never = tt
      have_gaps (filling g e ps) v u k s a l never =
          let parts = two_named (literals_of service) (term_strings e) (filling_strings ps) l in
          let i = name_number service.gaps g in
          let one = known service names e in
          let fit = is_kind e a.0.1 a.0.3 in
          let two = is_known e a.0.1 a.0.3 parts.0 in (
            subst (λ z. IsNotLacked z i (cover.known service (looked service F p) e)) s
                (not_lacks v i (cover.known service (looked service F p) e) (λ m. never g (inl (inr (m, refl))))),
            has_gaps e a.0.1 a.0.3 parts.0 (λ w m. never w (inl (inl m))),
            have_gaps ps (plugged_by v i one) (cover.plugged_by u i (cover.known service (looked service F p) e))
                (plug_fits service (few t h.few f (shown_fact facts)).gaps a.0.0 a.0.1 v one g a.0.4 k fit)
                (plugged_seen service a.0.0 a.0.1 v one i a.0.4 k fit ∙ (λ j. cover.plugged_by (s j) i (two j))) a.1 parts.1 (λ w m. never w (inr m)),
          )

    misses_none : (e : Term) → term_of x.act ≡ Some e → (w : List ℕ) → Misses service names e w → ⊥
    misses_none e k w m = never (gap_fault x.number w) (p, x, at, (e, k, (m, refl)))

    act_gaps : (a : Act) → x.act ≡ a → IsTypedAct service x.scope a → ActLiterals service a → ActHasGaps service F p a
    act_gaps (sets w e) k i l = has_gaps e i.0 i.1 l (misses_none e (ap term_of k))
    act_gaps (tests e) k i l = has_gaps e kinds.Bool i l (misses_none e (ap term_of k))
    act_gaps (goes_over w e) k i l = has_gaps e kinds.Strs i.1 l (misses_none e (ap term_of k))
    act_gaps (shows e rs) k i l = has_gaps e kinds.Html i.0 l (misses_none e (ap term_of k))
    act_gaps (exits e) k i l = has_gaps e kinds.Html i l (misses_none e (ap term_of k))
    act_gaps joins k i l = tt

    -- ---- pages

    shown_is : (e : Term) → page_of x.act ≡ Some e → shown_fact facts p ≡ Some (own.summary_of (known service names e))
    shown_is e k = page_is t facts h p x at ∙ ap (summary_at service names) k

    page_below : (e : Term) → page_of x.act ≡ Some e → HasKindAt service x.scope e kinds.Html → HasLiterals service e
        → IsBelow (summary_of (cover.known service (looked service F p) e)) (F.shown p)
    page_below e k i l =
        same_below _ _ (ap summary_of (sym (is_known e kinds.Html i l)) ∙ summary_seen service (known service names e) (is_kind e kinds.Html i)
        ∙ sym (ap (graph_of service) (shown_is e k)))

    act_shows : (a : Act) → x.act ≡ a → IsTypedAct service x.scope a → ActLiterals service a → ActShows service F p x.number a
    act_shows (sets w e) k i l = tt
    act_shows (tests e) k i l = tt
    act_shows (goes_over w e) k i l = tt
    act_shows (shows e rs) k i l = (page_below e (ap page_of k) i.0 l, show_placed service p x at (ap is_show k))
    act_shows (exits e) k i l = (page_below e (ap page_of k) i l, ap (λ o. ends_at o) at ∙ ap ends k)
    act_shows joins k i l = tt

  -- ---- all of it

  solved : SolvesPlaces service F
  solved =
      let obeyed = flow_least_obeys service F flow (cells_of service (empty service flow)) (cells_of service f)
      (cells_are_least t h.few f (shown_fact facts) f (f_fits t facts h) (f_least t facts h)) in
      record {
        readable = t.readable;
        typed = t.well_typed;
        literals = obeyed.1;
        kinds = shared_of;
        points = λ p x at. record {
          scope = ap (λ o. local_names (scope_of o)) at;
          kinds = locals_of p x at;
          leads = obeyed.0 p x at;
          gaps = act_gaps p x at x.act refl ((typed_flow t h.few f (shown_fact facts)).acts p x at)
              (point_literals service (woven t h.few f (shown_fact facts)) p x at);
          shows = act_shows p x at x.act refl ((typed_flow t h.few f (shown_fact facts)).acts p x at)
              (point_literals service (woven t h.few f (shown_fact facts)) p x at);
        };
      }

pub none_is_listed : NoneIsListed
none_is_listed s facts h f g = absurd (false≢true (h.whole f g))

pub facts_solve : FactsSolve
facts_solve t facts h never = solved t facts h never

pub facts_are_accepted : FactsAreAccepted
facts_are_accepted t facts h never = solved_places_are_accepted t.service (known_of t.service facts) (solved t facts h never)

pub facts_cover_worlds : FactsCoverWorlds
facts_cover_worlds t facts h never =
    let a = facts_are_accepted t facts h never in
    (flow_empty_is_covered t.service (known_of t.service facts) a, flow_worlds_are_covered t.service (known_of t.service facts) a)
