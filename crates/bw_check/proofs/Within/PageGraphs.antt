-- The graph of each page begins as a wrapper, and names only templates of the service, the wrappers, and literals of the service.
use Rattle.std.proofs.Common.{◌≡◌, ℕ, ◌+◌, ◌<◌, List, [], ◌∷◌, length, Option, Some, None, refl, sym, ap, ◌∙◌, subst, inl, inr, arith, ◌⊎◌}
use Rattle.std.specs.Prelude.{slice_get}
use Rattle.bw_lang.proofs.Small.{readable_is_woven}
use Rattle.bw_lang.specs.declared.service.Service.{Service}
use Rattle.bw_solve.specs.System.{family}
use Rattle.bw_strings.specs.declared.strings.StrSet.{StrSet}
use Rattle.bw_strings.specs.declared.strings.StrSet.TheVariants.{Any}
use Rattle.bw_strings.specs.Literals.{literals_of}
use Rattle.bw_sum.specs.declared.summary.Summary.{Summary}
use Rattle.bw_sum.specs.Constants.{constant_of}
use Rattle.bw_sum.specs.Summaries.{plugged, plugged_text}
use Rattle.bw_sum.specs.Templates.{template_items}
use Rattle.bw_types.specs.declared.typed.Typed.{Typed}
use Rattle.bw_flow.specs.Steps.{Act, sets, tests, goes_over, shows, exits, joins, Step}
use Rattle.bw_shape.specs.Outlines.{IsPageGraph}
use Rattle.bw_analyse.specs.declared.abstracts.Abstract.{Abstract}
use Rattle.bw_analyse.specs.declared.abstracts.Abstract.TheVariants.{Nothing, Str, Html}
use Rattle.bw_analyse.specs.declared.facts.Facts.{Facts}
use Rattle.bw_analyse.specs.Abstracts.{no_document}
use Rattle.bw_analyse.specs.Facts.{AreFacts, summary_of, page_of, summary_at, names_at, rows_of, joined_option, shown_fact}
use Rattle.bw_analyse.specs.Known.{known}
use Rattle.bw_flow.specs.Layout.{flow_of}
use Rattle.bw_analyse.specs.Least.{rows}
use Rattle.bw_analyse.specs.Pages.{show_constant, exit_constant, shown_page, exited_page, name_of, page_by, page_at, page_graph}
use Rattle.bw_analyse.specs.Rounds.{Placed, empty}
use Rattle.bw_analyse.specs.Lawful.SystemLaws.{get_below}
use Rattle.bw_analyse.proofs.PageLaws.{placed_get}
use Rattle.bw_analyse.proofs.RoundLaws.{family_same}
use Rattle.bw_check.proofs.Within.Acts.{every}
use Rattle.bw_check.proofs.Within.Kept.{literals_both, AreStrings, IsKept, AreKept, known_kept, look_kept, rounds_kept}
use Rattle.bw_check.proofs.Within.Named.{ActLiterals, name_named, point_literals}
use Rattle.bw_check.proofs.Within.OneSolution.{is_round}
use Rattle.bw_check.proofs.Within.Within.{IsWithin, within_more, constant_within, plug_within, text_within}
use Rattle.bw_check.specs.Within.Laws.{PagesAreGraphs}

module _ (service : Service) where
  abbrev bound : ℕ
  bound = length service.templates

  abbrev IsOfPage : Summary → Type 0
  IsOfPage s = IsWithin (bound + 2) (AreStrings service) s

  -- a page within the templates and the wrappers, whose root is a wrapper
  graph_of : (s : Summary) → ((s.roots ≡ bound ∷ []) ⊎ (s.roots ≡ (bound + 1) ∷ [])) → IsOfPage s → IsPageGraph service s
  graph_of s r w = record { root = r; edges = every _ s.edges w.edges; tracks = every _ s.tracks w.tracks; texts = every _ s.texts w.texts }

  abbrev gaps : ℕ
  gaps = length service.gaps

  wrapper_within : (n : ℕ) → n < bound + 2 → IsOfPage (constant_of n (template_items service n) gaps)
  wrapper_within n l = constant_within (bound + 2) (AreStrings service) (literals_both (literals_of service)) n (template_items service n) gaps l

  string_within : (s : Summary) (g : ℕ) (r : StrSet) → IsOfPage s → AreStrings service r → IsOfPage (plugged_text s g r)
  string_within s g r h k = text_within (bound + 2) (AreStrings service) (literals_both (literals_of service)) s g r h k

  document_within : (s : Summary) (g : ℕ) (d : Summary) → IsOfPage s → IsWithin bound (AreStrings service) d → IsOfPage (plugged s g d)
  document_within s g d h k =
      plug_within (bound + 2) (AreStrings service) (literals_both (literals_of service)) s g d h
      (within_more bound (bound + 2) (AreStrings service) d (omega arith) k)

  titled_within : (s : Summary) → IsOfPage s → IsOfPage (plugged_text s gaps (name_of service))
  titled_within s h = string_within s gaps (name_of service) h (name_named service, tt)

  shown_graph : (d : Summary) → IsWithin bound (AreStrings service) d → IsPageGraph service (shown_page service (name_of service) d)
  shown_graph d h =
      let title = plugged_text (show_constant service) gaps (name_of service) in
      graph_of (shown_page service (name_of service) d) (inl refl)
      (document_within (plugged_text title (gaps + 1) Any) (gaps + 2) d
      (string_within title (gaps + 1) Any (titled_within (show_constant service) (wrapper_within bound (omega arith))) tt) h)

  exited_graph : (d : Summary) → IsWithin bound (AreStrings service) d → IsPageGraph service (exited_page service (name_of service) d)
  exited_graph d h =
      graph_of (exited_page service (name_of service) d) (inr refl)
      (document_within (plugged_text (exit_constant service) gaps (name_of service)) (gaps + 2) d
      (titled_within (exit_constant service) (wrapper_within (bound + 1) (omega arith))) h)

  summary_kept : (a : Abstract) → IsKept service a → IsWithin bound (AreStrings service) (summary_of a)
  summary_kept Nothing h = record { roots = tt; edges = tt; texts = tt; tracks = tt }
  summary_kept (Str s) h = record { roots = tt; edges = tt; texts = tt; tracks = tt }
  summary_kept (Html s) h = h

  -- the page of what a point does, if it has a document
  abbrev page_made : Option Summary → Act → Summary
  page_made None act = no_document
  page_made (Some d) act = page_by service d act

  page_is : (o : Option Summary) (x : Step) → page_at service o (Some x) ≡ page_made o x.act
  page_is None x = refl
  page_is (Some d) x = refl

  made_graph : (names : List ℕ → Abstract) → ((w : List ℕ) → IsKept service (names w)) → (act : Act) → ActLiterals service act
      → (page_of act ≡ None → ⊥) → IsPageGraph service (page_made (summary_at service names (page_of act)) act)
  made_graph names kept (shows e rs) h some =
      shown_graph (summary_of (known service names e)) (summary_kept (known service names e) (known_kept service names kept e h))
  made_graph names kept (exits e) h some =
      exited_graph (summary_of (known service names e)) (summary_kept (known service names e) (known_kept service names kept e h))
  made_graph names kept (sets v e) h some = absurd (some refl)
  made_graph names kept (tests e) h some = absurd (some refl)
  made_graph names kept (goes_over v e) h some = absurd (some refl)
  made_graph names kept joins h some = absurd (some refl)

-- ---- the facts of a service

row_kept : (t : Typed) (facts : Facts) → AreFacts t.service facts → (c : ℕ) → c < rows t.service → AreKept t.service (rows_of facts c)
row_kept t facts are c l =
    let s = are.solution in
    let r = is_round t are.few (family (empty t.service (flow_of t.service)) facts.rows) s.fits s.least in
    subst (AreKept t.service) (sym (family_same t.service (flow_of t.service) facts.rows s.cells c l ∙ r.1 c l))
    (rounds_kept t.service (readable_is_woven t.service t.readable) r.0 c)

pub pages_are_graphs : (t : Typed) → PagesAreGraphs t.service
pages_are_graphs t facts p are (x, at, some) =
    let service = t.service in
    let below = get_below (flow_of service) p x at in
    let here : Placed = record { place = p; step = x } in
    let names = names_at service (rows_of facts) here in
    let shown : shown_fact facts p ≡ summary_at service names (page_of x.act) =
    ap (λ pages. joined_option (slice_get pages p)) are.pages
    ∙ ap joined_option (placed_get (λ y. summary_at service (names_at service (rows_of facts) y) (page_of y.step.act)) 0 (flow_of service) p p x
    (omega arith) at) in
    let is : page_graph service facts p ≡ page_made service (summary_at service names (page_of x.act)) x.act =
    (λ i. page_at service (shown i) (at i)) ∙ page_is service (summary_at service names (page_of x.act)) x in
    subst (IsPageGraph service) (sym is)
    (made_graph service names (look_kept service x.scope (rows_of facts p) (rows_of facts (length (flow_of service)))
    (row_kept t facts are p (omega arith)) (row_kept t facts are (length (flow_of service)) (omega arith))) x.act
    (point_literals service (readable_is_woven service t.readable) p x at) some)
