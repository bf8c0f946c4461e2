-- The rows of facts are the least solution, and what they hold is what the facts answer.
use Rattle.std.specs.Prelude.{◌≡◌, ℕ, ◌<◌, true, List, [], length, is_some, option_map, slice_get, Option, Some, None}
use Rattle.std.proofs.Common.{refl, sym, ap, ◌∙◌, subst, arith}
use Rattle.std.proofs.lemmas.List.{get_or_default, length-map}
use Rattle.std.proofs.lemmas.Option.{slice_get-map}
use Rattle.bw_lang.specs.declared.service.Service.{Service}
use Rattle.bw_flow.specs.Steps.{Act, sets, tests, goes_over, shows, exits, joins, Step}
use Rattle.bw_solve.specs.System.{EachFits, family, rounds}
use Rattle.bw_types.specs.declared.typed.Typed.{Typed}
use Rattle.bw_types.specs.Scopes.{is_among}
use Rattle.bw_analyse.specs.declared.abstracts.Abstract.{Abstract}
use Rattle.bw_analyse.specs.declared.facts.Facts.{Facts}
use Rattle.bw_analyse.specs.Abstracts.{is_below}
use Rattle.bw_analyse.specs.Facts.{AreFacts, rows_of, local_in, local_fact, shared_fact, shown_fact, joined_option, page_of, summary_at, names_at}
use Rattle.bw_analyse.specs.Fits.{FitsCell}
use Rattle.bw_analyse.specs.Known.{local_names, of_name, of_local, of_shared}
use Rattle.bw_flow.specs.Layout.{flow_of}
use Rattle.bw_analyse.specs.Least.{rows, IsLeastSolution}
use Rattle.bw_analyse.specs.Rounds.{empty, round}
use Rattle.bw_analyse.specs.Rows.{each_below}
use Rattle.bw_analyse.proofs.PageLaws.{placed_get}
use Rattle.bw_sound.specs.Found.Laws.{FactsSayAnswers}
use Rattle.bw_sound.specs.Found.Seen.{seen, seen_some, scope_of, graph_of}
use Rattle.bw_sound.proofs.Found.Cells.{row_fits, last_fits}
use Rattle.bw_sound.proofs.Found.Rounds.{locals_there, variables_there}

-- there is a summary where there is a page
summary_there : (service : Service) (names : List ℕ → Abstract) (a : Act) → is_some (summary_at service names (page_of a)) ≡ is_some (page_of a)
summary_there service names (sets v e) = refl
summary_there service names (tests e) = refl
summary_there service names (goes_over v e) = refl
summary_there service names (shows e rs) = refl
summary_there service names (exits e) = refl
summary_there service names joins = refl

module _ (t : Typed) (facts : Facts) (h : AreFacts t.service facts) where
  abbrev service : Service
  service = t.service

  abbrev flow : List Step
  flow = flow_of service

  abbrev f : ℕ → List Abstract
  f = rows_of facts

  moved : (cell : ℕ) → cell < rows service → family (empty service flow) facts.rows cell ≡ f cell
  moved cell l = get_or_default facts.rows cell (empty service flow cell) [] (let e = h.solution.cells in omega arith)

  pub f_fits : EachFits (rows service) (FitsCell service) f
  f_fits cell l = subst (FitsCell service cell) (moved cell l) (h.solution.fits cell l)

  pub f_least : IsLeastSolution service f
  f_least = record {
    above = λ m cell l. subst (λ r. each_below is_below (rounds (empty service flow) (round service flow) m cell) r ≡ true) (moved cell l)
        (h.solution.least.above m cell l);
    reached = let r = h.solution.least.reached in
        (r.0, λ cell l. subst (λ z. each_below is_below z (rounds (empty service flow) (round service flow) r.0 cell) ≡ true) (moved cell l) (r.1 cell l));
  }

  -- ---- locals

  -- what is answered of a local, where this step stands at the point
  abbrev answer : ℕ → List ℕ → Option Step → Option Abstract
  answer p w o = local_in (f p) w (option_map (λ (x : Step). x.scope) o)

  local_is : (p : ℕ) (w : List ℕ) → local_fact facts p w ≡ answer p w (slice_get flow p)
  local_is p w = ap (local_in (f p) w) (ap (λ xs. slice_get xs p) h.scopes ∙ slice_get-map (λ (x : Step). x.scope) flow p)

  is_there : (p : ℕ) (w : List ℕ) (o : Option Step) → slice_get flow p ≡ o → is_some (answer p w o) ≡ is_among w (local_names (scope_of o))
  is_there p w None at = refl
  is_there p w (Some x) at = locals_there x.scope (f p) w (row_fits t h.few f (shown_fact facts) f f_fits p x at)

  is_seen : (p : ℕ) (w : List ℕ) (o : Option Step) (a : Abstract) → answer p w o ≡ Some a → seen_some service (of_local (scope_of o) (f p) w) ≡ seen service a
  is_seen p w None a e = absurd (cc)
  is_seen p w (Some x) a e = ap (seen_some service) e

  -- ---- shared variables

  shared_is : (w : List ℕ) → shared_fact facts w ≡ of_shared service.shared (f (length flow)) w
  shared_is w =
      let count : length facts.scopes.items ≡ length flow = ap length h.scopes ∙ length-map flow (λ (x : Step). x.scope) in
      λ i. of_name (h.variables i) (f (count i)) w

  -- ---- pages

  pub page_is : (p : ℕ) (x : Step) → slice_get flow p ≡ Some x
      → shown_fact facts p ≡ summary_at service (names_at service f (record { place = p; step = x })) (page_of x.act)
  page_is p x at =
      ap (λ xs. joined_option (slice_get xs p)) h.pages
      ∙ ap joined_option (placed_get (λ y. summary_at service (names_at service f y) (page_of y.step.act)) 0 flow p p x (omega arith) at)

pub facts_say_answers : FactsSayAnswers
facts_say_answers t facts h = record {
  locals = λ p w. ap is_some (local_is t facts h p w) ∙ is_there t facts h p w (slice_get (flow_of t.service) p) refl;
  local = λ p w a e. is_seen t facts h p w (slice_get (flow_of t.service) p) a (sym (local_is t facts h p w) ∙ e);
  variables = λ w. ap is_some (shared_is t facts h w)
      ∙ variables_there t.service.shared (rows_of facts (length (flow_of t.service))) w (last_fits t h.few (rows_of facts) (shown_fact facts) (rows_of facts)
      (f_fits t facts h));
  shared = λ w a e. ap (seen_some t.service) (sym (shared_is t facts h w) ∙ e);
  pages = λ p x at. ap is_some (page_is t facts h p x at)
      ∙ summary_there t.service (names_at t.service (rows_of facts) (record { place = p; step = x })) x.act;
  shown = λ p s e. ap (graph_of t.service) e;
}
