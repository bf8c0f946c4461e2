-- What is loaded is a sound world: all of it is covered, session by session, and its documents are made of templates.
use Rattle.std.proofs.Common.{◌≡◌, ◌<◌, ℕ, ◌+◌, Bool, true, false, cond, List, [], ◌∷◌, length, map, Option, Some, None, refl, sym, ap, subst, ◌∙◌, arith}
use Rattle.std.specs.Prelude.{is_some, find, option_map, position, slice_get, unwrap_or, nat_lt}
use Rattle.std.specs.List.{AllByRecursion, list_all}
use Rattle.std.proofs.lemmas.Option.{slice_get-map}
use Rattle.std.proofs.lemmas.List.{length-map}
use Rattle.bw_analyse.specs.declared.abstracts.Abstract.{Abstract}
use Rattle.bw_analyse.specs.declared.facts.Facts.{Facts}
use Rattle.bw_analyse.specs.Facts.{AreFacts, rows_of, local_in, local_fact, shared_fact, shown_fact}
use Rattle.bw_analyse.specs.Fits.{AllFit}
use Rattle.bw_analyse.specs.Known.{local_names, shared_names, of_name, of_local, of_shared}
use Rattle.bw_sound.specs.Found.Seen.{seen, scope_of, place_of, known_of}
use Rattle.bw_sound.proofs.Found.Cells.{row_fits, last_fits}
use Rattle.bw_sound.proofs.Found.Places.{show_placed}
use Rattle.bw_sound.proofs.Found.Told.{f_fits, facts_say_answers}
use Rattle.bw_sound.specs.Worlds.{IsSoundWorld}
use Rattle.bw_saved.proofs.Codecs.{some_is, bind_some, guarded}
use Rattle.bw_saved.specs.Fields.Reading.{◌>>=◌}
use Rattle.bw_cover.specs.Abstracts.{covers, CoversTree}
use Rattle.bw_cover.specs.Covered.{CoversLocals, CoversShared}
use Rattle.bw_cover.specs.Facts.{Facts as Known}
use Rattle.bw_cover.specs.Worlds.{CoversOrigin, CoversTalk}
use Rattle.bw_model.specs.Sessions.{Live}
use Rattle.bw_eval.specs.declared.value.Value.{Value}
use Rattle.bw_eval.specs.View as view
use Rattle.bw_flow.specs.declared.point.Local.{Local}
use Rattle.bw_flow.specs.Flows.{is_statement}
use Rattle.bw_flow.specs.Layout.{plan_of, flow_of}
use Rattle.bw_flow.specs.Steps.{Step}
use Rattle.bw_run.specs.Follow.Kinds.{kinds_in}
use Rattle.bw_flow.specs.Flows.{is_show}
use Rattle.bw_lang.specs.declared.service.Service.{Service}
use Rattle.bw_lang.specs.declared.service.Shared.{Shared}
use Rattle.bw_lang.specs.declared.stmt.Kind.{Kind}
use Rattle.bw_lang.specs.Table.Names.{beside}
use Rattle.bw_load.specs.Loaded.{LoadedIsSound, origin_of, live_of, world_of}
use Rattle.bw_load.specs.Loads.{is_shared_below, are_locals_below, is_page_below, is_session_below, first_uncovered, uncovered}
use Rattle.bw_load.proofs.Variables.{all_covered, all_named, all_say, kinds_only, names_only}
use Rattle.bw_meaning.specs.Values as meaning
use Rattle.bw_run.specs.Walks.{number_at, number_of}
use Rattle.bw_saved.specs.declared.saved.Record.{Record}
use Rattle.bw_saved.specs.declared.saved.Saved.{Saved}
use Rattle.bw_saved.specs.Sessions.Reading.{show_at, if_shows, is_own}
use Rattle.bw_saved.specs.Sessions.Demands.{IsSaved, IsSession}
use Rattle.bw_load.specs.Cells.{is_cell_below}
use Rattle.bw_load.specs.SumLaws.{IsLawful}
use Rattle.bw_load.proofs.Lawful.{typed_is_lawful, page_formed}
use Rattle.bw_load.proofs.Made.{world_made}
use Rattle.bw_load.specs.Sums.{sum_of}
use Rattle.bw_load.proofs.SumCovers.{sum_covers}
use Rattle.bw_saved.specs.Values.Demands.{AreVariables}
use Rattle.bw_strings.specs.Literals.{literals_of}
use Rattle.bw_sum.specs.declared.summary.Summary.{Summary}
use Rattle.bw_sum.specs.Small.{IsWellFormed}
use Rattle.bw_sum.specs.Summaries.{is_below}
use Rattle.bw_sum.specs.Templates.{template_items}
use Rattle.bw_sum.proofs.Kept.{below_covers}
use Rattle.bw_sum.proofs.WellFormed.{well_formed_alike}
use Rattle.bw_types.specs.declared.typed.Typed.{Typed}
use Rattle.bw_types.specs.Scopes.{is_among, shared_kinds}

-- ---- names and kinds

local_kinds : (ls : List Local) → kinds_only (kinds_in ls) ≡ map (λ (l : Local). l.kind) ls
local_kinds [] = refl
local_kinds (l ∷ ls) = ap (λ (ks : List Kind). l.kind ∷ ks) (local_kinds ls)

local_names_are : (ls : List Local) → names_only (kinds_in ls) ≡ local_names ls
local_names_are [] = refl
local_names_are (l ∷ ls) = ap (λ (ns : List (List ℕ)). l.name ∷ ns) (local_names_are ls)

shared_kinds_are : (vs : List Shared) → kinds_only (map (λ (v : Shared). (v.name, v.kind)) vs) ≡ map (λ (v : Shared). v.kind) vs
shared_kinds_are [] = refl
shared_kinds_are (v ∷ vs) = ap (λ (ks : List Kind). v.kind ∷ ks) (shared_kinds_are vs)

shared_names_are : (vs : List Shared) → names_only (map (λ (v : Shared). (v.name, v.kind)) vs) ≡ shared_names vs
shared_names_are [] = refl
shared_names_are (v ∷ vs) = ap (λ (ns : List (List ℕ)). v.name ∷ ns) (shared_names_are vs)

cond_none : (b : Bool) (o : Option ℕ) (k : ℕ) → cond b o (Some k) ≡ None → (b ≡ true) × (o ≡ None)
cond_none true o k e = (refl, e)
cond_none false o k e = absurd cc

cond_true : (b c : Bool) → cond b c false ≡ true → (b ≡ true) × (c ≡ true)
cond_true true c e = (refl, e)
cond_true false c e = absurd cc

if_shows_at : (q p : ℕ) (o : Option Step) (x : Step) → if_shows q o ≡ Some p → o ≡ Some x → (q ≡ p) × (is_show x.act ≡ true)
if_shows_at q p None x e at = absurd cc
if_shows_at q p (Some y) x e at =
    let g = guarded (is_show y.act) (Some q) p e in
    (some_is q p g.1, subst (λ (z : Step). is_show z.act ≡ true) (some_is y x at) g.0)

shows_here : (q p : ℕ) (steps : List Step) (x : Step) → if_shows q (slice_get steps q) ≡ Some p → slice_get steps p ≡ Some x → is_show x.act ≡ true
shows_here q p steps x e at =
    let same = place_same q p (slice_get steps q) e in
    (if_shows_at q p (slice_get steps q) x e (ap (slice_get steps) same ∙ at)).1
  where
    place_same : (q p : ℕ) (o : Option Step) → if_shows q o ≡ Some p → q ≡ p
    place_same q p None e = absurd cc
    place_same q p (Some y) e = some_is q p (guarded (is_show y.act) (Some q) p e).1

module _ (t : Typed) (facts : Facts) (are : AreFacts t.service facts) where
  abbrev service : Service
  service = t.service

  lawful : IsLawful service
  lawful = typed_is_lawful t facts are

  abbrev flow : List Step
  flow = flow_of service

  abbrev f : ℕ → List Abstract
  f = rows_of facts

  abbrev F : Known ℕ
  F = known_of service facts

  -- ---- shared variables

  shared_row : (w : List ℕ) → shared_fact facts w ≡ of_shared service.shared (f (length flow)) w
  shared_row w =
      let count : length facts.scopes.items ≡ length flow = ap length are.scopes ∙ length-map flow (λ (x : Step). x.scope) in
      λ i. of_name (are.variables i) (f (count i)) w

  shared_covered : (s : Saved) → IsSaved service s → is_shared_below service facts s ≡ true → CoversShared service F (view.values s.shared)
  shared_covered s saved below = record {
    names = λ w. all_named service (shared_kinds service) s.shared saved.shared w ∙ ap (λ (ns : List (List ℕ)). is_among w ns)
        (shared_names_are service.shared);
    each = λ w v e.
        let row = f (length flow) in
        let fits : AllFit (kinds_only (shared_kinds service)) row =
        subst (λ (ks : List Kind). AllFit ks row) (sym (shared_kinds_are service.shared)) (last_fits t are.few f (shown_fact facts) f (f_fits t facts are)) in
        let names : (w : List ℕ) → of_name (names_only (shared_kinds service)) row w ≡ shared_fact facts w =
        λ w. ap (λ (ns : List (List ℕ)). of_name ns row w) (shared_names_are service.shared) ∙ sym (shared_row w) in
        let test : (w : List ℕ) → is_among w (names_only (shared_kinds service)) ≡ true →
        is_cell_below service (beside w s.shared) (of_name (names_only (shared_kinds service)) row w) ≡ true =
        λ w m. ap (is_cell_below service (beside w s.shared)) (names w)
        ∙ all_say (λ (v : Shared). v.name) (λ n. is_cell_below service (beside n s.shared) (shared_fact facts n)) service.shared w below
        (subst (λ (ns : List (List ℕ)). is_among w ns ≡ true) (shared_names_are service.shared) m) in
        let c = all_covered service lawful (shared_kinds service) s.shared row saved.shared fits test w v e in
        subst (λ a. covers service a v) (sym ((facts_say_answers t facts are).shared w c.0 (sym (names w) ∙ c.1))) c.2;
  }

  -- ---- sessions

  local_row : (p : ℕ) (x : Step) → slice_get flow p ≡ Some x → (w : List ℕ) → local_fact facts p w ≡ of_local x.scope (f p) w
  local_row p x at w =
      ap (local_in (f p) w) (ap (λ xs. slice_get xs p) are.scopes ∙ slice_get-map (λ (x : Step). x.scope) flow p)
      ∙ ap (λ (o : Option Step). local_in (f p) w (option_map (λ (x : Step). x.scope) o)) at

  locals_covered : (p : ℕ) (x : Step) (xs : List (List ℕ × Value)) → slice_get flow p ≡ Some x → AreVariables service (kinds_in x.scope) xs →
      list_all (λ (l : Local). is_cell_below service (beside l.name xs) (local_fact facts p l.name)) x.scope ≡ true → CoversLocals service F p (view.values xs)
  locals_covered p x xs at vars below = record {
    names = λ w. all_named service (kinds_in x.scope) xs vars w ∙ ap (λ (ns : List (List ℕ)). is_among w ns) (local_names_are x.scope)
        ∙ ap (λ (o : Option Step). is_among w (local_names (scope_of o))) (sym at);
    each = λ w v e.
        let row = f p in
        let ks = kinds_in x.scope in
        let fits : AllFit (kinds_only ks) row =
        subst (λ (ks : List Kind). AllFit ks row) (sym (local_kinds x.scope)) (row_fits t are.few f (shown_fact facts) f (f_fits t facts are) p x at) in
        let names : (w : List ℕ) → of_name (names_only ks) row w ≡ local_fact facts p w =
        λ w. ap (λ (ns : List (List ℕ)). of_name ns row w) (local_names_are x.scope) ∙ sym (local_row p x at w) in
        let test : (w : List ℕ) → is_among w (names_only ks) ≡ true → is_cell_below service (beside w xs) (of_name (names_only ks) row w) ≡ true =
        λ w m. ap (is_cell_below service (beside w xs)) (names w)
        ∙ all_say (λ (l : Local). l.name) (λ n. is_cell_below service (beside n xs) (local_fact facts p n)) x.scope w below
        (subst (λ (ns : List (List ℕ)). is_among w ns ≡ true) (local_names_are x.scope) m) in
        let c = all_covered service lawful ks xs row vars fits test w v e in
        subst (λ a. covers service a v) (sym ((facts_say_answers t facts are).local p w c.0 (sym (names w) ∙ c.1))) c.2;
  }

  -- the point where a session waits is a show
  is_shown : (r : Record) (next : ℕ) (h : IsSession service next r) → is_show h.step.act ≡ true
  is_shown r next h =
      let plan = plan_of service in
      let n = number_at plan.steps r.frame.point in
      let g = guarded (is_own plan r.session n) (position (is_statement n) plan.steps >>= λ q. if_shows q (slice_get plan.steps q)) r.frame.point
      h.waits.shows in
      let b = bind_some (position (is_statement n) plan.steps) (λ q. if_shows q (slice_get plan.steps q)) r.frame.point g.1 in
      shows_here b.0 r.frame.point plan.steps h.step b.2 h.waits.is

  page_covered : (r : Record) (next : ℕ) → IsSession service next r → (o : Option Summary) → shown_fact facts r.frame.point ≡ o →
      is_page_below service r.page o ≡ true → CoversTree service (F.shown r.frame.point) (view.document r.page).tree
  page_covered r next h None e b = absurd (cc)
  page_covered r next h (Some cell) e b =
      let p = r.frame.point in
      let c = sum_covers service lawful r.page h.page.built in
      subst (λ g. CoversTree service g (view.document r.page).tree) (sym ((facts_say_answers t facts are).shown p cell e))
      (below_covers (literals_of service) (template_items service) (λ g. nat_lt g (length service.gaps)) (sum_of service r.page) cell
      (view.document r.page).tree
      (well_formed_alike (sum_of service r.page) cell c.formed (page_formed t facts are p h.step h.waits.is (is_shown r next h) cell e)) b c.covers)

  -- the place of its show, as the facts find it
  place_is : (r : Record) (next : ℕ) → IsSession service next r → F.place (number_at (plan_of service).steps r.frame.point) ≡ r.frame.point
  place_is r next h =
      ap (λ (o : Option Step). place_of service (number_of o)) h.waits.is ∙ show_placed service r.frame.point h.step h.waits.is (is_shown r next h)

  session_covered : (r : Record) (next : ℕ) → IsSession service next r → is_session_below service facts r ≡ true →
      CoversOrigin service F (origin_of service r)
  session_covered r next h below =
      let p = r.frame.point in
      let parts = cond_true (are_locals_below service facts r (slice_get (plan_of service).steps p)) (is_page_below service r.page (shown_fact facts p)) below
      in
      let locals : are_locals_below service facts r (Some h.step) ≡ true =
      subst (λ (o : Option Step). are_locals_below service facts r o ≡ true) h.waits.is parts.0 in
      let at = sym (place_is r next h) in (
        subst (λ (q : ℕ). CoversLocals service F q (view.values r.frame.locals)) at (locals_covered p h.step r.frame.locals h.waits.is h.waits.locals locals),
        subst (λ (q : ℕ). CoversTree service (F.shown q) (view.document r.page).tree) at (page_covered r next h (shown_fact facts p) refl parts.1),
      )

  -- it was sent nothing since, and has made no plug
  talk_covered : (r : Record) → CoversOrigin service F (origin_of service r) → CoversTalk service F (live_of service r).talk
  talk_covered r origin = record { origin = origin; inputs = tt; waits = origin; plugs = tt }

  sessions_covered : (next : ℕ) (rs : List Record) → AllByRecursion (IsSession service next) rs → first_uncovered service facts rs ≡ None →
      AllByRecursion (λ (l : Live). CoversTalk service F l.talk) (map (live_of service) rs)
  sessions_covered next [] h e = tt
  sessions_covered next (r ∷ rs) h e =
      let c = cond_none (is_session_below service facts r) (first_uncovered service facts rs) r.number e in
      (talk_covered r (session_covered r next h.0 c.0), sessions_covered next rs h.1 c.1)

pub loaded_is_sound : LoadedIsSound
loaded_is_sound t facts s are saved none =
    let c = cond_none (is_shared_below t.service facts s) (first_uncovered t.service facts s.records) 0 none in
    record {
      typed = t;
      is = refl;
      facts = facts;
      are = are;
      covered = record {
        shared = shared_covered t facts are s saved c.0;
        live = sessions_covered t facts are s.next s.records saved.sessions c.1;
      };
      made = world_made t s saved;
    }
