-- The rows of each round are the cells of that round, over the edges of the flow.
use Rattle.std.specs.Prelude.{◌≡◌, ℕ, zero, suc, ◌<◌, ◌^◌, ◌==◌, Bool, true, List, map, length, option_map, slice_get, Option, Some, None}
use Rattle.std.proofs.Common.{refl, sym, ap, ◌∙◌, subst, arith}
use Rattle.std.proofs.Math.Logic.{∥∥₁_elim}
use Rattle.std.proofs.lemmas.Bool.{false≢true}
use Rattle.std.specs.Coded.{le_prop}
use Rattle.std.specs.List.{All}
use Rattle.bw_lang.proofs.Small.{readable_is_woven}
use Rattle.bw_lang.specs.declared.service.Service.{Service}
use Rattle.bw_lang.specs.declared.service.Shared.{Shared}
use Rattle.bw_lang.specs.declared.stmt.Kind.{Kind}
use Rattle.bw_lang.specs.Service.Order.{IsWoven}
use Rattle.bw_lang.specs.Service.Term.{Term, name}
use Rattle.bw_solve.specs.System.{EachFits, EachBelow, rounds}
use Rattle.bw_strings.specs.Literals.{literals_of}
use Rattle.bw_sum.specs.declared.summary.Summary.{Summary}
use Rattle.bw_sum.specs.Templates.{template_items, HasKnownGaps}
use Rattle.bw_sum.proofs.ReadGaps.{read_gaps_are_known}
use Rattle.bw_types.specs.declared.typed.Typed.{Typed}
use Rattle.bw_types.specs.Scopes.{is_among, shared_kind, template_of}
use Rattle.bw_types.specs.Typing.{IsTypedService}
use Rattle.bw_types.proofs.WellTyped.{typed}
use Rattle.bw_typed.specs.Named.{IsLiteral}
use Rattle.bw_typed.proofs.Named.{shared_begin}
use Rattle.bw_flow.specs.declared.point.Local.{Local}
use Rattle.bw_flow.specs.Scopes.{kind_in}
use Rattle.bw_flow.specs.Steps.{Step}
use Rattle.bw_flow.specs.TypedFlow.{names_at, HasKindAt, IsTypedFlow}
use Rattle.bw_flow.proofs.Names.{shared_is}
use Rattle.bw_flow.proofs.Nexts.{all_have_nexts}
use Rattle.bw_flow.proofs.OfTyped.{points_are_typed}
use Rattle.bw_cover.specs.Abstracts as cover
use Rattle.bw_cover.specs.Facts as facts
use Rattle.bw_cover.specs.Facts.{Facts, Edge}
use Rattle.bw_cover.specs.Flows.{flow_edges}
use Rattle.bw_cover.specs.Least as least
use Rattle.bw_cover.specs.Least.{Cells, with_cells, joined_local, joined_shared}
use Rattle.bw_analyse.specs.declared.abstracts.Abstract.{Abstract}
use Rattle.bw_analyse.specs.declared.arrows.Arrow.{Arrow}
use Rattle.bw_analyse.specs.Abstracts.{is_below, both, least_of}
use Rattle.bw_analyse.specs.Fits.{Fits, AllFit, kinds_of, FitsCell}
use Rattle.bw_analyse.specs.Lawful.KindLaws.{AllUp, all_itself, all_up, least_fits, both_fits}
use Rattle.bw_analyse.specs.Known.{local_names, of_local, of_shared, of_literal, constant_at, look, known}
use Rattle.bw_flow.specs.Layout.{flow_of}
use Rattle.bw_analyse.specs.Least.{rows, IsLeastSolution}
use Rattle.bw_analyse.specs.Rounds.{left_at, left_by, added_by, next_local, next_shared, next_row, Placed, arrows_to, empty_row, empty, round}
use Rattle.bw_analyse.specs.Rows.{each_below}
use Rattle.bw_analyse.specs.Lawful.StepLaws.{HasFew, TwoUp, OptionUp, expression_up, left_up, added_up, local_up, shared_up}
use Rattle.bw_analyse.specs.Lawful.SystemLaws.{get_below, behind_all, all_at, literal_up}
use Rattle.bw_analyse.specs.Lawful.TypedSystem.{few_of, typed_system}
use Rattle.bw_sound.specs.Found.Seen.{seen, seen_some, scope_of, cells_of, facts_of}
use Rattle.bw_sound.specs.Found.Laws.{LeastCellsAreLeast}
use Rattle.bw_check.proofs.Within.Named.{HasLiterals, point_literals}
use Rattle.bw_sound.proofs.Found.Literals.{first_is_literal}
use Rattle.bw_sound.proofs.Found.Rounds.{OneFits, of_made, what_of, flow_seen}
use Rattle.bw_sound.proofs.Found.Seen.{known_seen, literal_seen, seen_both, seen_below, template_seen}
use Rattle.bw_sound.proofs.Found.Shared.{one_literal}
use Rattle.bw_sound.proofs.Found.Steps.{look_seen, left_seen, added_seen, shared_flow_seen}

below_by : (service : Service) (o : Option Kind) (a b : Option Abstract) → OptionUp o a b → cover.Below (seen_some service a) (seen_some service b)
below_by service None None None h = tt
below_by service (Some k) (Some x) (Some y) h = seen_below service k x y h.0 h.1 h.2
below_by service None (Some x) b h = absurd h
below_by service None None (Some y) h = absurd h
below_by service (Some k) None b h = absurd h
below_by service (Some k) (Some x) None h = absurd h

pub two_fits : (k : Kind) (o : Option Abstract) → TwoUp k o o → OneFits k o
two_fits k None h = tt
two_fits k (Some a) h = h.0

module _ (t : Typed) (many : length (literals_of t.service) < 2 ^ 32) (base : ℕ → List Abstract) (pages : ℕ → Option Summary) where
  abbrev service : Service
  service = t.service

  abbrev flow : List Step
  flow = flow_of service

  abbrev n : ℕ
  n = length flow

  abbrev edges : List (Edge ℕ)
  edges = flow_edges flow 0

  abbrev E : Cells ℕ
  E = cells_of service (empty service flow)

  abbrev F : Cells ℕ → Facts ℕ
  F c = with_cells (facts_of service base pages) c

  pub few : HasFew service
  few = few_of t many

  pub woven : IsWoven service
  woven = readable_is_woven service t.readable

  pub typed_service : IsTypedService service
  typed_service = typed service woven t.well_typed

  pub typed_flow : IsTypedFlow service flow
  typed_flow = points_are_typed t

  pub known_gaps : (m : ℕ) → HasKnownGaps (length service.gaps) (template_items service m)
  known_gaps m g o = ∥∥₁_elim t.readable le_prop (λ r. read_gaps_are_known service r m g o)

  literals_begin : All (λ (v : Shared). IsLiteral service v.init v.kind) service.shared
  literals_begin = shared_begin service t.readable t.well_typed

  literal_fits : (j : ℕ) (v : Shared) → slice_get service.shared j ≡ Some v → Fits v.kind (of_literal service v.init)
  literal_fits j v s =
      (literal_up service few typed_flow literals_begin (shared_is service woven typed_service) v.init v.kind
      (all_at (λ (u : Shared). IsLiteral service u.init u.kind) service.shared literals_begin j v s)).0

  template : (w : List ℕ) → seen service (constant_at service (template_of service w)) ≡ facts.template_known service w
  template w = template_seen service known_gaps w

  -- the cells are what the rows hold, of each variable that there is
  pub record Agrees (c : Cells ℕ) (g : ℕ → List Abstract) : Type 0 where
    pub local : (p : ℕ) (x : Step) (w : List ℕ) → slice_get flow p ≡ Some x → is_among w (local_names x.scope) ≡ true
        → c.local p w ≡ seen_some service (of_local x.scope (g p) w)
    pub shared : (w : List ℕ) → facts.is_shared service w ≡ true → c.shared w ≡ seen_some service (of_shared service.shared (g n) w)

  -- ---- rows that fit

  module _ (g : ℕ → List Abstract) (h : EachFits (rows service) (FitsCell service) g) where
    pub row_fits : (p : ℕ) (x : Step) → slice_get flow p ≡ Some x → AllFit (map (λ (l : Local). l.kind) x.scope) (g p)
    row_fits p x e = let b = get_below flow p x e in subst (λ o. AllFit (kinds_of service o) (g p)) e (h p (omega arith))

    pub last_fits : AllFit (map (λ (v : Shared). v.kind) service.shared) (g n)
    last_fits = subst (λ o. AllFit (kinds_of service o) (g n)) (behind_all flow) (h n (omega arith))

    row_up : (p : ℕ) (x : Step) → slice_get flow p ≡ Some x → AllUp (map (λ (l : Local). l.kind) x.scope) (g p) (g p)
    row_up p x e = all_itself (map (λ (l : Local). l.kind) x.scope) (g p) (row_fits p x e)

    last_up : AllUp (map (λ (v : Shared). v.kind) service.shared) (g n) (g n)
    last_up = all_itself (map (λ (v : Shared). v.kind) service.shared) (g n) last_fits

    -- ---- one round, from cells that are what these rows hold

    module _ (c : Cells ℕ) (a : Agrees c g) where
      scope_at : (p : ℕ) (x : Step) → slice_get flow p ≡ Some x → (F c).scope p ≡ local_names x.scope
      scope_at p x e = ap (λ o. local_names (scope_of o)) e

      pub known_at : (p : ℕ) (x : Step) → slice_get flow p ≡ Some x → (e : Term) (kind : Kind) → HasKindAt service x.scope e kind → HasLiterals service e
          → seen service (known service (look service x.scope (g p) (g n)) e) ≡ cover.known service (facts.look service (F c) p) e
      known_at p x at e kind k l =
          known_seen service known_gaps (let f = few.gaps in omega arith) many (names_at x.scope) (look service x.scope (g p) (g n))
          (facts.look service (F c) p)
          (λ w kd q. expression_up service few x.scope (g p) (g p) (g n) (g n) (row_up p x at) last_up (name w) kd q)
          (look_seen service (F c) p x.scope (g p) (g n) (scope_at p x at) (row_fits p x at) last_fits (λ w m. a.local p x w at m) a.shared template)
          e kind k l

      left_is : (p : ℕ) (x : Step) → slice_get flow p ≡ Some x → (w : List ℕ) (b : Bool)
          → option_map (seen service) (left_by service x.scope (g p) (g n) b w x.act) ≡ facts.left service (F c) p (what_of x.act b) w
      left_is p x at w b =
          left_seen service (F c) p x.scope (g p) (g n) (scope_at p x at) (row_fits p x at) last_fits (λ w m. a.local p x w at m) a.shared template
          (known_at p x at) w x.act b (typed_flow.acts p x at) (point_literals service woven p x at)

      added_is : (p : ℕ) (x : Step) → slice_get flow p ≡ Some x → (w : List ℕ) → facts.is_shared service w ≡ true → (b : Bool)
          → option_map (seen service) (added_by service x.scope (g p) (g n) w x.act) ≡ least.added service (F c) p (what_of x.act b) w
      added_is p x at w m b =
          added_seen service (F c) p x.scope (g p) (g n) (scope_at p x at) (row_fits p x at) last_fits (λ w m. a.local p x w at m) a.shared template
          (known_at p x at) w m x.act b (typed_flow.acts p x at) (point_literals service woven p x at)

      -- a local at a place
      local_joined : (q : ℕ) (y : Step) → slice_get flow q ≡ Some y → (i : ℕ) (l : Local) → slice_get y.scope i ≡ Some l
          → joined_local (λ p q. p == q) service (F c) edges q l.name (seen service (least_of l.kind))
          ≡ seen service (next_local service flow g (arrows_to q 0 flow) l)
      local_joined q y at i l s =
          (flow_seen service (F c) q l.name l.kind (λ (z : Arrow). left_at service flow g l.name z (slice_get flow z.from)) flow
          (λ p x e. all_have_nexts service p x e)
          (λ p x e b. ap (λ o. option_map (seen service) (left_at service flow g l.name (record { from = p; is_first = b }) o)) e ∙ left_is p x e l.name b)
          (λ p x e b m. subst (λ o. OneFits l.kind (left_at service flow g l.name (record { from = p; is_first = b }) o)) (sym e)
          (two_fits l.kind (left_by service x.scope (g p) (g n) b l.name x.act)
          (left_up service few x.scope (g p) (g p) (g n) (g n) (row_up p x e) last_up x.act b l.name l.kind x (typed_flow.acts p x e) refl
          (typed_flow.locals p q i x y l e at m s) (typed_flow.kept p q i x y l e at m s))))
          0 flow (λ j m e. ap (slice_get flow) (let d : m ≡ j = omega arith in d)) (least_of l.kind) (least_fits l.kind)).0

      local_next : (q : ℕ) (y : Step) (w : List ℕ) → slice_get flow q ≡ Some y → is_among w (local_names y.scope) ≡ true
          → joined_local (λ p q. p == q) service (F c) edges q w (E.local q w) ≡ seen_some service (of_local y.scope (round service flow q g) w)
      local_next q y w at m =
          let r = of_made (λ (l : Local). l.name) y.scope w m in
          let l = r.1 in
          let first : E.local q w ≡ seen service (least_of l.kind) = ap (λ o. seen_some service (of_local (scope_of o) (empty_row service o) w)) at
          ∙ ap (seen_some service) (r.4 (λ (z : Local). least_of z.kind)) in
          let made : of_local y.scope (round service flow q g) w ≡ Some (next_local service flow g (arrows_to q 0 flow) l) =
          ap (λ o. of_local y.scope (next_row service flow g q o) w) at ∙ r.4 (next_local service flow g (arrows_to q 0 flow)) in
          ap (joined_local (λ p q. p == q) service (F c) edges q w) first
          ∙ ap (λ v. joined_local (λ p q. p == q) service (F c) edges q v (seen service (least_of l.kind))) r.3
          ∙ local_joined q y at r.0 l r.2 ∙ sym (ap (seen_some service) made)

      -- a shared variable
      shared_joined : (j : ℕ) (v : Shared) → slice_get service.shared j ≡ Some v → facts.is_shared service v.name ≡ true
          → joined_shared service (F c) edges v.name (least.joined_literals service service.shared v.name (seen service (least_of v.kind)))
          ≡ seen service (next_shared service flow g v)
      shared_joined j v s m =
          let found = shared_is service woven typed_service in
          let literal = literal_fits j v s in
          let first : least.joined_literals service service.shared v.name (seen service (least_of v.kind)) ≡ seen service (both (of_literal service v.init)
          (least_of v.kind)) =
          one_literal service woven typed_service j v s (seen service (least_of v.kind))
          ∙ ap (λ z. least.join z (seen service (least_of v.kind)))
          (sym (literal_seen service known_gaps v.init (first_is_literal service woven j v s)))
          ∙ seen_both service v.kind (of_literal service v.init) (least_of v.kind) literal (least_fits v.kind) in
          ap (joined_shared service (F c) edges v.name) first
          ∙ (shared_flow_seen service (F c) v.name v.kind (λ (x : Placed). added_by service x.step.scope (g x.place) (g n) v.name x.step.act) flow
          (λ p x e. all_have_nexts service p x e) (λ p x e b. added_is p x e v.name m b)
          (λ p x e. two_fits v.kind (added_by service x.scope (g p) (g n) v.name x.act)
          (added_up service few x.scope (g p) (g p) (g n) (g n) (row_up p x e) last_up x.act v.name v.kind x (typed_flow.acts p x e) refl (found j v s)
          (typed_flow.shared p j x v e s)))
          0 flow (λ i k e. ap (slice_get flow) (let d : k ≡ i = omega arith in d)) (both (of_literal service v.init) (least_of v.kind))
          (both_fits v.kind (of_literal service v.init) (least_of v.kind) literal (least_fits v.kind))).0

      shared_next : (w : List ℕ) → facts.is_shared service w ≡ true
          → joined_shared service (F c) edges w (least.joined_literals service service.shared w (E.shared w)) ≡ seen_some service (of_shared service.shared
          (round service flow n g) w)
      shared_next w m =
          let r = of_made (λ (v : Shared). v.name) service.shared w m in
          let v = r.1 in
          let first : E.shared w ≡ seen service (least_of v.kind) = ap (λ o. seen_some service (of_shared service.shared (empty_row service o) w))
          (behind_all flow)
          ∙ ap (seen_some service) (r.4 (λ (z : Shared). least_of z.kind)) in
          let made : of_shared service.shared (round service flow n g) w ≡ Some (next_shared service flow g v) =
          ap (λ o. of_shared service.shared (next_row service flow g n o) w) (behind_all flow) ∙ r.4 (next_shared service flow g) in
          ap (λ z. joined_shared service (F c) edges w (least.joined_literals service service.shared w z)) first
          ∙ ap (λ u. joined_shared service (F c) edges u (least.joined_literals service service.shared u (seen service (least_of v.kind)))) r.3
          ∙ shared_joined r.0 v r.2 (subst (λ u. facts.is_shared service u ≡ true) r.3 m) ∙ sym (ap (seen_some service) made)

      next_agrees : Agrees (least.round (λ p q. p == q) service (facts_of service base pages) edges E c) (λ q. round service flow q g)
      next_agrees = record { local = local_next; shared = shared_next }

  -- ---- all rounds

  abbrev R : ℕ → ℕ → List Abstract
  R m = rounds (empty service flow) (round service flow) m

  rounds_fit : (m : ℕ) → EachFits (rows service) (FitsCell service) (R m)
  rounds_fit zero = λ cell l. (typed_system t many).empty_fits cell l
  rounds_fit (suc m) = λ cell l. (typed_system t many).transfer_fits cell (R m) l (rounds_fit m)

  rounds_agree : (m : ℕ) → Agrees (least.rounds (λ p q. p == q) service (facts_of service base pages) edges E m) (R m)
  rounds_agree zero = record {
    local = λ p x w at m. ap (λ o. seen_some service (of_local (scope_of o) (empty service flow p) w)) at;
    shared = λ w m. refl;
  }
  rounds_agree (suc m) = next_agrees (R m) (rounds_fit m) (least.rounds (λ p q. p == q) service (facts_of service base pages) edges E m) (rounds_agree m)

  -- ---- the least cells

  local_below : (g f : ℕ → List Abstract) → EachFits (rows service) (FitsCell service) g → EachFits (rows service) (FitsCell service) f
      → EachBelow (each_below is_below) (rows service) g f → (p : ℕ) (x : Step) → slice_get flow p ≡ Some x → (w : List ℕ)
      → cover.Below (seen_some service (of_local x.scope (g p) w)) (seen_some service (of_local x.scope (f p) w))
  local_below g f h k low p x at w =
      let b = get_below flow p x at in
      below_by service (kind_in x.scope w) (of_local x.scope (g p) w) (of_local x.scope (f p) w)
      (local_up x.scope (g p) (f p) w (all_up (map (λ (l : Local). l.kind) x.scope) (g p) (f p) (row_fits g h p x at) (row_fits f k p x at)
      (low p (omega arith))))

  shared_below : (g f : ℕ → List Abstract) → EachFits (rows service) (FitsCell service) g → EachFits (rows service) (FitsCell service) f
      → EachBelow (each_below is_below) (rows service) g f → (w : List ℕ)
      → cover.Below (seen_some service (of_shared service.shared (g n) w)) (seen_some service (of_shared service.shared (f n) w))
  shared_below g f h k low w =
      below_by service (shared_kind service w) (of_shared service.shared (g n) w) (of_shared service.shared (f n) w)
      (shared_up service.shared (g n) (f n) w (all_up (map (λ (v : Shared). v.kind) service.shared) (g n) (f n) (last_fits g h) (last_fits f k)
      (low n (omega arith))))

  -- two lists of cells that are what rows hold are below one another where the rows are
  cells_below : (c d : Cells ℕ) (g f : ℕ → List Abstract) → Agrees c g → Agrees d f → EachFits (rows service) (FitsCell service) g
      → EachFits (rows service) (FitsCell service) f → EachBelow (each_below is_below) (rows service) g f
      → least.AreBelow service (facts_of service base pages) c d
  cells_below c d g f a b h k low = record {
    local = λ p w m. by_step p w (slice_get flow p) refl m;
    shared = λ w m. subst (λ z. cover.Below z (d.shared w)) (sym (a.shared w m))
        (subst (cover.Below (seen_some service (of_shared service.shared (g n) w))) (sym (b.shared w m)) (shared_below g f h k low w));
  }
    where
      by_step : (p : ℕ) (w : List ℕ) (o : Option Step) → slice_get flow p ≡ o → is_among w (local_names (scope_of o)) ≡ true
          → cover.Below (c.local p w) (d.local p w)
      by_step p w None at m = absurd (false≢true m)
      by_step p w (Some x) at m =
          subst (λ z. cover.Below z (d.local p w)) (sym (a.local p x w at m))
          (subst (cover.Below (seen_some service (of_local x.scope (g p) w))) (sym (b.local p x w at m)) (local_below g f h k low p x at w))

  -- rows hold what they hold
  pub cells_agree : (f : ℕ → List Abstract) → Agrees (cells_of service f) f
  cells_agree f = record { local = λ p x w at m. ap (λ o. seen_some service (of_local (scope_of o) (f p) w)) at; shared = λ w m. refl }

  pub cells_are_least : (f : ℕ → List Abstract) → EachFits (rows service) (FitsCell service) f → IsLeastSolution service f
      → least.IsLeast (λ p q. p == q) service (facts_of service base pages) edges E (cells_of service f)
  cells_are_least f k h = record {
    above = λ m. cells_below _ _ (R m) f (rounds_agree m) (cells_agree f) (rounds_fit m) k (h.above m);
    reached = let r = h.reached in (r.0, cells_below _ _ f (R r.0) (cells_agree f) (rounds_agree r.0) k (rounds_fit r.0) r.1);
  }

pub least_cells_are_least : LeastCellsAreLeast
least_cells_are_least t f pages many k h = cells_are_least t many f pages f k h
