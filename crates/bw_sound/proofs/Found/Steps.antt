-- What points leave and add, by its members.
use Rattle.std.specs.Prelude.{◌≡◌, ℕ, suc, ◌+◌, ◌&&◌, ◌||◌, not, Bool, true, false, if◌then◌else◌, List, [], ◌∷◌}
use Rattle.std.specs.Prelude.{map, is_some, option_map, slice_get, unwrap_or, Option, Some, None}
use Rattle.std.proofs.Common.{refl, sym, ap, ◌∙◌, subst, arith}
use Rattle.std.specs.List.{list_any}
use Rattle.std.specs.Option.{option_or}
use Rattle.std.proofs.lemmas.Bool.{false≢true}
use Rattle.bw_lang.specs.declared.service.Service.{Service}
use Rattle.bw_lang.specs.declared.stmt.Kind.{Kind}
use Rattle.bw_lang.specs.declared.stmt.Receive.{Receive}
use Rattle.bw_lang.specs.Table.Names.{same}
use Rattle.bw_lang.specs.Service.Term.{Term}
use Rattle.bw_types.specs.Scopes.{is_among, template_of}
use Rattle.bw_lang.proofs.SameNames.{same_is}
use Rattle.bw_flow.specs.declared.point.Local.{Local}
use Rattle.bw_flow.specs.declared.point.Received.{Received}
use Rattle.bw_flow.specs.Places.{HasNexts}
use Rattle.bw_flow.specs.Steps.{Act, sets, tests, goes_over, shows, exits, joins, Step}
use Rattle.bw_flow.specs.TypedFlow.{HasKindAt, IsTypedAct}
use Rattle.bw_cover.specs.Abstracts as cover
use Rattle.bw_cover.specs.Facts as facts
use Rattle.bw_cover.specs.Facts.{Facts, Edge}
use Rattle.bw_cover.specs.Flows.{written, edges_to, act_edges, flow_edges}
use Rattle.bw_cover.specs.Least as least
use Rattle.bw_cover.specs.Least.{join_if, joined_shared}
use Rattle.bw_analyse.specs.declared.abstracts.Abstract.{Abstract}
use Rattle.bw_analyse.specs.declared.abstracts.Abstract.TheVariants.{Nothing, Str, Html}
use Rattle.bw_analyse.specs.Fits.{Fits, AllFit}
use Rattle.bw_analyse.specs.Known.{any, local_names, of_local, of_shared, constant_at, look, known}
use Rattle.bw_analyse.specs.Rounds.{received_by, receives, left_by, is_local, added_by, join_some, joined, Placed, placed}
use Rattle.bw_sound.specs.Found.Seen.{seen, seen_some}
use Rattle.bw_check.proofs.Within.Named.{HasLiterals, ActLiterals}
use Rattle.bw_sound.proofs.Found.Rounds.{locals_there, variables_there, OneFits, what_of, joined_one, shared_append}

among_is : (scope : List Local) (w : List ℕ) → is_among w (local_names scope) ≡ is_local scope w
among_is [] w = refl
among_is (l ∷ ls) w = ap (λ b. same w l.name || b) (among_is ls w)

-- ---- what points see

receives_written : (rs : List Received) (w : List ℕ) (u : cover.Abstract)
    → facts.receives_by (written rs) w u ≡ (if receives w rs then facts.received_by u else u)
receives_written [] w u = refl
receives_written (r ∷ rs) w u = by_test (same w r.target) (receives_written rs w)
  where
    twice : (v : cover.Abstract) → facts.received_by (facts.received_by v) ≡ facts.received_by v
    twice cover.Nothing = refl
    twice (cover.Strings S) = refl
    twice (cover.Html G) = refl

    again : (b : Bool) → (if b then facts.received_by (facts.received_by u) else facts.received_by u) ≡ facts.received_by u
    again true = twice u
    again false = refl

    by_test : (b : Bool) → ((v : cover.Abstract) → facts.receives_by (written rs) w v ≡ (if receives w rs then facts.received_by v else v))
        → facts.receives_by (written rs) w (if b then facts.received_by u else u) ≡ (if b || receives w rs then facts.received_by u else u)
    by_test true h = h (facts.received_by u) ∙ again (receives w rs)
    by_test false h = h u

module _ (service : Service) where
  received_seen : (a : Abstract) → seen service (received_by a) ≡ facts.received_by (seen service a)
  received_seen Nothing = refl
  received_seen (Str s) = refl
  received_seen (Html s) = refl

  some_seen : (b : Bool) (x y : Option Abstract) (u v : Option cover.Abstract) → option_map (seen service) x ≡ u → option_map (seen service) y ≡ v
      → option_map (seen service) (if b then x else y) ≡ (if b then u else v)
  some_seen true x y u v g h = g
  some_seen false x y u v g h = h

  -- at a point with these locals, whose rows are seen so
  module _ (f : Facts ℕ) (p : ℕ) (scope : List Local) (row shared : List Abstract) (scope_is : f.scope p ≡ local_names scope)
      (fits : AllFit (map (λ l. l.kind) scope) row) (shared_fits : AllFit (map (λ v. v.kind) service.shared) shared)
      (local_is : (w : List ℕ) → is_among w (local_names scope) ≡ true → f.local p w ≡ seen_some service (of_local scope row w))
      (shared_is : (w : List ℕ) → facts.is_shared service w ≡ true → f.shared w ≡ seen_some service (of_shared service.shared shared w))
      (template : (w : List ℕ) → seen service (constant_at service (template_of service w)) ≡ facts.template_known service w) where
    own_by : (w : List ℕ) (o : Option Abstract) (b : Bool) → is_some o ≡ b → (b ≡ true → f.local p w ≡ seen_some service o)
        → option_map (seen service) o ≡ (if b then Some (f.local p w) else None)
    own_by w (Some a) true e h = ap Some (sym (h refl))
    own_by w None false e h = refl
    own_by w (Some a) false e h = absurd (false≢true (sym e))
    own_by w None true e h = absurd (false≢true e)

    pub own_seen : (w : List ℕ) → option_map (seen service) (of_local scope row w) ≡ facts.own f p w
    own_seen w =
        own_by w (of_local scope row w) (is_among w (local_names scope)) (locals_there scope row w fits) (local_is w)
        ∙ ap (λ names. if is_among w names then Some (f.local p w) else None) (sym scope_is)

    look_by : (w : List ℕ) (o r : Option Abstract) (b c : Bool) → is_some o ≡ b → is_some r ≡ c → (b ≡ true → f.local p w ≡ seen_some service o)
        → (c ≡ true → f.shared w ≡ seen_some service r)
        → seen service (unwrap_or (option_or o r) (constant_at service (template_of service w)))
        ≡ (if b then f.local p w else if c then f.shared w else facts.template_known service w)
    look_by w (Some a) r true c e g h k = sym (h refl)
    look_by w None (Some a) false true e g h k = sym (k refl)
    look_by w None None false false e g h k = template w
    look_by w (Some a) r false c e g h k = absurd (false≢true (sym e))
    look_by w None r true c e g h k = absurd (false≢true e)
    look_by w None (Some a) false false e g h k = absurd (false≢true (sym g))
    look_by w None None false true e g h k = absurd (false≢true g)

    pub look_seen : (w : List ℕ) → seen service (look service scope row shared w) ≡ facts.look service f p w
    look_seen w =
        look_by w (of_local scope row w) (of_shared service.shared shared w) (is_among w (local_names scope)) (facts.is_shared service w)
        (locals_there scope row w fits) (variables_there service.shared shared w shared_fits) (local_is w) (shared_is w)
        ∙ ap (λ names. if is_among w names then f.local p w else if facts.is_shared service w then f.shared w else facts.template_known service w)
        (sym scope_is)

    module _ (known_is : (e : Term) (kind : Kind) → HasKindAt service scope e kind → HasLiterals service e
        → seen service (known service (look service scope row shared) e) ≡ cover.known service (facts.look service f p) e) where
      pub left_seen : (w : List ℕ) (act : Act) (b : Bool) → IsTypedAct service scope act → ActLiterals service act
          → option_map (seen service) (left_by service scope row shared b w act) ≡ facts.left service f p (what_of act b) w
      left_seen w (sets v e) b t a = some_seen (same w v) (Some (known service (look service scope row shared) e)) (of_local scope row w)
          (Some (cover.known service (facts.look service f p) e)) (facts.own f p w) (ap Some (known_is e t.0 t.1 a)) (own_seen w)
      left_seen w (goes_over v e) true t a = some_seen (same w v) (Some any) (of_local scope row w) (Some cover.any) (facts.own f p w) refl (own_seen w)
      left_seen w (goes_over v e) false t a = own_seen w
      left_seen w (shows e rs) b t a =
          taken (of_local scope row w) ∙ ap (option_map (facts.receives_by (written rs) w)) (own_seen w)
        where
          one : (x : Bool) (o : Option Abstract) → option_map (seen service) (if x then option_map received_by o else o)
              ≡ option_map (λ u. if x then facts.received_by u else u) (option_map (seen service) o)
          one true None = refl
          one true (Some z) = ap Some (received_seen z)
          one false None = refl
          one false (Some z) = refl

          taken : (o : Option Abstract) → option_map (seen service) (if receives w rs then option_map received_by o else o)
              ≡ option_map (facts.receives_by (written rs) w) (option_map (seen service) o)
          taken o = one (receives w rs) o ∙ (λ i. option_map (λ u. sym (receives_written rs w u) i) (option_map (seen service) o))
      left_seen w (tests e) b t a = own_seen w
      left_seen w (exits e) b t a = own_seen w
      left_seen w joins b t a = own_seen w

      -- what it adds to a shared variable
      turned : (v w : List ℕ) (scope : List Local) → same w v ≡ true → is_among v (local_names scope) ≡ is_local scope w
      turned v w scope s = ap (λ u. is_among u (local_names scope)) (sym (same_is w v s)) ∙ among_is scope w

      set_is : (v w : List ℕ) → (same w v && not (is_local scope w)) ≡ (same w v && not (is_among v (f.scope p)))
      set_is v w = by_test (same w v) refl
        where
          by_test : (b : Bool) → same w v ≡ b → (b && not (is_local scope w)) ≡ (b && not (is_among v (f.scope p)))
          by_test true s = ap not (sym (turned v w scope s) ∙ ap (is_among v) (sym scope_is))
          by_test false s = refl

      shows_is : (w : List ℕ) (rs : List Received) → (receives w rs && not (is_local scope w))
          ≡ list_any (λ (r : Receive). same w r.target && not (is_among r.target (f.scope p))) (written rs)
      shows_is w [] = refl
      shows_is w (r ∷ rs) = spread (same w r.target) (receives w rs) (not (is_local scope w)) ∙ (λ i. set_is r.target w i || shows_is w rs i)
        where
          spread : (a b c : Bool) → ((a || b) && c) ≡ ((a && c) || (b && c))
          spread true b true = refl
          spread true true false = refl
          spread true false false = refl
          spread false b c = refl

      some_if : (b : Bool) (x : Abstract) (u : cover.Abstract) → (b ≡ true → seen service x ≡ u)
          → option_map (seen service) (if b then Some x else None) ≡ (if b then Some u else None)
      some_if true x u h = ap Some (h refl)
      some_if false x u h = refl

      map_if : (b : Bool) (o : Option Abstract) (u : cover.Abstract) → (b ≡ true → option_map (seen service) o ≡ Some u)
          → option_map (seen service) (if b then o else None) ≡ (if b then Some u else None)
      map_if true o u h = h refl
      map_if false o u h = refl

      -- a shared variable that is received into
      taken_seen : (w : List ℕ) → facts.is_shared service w ≡ true
          → option_map (seen service) (option_map received_by (of_shared service.shared shared w)) ≡ Some (facts.received_by (f.shared w))
      taken_seen w h = by_option (of_shared service.shared shared w) (variables_there service.shared shared w shared_fits ∙ h) (shared_is w h)
        where
          by_option : (o : Option Abstract) → is_some o ≡ true → f.shared w ≡ seen_some service o
              → option_map (seen service) (option_map received_by o) ≡ Some (facts.received_by (f.shared w))
          by_option (Some a) e g = ap Some (received_seen a ∙ ap facts.received_by (sym g))
          by_option None e g = absurd (false≢true e)

      pub added_seen : (w : List ℕ) → facts.is_shared service w ≡ true → (act : Act) (b : Bool) → IsTypedAct service scope act → ActLiterals service act
          → option_map (seen service) (added_by service scope row shared w act) ≡ least.added service f p (what_of act b) w
      added_seen w h (sets v e) b t a =
          some_if (same w v && not (is_local scope w)) (known service (look service scope row shared) e) (cover.known service (facts.look service f p) e)
          (λ z. known_is e t.0 t.1 a)
          ∙ ap (λ x. if x then Some (cover.known service (facts.look service f p) e) else None) (set_is v w)
      added_seen w h (shows e rs) b t a =
          map_if (receives w rs && not (is_local scope w)) (option_map received_by (of_shared service.shared shared w)) (facts.received_by (f.shared w))
          (λ z. taken_seen w h)
          ∙ ap (λ x. if x then Some (facts.received_by (f.shared w)) else None) (shows_is w rs)
      added_seen w h (goes_over v e) true t a = refl
      added_seen w h (goes_over v e) false t a = refl
      added_seen w h (tests e) b t a = refl
      added_seen w h (exits e) b t a = refl
      added_seen w h joins b t a = refl

-- ---- the shared variables

module _ (service : Service) (f : Facts ℕ) (w : List ℕ) (k : Kind) (of : Placed → Option Abstract) where
  abbrev SharedSeen : List (Edge ℕ) → List Placed → Type 0
  SharedSeen es xs = (e : Abstract) → Fits k e → (joined_shared service f es w (seen service e) ≡ seen service (joined of xs e)) × Fits k (joined of xs e)

  -- edges over which nothing is added
  none_added : (p : ℕ) (what : facts.What) (next : List ℕ) (x : cover.Abstract) → least.added service f p what w ≡ None
      → joined_shared service f (edges_to p what next) w x ≡ x
  none_added p what [] x h = refl
  none_added p what (q ∷ next) x h = ap (λ o. join_if true o (joined_shared service f (edges_to p what next) w x)) h ∙ none_added p what next x h

  nothing_there : (o : Option Abstract) → option_map (seen service) o ≡ None → o ≡ None
  nothing_there None e = refl
  nothing_there (Some a) e = absurd (cc)

  unchanged : (p : ℕ) (x : Step) (e : Abstract) → Fits k e → (y z : cover.Abstract) → y ≡ seen service e → of (record { place = p; step = x }) ≡ None
      → z ≡ y → (z ≡ seen service (join_some (of (record { place = p; step = x })) e)) × Fits k (join_some (of (record { place = p; step = x })) e)
  unchanged p x e g y z r n i = (
    i ∙ r ∙ ap (λ o. seen service (join_some o e)) (sym n),
    subst (λ o. Fits k (join_some o e)) (sym n) g,
  )

  one_point : (p : ℕ) (x : Step) (act : Act) (next : List ℕ) → HasNexts act next
      → ((b : Bool) → option_map (seen service) (of (record { place = p; step = x })) ≡ least.added service f p (what_of act b) w)
      → OneFits k (of (record { place = p; step = x })) → (e : Abstract) → Fits k e → (y : cover.Abstract) → y ≡ seen service e
      → (joined_shared service f (act_edges p act next) w y ≡ seen service (join_some (of (record { place = p; step = x })) e))
      × Fits k (join_some (of (record { place = p; step = x })) e)
  one_point p x (sets v z) next m s h e g y r =
      let o = of (record { place = p; step = x }) in
      let j = joined_one service k o (least.added service f p (facts.sets v z) w) e y (s true) h g r in
      (ap (λ ns. joined_shared service f (edges_to p (facts.sets v z) ns) w y) m.1 ∙ j.0, j.1)
  one_point p x (shows z rs) next m s h e g y r =
      let o = of (record { place = p; step = x }) in
      let j = joined_one service k o (least.added service f p (facts.takes (written rs)) w) e y (s true) h g r in
      (ap (λ ns. joined_shared service f (edges_to p (facts.takes (written rs)) ns) w y) m.1 ∙ j.0, j.1)
  one_point p x (tests z) next m s h e g y r = unchanged p x e g y _ r (nothing_there _ (s true)) (none_added p facts.keeps next y refl)
  one_point p x joins next m s h e g y r = unchanged p x e g y _ r (nothing_there _ (s true)) (none_added p facts.keeps next y refl)
  one_point p x (exits z) next m s h e g y r = unchanged p x e g y _ r (nothing_there _ (s true)) refl
  one_point p x (goes_over v z) [] m s h e g y r = unchanged p x e g y _ r (nothing_there _ (s true)) refl
  one_point p x (goes_over v z) (n ∷ ns) m s h e g y r = unchanged p x e g y _ r (nothing_there _ (s true)) (none_added p facts.keeps ns y refl)

  pub shared_flow_seen : (flow : List Step)
      → ((p : ℕ) (x : Step) → slice_get flow p ≡ Some x → HasNexts x.act x.next)
      → ((p : ℕ) (x : Step) → slice_get flow p ≡ Some x → (b : Bool)
      → option_map (seen service) (of (record { place = p; step = x })) ≡ least.added service f p (what_of x.act b) w)
      → ((p : ℕ) (x : Step) → slice_get flow p ≡ Some x → OneFits k (of (record { place = p; step = x })))
      → (p : ℕ) (xs : List Step) → ((i m : ℕ) → m ≡ p + i → slice_get flow m ≡ slice_get xs i) → SharedSeen (flow_edges xs p) (placed p xs)
  shared_flow_seen flow m s h p [] at = λ e g. (refl, g)
  shared_flow_seen flow m s h p (x ∷ xs) at = λ e g.
      let here = at 0 p (omega arith) in
      let rest = shared_flow_seen flow m s h (p + 1) xs (λ i n d. at (suc i) n (omega arith)) e g in
      let one = one_point p x x.act x.next (m p x here) (s p x here) (h p x here) (joined of (placed (p + 1) xs) e) rest.1
      (joined_shared service f (flow_edges xs (p + 1)) w (seen service e)) rest.0 in
      (shared_append service f (act_edges p x.act x.next) (flow_edges xs (p + 1)) w (seen service e) ∙ one.0, one.1)
