-- A typed service whose least cells have the kinds of their variables is accepted where no plug may lack its gap.
use Rattle.std.proofs.Common.{◌≡◌, ℕ, zero, suc, ◌+◌, Bool, true, false, List, [], ◌∷◌, ◌++◌, map, Option, Some, None, refl, sym, ap, ◌∙◌, subst, arith}
use Rattle.std.specs.Prelude.{◌≢◌, ◌||◌, if◌then◌else◌, slice_get, unwrap_or, is_some}
use Rattle.std.specs.List.{All, AllPairs}
use Rattle.std.specs.Option.{option_or}
use Rattle.std.proofs.lemmas.Bool.{false≢true}
use Rattle.std.proofs.lemmas.List.Elements.{All-weaker}
use Rattle.bw_lang.specs.declared.service.Service.{Service}
use Rattle.bw_lang.specs.declared.service.Session.{Session}
use Rattle.bw_lang.specs.declared.service.Shared.{Shared}
use Rattle.bw_lang.specs.declared.stmt.Kind.{Kind}
use Rattle.bw_lang.specs.Service.Code.{Code, done, declare, assign, if_then, if_else, while_loop, block, for_each, show, exit, numbered}
use Rattle.bw_lang.specs.Service.CodeNames.{local_names}
use Rattle.bw_lang.specs.Table.Names.{same, name_number, beside}
use Rattle.bw_lang.specs.Service.Term.{Term}
use Rattle.bw_meaning.specs.GoOn.{body_of}
use Rattle.bw_lang.specs.Service.Numbers.{first_number}
use Rattle.bw_types.specs.Gaps.{template_uses}
use Rattle.bw_types.specs.Scopes.{Scope, no_locals, template_kind, shared_kinds, with_local, scope_behind, is_among, template_names, behind_each}
use Rattle.bw_types.specs.Typing.{HasKind, IsTypedCode, IsTypedSession, IsTypedService}
use Rattle.bw_sum.specs.Graph.{Graph, constant, IsBelow}
use Rattle.bw_sum.specs.Templates.{template_items}
use Rattle.bw_cover.specs.Abstracts.{Abstract, Nothing, Strings, Html, is_gap, known, EachPair, IsPlug, Below}
use Rattle.bw_cover.specs.Facts.{Facts, is_shared, template_known, look}
use Rattle.bw_cover.specs.Kinds.{IsOf, LocalsAreOf, CellsAreOf, SharedAreOf, summary_of, Shows, GapsAreThere, CheckedIsAccepted, Agree, PlacesFit}
use Rattle.bw_cover.specs.Least.{with_cells}
use Rattle.bw_cover.specs.Spots.{Spot, statement, Scoped, Pages, EachPoint}
use Rattle.bw_lang.proofs.Options.{some_is}
use Rattle.bw_cover.proofs.Names.{among-added, beside-cons}
use Rattle.bw_cover.proofs.Rising.{below_refl}
use Rattle.bw_cover.proofs.Solved.{least_obeys}
use Rattle.bw_cover.proofs.Typed.{typed_known}
use Rattle.bw_lang.specs.declared.stmt.Kind.TheVariants as kinds
use Rattle.std.proofs.Math.Bool.{or-false}

pub agree_next : (scope : Scope) (sc : List (List ℕ)) (w : List ℕ) (kind : Kind) → ((v : List ℕ) → is_some (beside v scope.locals) ≡ is_among v sc)
    → (v : List ℕ) → is_some (beside v ((w, kind) ∷ scope.locals)) ≡ is_among v (sc ++ w ∷ [])
agree_next scope sc w kind h v = ap is_some (beside-cons v w kind scope.locals) ∙ by_test (same v w) (is_among v sc) (h v) ∙ sym (among-added v w sc)
  where
    by_test : (b c : Bool) → is_some (beside v scope.locals) ≡ c → is_some (if b then Some kind else beside v scope.locals) ≡ (c || b)
    by_test true true k = refl
    by_test true false k = refl
    by_test false c k = k ∙ sym (or-false c)

pub shared_names : (vs : List Shared) (w : List ℕ) → is_some (beside w (map (λ (v : Shared). (v.name, v.kind)) vs)) ≡ is_among w
    (map (λ (v : Shared). v.name) vs)
shared_names [] w = refl
shared_names (v ∷ vs) w = ap is_some (beside-cons w v.name v.kind (map (λ (x : Shared). (x.name, x.kind)) vs)) ∙ by_test (same w v.name) (shared_names vs w)
  where
    by_test : (b : Bool) → is_some (beside w (map (λ (x : Shared). (x.name, x.kind)) vs)) ≡ is_among w (map (λ (x : Shared). x.name) vs)
        → is_some (if b then Some v.kind else beside w (map (λ (x : Shared). (x.name, x.kind)) vs)) ≡ (b || is_among w (map (λ (x : Shared). x.name) vs))
    by_test true h = refl
    by_test false h = h

is_html : (b : Bool) (G : Graph) → b ≡ true → IsOf kinds.Html (if b then Html G else Nothing)
is_html true G t = tt
is_html false G t = absurd (false≢true t)

pub template_of : (service : Service) (w : List ℕ) (kind : Kind) → template_kind service w ≡ Some kind → IsOf kind (template_known service w)
template_of service w kind e = by_test (is_among w (template_names service)) refl e
  where
    by_test : (b : Bool) → is_among w (template_names service) ≡ b → (if b then Some kinds.Html else None) ≡ Some kind → IsOf kind (template_known service w)
    by_test true t k = subst (λ x. IsOf x (template_known service w)) (some_is kinds.Html kind k)
        (is_html (is_among w (template_names service)) (constant (template_items service) (is_gap service) (name_number (template_names service) w)) t)
    by_test false t k = cc

module _ {K : Type 0} (service : Service) (f : Facts K) (one : AllPairs (λ x y. x.0 ≡ y.0 → x.1 ≡ y.1) (template_uses service.templates))
    (there : GapsAreThere service) (shared : SharedAreOf service f) where
  module _ (p : K) (scope : Scope) (agree : Agree scope (f.scope p)) (locals : LocalsAreOf f p scope) where
    shared_of : (w : List ℕ) (kind : Kind) (o : Option Kind) → beside w (shared_kinds service) ≡ o → option_or o (template_kind service w) ≡ Some kind
        → IsOf kind (if is_shared service w then f.shared w else template_known service w)
    shared_of w kind None e k =
        subst (λ b. IsOf kind (if b then f.shared w else template_known service w)) (sym (ap is_some e) ∙ shared_names service.shared w)
        (template_of service w kind k)
    shared_of w kind (Some x) e k =
        subst (λ b. IsOf kind (if b then f.shared w else template_known service w)) (sym (ap is_some e) ∙ shared_names service.shared w)
        (shared w kind (e ∙ k))

    name_of : (w : List ℕ) (kind : Kind) (o : Option Kind) → beside w scope.locals ≡ o → option_or (option_or o (beside w (shared_kinds service)))
        (template_kind service w) ≡ Some kind → IsOf kind (look service f p w)
    name_of w kind None e k =
        subst (λ b. IsOf kind (if b then f.local p w else if is_shared service w then f.shared w else template_known service w))
        (sym (ap is_some e) ∙ agree w) (shared_of w kind (beside w (shared_kinds service)) refl k)
    name_of w kind (Some x) e k =
        subst (λ b. IsOf kind (if b then f.local p w else if is_shared service w then f.shared w else template_known service w))
        (sym (ap is_some e) ∙ agree w) (locals w kind (e ∙ k))

    pub typed_at : (e : Term) (kind : Kind) → HasKind service scope e kind → IsOf kind (known service (look service f p) e)
        × EachPair (IsPlug service) service (look service f p) e
    typed_at e kind h = typed_known service one there scope (look service f p) (λ w k i. name_of w k (beside w scope.locals) refl i) e kind h

-- what is known of a document is a summary, and is below each that has all of it
pub page_below : (a : Abstract) (G : Graph) → IsOf kinds.Html a → IsBelow (summary_of a) G → Below a (Html G)
page_below Nothing G h b = absurd h
page_below (Strings S) G h b = absurd h
page_below (Html A) G h b = b

page_same : (a : Abstract) (G : Graph) → IsOf kinds.Html a → G ≡ summary_of a → Below a (Html G)
page_same a G h e = page_below a G h (subst (IsBelow (summary_of a)) (sym e) (below_refl (Html (summary_of a))))

module _ (service : Service) (f : Facts Spot) (one : AllPairs (λ x y. x.0 ≡ y.0 → x.1 ≡ y.1) (template_uses service.templates))
    (there : GapsAreThere service) (shared : SharedAreOf service f) where
  at : (n : ℕ) (scope : Scope) (sc : List (List ℕ)) (e : Term) (kind : Kind) → f.scope (statement n) ≡ sc → Agree scope sc
      → LocalsAreOf f (statement n) scope → HasKind service scope e kind
      → IsOf kind (known service (look service f (statement n)) e) × EachPair (IsPlug service) service (look service f (statement n)) e
  at n scope sc e kind s a k h = typed_at service f one there shared (statement n) scope (λ w. a w ∙ ap (is_among w) (sym s)) k e kind h

  abbrev P : Spot → Term → Type 0
  P p e = EachPair (IsPlug service) service (look service f p) e

  typed_code : (c : Code) (n : ℕ) (scope : Scope) (sc : List (List ℕ)) → ((w : List ℕ) → is_some (beside w scope.locals) ≡ is_among w sc)
      → IsTypedCode service scope c → Scoped f c n sc → CellsAreOf f c n scope → Shows service f c n
      → EachPoint P c n × Pages service f c n
  typed_code done n scope sc a t s k sh = (tt, tt)
  typed_code (declare kind w e rest) n scope sc a t s k sh =
      let r = typed_code rest (n + 1) (with_local scope w kind) (sc ++ w ∷ []) (agree_next scope sc w kind a) t.2 s.1 k.1 sh in
      (((at n scope sc e kind s.0 a k.0 t.1).1, r.0), r.1)
  typed_code (assign w e rest) n scope sc a t s k sh =
      let r = typed_code rest (n + 1) scope sc a t.1 s.1 k.1 sh in
      (((at n scope sc e t.0.0 s.0 a k.0 t.0.2).1, r.0), r.1)
  typed_code (if_then b y rest) n scope sc a t s k sh =
      let p = typed_code y (n + 1) scope sc a t.1 s.2 k.1 sh.0 in
      let r = typed_code rest (n + 1 + numbered y) (scope_behind scope y) sc a t.2 s.3 k.2 sh.1 in
      (((at n scope sc b kinds.Bool s.0 a k.0 t.0).1, p.0, r.0), (p.1, r.1))
  typed_code (if_else b y z rest) n scope sc a t s k sh =
      let j = n + 1 + numbered y in
      let p = typed_code y (n + 1) scope sc a t.1 s.2 k.1 sh.0 in
      let q = typed_code z j (scope_behind scope y) sc a t.2 s.3 k.2 sh.1 in
      let r = typed_code rest (j + numbered z) (scope_behind (scope_behind scope y) z) sc a t.3 s.4 k.3 sh.2 in
      (((at n scope sc b kinds.Bool s.0 a k.0 t.0).1, p.0, q.0, r.0), (p.1, q.1, r.1))
  typed_code (while_loop b c rest) n scope sc a t s k sh =
      let p = typed_code c (n + 1) scope sc a t.1 s.1 k.1 sh.0 in
      let r = typed_code rest (n + 1 + numbered c) (scope_behind scope c) sc a t.2 s.2 k.2 sh.1 in
      (((at n scope sc b kinds.Bool s.0 a k.0 t.0).1, p.0, r.0), (p.1, r.1))
  typed_code (block c rest) n scope sc a t s k sh =
      let p = typed_code c n scope sc a t.0 s.0 k.0 sh.0 in
      let r = typed_code rest (n + numbered c) (scope_behind scope c) sc a t.1 s.1 k.1 sh.1 in
      ((p.0, r.0), (p.1, r.1))
  typed_code (for_each w e c rest) n scope sc a t s k sh =
      let p = typed_code c (n + 1) (with_local scope w kinds.Str) (sc ++ w ∷ []) (agree_next scope sc w kinds.Str a) t.2 s.1 k.1 sh.0 in
      let r = typed_code rest (n + 1 + numbered c) (behind_each scope w c) sc a t.3 s.2 k.2 sh.1 in
      (((at n scope sc e kinds.Strs s.0 a k.0 t.1).1, p.0, r.0), (p.1, r.1))
  typed_code (show e rs rest) n scope sc a t s k sh =
      let v = at n scope sc e kinds.Html s.0 a k.0 t.0 in
      let r = typed_code rest (n + 1) scope sc a t.2 s.1 k.1 sh.2 in
      ((v.1, r.0), (page_same (known service (look service f (statement n)) e) (f.shown (statement n)) v.0 sh.0, sh.1, r.1))
  typed_code (exit e rest) n scope sc a t s k sh =
      let v = at n scope sc e kinds.Html s.0 a k.0 t.0 in
      let r = typed_code rest (n + 1) scope sc a t.1 s.1 k.1 sh.2 in
      ((v.1, r.0), (page_same (known service (look service f (statement n)) e) (f.shown (statement n)) v.0 sh.0, sh.1, r.1))

-- ---- sessions

-- what holds of each session's body holds of the body at a place, where it holds of no statements
pub at_body : (P : Code → Type 0) → P done → (ss : List Session) → All (λ (s : Session). P s.body) ss → (k : ℕ)
    → P (unwrap_or (slice_get (map (λ (s : Session). s.body) ss) k) done)
at_body P none [] h zero = none
at_body P none [] h (suc k) = none
at_body P none (s ∷ ss) h zero = h 0 s (omega arith)
at_body P none (s ∷ ss) h (suc k) = at_body P none ss (λ i d lt. h (suc i) d (omega arith)) k

pub bodies_typed : (service : Service) → IsTypedService service → All (λ (s : Session). IsTypedCode service no_locals s.body) service.sessions
bodies_typed service t = All-weaker (IsTypedSession service) (λ (s : Session). IsTypedCode service no_locals s.body) (λ s h. h.0) service.sessions t.sessions

pub checked_is_accepted : CheckedIsAccepted
checked_is_accepted service f empty c h =
    let g = with_cells f c in
    let least = least_obeys service f empty c h.least in
    let body = λ (k : ℕ). typed_code service g h.typed.gaps h.there h.shared (body_of service k) (first_number service k) no_locals [] (λ w. refl)
    (at_body (λ x. IsTypedCode service no_locals x) tt service.sessions (bodies_typed service h.typed) k) (h.scoped k) (h.cells k) (h.shows k) in
    record {
      literals = least.1;
      sessions = λ k. record {
        solves = record { scoped = h.scoped k; pages = (body k).1; leads = least.0 k };
        gaps = h.gaps k;
        kinded = record {
          plugs = (body k).0;
          differ = at_body (λ x. AllPairs (λ v w. v ≢ w) (local_names x)) (λ i j d lt l. absurd (omega arith)) service.sessions h.differ k;
        };
      };
    }

pub places_fit : PlacesFit
places_fit service f p scope e kind t g sh a l h = typed_at service f t.gaps g sh p scope a l e kind h
