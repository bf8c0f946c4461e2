-- Rounds keep the kinds of cells.
use Rattle.std.proofs.Common.{◌≡◌, ◌⊎◌, inl, inr, ℕ, zero, suc, Bool, true, false, List, [], ◌∷◌, Option, Some, None, refl, sym, ap, ◌∙◌, subst}
use Rattle.std.specs.Prelude.{◌||◌, ◌&&◌, not, if◌then◌else◌, option_map, is_some}
use Rattle.std.specs.List.{list_any, AllByRecursion, AllPairs}
use Rattle.std.specs.Option.{option_or}
use Rattle.std.proofs.lemmas.Bool.{false≢true}
use Rattle.bw_lang.specs.declared.service.Service.{Service}
use Rattle.bw_lang.specs.declared.service.Shared.{Shared}
use Rattle.bw_lang.specs.declared.stmt.Kind.{Kind}
use Rattle.bw_lang.specs.declared.stmt.Receive.{Receive}
use Rattle.bw_lang.specs.Table.Names.{same, beside}
use Rattle.bw_lang.specs.Service.Term.{Term}
use Rattle.bw_types.specs.Gaps.{template_uses}
use Rattle.bw_types.specs.Scopes.{Scope, shared_kinds, variable_kind, is_among}
use Rattle.bw_types.specs.Typing.{IsReceived}
use Rattle.bw_cover.specs.Abstracts.{Abstract, Nothing, Strings, Html, any, Below, known}
use Rattle.bw_cover.specs.Facts.{What, keeps, sets, brings, takes, Facts, is_shared, look, received_by, receives_by, own, left, Edge}
use Rattle.bw_cover.specs.Kinds.{IsOf, GapsAreThere, Agree, LiteralsAreOf}
use Rattle.bw_cover.specs.Least.{Cells, with_cells, join, join_if, added, joined_local, joined_shared, joined_literals, rounds, IsLeast}
use Rattle.bw_cover.specs.LeastKinds.{AreKinded, TypedStep, EachTyped}
use Rattle.bw_cover.specs.Facts.{literal_known}
use Rattle.bw_lang.proofs.Options.{some_is}
use Rattle.bw_lang.proofs.SameNames.{same_is}
use Rattle.bw_cover.proofs.Checked.{shared_names, typed_at}
use Rattle.bw_lang.specs.declared.stmt.Kind.TheVariants as kinds

-- ---- kinds

join_of : (k : Kind) (a b : Abstract) → IsOf k a → IsOf k b → IsOf k (join a b)
join_of kinds.Int Nothing b h g = tt
join_of kinds.Int (Strings S) b h g = absurd h
join_of kinds.Int (Html G) b h g = absurd h
join_of kinds.Bool Nothing b h g = tt
join_of kinds.Bool (Strings S) b h g = absurd h
join_of kinds.Bool (Html G) b h g = absurd h
join_of kinds.Strs Nothing b h g = tt
join_of kinds.Strs (Strings S) b h g = absurd h
join_of kinds.Strs (Html G) b h g = absurd h
join_of kinds.Str Nothing b h g = absurd h
join_of kinds.Str (Strings S) Nothing h g = absurd g
join_of kinds.Str (Strings S) (Strings T) h g = tt
join_of kinds.Str (Strings S) (Html H) h g = absurd g
join_of kinds.Str (Html G) b h g = absurd h
join_of kinds.Html Nothing b h g = absurd h
join_of kinds.Html (Strings S) b h g = absurd h
join_of kinds.Html (Html G) Nothing h g = absurd g
join_of kinds.Html (Html G) (Strings T) h g = absurd g
join_of kinds.Html (Html G) (Html H) h g = tt

-- what is below and above has the same kind
between_of : (k : Kind) (a b : Abstract) → Below a b → Below b a → IsOf k a → IsOf k b
between_of k Nothing Nothing l u h = h
between_of k Nothing (Strings T) l u h = absurd l
between_of k Nothing (Html H) l u h = absurd l
between_of k (Strings S) Nothing l u h = absurd u
between_of kinds.Int (Strings S) (Strings T) l u h = h
between_of kinds.Bool (Strings S) (Strings T) l u h = h
between_of kinds.Str (Strings S) (Strings T) l u h = h
between_of kinds.Html (Strings S) (Strings T) l u h = h
between_of kinds.Strs (Strings S) (Strings T) l u h = h
between_of k (Strings S) (Html H) l u h = absurd l
between_of k (Html G) Nothing l u h = absurd u
between_of k (Html G) (Strings T) l u h = absurd l
between_of kinds.Int (Html G) (Html H) l u h = h
between_of kinds.Bool (Html G) (Html H) l u h = h
between_of kinds.Str (Html G) (Html H) l u h = h
between_of kinds.Html (Html G) (Html H) l u h = h
between_of kinds.Strs (Html G) (Html H) l u h = h

-- a field is received as a string or as a list
received_of : (k : Kind) (a : Abstract) → (k ≡ kinds.Str) ⊎ (k ≡ kinds.Strs) → IsOf k a → IsOf k (received_by a)
received_of k a (inl e) h = subst (λ x. IsOf x (received_by a)) (sym e) (string a (subst (λ x. IsOf x a) e h))
  where
    string : (a : Abstract) → IsOf kinds.Str a → IsOf kinds.Str (received_by a)
    string Nothing h = absurd h
    string (Strings S) h = tt
    string (Html G) h = absurd h
received_of k a (inr e) h = subst (λ x. IsOf x (received_by a)) (sym e) (strings a (subst (λ x. IsOf x a) e h))
  where
    strings : (a : Abstract) → IsOf kinds.Strs a → IsOf kinds.Strs (received_by a)
    strings Nothing h = tt
    strings (Strings S) h = absurd h
    strings (Html G) h = absurd h

-- the kind of a variable that is received into
target_of : (service : Service) (p : Scope) (r : Receive) (k : Kind) → IsReceived service p r → variable_kind service p r.target ≡ Some k
    → (k ≡ kinds.Str) ⊎ (k ≡ kinds.Strs)
target_of service p r k (inl e) h = inl (some_is k kinds.Str (sym h ∙ e))
target_of service p r k (inr e) h = inr (some_is k kinds.Strs (sym h ∙ e))

module _ (service : Service) (p : Scope) (w : List ℕ) (k : Kind) where
  receives_of : (rs : List Receive) (a : Abstract) → AllByRecursion (IsReceived service p) rs → beside w p.locals ≡ Some k → IsOf k a
      → IsOf k (receives_by rs w a)
  receives_of [] a t e h = h
  receives_of (r ∷ rs) a t e h = receives_of rs (if same w r.target then received_by a else a) t.1 e (by_test (same w r.target) refl)
    where
      by_test : (b : Bool) → same w r.target ≡ b → IsOf k (if b then received_by a else a)
      by_test true s = received_of k a
          (target_of service p r k t.0 (ap (λ x. option_or (beside x p.locals) (beside x (shared_kinds service))) (sym (same_is w r.target s))
          ∙ ap (λ o. option_or o (beside w (shared_kinds service))) e)) h
      by_test false s = h

  -- a shared variable that is received into
  some_target : (scope : List (List ℕ)) → Agree p scope → (rs : List Receive) → AllByRecursion (IsReceived service p) rs
      → beside w (shared_kinds service) ≡ Some k
      → list_any (λ (r : Receive). same w r.target && not (is_among r.target scope)) rs ≡ true → (k ≡ kinds.Str) ⊎ (k ≡ kinds.Strs)
  some_target scope a [] t e h = absurd (false≢true h)
  some_target scope a (r ∷ rs) t e h = by_test (same w r.target) (is_among r.target scope) refl refl h (some_target scope a rs t.1 e)
    where
      no_local : (o : Option Kind) → is_some o ≡ false → option_or o (beside r.target (shared_kinds service)) ≡ beside r.target (shared_kinds service)
      no_local None i = refl
      no_local (Some x) i = absurd (false≢true (sym i))

      by_test : (b c : Bool) → same w r.target ≡ b → is_among r.target scope ≡ c
          → ((b && not c) || list_any (λ (x : Receive). same w x.target && not (is_among x.target scope)) rs) ≡ true
          → (list_any (λ (x : Receive). same w x.target && not (is_among x.target scope)) rs ≡ true → (k ≡ kinds.Str) ⊎ (k ≡ kinds.Strs))
          → (k ≡ kinds.Str) ⊎ (k ≡ kinds.Strs)
      by_test true false s i q ih =
          target_of service p r k t.0 (no_local (beside r.target p.locals) (a r.target ∙ i)
          ∙ ap (λ x. beside x (shared_kinds service)) (sym (same_is w r.target s)) ∙ e)
      by_test true true s i q ih = ih q
      by_test false c s i q ih = ih q

-- ---- rounds

module _ {K : Type 0} (is_same : K → K → Bool) (agrees : (p q : K) → is_same p q ≡ true → p ≡ q) (service : Service)
    (one : AllPairs (λ x y. x.0 ≡ y.0 → x.1 ≡ y.1) (template_uses service.templates)) (there : GapsAreThere service)
    (f : Facts K) (sees : K → Scope) (agree : (q : K) → Agree (sees q) (f.scope q)) where
  module _ (c : Cells K) (h : AreKinded service sees (with_cells f c)) where
    abbrev C : Facts K
    C = with_cells f c

    own_by : (p : K) (w : List ℕ) (b : Bool) (a : Abstract) (k : Kind) → beside w (sees p).locals ≡ Some k
        → (if b then Some (c.local p w) else None) ≡ Some a → IsOf k a
    own_by p w true a k i e = subst (IsOf k) (some_is (c.local p w) a e) (h.locals p w k i)
    own_by p w false a k i e = cc

    own_of : (p : K) (w : List ℕ) (a : Abstract) (k : Kind) → beside w (sees p).locals ≡ Some k → own C p w ≡ Some a → IsOf k a
    own_of p w a k i e = own_by p w (is_among w (f.scope p)) a k i e

    or_own : (p : K) (w : List ℕ) (x a : Abstract) (k : Kind) (b : Bool) → (b ≡ true → IsOf k x) → (b ≡ false → beside w (sees p).locals ≡ Some k)
        → (if b then Some x else own C p w) ≡ Some a → IsOf k a
    or_own p w x a k true here else_ e = subst (IsOf k) (some_is x a e) (here refl)
    or_own p w x a k false here else_ e = own_of p w a k (else_ refl) e

    known_of : (p : K) (e : Term) (kind : Kind) → Rattle.bw_types.specs.Typing.HasKind service (sees p) e kind
        → IsOf kind (known service (look service C p) e)
    known_of p e kind t = (typed_at service C one there h.shared p (sees p) (agree p) (h.locals p) e kind t).0

    taken_of : (p : K) (rs : List Receive) (w : List ℕ) (k : Kind) (o : Option Abstract) (a : Abstract) → AllByRecursion (IsReceived service (sees p)) rs
        → beside w (sees p).locals ≡ Some k
        → ((x : Abstract) → o ≡ Some x → IsOf k x) → option_map (receives_by rs w) o ≡ Some a → IsOf k a
    taken_of p rs w k None a t i g e = cc
    taken_of p rs w k (Some x) a t i g e = subst (IsOf k) (some_is (receives_by rs w x) a e) (receives_of service (sees p) w k rs x t i (g x refl))

    left_kinded : (p : K) (what : What) (q : K) (w : List ℕ) (k : Kind) (a : Abstract) → TypedStep service (sees p) what (sees q)
        → beside w (sees q).locals ≡ Some k → left service C p what w ≡ Some a → IsOf k a
    left_kinded p keeps q w k a t i e = own_of p w a k (t w k i) e
    left_kinded p (sets v x) q w k a (kind, hk, but, sh) i e =
        or_own p w (known service (look service C p) x) a k (same w v)
        (λ s. subst (λ z. IsOf z (known service (look service C p) x)) (sym ((but w k i).0 s)) (known_of p x kind hk)) (λ s. (but w k i).1 s) e
    left_kinded p (brings v) q w k a but i e =
        or_own p w any a k (same w v) (λ s. subst (λ z. IsOf z any) (sym ((but w k i).0 s)) tt) (λ s. (but w k i).1 s) e
    left_kinded p (takes rs) q w k a (sub, t) i e = taken_of p rs w k (own C p w) a t (sub w k i) (λ x j. own_of p w x k (sub w k i) j) e

    added_if : (b : Bool) (x a : Abstract) (k : Kind) → (b ≡ true → IsOf k x) → (if b then Some x else None) ≡ Some a → IsOf k a
    added_if true x a k g e = subst (IsOf k) (some_is x a e) (g refl)
    added_if false x a k g e = cc

    both_true : (a b : Bool) → (a && not b) ≡ true → (a ≡ true) × (b ≡ false)
    both_true true true e = absurd (false≢true e)
    both_true true false e = (refl, refl)
    both_true false b e = absurd (false≢true e)

    none_there : (o : Option Kind) → is_some o ≡ false → o ≡ None
    none_there None e = refl
    none_there (Some x) e = absurd (false≢true (sym e))

    added_of : (p : K) (what : What) (q : K) (w : List ℕ) (k : Kind) (a : Abstract) → TypedStep service (sees p) what (sees q)
        → beside w (shared_kinds service) ≡ Some k → added service C p what w ≡ Some a → IsOf k a
    added_of p keeps q w k a t i e = cc
    added_of p (brings v) q w k a t i e = cc
    added_of p (sets v x) q w k a (kind, hk, but, sh) i e =
        added_if (same w v && not (is_among v (f.scope p))) (known service (look service C p) x) a k
        (λ s.
        let r = both_true (same w v) (is_among v (f.scope p)) s in
        subst (λ z. IsOf z (known service (look service C p) x))
        (sym (sh k (none_there (beside v (sees p).locals) (agree p v ∙ r.1)) (ap (λ y. beside y (shared_kinds service)) (sym (same_is w v r.0)) ∙ i)))
        (known_of p x kind hk)) e
    added_of p (takes rs) q w k a (sub, t) i e =
        added_if (list_any (λ (r : Receive). same w r.target && not (is_among r.target (f.scope p))) rs) (received_by (c.shared w)) a k
        (λ s. received_of k (c.shared w) (some_target service (sees p) w k (f.scope p) (agree p) rs t i s) (h.shared w k i)) e

    join_if_of : (b : Bool) (o : Option Abstract) (x : Abstract) (k : Kind) → (b ≡ true → (a : Abstract) → o ≡ Some a → IsOf k a) → IsOf k x
        → IsOf k (join_if b o x)
    join_if_of true None x k g j = j
    join_if_of true (Some a) x k g j = join_of k a x (g refl a refl) j
    join_if_of false o x k g j = j

    local_of : (es : List (Edge K)) (q : K) (w : List ℕ) (k : Kind) (empty : Abstract) → EachTyped service sees es → beside w (sees q).locals ≡ Some k
        → IsOf k empty → IsOf k (joined_local is_same service C es q w empty)
    local_of [] q w k empty t i g = g
    local_of (e ∷ es) q w k empty t i g =
        join_if_of (is_same e.to q) (left service C e.from e.what w) (joined_local is_same service C es q w empty) k
        (λ s a j. left_kinded e.from e.what e.to w k a t.0 (ap (λ z. beside w (sees z).locals) (agrees e.to q s) ∙ i) j) (local_of es q w k empty t.1 i g)

    shared_of : (es : List (Edge K)) (w : List ℕ) (k : Kind) (first : Abstract) → EachTyped service sees es → beside w (shared_kinds service) ≡ Some k
        → IsOf k first → IsOf k (joined_shared service C es w first)
    shared_of [] w k first t i g = g
    shared_of (e ∷ es) w k first t i g =
        join_if_of true (added service C e.from e.what w) (joined_shared service C es w first) k (λ s a j. added_of e.from e.what e.to w k a t.0 i j)
        (shared_of es w k first t.1 i g)

    literals_of : (vs : List Shared) (w : List ℕ) (k : Kind) (empty : Abstract)
        → AllByRecursion (λ (v : Shared). (kind : Kind) → beside v.name (shared_kinds service) ≡ Some kind → IsOf kind (literal_known service v.init)) vs
        → beside w (shared_kinds service) ≡ Some k → IsOf k empty → IsOf k (joined_literals service vs w empty)
    literals_of [] w k empty t i g = g
    literals_of (v ∷ vs) w k empty t i g =
        join_if_of (same w v.name) (Some (literal_known service v.init)) (joined_literals service vs w empty) k
        (λ s a j. subst (IsOf k) (some_is (literal_known service v.init) a j)
        (t.0 k (ap (λ z. beside z (shared_kinds service)) (sym (same_is w v.name s)) ∙ i))) (literals_of vs w k empty t.1 i g)

  module _ (es : List (Edge K)) (typed : EachTyped service sees es) (literals : LiteralsAreOf service) (empty : Cells K)
      (h : AreKinded service sees (with_cells f empty)) where
    rounds_kinded : (n : ℕ) → AreKinded service sees (with_cells f (rounds is_same service f es empty n))
    rounds_kinded zero = h
    rounds_kinded (suc n) =
        let c = rounds is_same service f es empty n in
        let r = rounds_kinded n in record {
          locals = λ q w k i. local_of (rounds is_same service f es empty n) r es q w k (empty.local q w) typed i (h.locals q w k i);
          shared = λ w k i. shared_of (rounds is_same service f es empty n) r es w k (joined_literals service service.shared w (empty.shared w)) typed i
              (literals_of (rounds is_same service f es empty n) r service.shared w k (empty.shared w) literals i (h.shared w k i));
        }

    -- the union of all rounds
    pub least_kinded : (c : Cells K) → IsLeast is_same service f es empty c → AreKinded service sees (with_cells f c)
    least_kinded c l =
        let n = l.reached.0 in
        let r = rounds_kinded n in
        let up = l.above n in record {
          locals = λ q w k i.
              let there_ : is_among w (f.scope q) ≡ true = sym (agree q w) ∙ ap is_some i in
              between_of k ((rounds is_same service f es empty l.reached.0).local q w) (c.local q w) (up.local q w there_) (l.reached.1.local q w there_)
              (r.locals q w k i);
          shared = λ w k i.
              let there_ : is_shared service w ≡ true = sym (shared_names service.shared w) ∙ ap is_some i in
              between_of k ((rounds is_same service f es empty l.reached.0).shared w) (c.shared w) (up.shared w there_) (l.reached.1.shared w there_)
              (r.shared w k i);
        }
