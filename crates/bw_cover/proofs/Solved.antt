-- The union of all rounds obeys each edge.
use Rattle.std.proofs.Common.{◌≡◌, ℕ, zero, suc, ◌+◌, Bool, true, false, List, [], ◌∷◌, ◌++◌, Option, Some, None, take, map, refl, sym, ap, subst, arith}
use Rattle.std.specs.Prelude.{◌||◌, ◌&&◌, not, if◌then◌else◌, option_map, sum_by, slice_get, unwrap_or}
use Rattle.std.specs.List.{list_any, AllByRecursion}
use Rattle.std.proofs.lemmas.Bool.{false≢true, eq-eqb}
use Rattle.std.proofs.lemmas.List.Sums.{sum_by-cons}
use Rattle.bw_lang.specs.declared.service.Service.{Service}
use Rattle.bw_lang.specs.declared.service.Session.{Session}
use Rattle.bw_lang.specs.declared.service.Shared.{Shared}
use Rattle.bw_lang.specs.declared.stmt.Receive.{Receive}
use Rattle.bw_lang.specs.Service.Code.{done, numbered}
use Rattle.bw_lang.specs.Table.Names.{same}
use Rattle.bw_cover.specs.Abstracts.{Abstract, any, Below, known}
use Rattle.bw_cover.specs.Facts.{What, keeps, sets, brings, takes, Facts, is_shared, template_known, look, received_by, receives_by, own, left, Adds}
use Rattle.bw_cover.specs.Facts.{Edge, EachLeads}
use Rattle.bw_types.specs.Scopes.{is_among}
use Rattle.bw_cover.specs.Spots.{Spot, statement, meeting, out, edges}
use Rattle.bw_cover.specs.Least.{Cells, with_cells, join, join_if, same_spot, added, joined_local, joined_shared, joined_literals, rounds, AreBelow}
use Rattle.bw_cover.specs.Least.{IsLeast, service_edges, LeastObeys}
use Rattle.bw_cover.specs.Facts.{literal_known}
use Rattle.bw_lang.proofs.SameNames.{same_self}
use Rattle.bw_cover.proofs.Rising.{below_refl, below_trans, join_left, join_right, received_more, receives_more, known_more}

spot_itself : (p : Spot) → same_spot p p ≡ true
spot_itself (statement n) = eq-eqb n n refl
spot_itself (meeting n) = eq-eqb n n refl
spot_itself out = refl

join_one : (t : Bool) (o : Option Abstract) (a b : Abstract) → t ≡ true → o ≡ Some a → Below a (join_if t o b)
join_one true None a b t e = cc
join_one true (Some c) a b t e = let k : c ≡ a = cc in subst (λ x. Below x (join c b)) k (join_left c b)
join_one false o a b t e = absurd (false≢true t)

join_rest : (t : Bool) (o : Option Abstract) (b : Abstract) → Below b (join_if t o b)
join_rest true None b = below_refl b
join_rest true (Some a) b = join_right a b
join_rest false o b = below_refl b

module _ {K : Type 0} (is_same : K → K → Bool) (itself : (p : K) → is_same p p ≡ true) (service : Service) (f : Facts K) (c d : Cells K)
    (h : AreBelow service f c d) where
  abbrev C : Facts K
  C = with_cells f c

  abbrev D : Facts K
  D = with_cells f d

  look_by : (p : K) (w : List ℕ) (s t : Bool) → is_among w (f.scope p) ≡ s → is_shared service w ≡ t
      → Below (if s then c.local p w else if t then c.shared w else template_known service w)
      (if s then d.local p w else if t then d.shared w else template_known service w)
  look_by p w true t e k = h.local p w e
  look_by p w false true e k = h.shared w k
  look_by p w false false e k = below_refl (template_known service w)

  look_more : (p : K) (w : List ℕ) → Below (look service C p w) (look service D p w)
  look_more p w = look_by p w (is_among w (f.scope p)) (is_shared service w) refl refl

  -- something that is left is left too where more is known, and more of it
  More : Option Abstract → Option Abstract → Type 0
  More o n = (a : Abstract) → o ≡ Some a → (b : Abstract) × (n ≡ Some b) × Below a b

  more_some : (a b : Abstract) → Below a b → (x : Abstract) → Some a ≡ Some x → (y : Abstract) × (Some b ≡ Some y) × Below x y
  more_some a b k x e = let i : a ≡ x = cc in (b, refl, subst (λ z. Below z b) i k)

  more_if : (s : Bool) (a b : Abstract) (o n : Option Abstract) → Below a b → ((x : Abstract) → o ≡ Some x → (y : Abstract) × (n ≡ Some y) × Below x y)
      → (x : Abstract) → (if s then Some a else o) ≡ Some x → (y : Abstract) × ((if s then Some b else n) ≡ Some y) × Below x y
  more_if true a b o n k m x e = more_some a b k x e
  more_if false a b o n k m x e = m x e

  own_by : (p : K) (w : List ℕ) (s : Bool) → is_among w (f.scope p) ≡ s → (x : Abstract) → (if s then Some (c.local p w) else None) ≡ Some x
      → (y : Abstract) × ((if s then Some (d.local p w) else None) ≡ Some y) × Below x y
  own_by p w true i x e = more_some (c.local p w) (d.local p w) (h.local p w i) x e
  own_by p w false i x e = cc

  own_more : (p : K) (w : List ℕ) (x : Abstract) → own C p w ≡ Some x → (y : Abstract) × (own D p w ≡ Some y) × Below x y
  own_more p w x e = own_by p w (is_among w (f.scope p)) refl x e

  received_own : (rs : List Receive) (w : List ℕ) (o n : Option Abstract) → ((x : Abstract) → o ≡ Some x → (y : Abstract) × (n ≡ Some y) × Below x y)
      → (x : Abstract) → option_map (receives_by rs w) o ≡ Some x → (y : Abstract) × (option_map (receives_by rs w) n ≡ Some y) × Below x y
  received_own rs w None n m x e = cc
  received_own rs w (Some a) n m x e =
      let r = m a refl in
      let i : receives_by rs w a ≡ x = cc in
      (receives_by rs w r.0, ap (option_map (receives_by rs w)) r.1, subst (λ z. Below z (receives_by rs w r.0)) i (receives_more rs w a r.0 r.2))

  left_more : (p : K) (what : What) (w : List ℕ) (x : Abstract) → left service C p what w ≡ Some x → (y : Abstract) × (left service D p what w ≡ Some y)
      × Below x y
  left_more p keeps w x e = own_more p w x e
  left_more p (sets v t) w x e =
      more_if (same w v) (known service (look service C p) t) (known service (look service D p) t) (own C p w) (own D p w)
      (known_more service (look service C p) (look service D p) (look_more p) t) (own_more p w) x e
  left_more p (brings v) w x e = more_if (same w v) any any (own C p w) (own D p w) (below_refl any) (own_more p w) x e
  left_more p (takes rs) w x e = received_own rs w (own C p w) (own D p w) (own_more p w) x e

  -- ---- what is added to shared variables

  some_if : (b : Bool) (a : Abstract) → b ≡ true → (if b then Some a else None) ≡ Some a
  some_if true a e = refl
  some_if false a e = absurd (false≢true e)

  and_true : (a b : Bool) → a ≡ true → b ≡ false → (a && not b) ≡ true
  and_true true true e k = absurd (false≢true (sym k))
  and_true true false e k = refl
  and_true false b e k = absurd (false≢true e)

  first_of : (a b : Bool) → a ≡ true → (a || b) ≡ true
  first_of true b e = refl
  first_of false b e = absurd (false≢true e)

  other_of : (a b : Bool) → b ≡ true → (a || b) ≡ true
  other_of true b e = refl
  other_of false b e = e

  abbrev is_target : K → List ℕ → Receive → Bool
  is_target p w r = same w r.target && not (is_among r.target (f.scope p))

  adds_receives : (p : K) (all rs : List Receive)
      → ((w : List ℕ) → list_any (is_target p w) rs ≡ true → list_any (is_target p w) all ≡ true)
      → ((w : List ℕ) (a : Abstract) → is_shared service w ≡ true → added service D p (takes all) w ≡ Some a → Below a (c.shared w))
      → AllByRecursion (λ (r : Receive). is_among r.target (f.scope p) ≡ false → is_shared service r.target ≡ true
      → Below (received_by (c.shared r.target)) (c.shared r.target)) rs
  adds_receives p all [] within up = tt
  adds_receives p all (r ∷ rs) within up = (
    λ fresh there.
        below_trans (received_by (c.shared r.target)) (received_by (d.shared r.target)) (c.shared r.target)
        (received_more (c.shared r.target) (d.shared r.target) (h.shared r.target there))
        (up r.target (received_by (d.shared r.target)) there
        (some_if (list_any (is_target p r.target) all) (received_by (d.shared r.target))
        (within r.target (first_of (is_target p r.target r) (list_any (is_target p r.target) rs)
        (and_true (same r.target r.target) (is_among r.target (f.scope p)) (same_self r.target) fresh))))),
    adds_receives p all rs (λ w k. within w (other_of (is_target p w r) (list_any (is_target p w) rs) k)) up,
  )

  adds_more : (p : K) (what : What) → ((w : List ℕ) (a : Abstract) → is_shared service w ≡ true → added service D p what w ≡ Some a → Below a (c.shared w))
      → Adds service C p what
  adds_more p keeps up = tt
  adds_more p (brings v) up = tt
  adds_more p (sets v e) up = λ fresh there.
      below_trans (known service (look service C p) e) (known service (look service D p) e) (c.shared v)
      (known_more service (look service C p) (look service D p) (look_more p) e)
      (up v (known service (look service D p) e) there
      (some_if (same v v && not (is_among v (f.scope p))) (known service (look service D p) e)
      (and_true (same v v) (is_among v (f.scope p)) (same_self v) fresh)))
  adds_more p (takes rs) up = adds_receives p rs rs (λ w k. k) up

  -- ---- each edge

  obeys : (es : List (Edge K)) (empty : Cells K) (first : List ℕ → Abstract)
      → ((q : K) (w : List ℕ) → is_among w (f.scope q) ≡ true → Below (joined_local is_same service D es q w (empty.local q w)) (c.local q w))
      → ((w : List ℕ) → is_shared service w ≡ true → Below (joined_shared service D es w (first w)) (c.shared w)) → EachLeads service C es
  obeys [] empty first l s = tt
  obeys (e ∷ es) empty first l s = (
    record {
      locals = λ w a i k.
          let r = left_more e.from e.what w a k in
          let rest = joined_local is_same service D es e.to w (empty.local e.to w) in
          below_trans a r.0 (c.local e.to w) r.2
          (below_trans r.0 (join_if (is_same e.to e.to) (left service D e.from e.what w) rest) (c.local e.to w)
          (join_one (is_same e.to e.to) (left service D e.from e.what w) r.0 rest (itself e.to) r.1) (l e.to w i));
      adds = adds_more e.from e.what (λ w a i k.
          let rest = joined_shared service D es w (first w) in
          below_trans a (join_if true (added service D e.from e.what w) rest) (c.shared w) (join_one true (added service D e.from e.what w) a rest refl k)
          (s w i));
    },
    obeys es empty first
        (λ q w i. let rest = joined_local is_same service D es q w (empty.local q w) in
        below_trans rest (join_if (is_same e.to q) (left service D e.from e.what w) rest) (c.local q w)
        (join_rest (is_same e.to q) (left service D e.from e.what w) rest) (l q w i))
        (λ w i. let rest = joined_shared service D es w (first w) in
        below_trans rest (join_if true (added service D e.from e.what w) rest) (c.shared w) (join_rest true (added service D e.from e.what w) rest) (s w i)),
  )

-- ---- literals

shared_first : {K : Type 0} (service : Service) (f : Facts K) (es : List (Edge K)) (w : List ℕ) (first : Abstract)
    → Below first (joined_shared service f es w first)
shared_first service f [] w first = below_refl first
shared_first service f (e ∷ es) w first =
    let rest = joined_shared service f es w first in
    below_trans first rest (join_if true (added service f e.from e.what w) rest) (shared_first service f es w first)
    (join_rest true (added service f e.from e.what w) rest)

module _ {K : Type 0} (service : Service) (c empty : Cells K) where
  each_literal : (vs : List Shared)
      → ((w : List ℕ) → is_among w (map (λ (v : Shared). v.name) vs) ≡ true → Below (joined_literals service vs w (empty.shared w)) (c.shared w))
      → AllByRecursion (λ (v : Shared). Below (literal_known service v.init) (c.shared v.name)) vs
  each_literal [] h = tt
  each_literal (v ∷ vs) h = (
    below_trans (literal_known service v.init) (joined_literals service (v ∷ vs) v.name (empty.shared v.name)) (c.shared v.name)
        (join_one (same v.name v.name) (Some (literal_known service v.init)) (literal_known service v.init)
        (joined_literals service vs v.name (empty.shared v.name)) (same_self v.name) refl)
        (h v.name (one (same v.name v.name) (is_among v.name (map (λ (x : Shared). x.name) vs)) (same_self v.name))),
    each_literal vs (λ w i.
        let rest = joined_literals service vs w (empty.shared w) in
        below_trans rest (join_if (same w v.name) (Some (literal_known service v.init)) rest) (c.shared w)
        (join_rest (same w v.name) (Some (literal_known service v.init)) rest)
        (h w (two (same w v.name) (is_among w (map (λ (x : Shared). x.name) vs)) i))),
  )
    where
      one : (a b : Bool) → a ≡ true → (a || b) ≡ true
      one true b e = refl
      one false b e = absurd (false≢true e)

      two : (a b : Bool) → b ≡ true → (a || b) ≡ true
      two true b e = refl
      two false b e = e

-- ---- sessions

module _ (service : Service) (f : Facts Spot) where
  parts : (a b : List (Edge Spot)) → EachLeads service f (a ++ b) → EachLeads service f a × EachLeads service f b
  parts [] b h = (tt, h)
  parts (e ∷ a) b h = let r = parts a b h.1 in ((h.0, r.0), r.1)

  session_leads : (ss : List Session) (n k : ℕ) → EachLeads service f (service_edges ss n)
      → EachLeads service f
      (edges (unwrap_or (slice_get (map (λ (s : Session). s.body) ss) k) done) (n + sum_by (λ (s : Session). numbered s.body) (take k ss)) out)
  session_leads [] n zero h = tt
  session_leads [] n (suc k) h = tt
  session_leads (s ∷ ss) n zero h =
      let e : n ≡ n + sum_by (λ (x : Session). numbered x.body) [] = omega arith in
      subst (λ m. EachLeads service f (edges s.body m out)) e (parts (edges s.body n out) (service_edges ss (n + numbered s.body)) h).0
  session_leads (s ∷ ss) n (suc k) h =
      let c = sum_by-cons (λ (x : Session). numbered x.body) s (take k ss) in
      let e : n + numbered s.body + sum_by (λ (x : Session). numbered x.body) (take k ss) ≡ n + sum_by (λ (x : Session). numbered x.body) (s ∷ take k ss) =
      omega (arith, c) in
      subst (λ m. EachLeads service f (edges (unwrap_or (slice_get (map (λ (x : Session). x.body) ss) k) done) m out)) e
      (session_leads ss (n + numbered s.body) k (parts (edges s.body n out) (service_edges ss (n + numbered s.body)) h).1)

-- the union of all rounds obeys each edge, and the literals
pub least_leads : {K : Type 0} (is_same : K → K → Bool) → ((p : K) → is_same p p ≡ true)
    → (service : Service) (f : Facts K) (es : List (Edge K)) (empty c : Cells K) → IsLeast is_same service f es empty c
    → EachLeads service (with_cells f c) es × AllByRecursion (λ (v : Shared). Below (literal_known service v.init) (c.shared v.name)) service.shared
least_leads is_same itself service f es empty c h =
    let n = h.reached.0 in
    let d = rounds is_same service f es empty n in
    let up = h.above (suc n) in
    let first = λ (w : List ℕ). joined_literals service service.shared w (empty.shared w) in (
      obeys is_same itself service f c d h.reached.1 es empty first (λ q w i. up.local q w i) (λ w i. up.shared w i),
      each_literal service c empty service.shared (λ w i.
          below_trans (first w) (joined_shared service (with_cells f d) es w (first w)) (c.shared w) (shared_first service (with_cells f d) es w (first w))
          (up.shared w i)),
    )

pub least_obeys : LeastObeys
least_obeys service f empty c h =
    let r = least_leads same_spot spot_itself service f (service_edges service.sessions 1) empty c h in
    (λ session. session_leads service (with_cells f c) service.sessions 1 session r.0, r.1)
