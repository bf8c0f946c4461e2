-- A session whose facts obey each edge of the tree is laid out over the tree's own points.
use Rattle.std.proofs.Common.{◌≡◌, ℕ, suc, ◌+◌, Bool, true, false, List, [], ◌∷◌, ◌++◌, refl, sym, ap, ◌∙◌, arith}
use Rattle.std.specs.Prelude.{◌≢◌, ◌||◌}
use Rattle.std.specs.List.{AllPairs}
use Rattle.std.proofs.lemmas.Bool.{false≢true, or_parts, false_from_ne_true}
use Rattle.std.proofs.lemmas.List.Folds.{list_any-append, list_any_none}
use Rattle.bw_lang.specs.declared.service.Service.{Service}
use Rattle.bw_lang.specs.Service.Code.{Code, done, declare, assign, if_then, if_else, while_loop, block, for_each, show, exit, numbered}
use Rattle.bw_lang.specs.Service.CodeNames.{local_names}
use Rattle.bw_lang.specs.Table.Names.{same}
use Rattle.bw_lang.specs.Service.Term.{Term}
use Rattle.bw_meaning.specs.GoOn.{body_of}
use Rattle.bw_lang.specs.Service.Numbers.{first_number}
use Rattle.bw_meaning.specs.Statements.{declared}
use Rattle.bw_cover.specs.Abstracts.{EachPair, IsNotLacked, IsPlug}
use Rattle.bw_cover.specs.Facts.{keeps, Facts, look, Edge, edge, EachLeads, IsPoint, Apart, Laid}
use Rattle.bw_types.specs.Scopes.{is_among}
use Rattle.bw_cover.specs.Spots.{Spot, statement, meeting, out, starts, edges, Scoped, Pages, EachPoint, Solves, HasNoGapFault, IsKinded}
use Rattle.bw_cover.proofs.Names.{among-added}
use Rattle.bw_lang.proofs.SameNames.{same_is, same_self}

-- ---- names that differ

-- each name is not among those behind it
abbrev pub Distinct : List (List ℕ) → Type 0
Distinct [] = Unit {0}
Distinct (w ∷ ws) = (is_among w ws ≡ false) × Distinct ws

pub distinct : (ws : List (List ℕ)) → AllPairs (λ v w. v ≢ w) ws → Distinct ws
distinct [] h = tt
distinct (w ∷ ws) h = (
  list_any_none (same w) ws (λ k d lt. false_from_ne_true (same w _) (λ e. h 0 (suc k) d (omega arith) (omega arith) (same_is w _ e))),
  distinct ws (λ i j d lt l. h (suc i) (suc j) d (omega arith) (omega arith)),
)

pub both_false : (a b : Bool) → a ≡ false → b ≡ false → (a || b) ≡ false
both_false true b h k = h
both_false false b h k = k

pub distinct_append : (xs ys : List (List ℕ)) → Distinct (xs ++ ys) → Distinct xs × Distinct ys
distinct_append [] ys h = (tt, h)
distinct_append (x ∷ xs) ys h =
    let r = distinct_append xs ys h.1 in
    (((or_parts (is_among x xs) (is_among x ys) (sym (list_any-append (same x) xs ys) ∙ h.0)).0, r.0), r.1)

-- no name in scope is among the locals of the statements
pub apart_append : (sc xs ys : List (List ℕ)) → Apart sc (xs ++ ys) → Apart sc xs × Apart sc ys
apart_append sc xs ys a =
    let both = λ (w : List ℕ) (h : is_among w sc ≡ true). or_parts (is_among w xs) (is_among w ys) (sym (list_any-append (same w) xs ys) ∙ a w h) in
    (λ w h. (both w h).0, λ w h. (both w h).1)

pub apart_new : (sc : List (List ℕ)) (w : List ℕ) (ws : List (List ℕ)) → Apart sc (w ∷ ws) → is_among w sc ≡ false
apart_new sc w ws a = false_from_ne_true (is_among w sc) (λ e. false≢true (sym (or_parts (same w w) (is_among w ws) (a w e)).0 ∙ same_self w))

pub apart_next : (sc : List (List ℕ)) (w : List ℕ) (ws : List (List ℕ)) → Apart sc (w ∷ ws) → is_among w ws ≡ false → Apart (sc ++ w ∷ []) ws
apart_next sc w ws a d v h = by_test (is_among v sc) (same v w) refl refl (sym (among-added v w sc) ∙ h)
  where
    by_test : (b c : Bool) → is_among v sc ≡ b → same v w ≡ c → (b || c) ≡ true → is_among v ws ≡ false
    by_test true c e t k = (or_parts (same v w) (is_among v ws) (a v e)).1
    by_test false true e t k = ap (λ z. is_among z ws) (same_is v w t) ∙ d
    by_test false false e t k = absurd (false≢true k)

-- what a block itself declares is among its locals
pub declared_local : (w : List ℕ) (c : Code) → is_among w (local_names c) ≡ false → is_among w (declared c) ≡ false
declared_local w done h = refl
declared_local w (declare kind v e rest) h = let r = or_parts (same w v) (is_among w (local_names rest)) h in
    both_false (same w v) (is_among w (declared rest)) r.0 (declared_local w rest r.1)
declared_local w (assign v e rest) h = declared_local w rest h
declared_local w (if_then t y rest) h =
    declared_local w rest
    (or_parts (is_among w (local_names y)) (is_among w (local_names rest)) (sym (list_any-append (same w) (local_names y) (local_names rest)) ∙ h)).1
declared_local w (if_else t y z rest) h =
    let r = or_parts (is_among w (local_names y)) (is_among w (local_names z ++ local_names rest))
    (sym (list_any-append (same w) (local_names y) (local_names z ++ local_names rest)) ∙ h) in
    declared_local w rest
    (or_parts (is_among w (local_names z)) (is_among w (local_names rest)) (sym (list_any-append (same w) (local_names z) (local_names rest)) ∙ r.1)).1
declared_local w (while_loop t b rest) h =
    declared_local w rest
    (or_parts (is_among w (local_names b)) (is_among w (local_names rest)) (sym (list_any-append (same w) (local_names b) (local_names rest)) ∙ h)).1
declared_local w (block b rest) h =
    declared_local w rest
    (or_parts (is_among w (local_names b)) (is_among w (local_names rest)) (sym (list_any-append (same w) (local_names b) (local_names rest)) ∙ h)).1
declared_local w (for_each v e b rest) h =
    let r = or_parts (same w v) (is_among w (local_names b ++ local_names rest)) h in
    declared_local w rest
    (or_parts (is_among w (local_names b)) (is_among w (local_names rest)) (sym (list_any-append (same w) (local_names b) (local_names rest)) ∙ r.1)).1
declared_local w (show p rs rest) h = declared_local w rest h
declared_local w (exit p rest) h = declared_local w rest h

pub apart_declared : (sc : List (List ℕ)) (c : Code) → Apart sc (local_names c) → Apart sc (declared c)
apart_declared sc c a w h = declared_local w c (a w h)

-- ---- edges

module _ (service : Service) (f : Facts Spot) where
  leads_append : (a b : List (Edge Spot)) → EachLeads service f (a ++ b) → EachLeads service f a × EachLeads service f b
  leads_append [] b h = (tt, h)
  leads_append (e ∷ a) b h = let r = leads_append a b h.1 in ((h.0, r.0), r.1)

  abbrev G : Spot → Term → Type 0
  G p e = EachPair IsNotLacked service (look service f p) e

  abbrev P : Spot → Term → Type 0
  P p e = EachPair (IsPlug service) service (look service f p) e

  at : (p : Spot) (sc : List (List ℕ)) (e : Term) → f.scope p ≡ sc → G p e → P p e → IsPoint service f p sc e
  at p sc e s g k = record { scope = s; gaps = g; plugs = k }

  laid : (c : Code) (n : ℕ) (sc : List (List ℕ)) (q : Spot) → Distinct (local_names c) → Apart sc (local_names c) → Scoped f c n sc → Pages service f c n
      → EachLeads service f (edges c n q) → EachPoint G c n → EachPoint P c n
      → Laid service f c n sc (starts c n q) q
  laid done n sc q d a s pg l g k = refl
  laid (declare kind w e rest) n sc q d a s pg l g k = (
    starts rest (n + 1) q,
    at (statement n) sc e s.0 g.0 k.0,
    apart_new sc w (local_names rest) a,
    l.0,
    laid rest (n + 1) (sc ++ w ∷ []) q d.1
        (apart_next sc w (local_names rest) a d.0) s.1 pg l.1 g.1 k.1,
  )
  laid (assign w e rest) n sc q d a s pg l g k =
      (starts rest (n + 1) q, at (statement n) sc e s.0 g.0 k.0, l.0, laid rest (n + 1) sc q d a s.1 pg l.1 g.1 k.1)
  laid (if_then t y rest) n sc q d a s pg l g k =
      let m = n + 1 + numbered y in
      let dd = distinct_append (local_names y) (local_names rest) d in
      let aa = apart_append sc (local_names y) (local_names rest) a in
      let ll = leads_append (edges y (n + 1) (meeting n)) (edge (meeting n) keeps (starts rest m q) ∷ edges rest m q) l.1.1 in (
        starts y (n + 1) (meeting n),
        meeting n,
        starts rest m q,
        at (statement n) sc t s.0 g.0 k.0,
        s.1,
        apart_declared sc y aa.0,
        l.0,
        l.1.0,
        ll.1.0,
        laid y (n + 1) sc (meeting n) dd.0 aa.0 s.2 pg.0 ll.0 g.1 k.1,
        laid rest m sc q dd.1 aa.1 s.3 pg.1 ll.1.1 g.2 k.2,
      )
  laid (if_else t y z rest) n sc q d a s pg l g k =
      let j = n + 1 + numbered y in
      let m = j + numbered z in
      let dd = distinct_append (local_names y) (local_names z ++ local_names rest) d in
      let de = distinct_append (local_names z) (local_names rest) dd.1 in
      let aa = apart_append sc (local_names y) (local_names z ++ local_names rest) a in
      let ae = apart_append sc (local_names z) (local_names rest) aa.1 in
      let ll = leads_append (edges y (n + 1) (meeting n)) (edges z j (meeting n) ++ edge (meeting n) keeps (starts rest m q) ∷ edges rest m q) l.1.1 in
      let le = leads_append (edges z j (meeting n)) (edge (meeting n) keeps (starts rest m q) ∷ edges rest m q) ll.1 in (
        starts y (n + 1) (meeting n),
        starts z j (meeting n),
        meeting n,
        starts rest m q,
        at (statement n) sc t s.0 g.0 k.0,
        s.1,
        apart_declared sc y aa.0,
        apart_declared sc z ae.0,
        l.0,
        l.1.0,
        le.1.0,
        laid y (n + 1) sc (meeting n) dd.0 aa.0 s.2 pg.0 ll.0 g.1 k.1,
        laid z j sc (meeting n) de.0 ae.0 s.3 pg.1 le.0 g.2 k.2,
        laid rest m sc q de.1 ae.1 s.4 pg.2 le.1.1 g.3 k.3,
      )
  laid (while_loop t b rest) n sc q d a s pg l g k =
      let m = n + 1 + numbered b in
      let dd = distinct_append (local_names b) (local_names rest) d in
      let aa = apart_append sc (local_names b) (local_names rest) a in
      let ll = leads_append (edges b (n + 1) (statement n)) (edges rest m q) l.1.1 in (
        starts b (n + 1) (statement n),
        starts rest m q,
        at (statement n) sc t s.0 g.0 k.0,
        apart_declared sc b aa.0,
        l.0,
        l.1.0,
        laid b (n + 1) sc (statement n) dd.0 aa.0 s.1 pg.0 ll.0 g.1 k.1,
        laid rest m sc q dd.1 aa.1 s.2 pg.1 ll.1 g.2 k.2,
      )
  laid (block b rest) n sc q d a s pg l g k =
      let m = n + numbered b in
      let r = starts rest m q in
      let dd = distinct_append (local_names b) (local_names rest) d in
      let aa = apart_append sc (local_names b) (local_names rest) a in
      let ll = leads_append (edges b n r) (edges rest m q) l in (
        r,
        apart_declared sc b aa.0,
        laid b n sc r dd.0 aa.0 s.0 pg.0 ll.0 g.0 k.0,
        laid rest m sc q dd.1 aa.1 s.1 pg.1 ll.1 g.1 k.1,
      )
  laid (for_each w e b rest) n sc q d a s pg l g k =
      let m = n + 1 + numbered b in
      let inner = local_names b ++ local_names rest in
      let ar = apart_next sc w inner a d.0 in
      let dd = distinct_append (local_names b) (local_names rest) d.1 in
      let ai = apart_append (sc ++ w ∷ []) (local_names b) (local_names rest) ar in
      let tail = λ (v : List ℕ) (h : is_among v sc ≡ true). or_parts (same v w) (is_among v inner) (a v h) in
      let aa = apart_append sc (local_names b) (local_names rest) (λ v h. (tail v h).1) in
      let ll = leads_append (edges b (n + 1) (statement n)) (edges rest m q) l.1.1 in (
        starts b (n + 1) (statement n),
        starts rest m q,
        at (statement n) sc e s.0 g.0 k.0,
        λ v h. both_false (same v w) (is_among v (declared b)) (tail v h).0 (apart_declared sc b aa.0 v h),
        l.0,
        l.1.0,
        laid b (n + 1) (sc ++ w ∷ []) (statement n) dd.0 ai.0 s.1 pg.0 ll.0 g.1 k.1,
        laid rest m sc q dd.1 aa.1 s.2 pg.1 ll.1 g.2 k.2,
      )
  laid (show e rs rest) n sc q d a s pg l g k =
      (starts rest (n + 1) q, at (statement n) sc e s.0 g.0 k.0, pg.0, pg.1, l.0, laid rest (n + 1) sc q d a s.1 pg.2 l.1 g.1 k.1)
  laid (exit e rest) n sc q d a s pg l g k =
      (starts rest (n + 1) q, at (statement n) sc e s.0 g.0 k.0, pg.0, pg.1, laid rest (n + 1) sc q d a s.1 pg.2 l g.1 k.1)

  pub laid_session : (session : ℕ) → Solves service f session → HasNoGapFault service f session → IsKinded service f session
      → Laid service f (body_of service session) (first_number service session) [] (starts (body_of service session) (first_number service session) out) out
  laid_session session s g k =
      laid (body_of service session) (first_number service session) [] out (distinct (local_names (body_of service session)) k.differ)
      (λ w h. absurd (false≢true h)) s.scoped s.pages s.leads g k.plugs
