-- A flow that stands for a session lays it out over its places.
use Rattle.std.proofs.Common.{◌≡◌, ℕ, zero, suc, ◌+◌, true, List, [], ◌∷◌, ◌++◌, refl, sym, ap, subst, arith}
use Rattle.std.specs.Prelude.{◌==◌}
use Rattle.std.proofs.lemmas.Bool.{false≢true, eq-eqb, or_parts}
use Rattle.bw_lang.specs.declared.service.Service.{Service}
use Rattle.bw_lang.specs.declared.stmt.Kind.{Kind}
use Rattle.bw_lang.specs.declared.stmt.Receive.{Receive}
use Rattle.bw_lang.specs.Service.Code.{Code, done, declare, assign, if_then, if_else, while_loop, block, for_each, show, exit, numbered}
use Rattle.bw_lang.specs.Service.CodeNames.{local_names}
use Rattle.bw_lang.specs.Table.Names.{same}
use Rattle.bw_lang.specs.Service.Term.{Term}
use Rattle.bw_meaning.specs.GoOn.{body_of}
use Rattle.bw_lang.specs.Service.Numbers.{first_number}
use Rattle.bw_meaning.specs.Statements.{declared}
use Rattle.bw_flow.specs.declared.point.Local.{Local}
use Rattle.bw_flow.specs.Scopes.{with_local}
use Rattle.bw_flow.specs.Layout.{receives, step}
use Rattle.bw_flow.specs.Stands.{IsAt, Lowered}
use Rattle.bw_flow.specs.Steps.{Act, sets, tests, goes_over, shows, exits, joins, Step}
use Rattle.bw_cover.specs.Facts.{Facts, look, Leads, Edge, edge, EachLeads, IsPoint, Apart, Laid}
use Rattle.bw_types.specs.Scopes.{is_among}
use Rattle.bw_cover.specs.Least.{with_cells}
use Rattle.bw_cover.specs.Flows.{names_of, written, Fits, LeadsToAll, ActLeads, ObeysFlow, FlowTurnIsCovered, FlowGoingOnIsCovered, edges_to}
use Rattle.bw_cover.specs.Flows.{act_edges, flow_edges, FlowLeastObeys}
use Rattle.bw_cover.proofs.Solved.{least_leads}
use Rattle.bw_cover.proofs.Laying.{Distinct, distinct, distinct_append, apart_append, apart_new, apart_next, apart_declared, both_false}
use Rattle.bw_cover.proofs.Turns.{laid_turn, laid_go_on}
use Rattle.bw_lang.specs.declared.stmt.Kind.TheVariants as kinds
use Rattle.bw_cover.specs.Facts as facts

names_next : (sc : List Local) (w : List ℕ) (k : Kind) → names_of (with_local sc w k) ≡ names_of sc ++ w ∷ []
names_next [] w k = refl
names_next (l ∷ sc) w k = ap (λ xs. l.name ∷ xs) (names_next sc w k)

written_back : (service : Service) (sc : List Local) (rs : List Receive) → written (receives service sc rs) ≡ rs
written_back service sc [] = refl
written_back service sc (r ∷ rs) = ap (λ xs. r ∷ xs) (written_back service sc rs)

module _ (service : Service) (f : Facts ℕ) (flow : List Step) (h : ObeysFlow service f flow) where
  at : (p : ℕ) (sc : List Local) (e : Term) → f.scope p ≡ names_of sc → Fits service f p e → IsPoint service f p (names_of sc) e
  at p sc e s g = record { scope = s; gaps = g.gaps; plugs = g.plugs }

  laid : (c : Code) (n : ℕ) (sc : List Local) (d p q : ℕ) → Distinct (local_names c) → Apart (names_of sc) (local_names c)
      → Lowered service flow c n sc d p q → Laid service f c n (names_of sc) p q
  laid done n sc d p q i a l = l
  laid (declare k w e rest) n sc d p q i a (r, x, l) =
      let o = h p (step n sc d (sets w e) (r ∷ [])) x in
      let s = names_next sc w k in (
        r,
        at p sc e o.scope o.fits,
        apart_new (names_of sc) w (local_names rest) a,
        o.leads.0,
        subst (λ ns. Laid service f rest (n + 1) ns r q) s
            (laid rest (n + 1) (with_local sc w k) d r q i.1
            (subst (λ ns. Apart ns (local_names rest)) (sym s) (apart_next (names_of sc) w (local_names rest) a i.0)) l),
      )
  laid (assign w e rest) n sc d p q i a (r, x, l) =
      let o = h p (step n sc d (sets w e) (r ∷ [])) x in
      (r, at p sc e o.scope o.fits, o.leads.0, laid rest (n + 1) sc d r q i a l)
  laid (if_then e y rest) n sc d p q i a (b, j, r, x, xj, ly, l) =
      let o = h p (step n sc d (tests e) (b ∷ j ∷ [])) x in
      let oj = h j (step n sc d joins (r ∷ [])) xj in
      let ii = distinct_append (local_names y) (local_names rest) i in
      let aa = apart_append (names_of sc) (local_names y) (local_names rest) a in (
        b,
        j,
        r,
        at p sc e o.scope o.fits,
        oj.scope,
        apart_declared (names_of sc) y aa.0,
        o.leads.0,
        o.leads.1.0,
        oj.leads.0,
        laid y (n + 1) sc d b j ii.0 aa.0 ly,
        laid rest (n + 1 + numbered y) sc d r q ii.1 aa.1 l,
      )
  laid (if_else e y z rest) n sc d p q i a (b, c, j, r, x, xj, ly, lz, l) =
      let o = h p (step n sc d (tests e) (b ∷ c ∷ [])) x in
      let oj = h j (step n sc d joins (r ∷ [])) xj in
      let ii = distinct_append (local_names y) (local_names z ++ local_names rest) i in
      let ij = distinct_append (local_names z) (local_names rest) ii.1 in
      let aa = apart_append (names_of sc) (local_names y) (local_names z ++ local_names rest) a in
      let ab = apart_append (names_of sc) (local_names z) (local_names rest) aa.1 in (
        b,
        c,
        j,
        r,
        at p sc e o.scope o.fits,
        oj.scope,
        apart_declared (names_of sc) y aa.0,
        apart_declared (names_of sc) z ab.0,
        o.leads.0,
        o.leads.1.0,
        oj.leads.0,
        laid y (n + 1) sc d b j ii.0 aa.0 ly,
        laid z (n + 1 + numbered y) sc d c j ij.0 ab.0 lz,
        laid rest (n + 1 + numbered y + numbered z) sc d r q ij.1 ab.1 l,
      )
  laid (while_loop e b rest) n sc d p q i a (y, r, x, lb, l) =
      let o = h p (step n sc d (tests e) (y ∷ r ∷ [])) x in
      let ii = distinct_append (local_names b) (local_names rest) i in
      let aa = apart_append (names_of sc) (local_names b) (local_names rest) a in (
        y,
        r,
        at p sc e o.scope o.fits,
        apart_declared (names_of sc) b aa.0,
        o.leads.0,
        o.leads.1.0,
        laid b (n + 1) sc d y p ii.0 aa.0 lb,
        laid rest (n + 1 + numbered b) sc d r q ii.1 aa.1 l,
      )
  laid (block b rest) n sc d p q i a (r, lb, l) =
      let ii = distinct_append (local_names b) (local_names rest) i in
      let aa = apart_append (names_of sc) (local_names b) (local_names rest) a in
      (r, apart_declared (names_of sc) b aa.0, laid b n sc d p r ii.0 aa.0 lb, laid rest (n + numbered b) sc d r q ii.1 aa.1 l)
  laid (for_each w e b rest) n sc d p q i a (y, r, x, lb, l) =
      let o = h p (step n sc d (goes_over w e) (y ∷ r ∷ [])) x in
      let s = names_next sc w kinds.Str in
      let inner = local_names b ++ local_names rest in
      let ii = distinct_append (local_names b) (local_names rest) i.1 in
      let ai = apart_append (names_of sc ++ w ∷ []) (local_names b) (local_names rest) (apart_next (names_of sc) w inner a i.0) in
      let tail = λ (v : List ℕ) (m : is_among v (names_of sc) ≡ true). or_parts (same v w) (is_among v inner) (a v m) in
      let aa = apart_append (names_of sc) (local_names b) (local_names rest) (λ v m. (tail v m).1) in (
        y,
        r,
        at p sc e o.scope o.fits,
        λ v m. both_false (same v w) (is_among v (declared b)) (tail v m).0 (apart_declared (names_of sc) b aa.0 v m),
        o.leads.0,
        o.leads.1.0,
        subst (λ ns. Laid service f b (n + 1) ns y p) s
            (laid b (n + 1) (with_local sc w kinds.Str) (d + 1) y p ii.0 (subst (λ ns. Apart ns (local_names b)) (sym s) ai.0) lb),
        laid rest (n + 1 + numbered b) sc d r q ii.1 aa.1 l,
      )
  laid (show e rs rest) n sc d p q i a (r, x, l) =
      let o = h p (step n sc d (shows e (receives service sc rs)) (r ∷ [])) x in (
        r,
        at p sc e o.scope o.fits.0,
        o.fits.1,
        o.fits.2,
        subst (λ xs. Leads service f p (facts.takes xs) r) (written_back service sc rs) o.leads.0,
        laid rest (n + 1) sc d r q i a l,
      )
  laid (exit e rest) n sc d p q i a (r, x, l) =
      let o = h p (step n sc d (exits e) []) x in
      (r, at p sc e o.scope o.fits.0, o.fits.1, o.fits.2, laid rest (n + 1) sc d r q i a l)

nothing_apart : (names : List (List ℕ)) → Apart [] names
nothing_apart names w h = absurd (false≢true h)

pub flow_turn : FlowTurnIsCovered
flow_turn service f flow session first inputs a c i =
    let b = body_of service session in
    laid_turn service f session a.first a.last first inputs
    (laid service f flow a.obeys b (first_number service session) [] 0 a.first a.last (distinct (local_names b) a.differ)
    (nothing_apart (local_names b)) a.lowered) c i

pub flow_going_on : FlowGoingOnIsCovered
flow_going_on service f flow session w a cl cs ci =
    let b = body_of service session in
    laid_go_on service f session a.first a.last w
    (laid service f flow a.obeys b (first_number service session) [] 0 a.first a.last (distinct (local_names b) a.differ)
    (nothing_apart (local_names b)) a.lowered) cl cs ci

-- ---- least cells

module _ (service : Service) (f : Facts ℕ) where
  parts : (a b : List (Edge ℕ)) → EachLeads service f (a ++ b) → EachLeads service f a × EachLeads service f b
  parts [] b h = (tt, h)
  parts (e ∷ a) b h = let r = parts a b h.1 in ((h.0, r.0), r.1)

  leads_to : (p : ℕ) (what : facts.What) (next : List ℕ) → EachLeads service f (edges_to p what next) → LeadsToAll service f p what next
  leads_to p what [] h = tt
  leads_to p what (q ∷ next) h = (h.0, leads_to p what next h.1)

  act_leads : (p : ℕ) (a : Act) (next : List ℕ) → EachLeads service f (act_edges p a next) → ActLeads service f p a next
  act_leads p (sets w e) next h = leads_to p (facts.sets w e) next h
  act_leads p (tests e) next h = leads_to p facts.keeps next h
  act_leads p (goes_over w e) [] h = tt
  act_leads p (goes_over w e) (y ∷ next) h = (h.0, leads_to p facts.keeps next h.1)
  act_leads p (shows e rs) next h = leads_to p (facts.takes (written rs)) next h
  act_leads p (exits e) next h = tt
  act_leads p joins next h = leads_to p facts.keeps next h

  point_leads : (flow : List Step) (n p : ℕ) (x : Step) → EachLeads service f (flow_edges flow n) → IsAt flow p x → ActLeads service f (n + p) x.act x.next
  point_leads [] n p x h i = cc
  point_leads (y ∷ flow) n zero x h i =
      let e : y ≡ x = cc in
      let m : n ≡ n + 0 = omega arith in
      subst (λ z. ActLeads service f (n + 0) z.act z.next) e
      (subst (λ k. ActLeads service f k y.act y.next) m (act_leads n y.act y.next (parts (act_edges n y.act y.next) (flow_edges flow (n + 1)) h).0))
  point_leads (y ∷ flow) n (suc p) x h i =
      let m : n + 1 + p ≡ n + suc p = omega arith in
      subst (λ k. ActLeads service f k x.act x.next) m (point_leads flow (n + 1) p x (parts (act_edges n y.act y.next) (flow_edges flow (n + 1)) h).1 i)

pub flow_least_obeys : FlowLeastObeys
flow_least_obeys service f flow empty c h =
    let r = least_leads (λ p q. p == q) (λ p. eq-eqb p p refl) service f (flow_edges flow 0) empty c h in (
      λ p x i. let m : 0 + p ≡ p = omega arith in
          subst (λ k. ActLeads service (with_cells f c) k x.act x.next) m (point_leads service (with_cells f c) flow 0 p x r.0 i),
      r.1,
    )
