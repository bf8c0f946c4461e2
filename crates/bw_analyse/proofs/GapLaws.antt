-- The walk notes exactly the gap faults.
use Rattle.std.proofs.Common.{◌≡◌, ◌⊎◌, inl, inr, ℕ, zero, suc, ◌+◌, ◌<◌, ◌≤◌, Bool, true, false, List, [], ◌∷◌, length, get_or, drop, map, Option, Some}
use Rattle.std.proofs.Common.{None, Result, Ok, Err, refl, sym, ap, ◌∙◌, subst, arith}
use Rattle.std.specs.Prelude.{slice_get, IfOk}
use Rattle.std.proofs.lemmas.List.{at_drop_all, at_drop_more}
use Rattle.std.proofs.lemmas.Bool.{false≢true}
use Rattle.bw_faults.specs.declared.fault.Fault.{Fault}
use Rattle.bw_faults.specs.Lists.{Lists, Adds}
use Rattle.bw_faults.specs.Order.{fault_cmp, fault_total}
use Rattle.bw_faults.proofs.Adding.{adds_none, adds_then, adds_fault, all_added}
use Rattle.bw_lang.specs.declared.service.Service.{Service}
use Rattle.bw_lang.specs.Table.Names.{name_number}
use Rattle.bw_lang.specs.Service.Term.{Term, int, truth, string, name, paren, not, neg, binary, call, plug, nothing, Fillings, no_more, filling}
use Rattle.bw_flow.specs.declared.point.Point.{Point}
use Rattle.bw_flow.specs.Steps.{Step}
use Rattle.bw_flow.specs.View.{act, seen}
use Rattle.bw_solve.specs.Sets.{IsSet}
use Rattle.bw_solve.specs.Lawful.SetLaws.{merge_set}
use Rattle.bw_analyse.specs.declared.abstracts.Abstract.{Abstract}
use Rattle.bw_analyse.specs.declared.facts.Facts.{Facts}
use Rattle.bw_analyse.specs.Abstracts.{plugged_by}
use Rattle.bw_analyse.specs.Facts.{rows_of}
use Rattle.bw_analyse.specs.GapFaults.{lacks, Misses, FillingMisses, term_of, gap_fault, IsFaultIn, IsFaultAt, IsGapFault}
use Rattle.bw_analyse.specs.Known.{look, known}
use Rattle.bw_flow.specs.Layout.{flow_of}
use Rattle.bw_analyse.specs.Noting.{noted_if, noted, noted_filled, noted_term, noted_all}
use Rattle.bw_analyse.proofs.Points.{count_is}

-- the new list is in order where the old one is, and has those of which P holds besides
pub record Notes (P : Fault → Type 0) (old new : List Fault) : Type 0 where
  pub set : IsSet fault_cmp old → IsSet fault_cmp new
  pub adds : Adds P old new

notes_none : (P : Fault → Type 0) (old : List Fault) → ((f : Fault) → P f → ⊥) → Notes P old old
notes_none P old never = record { set = λ s. s; adds = adds_none P old never }

notes_then : {P Q : Fault → Type 0} (R : Fault → Type 0) {a b c : List Fault} → Notes P a b → Notes Q b c
    → ((f : Fault) → P f ⊎ Q f → R f) → ((f : Fault) → R f → P f ⊎ Q f) → Notes R a c
notes_then R p q to from = record { set = λ s. q.set (p.set s); adds = adds_then R p.adds q.adds to from }

-- the fault of one pair, where its gap may be missing
one_noted : (missing : Bool) (n : ℕ) (g : List ℕ) (old : List Fault)
    → Notes (λ f. ((missing ≡ true) × (f.detail ≡ g)) × (f ≡ gap_fault n f.detail)) old (noted_if missing n g old)
one_noted false n g old = notes_none _ old (λ f h. false≢true h.0.0)
one_noted true n g old = record {
  set = λ s. merge_set fault_total old (gap_fault n g ∷ []) s (tt, tt);
  adds = adds_fault (gap_fault n g) _ old
      (λ f e. let d : f.detail ≡ g = ap (λ (x : Fault). x.detail) e in ((refl, d), e ∙ ap (gap_fault n) (sym d)))
      (λ f h. h.1 ∙ ap (gap_fault n) h.0.1);
}

module _ (service : Service) (names : List ℕ → Abstract) (n : ℕ) where
  -- a fault of one of the two parts
  abbrev InFillings : Fillings → Abstract → Fault → Type 0
  InFillings ps a f = FillingMisses service names ps a f.detail × (f ≡ gap_fault n f.detail)

  mutual
    pub expression_noted : (e : Term) (old : List Fault) → Notes (IsFaultIn service names n e) old (noted service names n e old)
    expression_noted (int z) old = notes_none _ old (λ f h. h.0)
    expression_noted (truth b) old = notes_none _ old (λ f h. h.0)
    expression_noted (string s) old = notes_none _ old (λ f h. h.0)
    expression_noted nothing old = notes_none _ old (λ f h. h.0)
    expression_noted (name v) old = notes_none _ old (λ f h. h.0)
    expression_noted (paren e) old = expression_noted e old
    expression_noted (not e) old = expression_noted e old
    expression_noted (neg e) old = expression_noted e old
    expression_noted (call g e) old = expression_noted e old
    expression_noted (binary op l r) old =
        notes_then (IsFaultIn service names n (binary op l r)) (expression_noted l old) (expression_noted r (noted service names n l old))
        (λ f h. elim h [ inl k ↦ (inl k.0, k.1) | inr k ↦ (inr k.0, k.1) ])
        (λ f h. elim h.0 [ inl k ↦ inl (k, h.1) | inr k ↦ inr (k, h.1) ])
    expression_noted (plug b ps) old =
        notes_then (IsFaultIn service names n (plug b ps)) (expression_noted b old) (fillings_noted ps (known service names b) (noted service names n b old))
        (λ f h. elim h [ inl k ↦ (inl k.0, k.1) | inr k ↦ (inr k.0, k.1) ])
        (λ f h. elim h.0 [ inl k ↦ inl (k, h.1) | inr k ↦ inr (k, h.1) ])

    fillings_noted : (ps : Fillings) (a : Abstract) (old : List Fault) → Notes (InFillings ps a) old (noted_filled service names n ps a old)
    fillings_noted no_more a old = notes_none _ old (λ f h. h.0)
    fillings_noted (filling g e ps) a old =
        let k = name_number service.gaps g in
        let first = noted service names n e old in
        notes_then (InFillings (filling g e ps) a)
        (notes_then (λ f. (Misses service names e f.detail ⊎ ((lacks a k ≡ true) × (f.detail ≡ g))) × (f ≡ gap_fault n f.detail))
        (expression_noted e old) (one_noted (lacks a k) n g first)
        (λ f h. elim h [ inl m ↦ (inl m.0, m.1) | inr m ↦ (inr m.0, m.1) ])
        (λ f h. elim h.0 [ inl m ↦ inl (m, h.1) | inr m ↦ inr (m, h.1) ]))
        (fillings_noted ps (plugged_by a k (known service names e)) (noted_if (lacks a k) n g first))
        (λ f h. elim h [ inl m ↦ (inl m.0, m.1) | inr m ↦ (inr m.0, m.1) ])
        (λ f h. elim h.0 [ inl m ↦ inl (m, h.1) | inr m ↦ inr (m, h.1) ])

-- of a point
module _ (service : Service) (f : ℕ → List Abstract) (shared : List Abstract) where
  abbrev AtPlace : ℕ → Step → Fault → Type 0
  AtPlace p x fault = IsFaultAt service (f p) shared x fault

  point_noted : (p : ℕ) (x : Step) (o : Option Term) → term_of x.act ≡ o → (old : List Fault)
      → Notes (AtPlace p x) old (noted_term service (look service x.scope (f p) shared) x.number o old)
  point_noted p x None e old = notes_none _ old (λ fault h. absurd (let k : None ≡ Some h.0 = sym e ∙ h.1 in cc))
  point_noted p x (Some t) e old =
      let names = look service x.scope (f p) shared in
      let r = expression_noted service names x.number t old in record {
        set = r.set;
        adds = record {
          sound = λ fault h. elim (r.adds.sound fault h) [ inl k ↦ inl k | inr k ↦ inr (t, e, k) ];
          kept = r.adds.kept;
          whole = λ fault h.
              let k : Some h.0 ≡ Some t = sym h.1 ∙ e in
              let l : h.0 ≡ t = cc in
              r.adds.whole fault (subst (λ (u : Term). IsFaultIn service names x.number u fault) l h.2);
        };
      }

  -- of the points from place p on
  abbrev AtSome : ℕ → List Step → Fault → Type 0
  AtSome p [] fault = ⊥
  AtSome p (x ∷ xs) fault = AtPlace p x fault ⊎ AtSome (p + 1) xs fault

  points_noted : (p : ℕ) (xs : List Step) (old : List Fault) → Notes (AtSome p xs) old (noted_all service f shared p xs old)
  points_noted p [] old = notes_none _ old (λ fault h. h)
  points_noted p (x ∷ xs) old =
      notes_then (AtSome p (x ∷ xs)) (point_noted p x (term_of x.act) refl old)
      (points_noted (p + 1) xs (noted_term service (look service x.scope (f p) shared) x.number (term_of x.act) old)) (λ fault h. h) (λ fault h. h)

  -- such a point has its place in the flow
  some_place : (flow : List Step) (p : ℕ) (xs : List Step) → ((i m : ℕ) → m ≡ p + i → slice_get flow m ≡ slice_get xs i) → (fault : Fault) → AtSome p xs fault
      → (q : ℕ) × (x : Step) × (slice_get flow q ≡ Some x) × AtPlace q x fault
  some_place flow p [] at fault h = absurd h
  some_place flow p (x ∷ xs) at fault (inl h) = (p, x, at 0 p (omega arith), h)
  some_place flow p (x ∷ xs) at fault (inr h) = some_place flow (p + 1) xs (λ i m e. at (suc i) m (omega arith)) fault h

  at_place : (p : ℕ) (xs : List Step) (i m : ℕ) (x : Step) → m ≡ p + i → slice_get xs i ≡ Some x → (fault : Fault) → AtPlace m x fault → AtSome p xs fault
  at_place p [] i m x e s fault h = absurd (cc)
  at_place p (y ∷ xs) zero m x e s fault h =
      let k : m ≡ p = omega arith in
      let l : x ≡ y = cc in
      inl (subst (λ q. AtPlace q y fault) k (subst (λ z. AtPlace m z fault) l h))
  at_place p (y ∷ xs) (suc i) m x e s fault h = inr (at_place (p + 1) xs i m x (omega arith) s fault h)

-- all of them, in their order
pub all_listed : (service : Service) (facts : Facts) (list : List Fault)
    → list ≡ noted_all service (rows_of facts) (rows_of facts (length (flow_of service))) 0 (flow_of service) [] → Lists (IsGapFault service facts) list
all_listed service facts list e =
    let flow = flow_of service in
    let f = rows_of facts in
    let shared = rows_of facts (length flow) in
    let r = points_noted service f shared 0 flow [] in
    let same : (i m : ℕ) → m ≡ 0 + i → slice_get flow m ≡ slice_get flow i = λ i m k. ap (slice_get flow) (let d : m ≡ i = omega arith in d) in
    subst (Lists (IsGapFault service facts)) (sym e)
    (all_added (IsGapFault service facts) (noted_all service f shared 0 flow []) (r.set tt) (record {
      sound = λ x h. elim (r.adds.sound x h) [ inl k ↦ inl k | inr k ↦ inr (some_place service f shared flow 0 flow same x k) ];
      kept = r.adds.kept;
      whole = λ x h. r.adds.whole x (at_place service f shared 0 flow h.0 h.0 h.1 (omega arith) h.2 x h.3);
    }))

-- the faults of one point more
pub noted_more : (service : Service) (f : ℕ → List Abstract) (shared : List Abstract) (points : List Point) (i : ℕ) (x : Point) (old new target : List Fault)
    → i < length points → x ≡ get_or points i x → new ≡ noted_term service (look service x.scope (f i) shared) x.number (term_of (act x.what)) old
    → noted_all service f shared i (map seen (drop i points)) old ≡ target → noted_all service f shared (i + 1) (map seen (drop (i + 1) points)) new ≡ target
noted_more service f shared points i x old new target l e n h =
    ap (noted_all service f shared (i + 1) (map seen (drop (i + 1) points))) n
    ∙ ap (λ (p : Point). noted_all service f shared i (map seen (p ∷ drop (i + 1) points)) old) e
    ∙ sym (at_drop_more (λ ps. noted_all service f shared i (map seen ps) old) points i x l) ∙ h

-- and of no more
pub noted_end : (service : Service) (f : ℕ → List Abstract) (points : List Point) (flow : List Step) (i : ℕ) (faults : List Fault) → map seen points ≡ flow
    → length points ≤ i
    → noted_all service f (f (length points)) i (map seen (drop i points)) faults ≡ noted_all service f (f (length points)) 0 (map seen points) []
    → faults ≡ noted_all service f (f (length flow)) 0 flow []
noted_end service f points flow i faults is l h =
    sym (at_drop_all (λ ps. noted_all service f (f (length points)) i (map seen ps) faults) points i l) ∙ h
    ∙ ap (λ n. noted_all service f (f n) 0 (map seen points) []) (count_is points flow is)
    ∙ ap (λ xs. noted_all service f (f (length flow)) 0 xs []) is

pub if_listed : {E : Type 0} (service : Service) (facts : Facts) (r : Result (List Fault) E)
    → IfOk r (λ l. l ≡ noted_all service (rows_of facts) (rows_of facts (length (flow_of service))) 0 (flow_of service) [])
    → IfOk r (Lists (IsGapFault service facts))
if_listed service facts (Ok list) h = all_listed service facts list h
if_listed service facts (Err e) h = tt
