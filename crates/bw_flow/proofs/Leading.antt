-- What comes next at a point is what leads from it.
use Rattle.std.proofs.Common.{◌≡◌, ◌⊎◌, ℕ, zero, suc, List, [], ◌∷◌, ◌++◌, refl, ap, sym, ◌∙◌, subst, inl, inr}
use Rattle.std.proofs.Common.{Option, Some, None}
use Rattle.std.specs.Prelude.{slice_get, option_map}
use Rattle.bw_flow.specs.Layout.{points, session_steps}
use Rattle.bw_flow.specs.Leads.{Spot, from, spot_of, spot_at, from_to, nexts, LeadsAreNexts}
use Rattle.bw_flow.specs.Places.{Among}
use Rattle.bw_flow.specs.Steps.{Step}
use Rattle.bw_flow.proofs.Leads.{leads_agree}
use Rattle.bw_flow.proofs.Spots.{spots_differ}

among_left : {A : Type 0} (x : A) (xs ys : List A) → Among x xs → Among x (xs ++ ys)
among_left x [] ys h = absurd h
among_left x (z ∷ xs) ys (inl h) = inl h
among_left x (z ∷ xs) ys (inr h) = inr (among_left x xs ys h)

among_right : {A : Type 0} (x : A) (xs ys : List A) → Among x ys → Among x (xs ++ ys)
among_right x [] ys h = h
among_right x (z ∷ xs) ys h = inr (among_right x xs ys h)

among_parts : {A : Type 0} (x : A) (xs ys : List A) → Among x (xs ++ ys) → Among x xs ⊎ Among x ys
among_parts x [] ys h = inr h
among_parts x (z ∷ xs) ys (inl h) = inl (inl h)
among_parts x (z ∷ xs) ys (inr h) = by (among_parts x xs ys h)
  where
    by : Among x xs ⊎ Among x ys → Among x (z ∷ xs) ⊎ Among x ys
    by (inl k) = inl (inr k)
    by (inr k) = inr k

from_has : (flow : List Step) (a : Spot) (q : ℕ) (y : Step) (qs : List ℕ) → slice_get flow q ≡ Some y → Among q qs → Among (a, spot_of y) (from_to flow a qs)
from_has flow a q y [] at h = absurd h
from_has flow a q y (r ∷ rs) at (inl h) =
    let e : spot_at flow r ≡ Some (spot_of y) = ap (spot_at flow) (sym h) ∙ ap (option_map spot_of) at in
    among_left (a, spot_of y) (from a (spot_at flow r)) (from_to flow a rs) (subst (λ o. Among (a, spot_of y) (from a o)) (sym e) (inl refl))
from_has flow a q y (r ∷ rs) at (inr h) = among_right (a, spot_of y) (from a (spot_at flow r)) (from_to flow a rs) (from_has flow a q y rs at h)

nexts_has : (flow xs : List Step) (p q : ℕ) (x y : Step) → slice_get xs p ≡ Some x → slice_get flow q ≡ Some y → Among q x.next →
    Among (spot_of x, spot_of y) (nexts flow xs)
nexts_has flow [] p q x y a b h = let f : None ≡ Some x = a in absurd (cc)
nexts_has flow (z ∷ xs) zero q x y a b h =
    let f : x ≡ z = cc in
    among_left (spot_of x, spot_of y) (from_to flow (spot_of z) z.next) (nexts flow xs)
    (subst (λ (w : Step). Among (spot_of x, spot_of y) (from_to flow (spot_of w) w.next)) f (from_has flow (spot_of x) q y x.next b h))
nexts_has flow (z ∷ xs) (suc p) q x y a b h =
    among_right (spot_of x, spot_of y) (from_to flow (spot_of z) z.next) (nexts flow xs) (nexts_has flow xs p q x y a b h)

-- an end in the flow
abbrev End : List Step → Spot → Spot → List ℕ → Type 0
End flow a b qs = (q : ℕ) × Among q qs × (spot_at flow q ≡ Some b)

pair_parts : (a b c d : Spot) → ◌≡◌ {A = Spot × Spot} (a, b) (c, d) → (a ≡ c) × (b ≡ d)
pair_parts a b c d e = (ap (λ (p : Spot × Spot). p.0) e, ap (λ (p : Spot × Spot). p.1) e)

from_one : (a c b : Spot) (o : Option Spot) → Among (a, b) (from c o) → (a ≡ c) × (o ≡ Some b)
from_one a c b None h = absurd h
from_one a c b (Some d) (inl h) = let r = pair_parts a b c d h in (r.0, ap Some (sym r.1))
from_one a c b (Some d) (inr h) = absurd h

from_gives : (flow : List Step) (a c b : Spot) (qs : List ℕ) → Among (a, b) (from_to flow c qs) → (a ≡ c) × End flow a b qs
from_gives flow a c b [] h = absurd h
from_gives flow a c b (r ∷ rs) h = by (among_parts (a, b) (from c (spot_at flow r)) (from_to flow c rs) h) (from_gives flow a c b rs)
  where
    by : Among (a, b) (from c (spot_at flow r)) ⊎ Among (a, b) (from_to flow c rs) → (Among (a, b) (from_to flow c rs) → (a ≡ c) × End flow a b rs) →
        (a ≡ c) × End flow a b (r ∷ rs)
    by (inl k) more = let s = from_one a c b (spot_at flow r) k in (s.0, (r, inl refl, s.1))
    by (inr k) more = let s = more k in let e = s.1 in (s.0, (e.0, inr e.1, e.2))

-- a point from which a lead goes, and its end
abbrev Source : List Step → List Step → Spot → Spot → Type 0
Source flow xs a b = (p : ℕ) × (x : Step) × (slice_get xs p ≡ Some x) × (a ≡ spot_of x) × End flow a b x.next

nexts_gives : (flow xs : List Step) (a b : Spot) → Among (a, b) (nexts flow xs) → Source flow xs a b
nexts_gives flow [] a b h = absurd h
nexts_gives flow (x ∷ xs) a b h = by (among_parts (a, b) (from_to flow (spot_of x) x.next) (nexts flow xs) h) (nexts_gives flow xs a b)
  where
    by : Among (a, b) (from_to flow (spot_of x) x.next) ⊎ Among (a, b) (nexts flow xs) → (Among (a, b) (nexts flow xs) → Source flow xs a b) →
        Source flow (x ∷ xs) a b
    by (inl k) more = let s = from_gives flow a (spot_of x) b x.next k in (0, x, refl, s.0, s.1)
    by (inr k) more = let s = more k in (suc s.0, s.1, s.2, s.3, s.4)

spot_there : (o : Option Step) (b : Spot) → option_map spot_of o ≡ Some b → (y : Step) × (o ≡ Some y) × (spot_of y ≡ b)
spot_there None b e = absurd (cc)
spot_there (Some y) b e = (y, refl, cc)

pub leads_are_nexts : LeadsAreNexts
leads_are_nexts service p q x y a b =
    let flow = session_steps service service.sessions 1 0 (points service.sessions) in (
      λ h. subst (λ l. Among (spot_of x, spot_of y) l) (leads_agree service) (nexts_has flow flow p q x y a b h),
      λ h.
          let s = nexts_gives flow flow (spot_of x) (spot_of y) (subst (λ l. Among (spot_of x, spot_of y) l) (sym (leads_agree service)) h) in
          let e = s.4 in
          let z = spot_there (slice_get flow e.0) (spot_of y) e.2 in
          let same_p : p ≡ s.0 = spots_differ service p s.0 x s.1 a s.2 s.3 in
          let same_q : e.0 ≡ q = spots_differ service e.0 q z.0 y z.1 b z.2 in
          let same_x : Some s.1 ≡ Some x = sym s.2 ∙ ap (slice_get flow) (sym same_p) ∙ a in
          let f : s.1 ≡ x = cc in
          subst (λ (w : Step). Among q w.next) f (subst (λ r. Among r s.1.next) same_q e.1),
    )
