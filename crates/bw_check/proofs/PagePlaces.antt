-- The pieces of a service are the places of its pages.
use Rattle.std.proofs.Common.{◌≡◌, ◌⊎◌, ℕ, zero, suc, ◌+◌, ◌<◌, ◌≤◌, Bool, true, false, Option, Some, None, is_some, unwrap_or, if◌then◌else◌}
use Rattle.std.proofs.Common.{List, [], ◌∷◌, ◌++◌, length, map, drop, get_or, append_assoc, refl, sym, ap, ◌∙◌, subst, inl, inr, arith}
use Rattle.std.specs.Prelude.{slice_get}
use Rattle.std.specs.List.{All, AllByRecursion, Contains}
use Rattle.std.proofs.lemmas.Bool.{false≢true}
use Rattle.std.proofs.lemmas.List.{drop_more, drop_all, append-nil}
use Rattle.bw_analyse.specs.Facts.{page_of}
use Rattle.bw_flow.specs.Layout.{flow_of}
use Rattle.bw_analyse.specs.Pages.{HasPage}
use Rattle.bw_flow.specs.declared.point.Point.{Point}
use Rattle.bw_flow.specs.Steps.{Step}
use Rattle.bw_flow.specs.View.{act, seen}
use Rattle.bw_lang.specs.declared.service.Service.{Service}
use Rattle.bw_lang.specs.Service.Term.{Term}
use Rattle.bw_check.proofs.Within.Acts.{every}
use Rattle.bw_check.specs.Pieces.{pages_from}

-- a show or an exit stands at place p behind the first i points
abbrev Stands : ℕ → List Step → ℕ → Type 0
Stands i xs p = (k : ℕ) × (x : Step) × (p ≡ i + k) × (slice_get xs k ≡ Some x) × (page_of x.act ≡ None → ⊥)

there : (o : Option Term) → is_some o ≡ true → o ≡ None → ⊥
there None h e = cc
there (Some a) h e = cc

further : (i : ℕ) (x : Step) (xs : List Step) (p : ℕ) → Stands (i + 1) xs p → Stands i (x ∷ xs) p
further i x xs p h = (suc h.0, h.1, omega (arith, h.2), h.3, h.4)

some_page : (o : Option Term) → (o ≡ None → ⊥) → is_some o ≡ true
some_page None h = absurd (h refl)
some_page (Some a) h = refl

-- the same of the points behind the first
nearer : (i : ℕ) (x : Step) (xs : List Step) (p : ℕ) → Stands i (x ∷ xs) p → ((p ≡ i) × (page_of x.act ≡ None → ⊥)) ⊎ Stands (i + 1) xs p
nearer i x xs p (zero, y, e, at, page) = inl (omega (arith, e), subst (λ z. page_of z.act ≡ None → ⊥) (sym (ap (λ o. unwrap_or o x) at)) page)
nearer i x xs p (suc k, y, e, at, page) = inr (k, y, omega (arith, e), at, page)

-- what holds of the first, where it is put, and of the others, holds of all
all_put : (P : ℕ → Type 0) (b : Bool) (i : ℕ) (ys : List ℕ) → (b ≡ true → P i) → AllByRecursion P ys → AllByRecursion P (if b then i ∷ ys else ys)
all_put P true i ys h k = (h refl, k)
all_put P false i ys h k = k

-- the places in the list are those of pages
pub sound : (i : ℕ) (xs : List Step) (P : ℕ → Type 0) → ((p : ℕ) → Stands i xs p → P p) → AllByRecursion P (pages_from i xs)
sound i [] P h = tt
sound i (x ∷ xs) P h =
    all_put P (is_some (page_of x.act)) i (pages_from (i + 1) xs)
    (λ e. h i (0, x, omega arith, refl, there (page_of x.act) e)) (sound (i + 1) xs P (λ p k. h p (further i x xs p k)))

in_put : (b : Bool) (i : ℕ) (ys : List ℕ) (p : ℕ) → Contains ys p → Contains (if b then i ∷ ys else ys) p
in_put true i ys p h = (suc h.0, omega (arith, h.1), h.2)
in_put false i ys p h = h

first_put : (b : Bool) (i : ℕ) (ys : List ℕ) → b ≡ true → Contains (if b then i ∷ ys else ys) i
first_put true i ys e = (0, omega arith, refl)
first_put false i ys e = absurd (false≢true e)

-- and each such place is in the list
whole : (i : ℕ) (xs : List Step) (p : ℕ) → Stands i xs p → Contains (pages_from i xs) p
whole i [] p (k, y, e, at, page) = absurd (cc)
whole i (x ∷ xs) p h = elim (nearer i x xs p h) [
  | inl here ↦
      subst (Contains (pages_from i (x ∷ xs))) (sym here.0)
      (first_put (is_some (page_of x.act)) i (pages_from (i + 1) xs) (some_page (page_of x.act) here.1))
  | inr later ↦ in_put (is_some (page_of x.act)) i (pages_from (i + 1) xs) p (whole (i + 1) xs p later)
]

-- the pieces of a service are the places of its pages
pub pieces_have_pages : (service : Service) (ps : List ℕ) → ps ≡ pages_from 0 (flow_of service) → All (HasPage service) ps
pieces_have_pages service ps e =
    subst (All (HasPage service)) (sym e) (every (HasPage service) (pages_from 0 (flow_of service))
    (sound 0 (flow_of service) (HasPage service) (λ p h.
    let e : h.0 ≡ p = omega (arith, h.2) in (h.1, subst (λ k. slice_get (flow_of service) k ≡ Some h.1) e h.3, h.4))))

pub pages_are_pieces : (service : Service) (ps : List ℕ) → ps ≡ pages_from 0 (flow_of service) → (p : ℕ) → HasPage service p → Contains ps p
pages_are_pieces service ps e p h =
    subst (λ qs. Contains qs p) (sym e) (whole 0 (flow_of service) p (p, h.0, omega arith, h.1, h.2))

-- ---- the list of places, point by point

pub pages_begin : (points : List Point) (steps : List Step) (new : List ℕ) → map seen points ≡ steps → new ≡ []
    → new ++ pages_from 0 (map seen (drop 0 points)) ≡ pages_from 0 steps
pages_begin points steps new e n = ap (λ ys. ys ++ pages_from 0 (map seen (drop 0 points))) n ∙ ap (pages_from 0) e

-- the points from place i on begin with the one there
next_is : (points : List Point) (i : ℕ) (x : Point) → i < length points → x ≡ get_or points i x → drop i points ≡ x ∷ drop (i + 1) points
next_is points i x l e = drop_more points i x l ∙ ap (λ y. y ∷ drop (i + 1) points) (sym e)

pub pages_put : (points : List Point) (i : ℕ) (x : Point) (old new all : List ℕ) → i < length points → x ≡ get_or points i x
    → is_some (page_of (act x.what)) ≡ true → new ≡ old ++ i ∷ [] → old ++ pages_from i (map seen (drop i points)) ≡ all
    → new ++ pages_from (i + 1) (map seen (drop (i + 1) points)) ≡ all
pages_put points i x old new all l e some is h =
    let rest = pages_from (i + 1) (map seen (drop (i + 1) points)) in
    ap (λ ys. ys ++ rest) is ∙ append_assoc old (i ∷ []) rest
    ∙ ap (λ b. old ++ (if b then i ∷ rest else rest)) (sym some)
    ∙ ap (λ xs. old ++ pages_from i (map seen xs)) (sym (next_is points i x l e)) ∙ h

pub pages_passed : (points : List Point) (i : ℕ) (x : Point) (old new all : List ℕ) → i < length points → x ≡ get_or points i x
    → is_some (page_of (act x.what)) ≡ false → new ≡ old → old ++ pages_from i (map seen (drop i points)) ≡ all
    → new ++ pages_from (i + 1) (map seen (drop (i + 1) points)) ≡ all
pages_passed points i x old new all l e none is h =
    let rest = pages_from (i + 1) (map seen (drop (i + 1) points)) in
    ap (λ ys. ys ++ rest) is
    ∙ ap (λ b. old ++ (if b then i ∷ rest else rest)) (sym none)
    ∙ ap (λ xs. old ++ pages_from i (map seen xs)) (sym (next_is points i x l e)) ∙ h

pub pages_end : (points : List Point) (i : ℕ) (now all : List ℕ) → length points ≤ i → now ++ pages_from i (map seen (drop i points)) ≡ all → now ≡ all
pages_end points i now all l h =
    sym (append-nil now) ∙ ap (λ xs. now ++ pages_from i (map seen xs)) (sym (drop_all i points l)) ∙ h
