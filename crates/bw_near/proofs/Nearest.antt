-- The nearest name is one that is near, and none is nearer.
use Rattle.std.proofs.Common.{◌≡◌, ◌⊎◌, inl, inr, ℕ, zero, suc, ◌+◌, ◌/◌, ◌<◌, ◌≤◌, Bool, true, false, List, [], ◌∷◌, length, Option, Some, None, refl, sym, ap, ◌∙◌, subst, arith}
use Rattle.std.specs.Prelude.{nat_lt, if◌then◌else◌, MatchOption, Contains, All}
use Rattle.std.proofs.lemmas.Bool.{ltb-true, ltb-false, leb-true, leb-false, le-leb}
use Rattle.std.proofs.lemmas.List.Elements.{All-nil, All-cons}
use Rattle.bw_near.specs.Near.{distance, is_near, nearer, nearest_behind, NearestIsNear}

-- the name that is found, beside a near one: it is near and no farther than that one and all others, and it is that one or
-- one of them
record IsBest (word best : List ℕ) (names : List (List ℕ)) (o : List ℕ) : Type 0 where
  near : is_near word o ≡ true
  closer : distance word o ≤ distance word best
  least : All (λ own. distance word o ≤ distance word own) names
  among : (o ≡ best) ⊎ Contains names o

abbrev Finds : (word : List ℕ) (best : List ℕ) (names : List (List ℕ)) → Option (List ℕ) → Type 0
Finds word best names found = (o : List ℕ) × (found ≡ Some o) × IsBest word best names o

first_has : (own : List ℕ) (names : List (List ℕ)) → Contains (own ∷ names) own
first_has own names = (0, omega arith, refl)

more_has : (own : List ℕ) (names : List (List ℕ)) (o : List ℕ) → Contains names o → Contains (own ∷ names) o
more_has own names o c = (suc c.0, omega (arith, c.1), c.2)

-- a name that is nearer than a near one is near
nearer_near : (word best own : List ℕ) → is_near word best ≡ true → distance word own < distance word best → is_near word own ≡ true
nearer_near word best own near less =
    let e : distance word best ≤ length word / 3 = leb-true (distance word best) (length word / 3) near in
    le-leb (distance word own) (length word / 3) (omega arith)

from_best : (word best : List ℕ) (names : List (List ℕ)) → is_near word best ≡ true → Finds word best names (nearest_behind word (Some best) names)
from_best word best [] near = (best, refl, record { near = near; closer = omega arith; least = All-nil _; among = inl refl })
from_best word best (own ∷ names) near = by_test (nat_lt (distance word own) (distance word best)) refl (from_best word own names) (from_best word best names near)
  where
    taken : {o : List ℕ} → (o ≡ own) ⊎ Contains names o → Contains (own ∷ names) o
    taken (inl e) = subst (λ x. Contains (own ∷ names) x) (sym e) (first_has own names)
    taken (inr c) = more_has own names _ c

    kept : {o : List ℕ} → (o ≡ best) ⊎ Contains names o → (o ≡ best) ⊎ Contains (own ∷ names) o
    kept (inl e) = inl e
    kept (inr c) = inr (more_has own names _ c)

    by_test : (b : Bool) → nat_lt (distance word own) (distance word best) ≡ b
        → (is_near word own ≡ true → Finds word own names (nearest_behind word (Some own) names))
        → Finds word best names (nearest_behind word (Some best) names)
        → Finds word best (own ∷ names) (nearest_behind word (if b then Some own else Some best) names)
    by_test true e others these =
        let less : distance word own < distance word best = ltb-true (distance word own) (distance word best) e in
        let f = others (nearer_near word best own near less) in (
          f.0,
          f.1,
          record {
            near = f.2.near;
            closer = omega (arith, f.2.closer);
            least = All-cons (λ x. distance word f.0 ≤ distance word x) own names f.2.closer f.2.least;
            among = inr (taken f.2.among);
          },
        )
    by_test false e others f =
        let more : distance word best ≤ distance word own = ltb-false (distance word own) (distance word best) e in (
          f.0,
          f.1,
          record {
            near = f.2.near;
            closer = f.2.closer;
            least = All-cons (λ x. distance word f.0 ≤ distance word x) own names (omega (arith, f.2.closer)) f.2.least;
            among = kept f.2.among;
          },
        )

-- what is said of the name that is found among these
abbrev Said : List ℕ → List (List ℕ) → Option (List ℕ) → Type 0
Said word names found = MatchOption found (All (λ own. is_near word own ≡ false) names)
    (λ best. Contains names best × (is_near word best ≡ true) × All (λ own. distance word best ≤ distance word own) names)

-- one name more in front, which isn't near
widened : (word own : List ℕ) (names : List (List ℕ)) (found : Option (List ℕ)) → is_near word own ≡ false → Said word names found
    → Said word (own ∷ names) found
widened word own names None far said = All-cons (λ x. is_near word x ≡ false) own names far said
widened word own names (Some best) far said =
    let e : length word / 3 < distance word own = leb-false (distance word own) (length word / 3) far in
    let f : distance word best ≤ length word / 3 = leb-true (distance word best) (length word / 3) said.1 in (
      more_has own names best said.0,
      said.1,
      All-cons (λ x. distance word best ≤ distance word x) own names (omega arith) said.2,
    )

found_best : (word own : List ℕ) (names : List (List ℕ)) (found : Option (List ℕ)) → Finds word own names found → Said word (own ∷ names) found
found_best word own names found (o, e, best) =
    subst (Said word (own ∷ names)) (sym e)
    (has best.among, best.near, All-cons (λ x. distance word o ≤ distance word x) own names best.closer best.least)
  where
    has : (o ≡ own) ⊎ Contains names o → Contains (own ∷ names) o
    has (inl e) = subst (λ x. Contains (own ∷ names) x) (sym e) (first_has own names)
    has (inr c) = more_has own names o c

pub nearest_is_near : NearestIsNear
nearest_is_near word [] = All-nil _
nearest_is_near word (own ∷ names) = by_test (is_near word own) refl (nearest_is_near word names)
  where
    by_test : (b : Bool) → is_near word own ≡ b → Said word names (nearest_behind word None names)
        → Said word (own ∷ names) (nearest_behind word (if b then Some own else None) names)
    by_test true e said = found_best word own names (nearest_behind word (Some own) names) (from_best word own names e)
    by_test false e said = widened word own names (nearest_behind word None names) e said
