-- The members of what a plug makes.
use Rattle.std.specs.Prelude.{◌≡◌, ℕ, Bool, true, false, ◌||◌, ◌&&◌, cond, if◌then◌else◌, ◌==◌, List, [], ◌∷◌}
use Rattle.std.proofs.Common.{refl, sym, ap, ◌∙◌, arith}
use Rattle.std.specs.declared.cmp.Ordering.{Ordering}
use Rattle.std.specs.declared.cmp.Ordering.TheVariants.{Less, Equal, Greater}
use Rattle.std.specs.Ordering.{nat_cmp, ordering_then, is_eq}
use Rattle.std.proofs.lemmas.Bool.Decides.{nat_tests}
use Rattle.bw_solve.specs.Sets.{has, merge}
use Rattle.bw_solve.specs.Lawful.SetLaws.{merge_has}
use Rattle.bw_strings.specs.declared.strings.StrSet.{StrSet}
use Rattle.bw_strings.specs.declared.strings.StrSet.TheVariants.{Of}
use Rattle.bw_solve.specs.Tables.{found}
use Rattle.bw_sum.specs.Labels.{pair_cmp, labels_at}
use Rattle.bw_sum.specs.Edges.{edge_cmp, edges_from, edges_at}
use Rattle.bw_sum.specs.Lawful.SummaryLaws.{edge_cmp_total}

pub is_eq_then : (a b : Ordering) → is_eq (ordering_then a b) ≡ (is_eq a && is_eq b)
is_eq_then Less b = refl
is_eq_then Equal b = refl
is_eq_then Greater b = refl

pub is_eq_nat : (a b : ℕ) → is_eq (nat_cmp a b) ≡ (a == b)
is_eq_nat a b = grind (arith, nat_tests)

is_eq3 : (n g m a h k : ℕ) → is_eq (edge_cmp (n, g, m) (a, h, k)) ≡ (((n == a) && (g == h)) && (m == k))
is_eq3 n g m a h k =
    is_eq_then (ordering_then (nat_cmp n a) (nat_cmp g h)) (nat_cmp m k)
    ∙ ap (λ b. b && is_eq (nat_cmp m k)) (is_eq_then (nat_cmp n a) (nat_cmp g h) ∙ ap (λ b. b && is_eq (nat_cmp g h)) (is_eq_nat n a)
    ∙ ap (λ b. (n == a) && b) (is_eq_nat g h))
    ∙ ap (λ b. ((n == a) && (g == h)) && b) (is_eq_nat m k)

or_and : (e p q r : Bool) → ((e || ((p && q) || false)) || (p && r)) ≡ (e || (p && (q || r)))
or_and true p q r = refl
or_and false true true r = refl
or_and false true false r = refl
or_and false false q r = refl

edges_from_has : (edges : List (ℕ × ℕ × ℕ)) (n g : ℕ) (ms : List ℕ) (a h k : ℕ)
    → has edge_cmp (edges_from edges n g ms) (a, h, k) ≡ (has edge_cmp edges (a, h, k) || (((n == a) && (g == h)) && has nat_cmp ms k))
edges_from_has edges n g [] a h k = grind arith
edges_from_has edges n g (m ∷ ms) a h k =
    edges_from_has (merge edge_cmp edges ((n, g, m) ∷ [])) n g ms a h k
    ∙ ap (λ b. b || (((n == a) && (g == h)) && has nat_cmp ms k))
    (merge_has edge_cmp_total edges ((n, g, m) ∷ []) (a, h, k) ∙ ap (λ b. has edge_cmp edges (a, h, k) || (b || false)) (is_eq3 n g m a h k))
    ∙ or_and (has edge_cmp edges (a, h, k)) ((n == a) && (g == h)) (m == k) (has nat_cmp ms k)
    ∙ ap (λ b. has edge_cmp edges (a, h, k) || (((n == a) && (g == h)) && (b || has nat_cmp ms k))) (sym (is_eq_nat m k))

pub eq_back : (a b : ℕ) → (a == b) ≡ (b == a)
eq_back a b = grind (arith, nat_tests)

bool_led : (e p q r s : Bool) → ((e || ((p && q) && r)) || (q && (s && r))) ≡ (e || (q && ((p || s) && r)))
bool_led true p q r s = refl
bool_led false true true true s = refl
bool_led false true true false true = refl
bool_led false true true false false = refl
bool_led false true false r s = refl
bool_led false false true r s = refl
bool_led false false false r s = refl

pub edges_at_has : (edges : List (ℕ × ℕ × ℕ)) (ts : List (ℕ × ℕ)) (g : ℕ) (roots : List ℕ) (n h m : ℕ)
    → has edge_cmp (edges_at edges ts g roots) (n, h, m) ≡ (has edge_cmp edges (n, h, m) || ((h == g) && (has pair_cmp ts (g, n) && has nat_cmp roots m)))
edges_at_has edges [] g roots n h m = grind arith
edges_at_has edges (t ∷ ts) g roots n h m =
    edges_at_has (if t.0 == g then edges_from edges t.1 g roots else edges) ts g roots n h m
    ∙ go (t.0 == g) refl
  where
    E : Bool
    E = has edge_cmp edges (n, h, m)

    tested : is_eq (pair_cmp t (g, n)) ≡ ((t.0 == g) && (t.1 == n))
    tested = is_eq_then (nat_cmp t.0 g) (nat_cmp t.1 n) ∙ ap (λ b. b && is_eq (nat_cmp t.1 n)) (is_eq_nat t.0 g) ∙ ap (λ b. (t.0 == g) && b) (is_eq_nat t.1 n)

    go : (b : Bool) → (t.0 == g) ≡ b
        → (has edge_cmp (if b then edges_from edges t.1 g roots else edges) (n, h, m) || ((h == g) && (has pair_cmp ts (g, n) && has nat_cmp roots m)))
        ≡ (has edge_cmp edges (n, h, m) || ((h == g) && ((is_eq (pair_cmp t (g, n)) || has pair_cmp ts (g, n)) && has nat_cmp roots m)))
    go true e =
        ap (λ b. b || ((h == g) && (has pair_cmp ts (g, n) && has nat_cmp roots m))) (edges_from_has edges t.1 g roots n h m)
        ∙ ap (λ b. (has edge_cmp edges (n, h, m) || (((t.1 == n) && b) && has nat_cmp roots m)) ||
        ((h == g) && (has pair_cmp ts (g, n) && has nat_cmp roots m))) (eq_back g h)
        ∙ bool_led (has edge_cmp edges (n, h, m)) (t.1 == n) (h == g) (has nat_cmp roots m) (has pair_cmp ts (g, n))
        ∙ ap (λ b. has edge_cmp edges (n, h, m) || ((h == g) && ((b || has pair_cmp ts (g, n)) && has nat_cmp roots m)))
        (sym (tested ∙ ap (λ b. b && (t.1 == n)) e))
    go false e = ap (λ b. has edge_cmp edges (n, h, m) || ((h == g) && ((b || has pair_cmp ts (g, n)) && has nat_cmp roots m)))
        (sym (tested ∙ ap (λ b. b && (t.1 == n)) e))

pub is_eq2 : (a b n g : ℕ) → is_eq (pair_cmp (a, b) (n, g)) ≡ ((a == n) && (b == g))
is_eq2 a b n g = is_eq_then (nat_cmp a n) (nat_cmp b g) ∙ ap (λ c. c && is_eq (nat_cmp b g)) (is_eq_nat a n) ∙ ap (λ c. (a == n) && c) (is_eq_nat b g)

-- the strings of a new label
pub labels_at_found : (ts : List (ℕ × ℕ)) (g : ℕ) (s : StrSet) (n h : ℕ)
    → found pair_cmp (Of []) (labels_at ts g s) (n, h) ≡ cond ((h == g) && has pair_cmp ts (g, n)) s (Of [])
labels_at_found [] g s n h = none (h == g)
  where
    none : (b : Bool) → Of [] ≡ cond (b && false) s (Of [])
    none true = refl
    none false = refl
labels_at_found (t ∷ ts) g s n h = go (labels_at_found ts g s n h) (t.0 == g) refl
  where
    tested : is_eq (pair_cmp t (g, n)) ≡ ((t.0 == g) && (t.1 == n))
    tested = is_eq2 t.0 t.1 g n

    cases : (p q r : Bool) (s : StrSet) → cond (p && q) s (cond (q && r) s (Of [])) ≡ cond (q && (p || r)) s (Of [])
    cases true true r s = refl
    cases true false r s = refl
    cases false true r s = refl
    cases false false r s = refl

    go : found pair_cmp (Of []) (labels_at ts g s) (n, h) ≡ cond ((h == g) && has pair_cmp ts (g, n)) s (Of []) → (b : Bool) → (t.0 == g) ≡ b
        → found pair_cmp (Of []) (if b then ((t.1, g), s) ∷ labels_at ts g s else labels_at ts g s) (n, h) ≡ cond
        ((h == g) && (is_eq (pair_cmp t (g, n)) || has pair_cmp ts (g, n))) s (Of [])
    go r true e =
        ap (λ v. cond (is_eq (pair_cmp (t.1, g) (n, h))) s v) r
        ∙ ap (λ c. cond c s (cond ((h == g) && has pair_cmp ts (g, n)) s (Of []))) (is_eq2 t.1 g n h ∙ ap (λ c. (t.1 == n) && c) (eq_back g h))
        ∙ cases (t.1 == n) (h == g) (has pair_cmp ts (g, n)) s
        ∙ ap (λ c. cond ((h == g) && (c || has pair_cmp ts (g, n))) s (Of [])) (sym (tested ∙ ap (λ b. b && (t.1 == n)) e))
    go r false e = r ∙ ap (λ c. cond ((h == g) && (c || has pair_cmp ts (g, n))) s (Of [])) (sym (tested ∙ ap (λ b. b && (t.1 == n)) e))
