-- How the logic stores formulas.
use Rattle.std.proofs.Common.{◌≡◌, ℕ, refl, ap, arith}
use Rattle.std.specs.Coded.{Coded, coded_ℕ, coded_list}
use base.Stored.{Gv, gnil, gnum, gcons}
use Rattle.bw_schema.specs.Needs.{Needs, nothing, all_of, some_of, attr, one_value, content, order}

abbrev head : Gv → Gv
head gnil = gnil
head (gnum n) = gnil
head (gcons a b) = a

abbrev tail : Gv → Gv
tail gnil = gnil
tail (gnum n) = gnil
tail (gcons a b) = b

abbrev value : Gv → ℕ
value gnil = 0
value (gnum n) = n
value (gcons a b) = 0

abbrev tag : Gv → ℕ
tag g = value (head g)

abbrev pub needs_code : Needs → Gv
needs_code nothing = gcons (gnum 0) gnil
needs_code (all_of p r) = gcons (gnum 1) (gcons (needs_code p) (needs_code r))
needs_code (some_of p r) = gcons (gnum 2) (gcons (needs_code p) (needs_code r))
needs_code (attr x r) = gcons (gnum 3) (gcons ((coded_list coded_ℕ).code x) (needs_code r))
needs_code (one_value x vs r) = gcons (gnum 4) (gcons ((coded_list coded_ℕ).code x) (gcons ((coded_list (coded_list coded_ℕ)).code vs) (needs_code r)))
needs_code (content x r) = gcons (gnum 5) (gcons ((coded_list coded_ℕ).code x) (needs_code r))
needs_code (order x y r) = gcons (gnum 6) (gcons ((coded_list coded_ℕ).code x) (gcons ((coded_list coded_ℕ).code y) (needs_code r)))

-- two stored alike are the same
pub needs_inj : (a b : Needs) → needs_code a ≡ needs_code b → a ≡ b
needs_inj nothing nothing p = refl
needs_inj nothing _ p = absurd (omega (arith, ap tag p))
needs_inj (all_of a r) (all_of b s) p = λ i. all_of (needs_inj a b (ap (λ g. head (tail g)) p) i) (needs_inj r s (ap (λ g. tail (tail g)) p) i)
needs_inj (all_of a r) _ p = absurd (omega (arith, ap tag p))
needs_inj (some_of a r) (some_of b s) p = λ i. some_of (needs_inj a b (ap (λ g. head (tail g)) p) i) (needs_inj r s (ap (λ g. tail (tail g)) p) i)
needs_inj (some_of a r) _ p = absurd (omega (arith, ap tag p))
needs_inj (attr x r) (attr y s) p = λ i. attr ((coded_list coded_ℕ).inj x y (ap (λ g. head (tail g)) p) i) (needs_inj r s (ap (λ g. tail (tail g)) p) i)
needs_inj (attr x r) _ p = absurd (omega (arith, ap tag p))
needs_inj (one_value x vs r) (one_value y ws s) p =
    λ i. one_value ((coded_list coded_ℕ).inj x y (ap (λ g. head (tail g)) p) i)
    ((coded_list (coded_list coded_ℕ)).inj vs ws (ap (λ g. head (tail (tail g))) p) i) (needs_inj r s (ap (λ g. tail (tail (tail g))) p) i)
needs_inj (one_value x vs r) _ p = absurd (omega (arith, ap tag p))
needs_inj (content x r) (content y s) p = λ i. content ((coded_list coded_ℕ).inj x y (ap (λ g. head (tail g)) p) i)
    (needs_inj r s (ap (λ g. tail (tail g)) p) i)
needs_inj (content x r) _ p = absurd (omega (arith, ap tag p))
needs_inj (order x y r) (order u v s) p =
    λ i. order ((coded_list coded_ℕ).inj x u (ap (λ g. head (tail g)) p) i) ((coded_list coded_ℕ).inj y v (ap (λ g. head (tail (tail g))) p) i)
    (needs_inj r s (ap (λ g. tail (tail (tail g))) p) i)
needs_inj (order x y r) _ p = absurd (omega (arith, ap tag p))

abbrev pub encoded_needs : Coded Needs
encoded_needs = record { code = needs_code; inj = needs_inj }
