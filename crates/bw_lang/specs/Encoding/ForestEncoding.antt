-- How the logic stores a forest.
use Rattle.std.proofs.Common.{◌≡◌, ◌≢◌, ℕ, refl, ap, arith}
use Rattle.std.specs.Coded.{Coded, coded_ℕ, coded_list}
use base.Stored.{Gv, gnil, gnum, gcons}
use Rattle.bw_lang.specs.contracts.items.Attr as attr
use Rattle.bw_lang.specs.Document.Forest.{Forest, none, text, gap, element}

abbrev head : Gv → Gv
head gnil = gnil
head (gnum n) = gnil
head (gcons a b) = a

abbrev tail : Gv → Gv
tail gnil = gnil
tail (gnum n) = gnil
tail (gcons a b) = b

apart : (m n : ℕ) {a b : Gv} → gcons (gnum m) a ≡ gcons (gnum n) b → m ≢ n → ⊥
apart m n p other = other (cc)

abbrev pub forest_code : Forest → Gv
forest_code none = gcons (gnum 0) gnil
forest_code (text a0 a1) = gcons (gnum 1) (gcons ((coded_list coded_ℕ).code a0) (forest_code a1))
forest_code (gap a0 a1) = gcons (gnum 2) (gcons (coded_ℕ.code a0) (forest_code a1))
forest_code (element a0 a1 a2 a3) = gcons (gnum 3) (gcons ((coded_list coded_ℕ).code a0)
    (gcons ((coded_list attr.the_row.coded).code a1) (gcons (forest_code a2) (forest_code a3))))

pub forest_inj : (x y : Forest) → forest_code x ≡ forest_code y → x ≡ y
forest_inj none none p = refl
forest_inj none (text b0 b1) p = absurd (apart 0 1 p (omega arith))
forest_inj none (gap b0 b1) p = absurd (apart 0 2 p (omega arith))
forest_inj none (element b0 b1 b2 b3) p = absurd (apart 0 3 p (omega arith))
forest_inj (text a0 a1) none p = absurd (apart 1 0 p (omega arith))
forest_inj (text a0 a1) (text b0 b1) p = λ i. text ((coded_list coded_ℕ).inj a0 b0 (ap (λ g. head (tail g)) p) i)
    (forest_inj a1 b1 (ap (λ g. tail (tail g)) p) i)
forest_inj (text a0 a1) (gap b0 b1) p = absurd (apart 1 2 p (omega arith))
forest_inj (text a0 a1) (element b0 b1 b2 b3) p = absurd (apart 1 3 p (omega arith))
forest_inj (gap a0 a1) none p = absurd (apart 2 0 p (omega arith))
forest_inj (gap a0 a1) (text b0 b1) p = absurd (apart 2 1 p (omega arith))
forest_inj (gap a0 a1) (gap b0 b1) p = λ i. gap (coded_ℕ.inj a0 b0 (ap (λ g. head (tail g)) p) i) (forest_inj a1 b1 (ap (λ g. tail (tail g)) p) i)
forest_inj (gap a0 a1) (element b0 b1 b2 b3) p = absurd (apart 2 3 p (omega arith))
forest_inj (element a0 a1 a2 a3) none p = absurd (apart 3 0 p (omega arith))
forest_inj (element a0 a1 a2 a3) (text b0 b1) p = absurd (apart 3 1 p (omega arith))
forest_inj (element a0 a1 a2 a3) (gap b0 b1) p = absurd (apart 3 2 p (omega arith))
forest_inj (element a0 a1 a2 a3) (element b0 b1 b2 b3) p = λ i.
    element ((coded_list coded_ℕ).inj a0 b0 (ap (λ g. head (tail g)) p) i)
    ((coded_list attr.the_row.coded).inj a1 b1 (ap (λ g. head (tail (tail g))) p) i) (forest_inj a2 b2 (ap (λ g. head (tail (tail (tail g)))) p) i)
    (forest_inj a3 b3 (ap (λ g. tail (tail (tail (tail g)))) p) i)

abbrev pub encoded_forest : Coded Forest
encoded_forest = record { code = forest_code; inj = forest_inj }
