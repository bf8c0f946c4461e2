-- How the logic stores the way a document was made.
use Rattle.std.proofs.Common.{◌≡◌, ap, arith}
use Rattle.std.specs.Coded.{Coded, coded_ℕ, coded_list}
use base.Stored.{Gv, gnum, gcons}
use Rattle.bw_lang.specs.Encoding.Stored.{head, tail, tag}
use Rattle.bw_lang.specs.Encoding.ForestEncoding.{encoded_forest}
use Rattle.bw_doc.specs.Made.{Made, constant, plug, plug_text}

abbrev pub made_code : Made → Gv
made_code (constant n f) = gcons (gnum 0) (gcons (coded_ℕ.code n) (encoded_forest.code f))
made_code (plug b g a) = gcons (gnum 1) (gcons (coded_ℕ.code g) (gcons (made_code b) (made_code a)))
made_code (plug_text b g s) = gcons (gnum 2) (gcons (coded_ℕ.code g) (gcons (made_code b) ((coded_list coded_ℕ).code s)))

-- two stored alike are the same
pub made_inj : (x y : Made) → made_code x ≡ made_code y → x ≡ y
made_inj (constant n f) (constant m e) p = λ i. constant (coded_ℕ.inj n m (ap (λ g. head (tail g)) p) i) (encoded_forest.inj f e (ap (λ g. tail (tail g)) p) i)
made_inj (constant n f) _ p = absurd (omega (arith, ap tag p))
made_inj (plug b g a) (plug c h d) p =
    λ i. plug (made_inj b c (ap (λ v. head (tail (tail v))) p) i) (coded_ℕ.inj g h (ap (λ v. head (tail v)) p) i)
    (made_inj a d (ap (λ v. tail (tail (tail v))) p) i)
made_inj (plug b g a) _ p = absurd (omega (arith, ap tag p))
made_inj (plug_text b g s) (plug_text c h t) p =
    λ i. plug_text (made_inj b c (ap (λ v. head (tail (tail v))) p) i) (coded_ℕ.inj g h (ap (λ v. head (tail v)) p) i)
    ((coded_list coded_ℕ).inj s t (ap (λ v. tail (tail (tail v))) p) i)
made_inj (plug_text b g s) _ p = absurd (omega (arith, ap tag p))

abbrev pub encoded_made : Coded Made
encoded_made = record { code = made_code; inj = made_inj }
