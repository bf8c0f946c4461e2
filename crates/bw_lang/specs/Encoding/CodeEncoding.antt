-- How the logic stores statements.
use Rattle.std.proofs.Common.{◌≡◌, refl, ap, arith}
use Rattle.std.specs.Coded.{Coded, coded_ℕ, coded_list}
use base.Stored.{Gv, gnil, gnum, gcons}
use Rattle.bw_lang.specs.Encoding.Stored.{head, tail, tag}
use Rattle.bw_lang.specs.contracts.stmt.Kind as kind
use Rattle.bw_lang.specs.contracts.stmt.Receive as receive
use Rattle.bw_lang.specs.Encoding.TermEncoding.{encoded_term}
use Rattle.bw_lang.specs.Service.Code.{Code, done, declare, assign, if_then, if_else, while_loop, block, for_each, show, exit}

abbrev pub code_code : Code → Gv
code_code done = gcons (gnum 0) gnil
code_code (declare t w e rest) = gcons (gnum 1) (gcons (kind.the_row.coded.code t)
    (gcons ((coded_list coded_ℕ).code w) (gcons (encoded_term.code e) (code_code rest))))
code_code (assign w e rest) = gcons (gnum 2) (gcons ((coded_list coded_ℕ).code w) (gcons (encoded_term.code e) (code_code rest)))
code_code (if_then t y rest) = gcons (gnum 3) (gcons (encoded_term.code t) (gcons (code_code y) (code_code rest)))
code_code (if_else t y n rest) = gcons (gnum 4) (gcons (encoded_term.code t) (gcons (code_code y) (gcons (code_code n) (code_code rest))))
code_code (while_loop t b rest) = gcons (gnum 5) (gcons (encoded_term.code t) (gcons (code_code b) (code_code rest)))
code_code (block b rest) = gcons (gnum 6) (gcons (code_code b) (code_code rest))
code_code (for_each w e b rest) = gcons (gnum 9) (gcons ((coded_list coded_ℕ).code w) (gcons (encoded_term.code e) (gcons (code_code b) (code_code rest))))
code_code (show p rs rest) = gcons (gnum 7) (gcons (encoded_term.code p) (gcons ((coded_list receive.the_row.coded).code rs) (code_code rest)))
code_code (exit p rest) = gcons (gnum 8) (gcons (encoded_term.code p) (code_code rest))

-- two stored alike are the same; two of different constructors are not stored alike
pub code_inj : (x y : Code) → code_code x ≡ code_code y → x ≡ y
code_inj done done p = refl
code_inj done _ p = absurd (omega (arith, ap tag p))
code_inj (declare t w e rest) (declare u v d more) p =
    λ i. declare (kind.the_row.coded.inj t u (ap (λ g. head (tail g)) p) i) ((coded_list coded_ℕ).inj w v (ap (λ g. head (tail (tail g))) p) i)
    (encoded_term.inj e d (ap (λ g. head (tail (tail (tail g)))) p) i) (code_inj rest more (ap (λ g. tail (tail (tail (tail g)))) p) i)
code_inj (declare t w e rest) _ p = absurd (omega (arith, ap tag p))
code_inj (assign w e rest) (assign v d more) p =
    λ i. assign ((coded_list coded_ℕ).inj w v (ap (λ g. head (tail g)) p) i) (encoded_term.inj e d (ap (λ g. head (tail (tail g))) p) i)
    (code_inj rest more (ap (λ g. tail (tail (tail g))) p) i)
code_inj (assign w e rest) _ p = absurd (omega (arith, ap tag p))
code_inj (if_then t y rest) (if_then u z more) p =
    λ i. if_then (encoded_term.inj t u (ap (λ g. head (tail g)) p) i) (code_inj y z (ap (λ g. head (tail (tail g))) p) i)
    (code_inj rest more (ap (λ g. tail (tail (tail g))) p) i)
code_inj (if_then t y rest) _ p = absurd (omega (arith, ap tag p))
code_inj (if_else t y n rest) (if_else u z m more) p =
    λ i. if_else (encoded_term.inj t u (ap (λ g. head (tail g)) p) i) (code_inj y z (ap (λ g. head (tail (tail g))) p) i)
    (code_inj n m (ap (λ g. head (tail (tail (tail g)))) p) i) (code_inj rest more (ap (λ g. tail (tail (tail (tail g)))) p) i)
code_inj (if_else t y n rest) _ p = absurd (omega (arith, ap tag p))
code_inj (while_loop t b rest) (while_loop u c more) p =
    λ i. while_loop (encoded_term.inj t u (ap (λ g. head (tail g)) p) i) (code_inj b c (ap (λ g. head (tail (tail g))) p) i)
    (code_inj rest more (ap (λ g. tail (tail (tail g))) p) i)
code_inj (while_loop t b rest) _ p = absurd (omega (arith, ap tag p))
code_inj (block b rest) (block c more) p = λ i. block (code_inj b c (ap (λ g. head (tail g)) p) i) (code_inj rest more (ap (λ g. tail (tail g)) p) i)
code_inj (block b rest) _ p = absurd (omega (arith, ap tag p))
code_inj (for_each w e b rest) (for_each v d c more) p =
    λ i. for_each ((coded_list coded_ℕ).inj w v (ap (λ g. head (tail g)) p) i) (encoded_term.inj e d (ap (λ g. head (tail (tail g))) p) i)
    (code_inj b c (ap (λ g. head (tail (tail (tail g)))) p) i) (code_inj rest more (ap (λ g. tail (tail (tail (tail g)))) p) i)
code_inj (for_each w e b rest) _ p = absurd (omega (arith, ap tag p))
code_inj (show p rs rest) (show q ss more) h =
    λ i. show (encoded_term.inj p q (ap (λ g. head (tail g)) h) i) ((coded_list receive.the_row.coded).inj rs ss (ap (λ g. head (tail (tail g))) h) i)
    (code_inj rest more (ap (λ g. tail (tail (tail g))) h) i)
code_inj (show p rs rest) _ h = absurd (omega (arith, ap tag h))
code_inj (exit p rest) (exit q more) h = λ i. exit (encoded_term.inj p q (ap (λ g. head (tail g)) h) i) (code_inj rest more (ap (λ g. tail (tail g)) h) i)
code_inj (exit p rest) _ h = absurd (omega (arith, ap tag h))

abbrev pub encoded_code : Coded Code
encoded_code = record { code = code_code; inj = code_inj }
