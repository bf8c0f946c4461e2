-- How the logic stores an expression.
use Rattle.std.proofs.Common.{◌≡◌, refl, ap, arith}
use Rattle.std.specs.Coded.{Coded, coded_ℕ, coded_ℤ, coded_bool, coded_list}
use base.Stored.{Gv, gnil, gnum, gcons}
use Rattle.bw_lang.specs.Encoding.Stored.{head, tail, tag}
use Rattle.bw_lang.specs.contracts.expr.Op as op
use Rattle.bw_lang.specs.contracts.expr.Fun as fun
use Rattle.bw_lang.specs.Service.Term.{Term, int, truth, string, name, paren, not, neg, binary, call, plug, nothing, Fillings, no_more, filling}

abbrev mutual
  pub term_code : Term → Gv
  term_code (int n) = gcons (gnum 0) (coded_ℤ.code n)
  term_code (truth b) = gcons (gnum 1) (coded_bool.code b)
  term_code (string s) = gcons (gnum 2) ((coded_list coded_ℕ).code s)
  term_code (name w) = gcons (gnum 3) ((coded_list coded_ℕ).code w)
  term_code (paren e) = gcons (gnum 4) (term_code e)
  term_code (not e) = gcons (gnum 5) (term_code e)
  term_code (neg e) = gcons (gnum 6) (term_code e)
  term_code (binary o l r) = gcons (gnum 7) (gcons (op.the_row.coded.code o) (gcons (term_code l) (term_code r)))
  term_code (call f e) = gcons (gnum 8) (gcons (fun.the_row.coded.code f) (term_code e))
  term_code (plug b ps) = gcons (gnum 9) (gcons (term_code b) (fillings_code ps))
  term_code nothing = gcons (gnum 10) gnil

  pub fillings_code : Fillings → Gv
  fillings_code no_more = gcons (gnum 0) gnil
  fillings_code (filling g e ps) = gcons (gnum 1) (gcons ((coded_list coded_ℕ).code g) (gcons (term_code e) (fillings_code ps)))

-- two stored alike are the same; two of different constructors are not stored alike
mutual
  pub term_inj : (x y : Term) → term_code x ≡ term_code y → x ≡ y
  term_inj (int n) (int m) p = λ i. int (coded_ℤ.inj n m (ap tail p) i)
  term_inj (int n) _ p = absurd (omega (arith, ap tag p))
  term_inj (truth b) (truth c) p = λ i. truth (coded_bool.inj b c (ap tail p) i)
  term_inj (truth b) _ p = absurd (omega (arith, ap tag p))
  term_inj (string s) (string t) p = λ i. string ((coded_list coded_ℕ).inj s t (ap tail p) i)
  term_inj (string s) _ p = absurd (omega (arith, ap tag p))
  term_inj (name w) (name v) p = λ i. name ((coded_list coded_ℕ).inj w v (ap tail p) i)
  term_inj (name w) _ p = absurd (omega (arith, ap tag p))
  term_inj (paren e) (paren d) p = λ i. paren (term_inj e d (ap tail p) i)
  term_inj (paren e) _ p = absurd (omega (arith, ap tag p))
  term_inj (not e) (not d) p = λ i. not (term_inj e d (ap tail p) i)
  term_inj (not e) _ p = absurd (omega (arith, ap tag p))
  term_inj (neg e) (neg d) p = λ i. neg (term_inj e d (ap tail p) i)
  term_inj (neg e) _ p = absurd (omega (arith, ap tag p))
  term_inj (binary o l r) (binary q k s) p =
      λ i. binary (op.the_row.coded.inj o q (ap (λ g. head (tail g)) p) i) (term_inj l k (ap (λ g. head (tail (tail g))) p) i)
      (term_inj r s (ap (λ g. tail (tail (tail g))) p) i)
  term_inj (binary o l r) _ p = absurd (omega (arith, ap tag p))
  term_inj (call f e) (call h d) p = λ i. call (fun.the_row.coded.inj f h (ap (λ g. head (tail g)) p) i) (term_inj e d (ap (λ g. tail (tail g)) p) i)
  term_inj (call f e) _ p = absurd (omega (arith, ap tag p))
  term_inj (plug b ps) (plug c qs) p = λ i. plug (term_inj b c (ap (λ g. head (tail g)) p) i) (fillings_inj ps qs (ap (λ g. tail (tail g)) p) i)
  term_inj (plug b ps) _ p = absurd (omega (arith, ap tag p))
  term_inj nothing nothing p = refl
  term_inj nothing _ p = absurd (omega (arith, ap tag p))

  pub fillings_inj : (x y : Fillings) → fillings_code x ≡ fillings_code y → x ≡ y
  fillings_inj no_more no_more p = refl
  fillings_inj no_more (filling g e ps) p = absurd (omega (arith, ap tag p))
  fillings_inj (filling g e ps) no_more p = absurd (omega (arith, ap tag p))
  fillings_inj (filling g e ps) (filling h d qs) p =
      λ i. filling ((coded_list coded_ℕ).inj g h (ap (λ g. head (tail g)) p) i) (term_inj e d (ap (λ g. head (tail (tail g))) p) i)
      (fillings_inj ps qs (ap (λ g. tail (tail (tail g))) p) i)

abbrev pub encoded_term : Coded Term
encoded_term = record { code = term_code; inj = term_inj }

abbrev pub encoded_fillings : Coded Fillings
encoded_fillings = record { code = fillings_code; inj = fillings_inj }
