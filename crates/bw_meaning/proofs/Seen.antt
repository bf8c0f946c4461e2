-- An expression sees nothing but the values that names have.
use Rattle.std.proofs.Common.{◌≡◌, ℕ, zero, suc, Bool, true, false, refl, ap, ◌∙◌}
use Rattle.std.specs.Prelude.{if◌then◌else◌, unwrap_or, pos, neg_ℤ}
use Rattle.std.specs.Prelude as std
use Rattle.std.specs.Option.{option_or}
use Rattle.bw_lang.specs.declared.service.Service.{Service}
use Rattle.bw_lang.specs.Table.Names as names
use Rattle.bw_lang.specs.Service.Term.{Term, int, truth, string, name, paren, not, neg, binary, call, plug, nothing, Fillings, no_more, filling}
use Rattle.bw_meaning.specs.Expressions.{Evaluated, Gives, Faults, paid, and_then, given, eval, fill}
use Rattle.bw_meaning.specs.NameLaws.{Agree, ExpressionsSeeNames}
use Rattle.bw_meaning.specs.Operators.{number_of, truth_of, document_of, held, decides, combined, called, filled}
use Rattle.bw_meaning.specs.Values.{Value, Values, number, truth_value, template_value}

paid_alike : (units : ℕ) (f g : ℕ → Evaluated) → ((u : ℕ) → f u ≡ g u) → paid units f ≡ paid units g
paid_alike zero f g h = refl
paid_alike (suc u) f g h = h u

then_alike : (o : Evaluated) (f g : Value → ℕ → Evaluated) → ((v : Value) (u : ℕ) → f v u ≡ g v u) → and_then o f ≡ and_then o g
then_alike (Gives v u) f g h = h v u
then_alike (Faults f u) x y h = refl

if_alike : (b : Bool) (o p q : Evaluated) → p ≡ q → (if b then o else p) ≡ (if b then o else q)
if_alike true o p q e = refl
if_alike false o p q e = e

module _ (service : Service) (l m s t : Values) (locals : Agree l m) (shared : Agree s t) where
  mutual
    pub eval_alike : (e : Term) (units : ℕ) → eval service l s e units ≡ eval service m t e units
    eval_alike (int n) units = refl
    eval_alike (truth b) units = refl
    eval_alike (string x) units = refl
    eval_alike nothing units = refl
    eval_alike (name w) units = paid_alike units _ _ (λ u. named u)
      where
        named : (u : ℕ) →
            Gives (unwrap_or (option_or (names.beside w l) (option_or (names.beside w s) (template_value service w))) (number (pos 0))) u
            ≡ Gives (unwrap_or (option_or (names.beside w m) (option_or (names.beside w t) (template_value service w))) (number (pos 0))) u
        named u = ap (λ o. Gives (unwrap_or (option_or o (option_or (names.beside w s) (template_value service w))) (number (pos 0))) u) (locals w)
            ∙ ap (λ o. Gives (unwrap_or (option_or (names.beside w m) (option_or o (template_value service w))) (number (pos 0))) u) (shared w)
    eval_alike (paren e) units = paid_alike units _ _ (λ u. eval_alike e u)
    eval_alike (not e) units = paid_alike units _ _ (λ u. ap (λ o. and_then o (λ v. Gives (truth_value (std.not (truth_of v))))) (eval_alike e u))
    eval_alike (neg e) units = paid_alike units _ _ (λ u. ap (λ o. and_then o (λ v. given (held (neg_ℤ (number_of v))))) (eval_alike e u))
    eval_alike (call f e) units = paid_alike units _ _ (λ u. ap (λ o. and_then o (λ v. Gives (called f v))) (eval_alike e u))
    eval_alike (binary op e r) units = paid_alike units _ _ (λ u.
        ap (λ o. and_then o (λ v u1. if decides op v then Gives v u1 else and_then (eval service l s r u1) (λ w. given (combined op v w)))) (eval_alike e u)
        ∙ then_alike (eval service m t e u) _ _ (λ v u1. if_alike (decides op v) (Gives v u1) _ _
        (ap (λ o. and_then o (λ w. given (combined op v w))) (eval_alike r u1))))
    eval_alike (plug b ps) units = paid_alike units _ _ (λ u.
        ap (λ o. and_then o (λ d u1. fill service l s ps d u1)) (eval_alike b u)
        ∙ then_alike (eval service m t b u) _ _ (λ d u1. fill_alike ps d u1))

    fill_alike : (ps : Fillings) (d : Value) (units : ℕ) → fill service l s ps d units ≡ fill service m t ps d units
    fill_alike no_more d units = refl
    fill_alike (filling g e ps) d units =
        ap (λ o. and_then o (λ v u1. and_then (given (filled (names.name_number service.gaps g) v (document_of d)) u1) (λ d1 u2. fill service l s ps d1 u2)))
        (eval_alike e units)
        ∙ then_alike (eval service m t e units) _ _ (λ v u1.
        then_alike (given (filled (names.name_number service.gaps g) v (document_of d)) u1) _ _ (λ d1 u2. fill_alike ps d1 u2))

pub expressions_see_names : ExpressionsSeeNames
expressions_see_names service l m s t e units locals shared = eval_alike service l m s t locals shared e units
