-- Lists of faults put together.
use Rattle.std.proofs.Common.{◌≡◌, ◌⊎◌, inl, inr, List, [], sym, ◌∙◌, subst}
use Rattle.std.proofs.lemmas.Bool.{false≢true, or_cases, or_left, or_right}
use Rattle.bw_solve.specs.Sets.{has, merge}
use Rattle.bw_solve.specs.Lawful.SetLaws.{merge_has, merge_set}
use Rattle.bw_faults.specs.declared.fault.Fault.{Fault}
use Rattle.bw_faults.specs.Lists.{Lists}
use Rattle.bw_faults.specs.Order.{fault_cmp, fault_total}

-- the faults of both kinds, of a list for each
pub both_listed : {P Q : Fault → Type 0} (a b l : List Fault) → l ≡ merge fault_cmp a b → Lists P a → Lists Q b → Lists (λ f. P f ⊎ Q f) l
both_listed {P = P} {Q = Q} a b l e p q = subst (Lists (λ f. P f ⊎ Q f)) (sym e) (record {
  set = merge_set fault_total a b p.set q.set;
  sound = λ f h. elim (or_cases (has fault_cmp a f) (has fault_cmp b f) (sym (merge_has fault_total a b f) ∙ h)) [
    | inl there ↦ inl (p.sound f there)
    | inr there ↦ inr (q.sound f there)
  ];
  whole = λ f h. merge_has fault_total a b f ∙ elim h [
    | inl here ↦ or_left (has fault_cmp a f) (has fault_cmp b f) (p.whole f here)
    | inr here ↦ or_right (has fault_cmp a f) (has fault_cmp b f) (q.whole f here)
  ];
})

-- the same faults, said otherwise
pub same_listed : {P Q : Fault → Type 0} (l : List Fault) → ((f : Fault) → P f → Q f) → ((f : Fault) → Q f → P f) → Lists P l → Lists Q l
same_listed l to from p = record { set = p.set; sound = λ f h. to f (p.sound f h); whole = λ f h. p.whole f (from f h) }

-- there is none
pub none_listed : {P : Fault → Type 0} → ((f : Fault) → P f → ⊥) → Lists P []
none_listed none = record { set = tt; sound = λ f h. absurd (false≢true h); whole = λ f h. absurd (none f h) }
