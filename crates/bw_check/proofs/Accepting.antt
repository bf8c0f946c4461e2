-- What an answer of the check stands on.
use Rattle.std.proofs.Common.{◌≡◌, ℕ, ◌<◌, ◌≤◌, List, [], ◌∷◌, length, Result, Ok, Err, refl, ap, sym, subst, arith}
use Rattle.std.specs.Prelude.{IfErr, IsErrAnd}
use Rattle.bw_analyse.specs.declared.facts.Facts.{Facts}
use Rattle.bw_analyse.specs.Facts.{AreFacts}
use Rattle.bw_faults.specs.declared.fault.Fault.{Fault}
use Rattle.bw_faults.specs.Lists.{Lists}
use Rattle.bw_faults.proofs.Adding.{none_of}
use Rattle.bw_lang.specs.declared.service.Service.{Service}
use Rattle.bw_schema.specs.declared.schema.Schema.{Schema}
use Rattle.bw_check.specs.declared.fault.CheckFault.{CheckFault}
use Rattle.bw_check.specs.Accepts.{KeepsLimits, IsAccepted}
use Rattle.bw_check.specs.Faults.{IsServiceFault}

empty : (l : List Fault) → length l ≤ 0 → l ≡ []
empty [] h = refl
empty (x ∷ xs) h = absurd (omega (arith, h))

-- where the list of all faults has none, the service is accepted
pub accepted_by : (service : Service) (schema : Schema) (facts : Facts) (l : List Fault) (n : ℕ) → KeepsLimits service → AreFacts service facts
    → Lists (IsServiceFault service schema facts) l → n ≡ length l → n ≤ 0 → IsAccepted service schema facts
accepted_by service schema facts l n limits are lists e h = record {
  limits = limits;
  facts_are = are;
  faultless = none_of l (empty l (omega (arith, e, h))) lists;
}

-- and where it has one, it isn't the empty list
pub not_empty : (l : List Fault) (n : ℕ) → n ≡ length l → 0 < n → l ≡ [] → ⊥
not_empty l n e h is = let none : length l ≡ 0 = ap length is in absurd (omega (arith, e, h, none))

-- what holds of a fault holds of the answer that hands it on
pub handed_on : {X : Type 0} (r : Result X CheckFault) (e : CheckFault) (P : CheckFault → Type 0) → IsErrAnd r (λ y. y ≡ e) → P e → IfErr r P
handed_on (Ok x) e P q h = tt
handed_on (Err y) e P q h = subst P (sym q) h
