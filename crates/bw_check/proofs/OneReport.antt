-- The check has one report.
use Rattle.std.proofs.Common.{◌≡◌, ◌<◌, ℕ, List, Some, None, refl, sym, ap, ◌∙◌, arith}
use Rattle.bw_faults.specs.declared.fault.Fault.{Fault}
use Rattle.bw_flow.specs.Layout.{points}
use Rattle.bw_types.specs.declared.typed.Typed.{Typed}
use Rattle.bw_check.specs.Accepts.{KeepsLimits}
use Rattle.bw_check.specs.declared.fault.CheckFault.TheVariants.{Refused, TooLarge, TooMany, Memory}
use Rattle.bw_check.specs.Laws.{OneReport}
use Rattle.bw_check.proofs.OneAnswer.{one_list, accepted_has_none}

-- a service that keeps its limits is not refused for one of them
not_many : (t : Typed) (n : ℕ) → KeepsLimits t.service → n ≡ points t.service.sessions → 4096 < n → ⊥
not_many t n k e over = absurd (omega (arith, k.points, e, over))

pub one_report : (t : Typed) → OneReport t.service
one_report t schema None None a b = refl
one_report t schema None (Some (Refused l)) a b = absurd (b.0.1 (accepted_has_none t schema l a b.0.2))
one_report t schema None (Some (TooLarge n)) a b = absurd (a.1.limits.members b.0.2)
one_report t schema None (Some (TooMany n)) a b = absurd (not_many t n a.1.limits b.0.0 b.0.1)
one_report t schema None (Some Memory) a b = absurd (b.1 refl)
one_report t schema (Some (Refused l)) None a b = absurd (a.0.1 (accepted_has_none t schema l b a.0.2))
one_report t schema (Some (Refused l)) (Some (Refused m)) a b =
    ap (λ (x : List Fault). Some (Refused x)) (one_list t schema l m a.0.2 b.0.2)
one_report t schema (Some (Refused l)) (Some (TooLarge n)) a b = absurd (a.0.0.members b.0.2)
one_report t schema (Some (Refused l)) (Some (TooMany n)) a b = absurd (not_many t n a.0.0 b.0.0 b.0.1)
one_report t schema (Some (Refused l)) (Some Memory) a b = absurd (b.1 refl)
one_report t schema (Some (TooLarge n)) None a b = absurd (b.1.limits.members a.0.2)
one_report t schema (Some (TooLarge n)) (Some (Refused l)) a b = absurd (b.0.0.members a.0.2)
one_report t schema (Some (TooLarge n)) (Some (TooLarge m)) a b = refl
one_report t schema (Some (TooLarge n)) (Some (TooMany m)) a b = absurd (omega (arith, a.0.0, b.0.0, b.0.1))
one_report t schema (Some (TooLarge n)) (Some Memory) a b = absurd (b.1 refl)
one_report t schema (Some (TooMany n)) None a b = absurd (not_many t n b.1.limits a.0.0 a.0.1)
one_report t schema (Some (TooMany n)) (Some (Refused l)) a b = absurd (not_many t n b.0.0 a.0.0 a.0.1)
one_report t schema (Some (TooMany n)) (Some (TooLarge m)) a b = absurd (omega (arith, b.0.0, a.0.0, a.0.1))
one_report t schema (Some (TooMany n)) (Some (TooMany m)) a b = ap (λ (x : ℕ). Some (TooMany x)) (a.0.0 ∙ sym b.0.0)
one_report t schema (Some (TooMany n)) (Some Memory) a b = absurd (b.1 refl)
one_report t schema (Some Memory) b a c = absurd (a.1 refl)
