-- The order of faults.
use Rattle.std.specs.Prelude.{ℕ, ◌+◌, Option, Some, None, nat_lt, if◌then◌else◌}
use Rattle.std.specs.declared.cmp.Ordering.{Ordering}
use Rattle.std.specs.Ordering.{nat_cmp, on, then_cmp}
use Rattle.std.specs.Cmp.{IsTotalOrder}
use Rattle.std.specs.Cmp.Lexicographic.{slice_cmp}
use Rattle.std.proofs.lemmas.Cmp.{nat_cmp_total, then_total, on_total, nat_list_cmp_total}
use Rattle.bw_faults.specs.declared.fault.Fault.{Fault}

-- the faults 8 to 11 come before the others
abbrev pub group : Fault → ℕ
group f = if nat_lt f.number 8 then 1 else 0

-- no template, and then the templates by their numbers
abbrev pub template_rank : Option ℕ → ℕ
template_rank None = 0
template_rank (Some n) = n + 1

-- by point, group, template, place, number and the bytes of the detail
abbrev pub fault_cmp : Fault → Fault → Ordering
fault_cmp =
    then_cmp (then_cmp (then_cmp (then_cmp (then_cmp (on (λ f. f.point) nat_cmp) (on group nat_cmp)) (on (λ f. template_rank f.template) nat_cmp))
    (on (λ f. f.place) nat_cmp)) (on (λ f. f.number) nat_cmp)) (on (λ f. f.detail) (slice_cmp nat_cmp))

pub fault_total : IsTotalOrder fault_cmp
fault_total =
    then_total (then_total (then_total (then_total (then_total (on_total (λ f. f.point) nat_cmp_total) (on_total group nat_cmp_total))
    (on_total (λ f. template_rank f.template) nat_cmp_total)) (on_total (λ f. f.place) nat_cmp_total)) (on_total (λ f. f.number) nat_cmp_total))
    (on_total (λ f. f.detail) nat_list_cmp_total)
