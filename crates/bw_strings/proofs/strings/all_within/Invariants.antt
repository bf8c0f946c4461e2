use Rattle.std.proofs.Common.{◌≡◌, drop}
use Rattle.std.specs.List.{list_all}
use Rattle.bw_strings.specs.Asking.{text_of, is_among}
use Rattle.bw_strings.proofs.strings.all_within.Given as goal

abbrev pub invariant-loop-number : goal.invariant-loop-number
invariant-loop-number l = list_all (λ n. is_among l.allowed (text_of l.literals n)) (drop l.number-index l.numbers) ≡ list_all
    (λ n. is_among l.allowed (text_of l.literals n)) l.numbers
