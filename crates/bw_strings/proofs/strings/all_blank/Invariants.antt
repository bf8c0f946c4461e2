use Rattle.std.proofs.Common.{◌≡◌, drop}
use Rattle.std.specs.List.{list_all}
use Rattle.bw_strings.specs.Asking.{text_of}
use Rattle.bw_lang.specs.Text.Bytes.{is_blank_text}
use Rattle.bw_strings.proofs.strings.all_blank.Given as goal

abbrev pub invariant-loop-number : goal.invariant-loop-number
invariant-loop-number l = list_all (λ n. is_blank_text (text_of l.literals n)) (drop l.number-index l.numbers) ≡ list_all
    (λ n. is_blank_text (text_of l.literals n)) l.numbers
