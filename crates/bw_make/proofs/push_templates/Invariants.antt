use Rattle.std.proofs.Common.{◌≡◌, ◌++◌, ◌-◌}
use Rattle.std.specs.Prelude.{flat_map, string_bytes}
use Rattle.std.specs.List.{range_with_len}
use Rattle.bw_make.specs.Made.{template_line}
use Rattle.bw_make.proofs.push_templates.Given as goal

abbrev pub invariant-loop-page : goal.invariant-loop-page
invariant-loop-page l =
    string_bytes l.text ++ flat_map template_line (range_with_len l.page (l.n - l.page)) ≡ string_bytes l.fn.text
    ++ flat_map template_line (range_with_len 0 l.n)
