use Rattle.std.proofs.Common.{◌≡◌, false, sym, ◌∙◌}
use Rattle.bw_lang.specs.Table.Names.{same}
use Rattle.bw_flow.specs.declared.point.Local.{Local}
use Rattle.bw_analyse.proofs.Walks.{next_name}
use Rattle.bw_analyse.proofs.facts.found_local.Goals as goal

pub loop-place-preserved : goal.loop-place-preserved
loop-place-preserved c =
    let x = c.local-item.result in
    let no : same c.args.name.now x.name ≡ false = cc in
    sym (next_name (λ (l : Local). l.name) c.as_slice-local-items.result.now c.args.row.now c.loop-place.place x c.args.name.now c.local-item.is
    c.loop-place-test.true no)
    ∙ c.loop-place.invariant
