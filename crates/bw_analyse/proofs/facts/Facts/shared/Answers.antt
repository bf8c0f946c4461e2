use Rattle.std.proofs.Common.{◌≡◌, ◌<◌, false, length, get_or, subst, sym, ◌∙◌}
use Rattle.bw_lang.specs.Table.Names.{same}
use Rattle.bw_analyse.proofs.Walks.{next_plain}
use Rattle.bw_analyse.proofs.facts.Facts.shared.Goals as goal

pub loop-place-preserved : goal.loop-place-preserved
loop-place-preserved c =
    let names = c.args.self.now.variables.items in
    let i = c.loop-place.place in
    let x = c.variable-item.result in
    let e = c.deref-variable-items.ensures.value in
    let is : x ≡ get_or names i x = subst (λ ys. x ≡ get_or ys i x) e c.variable-item.is in
    let lt : i < length names = subst (λ ys. i < length ys) e c.loop-place-test.true in
    let no : same c.args.name.now x ≡ false = cc in
    sym (next_plain names c.row-row.result.now i x c.args.name.now is lt no) ∙ c.loop-place.invariant
