use Rattle.std.proofs.Common.{◌≡◌, ◌<◌, false, length, get_or, subst}
use Rattle.bw_lang.specs.Table.Names.{same}
use Rattle.bw_flow.specs.declared.point.Local.{Local}
use Rattle.bw_analyse.proofs.Walks.{next_name}
use Rattle.bw_analyse.proofs.known.Scene.local.Goals as goal

pub loop-place-preserved : goal.loop-place-preserved
loop-place-preserved c =
    let xs = c.args.self.now.scope.now in
    let i = c.loop-place.place in
    let x = c.local-item.result in
    let e = c.as_slice-local-items.ensures in
    let is : x ≡ get_or xs i x = subst (λ ys. x ≡ get_or ys i x) e c.local-item.is in
    let lt : i < length xs = subst (λ ys. i < length ys) e c.loop-place-test.true in
    let no : same c.args.name.now x.name ≡ false = cc in
    let s = next_name (λ (l : Local). l.name) xs c.args.self.now.locals.now i x c.args.name.now is lt no in
    cc
