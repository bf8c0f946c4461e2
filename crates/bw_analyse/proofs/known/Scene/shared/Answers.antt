use Rattle.std.proofs.Common.{◌≡◌, false}
use Rattle.bw_lang.specs.Table.Names.{same}
use Rattle.bw_lang.specs.declared.service.Shared.{Shared}
use Rattle.bw_analyse.proofs.Walks.{next_name}
use Rattle.bw_analyse.proofs.known.Scene.shared.Goals as goal

pub loop-place-preserved : goal.loop-place-preserved
loop-place-preserved c =
    let xs = c.as_slice-variables.result.now in
    let x = c.index-variables-place.result in
    let no : same c.args.name.now x.name ≡ false = cc in
    let s = next_name (λ (v : Shared). v.name) xs c.args.self.now.shared.now c.loop-place.place x c.args.name.now c.index-variables-place.is
    c.loop-place-test.true no in
    cc
