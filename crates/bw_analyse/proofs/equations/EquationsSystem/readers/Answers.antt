use Rattle.std.proofs.Common.{◌+◌, ◌<◌, [], length, sym, subst, ◌∙◌, arith}
use Rattle.std.specs.Prelude.{slice_get}
use Rattle.std.specs.List.{All}
use Rattle.std.proofs.lemmas.List.{get_or_read}
use Rattle.bw_flow.specs.Layout.{flow_of}
use Rattle.bw_analyse.proofs.Points.{count_is}
use Rattle.bw_analyse.proofs.Walks.{readers_small}
use Rattle.bw_analyse.proofs.equations.EquationsSystem.readers.Goals as goal

pub returns-clause-each : goal.returns-clause-each
returns-clause-each c =
    let s = c.args.self.now in
    let cell = c.args.cell in
    let flow = flow_of s.ground.now.typed.now.service in
    let k = count_is s.ground.now.points.now flow s.ground.now.points_are in
    let lt : cell < length s.ground.now.points.now + 1 = let b = c.requires in omega arith in
    let l : cell < length s.readers.items = let a = s.readers_len in omega arith in
    subst (All (λ r. r < length flow + 1))
    (sym (c.as_slice.ensures ∙ get_or_read s.readers.items cell c.index.result.now l c.index.ensures [] ∙ s.readers_are cell lt))
    (readers_small (length flow) (slice_get flow cell))
