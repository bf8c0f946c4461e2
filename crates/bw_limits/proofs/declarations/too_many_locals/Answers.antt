use Rattle.bw_limits.proofs.Firsts.{looked_at, by_sort}
use Rattle.std.proofs.Common.{length, ◌<◌, ◌^◌}
use Rattle.bw_lang.specs.Service.CodeNames.{local_names}
use Rattle.bw_lang.specs.Service.Sorted.{as_session}
use Rattle.bw_limits.proofs.Sorts.{sort_read}
use Rattle.bw_limits.proofs.declarations.too_many_locals.Goals as goal

pub returns-in-Some : goal.returns-in-Some
returns-in-Some c =
    looked_at 64 (by_sort as_session (λ s. length (local_names s.body))) _ _ _ _ _ c.declaration-item.is c.loop-declaration-test.true
    c.in-Some.ensures c.loop-declaration.invariant

pub loop-declaration-preserved : goal.loop-declaration-preserved
loop-declaration-preserved c =
    looked_at 64 (by_sort as_session (λ s. length (local_names s.body))) _ _ _ _ _ c.declaration-item.is c.loop-declaration-test.true
    c.in_default.ensures c.loop-declaration.invariant

pub locals_over-requires : goal.locals_over-requires
locals_over-requires c = sort_read as_session (λ s. length (local_names s.body) < 2 ^ 64) _ _ _ c.requires c.declaration-item.is c.loop-declaration-test.true
