use Rattle.std.proofs.Common.{◌<◌, ◌^◌}
use Rattle.bw_limits.proofs.Firsts.{looked_at, by_sort}
use Rattle.bw_lang.specs.Service.Sorted.{as_template}
use Rattle.bw_lang.specs.Document.Measures.{constant_weight}
use Rattle.bw_limits.proofs.Sorts.{sort_read}
use Rattle.bw_limits.proofs.declarations.too_heavy.Goals as goal

pub returns-in-Some : goal.returns-in-Some
returns-in-Some c =
    looked_at 262144 (by_sort as_template (λ t. constant_weight t.items)) _ _ _ _ _ c.declaration-item.is c.loop-declaration-test.true
    c.in-Some.ensures c.loop-declaration.invariant

pub loop-declaration-preserved : goal.loop-declaration-preserved
loop-declaration-preserved c =
    looked_at 262144 (by_sort as_template (λ t. constant_weight t.items)) _ _ _ _ _ c.declaration-item.is c.loop-declaration-test.true
    c.in_default.ensures c.loop-declaration.invariant

pub weight_over-requires : goal.weight_over-requires
weight_over-requires c = sort_read as_template (λ t. constant_weight t.items < 2 ^ 64) _ _ _ c.requires c.declaration-item.is c.loop-declaration-test.true
