use Rattle.bw_limits.proofs.Firsts.{looked_at, by_elements}
use Rattle.std.specs.Prelude.{◌&&◌, codes}
use Rattle.bw_lang.specs.Template.Controls.{is_control}
use Rattle.bw_lang.specs.Table.Names.{same}
use Rattle.bw_lang.specs.Service.Limits.{value_lengths}
use Rattle.bw_limits.proofs.lengths.Search.attributes.Goals as goal

pub returns-in-Some : goal.returns-in-Some
returns-in-Some c =
    looked_at c.args.self.most (by_elements (λ a. value_lengths c.args.gaps.now (is_control c.args.element.now.tag && same a.name (codes "name"))
    a.value)) _ _ _ _ _ c.attr-item.is c.loop-attr-test.true c.in-Some.ensures c.loop-attr.invariant

pub loop-attr-preserved : goal.loop-attr-preserved
loop-attr-preserved c =
    looked_at c.args.self.most (by_elements (λ a. value_lengths c.args.gaps.now (is_control c.args.element.now.tag && same a.name (codes "name"))
    a.value)) _ _ _ _ _ c.attr-item.is c.loop-attr-test.true c.in_default.ensures c.loop-attr.invariant
