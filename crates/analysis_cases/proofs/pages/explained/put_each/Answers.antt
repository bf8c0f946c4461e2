use Rattle.std.proofs.Common.{sym, subst}
use Rattle.bw_judge.specs.Faults.{IsFault}
use Rattle.bw_shape.specs.Outlines.{root_of}
use Rattle.bw_strings.specs.Literals.{literals_of}
use Rattle.bw_sum.specs.Graph.{graph}
use Rattle.bw_sum.specs.Templates.{template_items}
use Rattle.analysis_cases.proofs.Explained.{few_elements}
use Rattle.analysis_cases.proofs.pages.explained.put_each.Goals as goal

pub explain-requires-clause-fault : goal.explain-requires-clause-fault
explain-requires-clause-fault c =
    subst (λ f. IsFault (template_items c.args.typed.now.service) (graph (literals_of c.args.typed.now.service) c.args.page.now) (root_of c.args.page.now) c.args.schema.now
    f.point f) (sym c.fault-item.is) (c.requires.faults c.loop-fault.fault-index c.fault-item.result c.loop-fault-test.true)

pub put_explained-put-requires : goal.put_explained-put-requires
put_explained-put-requires c = record { few = few_elements c.in_ok-explained.ensures.explained }
