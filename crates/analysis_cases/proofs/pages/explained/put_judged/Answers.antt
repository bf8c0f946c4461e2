use Rattle.std.proofs.Common.{sym, subst}
use Rattle.std.specs.List.{All}
use Rattle.bw_judge.specs.Faults.{IsFault}
use Rattle.bw_shape.specs.Outlines.{root_of}
use Rattle.bw_strings.specs.Literals.{literals_of}
use Rattle.bw_sum.specs.Graph.{graph}
use Rattle.bw_sum.specs.Templates.{template_items}
use Rattle.analysis_cases.proofs.Listed.{each_is_fault}
use Rattle.analysis_cases.proofs.pages.explained.put_judged.Goals as goal

pub put_each-put-requires-clause-faults : goal.put_each-put-requires-clause-faults
put_each-put-requires-clause-faults c =
    let b = c.args.basis.now in
    let T = template_items b.typed.now.service in
    let G = graph (literals_of b.typed.now.service) c.args.page.now in
    let root = root_of c.args.page.now in
    subst (All (λ f. IsFault T G root b.schema.now f.point f)) (sym c.as_slice.ensures.value)
    (each_is_fault T G root b.schema.now c.args.number c.in_ok-faults.faults c.in_ok-faults.ensures.exact)
