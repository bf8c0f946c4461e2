use Rattle.std.proofs.Common.{subst}
use Rattle.std.proofs.lemmas.Result.{IfOk-weaker}
use Rattle.bw_faults.specs.Lists.{Lists}
use Rattle.bw_flow.specs.View.{seen}
use Rattle.bw_judge.specs.Faults.{IsFault}
use Rattle.bw_shape.specs.Outlines.{IsPageGraph, IsShape, root_of}
use Rattle.bw_strings.specs.Literals.{literals_of}
use Rattle.bw_sum.specs.Graph.{graph}
use Rattle.bw_sum.specs.Templates.{template_items}
use Rattle.bw_check.proofs.Pages.{page_listed}
use Rattle.bw_check.proofs.bench.judge_outline.Goals as goal

pub judge_received-requires-clause-page : goal.judge_received-requires-clause-page
judge_received-requires-clause-page c = subst (IsPageGraph c.args.bench.basis.now.typed.now.service) c.requires.graph c.requires.known

pub judge_received-requires-clause-shape : goal.judge_received-requires-clause-shape
judge_received-requires-clause-shape c =
    subst (λ page. IsShape c.args.bench.basis.now.typed.now.service page c.args.bench.basis.now.schema.now c.args.outline.now) c.requires.graph c.requires.shape

pub returns-in-Ok : goal.returns-in-Ok
returns-in-Ok c =
    let s = c.args.bench.basis.now.typed.now.service in
    let facts = c.args.bench.facts.now in
    let schema = c.args.bench.basis.now.schema.now in
    let elements =
    subst (λ page. Lists (IsFault (template_items s) (graph (literals_of s) page) (root_of page) schema c.args.point.now.number) c.in-Ok.elements)
    c.requires.graph c.in-Ok.ensures.exact in
    IfOk-weaker c.joined.result _ _ (λ all e. page_listed s schema facts c.args.place (seen c.args.point.now) c.in_ok-faults.faults c.in-Ok.elements all
    c.requires.page c.requires.point e c.in_ok-faults.ensures elements) c.joined.ensures
