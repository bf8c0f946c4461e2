use Rattle.std.proofs.Common.{subst, sym}
use Rattle.bw_judge.specs.Faults.{IsFault}
use Rattle.bw_shape.specs.Outlines.{IsPageGraph, root_of}
use Rattle.bw_strings.specs.Literals.{literals_of}
use Rattle.bw_sum.specs.Graph.{graph}
use Rattle.bw_sum.specs.Templates.{template_items}
use Rattle.bw_questions.proofs.Explanations.{is_found, page_explains, stands_found}
use Rattle.bw_questions.proofs.explaining.explain_fault.Goals as goal

pub unreachable-requires : goal.unreachable-requires
unreachable-requires c =
    is_found c.args.typed.now.service c.args.schema.now c.args.found.now c.args.fault.now c.requires.found c.requires.fault
    c.requires.element c.in_default.ensures

pub page_graph-requires-clause-point : goal.page_graph-requires-clause-point
page_graph-requires-clause-point c =
    let s = stands_found c.args.typed.now.service c.args.schema.now c.args.found.now c.args.fault.now c.in-Some.place
    c.requires.found c.requires.fault c.requires.element c.in-Some.ensures in
    (s.step, s.at, s.page)

pub explain-explained-requires-clause-page : goal.explain-explained-requires-clause-page
explain-explained-requires-clause-page c =
    let s = stands_found c.args.typed.now.service c.args.schema.now c.args.found.now c.args.fault.now c.in-Some.place
    c.requires.found c.requires.fault c.requires.element c.in-Some.ensures in
    subst (IsPageGraph c.args.typed.now.service) (sym c.in_ok-page.ensures)
    (c.pages_are_graphs.ensures c.args.found.now.facts c.in-Some.place c.requires.found.facts_are (s.step, s.at, s.page))

pub explain-explained-requires-clause-fault : goal.explain-explained-requires-clause-fault
explain-explained-requires-clause-fault c =
    let service = c.args.typed.now.service in
    let s = stands_found service c.args.schema.now c.args.found.now c.args.fault.now c.in-Some.place c.requires.found c.requires.fault
    c.requires.element c.in-Some.ensures in
    subst (λ page. IsFault (template_items service) (graph (literals_of service) page) (root_of page) c.args.schema.now c.args.fault.now.point
    c.args.fault.now) (sym c.in_ok-page.ensures) s.fault

pub returns : goal.returns
returns c =
    let service = c.args.typed.now.service in
    page_explains service c.args.schema.now c.args.found.now.facts c.args.fault.now c.in-Some.place c.in_ok-page.page
    c.explain-explained.result c.requires.found.facts_are
    (stands_found service c.args.schema.now c.args.found.now c.args.fault.now c.in-Some.place c.requires.found c.requires.fault
    c.requires.element c.in-Some.ensures)
    c.in_ok-page.ensures c.explain-explained.ensures.explained c.explain-explained.ensures.refused
