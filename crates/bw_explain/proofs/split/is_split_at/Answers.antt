use Rattle.std.proofs.Common.{ap, length, sym, ◌∙◌, subst, arith, List}
use Rattle.bw_lang.specs.Document.Forest.{Forest}
use Rattle.bw_judge.specs.Pages.{scene_at}
use Rattle.bw_strings.specs.Literals.{literals_of}
use Rattle.bw_sum.specs.Graph.{graph as summary_graph}
use Rattle.bw_sum.specs.Templates.{template_items}
use Rattle.bw_explain.specs.Explained.{IsSplit, IsSpot, Tells}
use Rattle.bw_explain.specs.Splits.{some_split}
use Rattle.bw_explain.proofs.Splitting.{split_is}
use Rattle.bw_explain.proofs.split.is_split_at.Goals as goal

pub is_split_by-is_split-requires-clause-node : goal.is_split_by-is_split-requires-clause-node
is_split_by-is_split-requires-clause-node c =
    let a = c.in_ok-outline.ensures.kept.rows in
    let b = c.requires.spot.low in
    let d = ap length c.args.basis.now.templates_are in
    omega (arith, a, b, d)

pub is_split_by-is_split-requires-clause-said : goal.is_split_by-is_split-requires-clause-said
is_split_by-is_split-requires-clause-said c =
    let a = c.in_ok-outline.ensures.kept.sayings in
    let b = c.requires.spot.low in
    let d = ap length c.args.basis.now.templates_are in
    omega (arith, a, b, d)

pub returns : goal.returns
returns c =
    let b = c.args.basis.now in
    let s = c.args.spot.now in
    let o = c.in_ok-outline.outline in
    let f = c.args.fault.now in
    let X = IsSplit (template_items b.typed.now.service) (summary_graph (literals_of b.typed.now.service) c.args.page.now) b.schema.now.elements f in
    subst (λ z. Tells z X) (sym (c.is_split_by-is_split.ensures ∙ ap (λ ls. some_split
    (scene_at o.graphed.nodes.items o.graphed.said.items ls o.tables o.pairs.items
    s.template) c.args.rule.now.needs s.element.now.attrs s.element.now.items) b.literals_are))
    (split_is b.typed.now.service c.args.page.now b.schema.now o c.requires.page c.in_ok-outline.ensures f s
    (subst (λ (ts : List Forest). IsSpot ts f s) b.templates_are c.requires.spot) c.args.rule.now c.requires.rule c.requires.fault c.requires.seven)
