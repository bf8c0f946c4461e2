use Rattle.std.proofs.Common.{sym}
use Rattle.bw_shape.specs.Outlines.{root_of}
use Rattle.bw_strings.specs.Literals.{literals_of}
use Rattle.bw_sum.specs.Graph.{graph as summary_graph}
use Rattle.bw_sum.specs.Templates.{template_items}
use Rattle.bw_explain.specs.declared.explained.Explained.TheVariants as answers
use Rattle.bw_explain.specs.Explained.{IsSplit, disjunction, no_unfolding}
use Rattle.bw_explain.specs.Shows.{Shows}
use Rattle.bw_explain.proofs.Faulty.{told_found, none_shown, not_valid}
use Rattle.bw_explain.proofs.fault.explain_by.Goals as goal

pub returns-then-not-is_none-clause-explained : goal.returns-then-not-is_none-clause-explained
returns-then-not-is_none-clause-explained c =
    let b = c.args.basis.now in
    let G = summary_graph (literals_of b.typed.now.service) c.args.page.now in
    let W = Shows (template_items b.typed.now.service) G b.schema.now.elements c.args.fault.now (root_of c.args.page.now) in
    let X = IsSplit (template_items b.typed.now.service) G b.schema.now.elements c.args.fault.now in
    told_found W X c.in_ok-found.found c.in_ok-found.ensures (sym c.if-not-is_none.ensures)

pub returns-then-is_split-clause-explained : goal.returns-then-is_split-clause-explained
returns-then-is_split-clause-explained c =
    let b = c.args.basis.now in
    let G = summary_graph (literals_of b.typed.now.service) c.args.page.now in
    let W = Shows (template_items b.typed.now.service) G b.schema.now.elements c.args.fault.now (root_of c.args.page.now) in
    disjunction (none_shown W c.in_ok-found.found c.in_ok-found.ensures (sym c.if-not-is_none.ensures)) (c.in_ok-is_split.ensures.0 c.if-is_split.true)

pub returns-else-is_split-clause-explained : goal.returns-else-is_split-clause-explained
returns-else-is_split-clause-explained c =
    let b = c.args.basis.now in
    let G = summary_graph (literals_of b.typed.now.service) c.args.page.now in
    let W = Shows (template_items b.typed.now.service) G b.schema.now.elements c.args.fault.now (root_of c.args.page.now) in
    no_unfolding (none_shown W c.in_ok-found.found c.in_ok-found.ensures (sym c.if-not-is_none.ensures)) (c.in_ok-is_split.ensures.1 c.if-is_split.false)

pub returns-then-not-is_none-clause-refused : goal.returns-then-not-is_none-clause-refused
returns-then-not-is_none-clause-refused c =
    let b = c.args.basis.now in
    let G = summary_graph (literals_of b.typed.now.service) c.args.page.now in
    not_valid (template_items b.typed.now.service) G b.schema.now c.args.fault.now.point c.args.fault.now (root_of c.args.page.now) c.in_ok-found.found
    c.requires.fault (returns-then-not-is_none-clause-explained c)

pub returns-then-is_split-clause-refused : goal.returns-then-is_split-clause-refused
returns-then-is_split-clause-refused c =
    let b = c.args.basis.now in
    let G = summary_graph (literals_of b.typed.now.service) c.args.page.now in
    not_valid (template_items b.typed.now.service) G b.schema.now c.args.fault.now.point c.args.fault.now (root_of c.args.page.now) answers.Disjunction
    c.requires.fault (returns-then-is_split-clause-explained c)

pub returns-else-is_split-clause-refused : goal.returns-else-is_split-clause-refused
returns-else-is_split-clause-refused c =
    let b = c.args.basis.now in
    let G = summary_graph (literals_of b.typed.now.service) c.args.page.now in
    not_valid (template_items b.typed.now.service) G b.schema.now c.args.fault.now.point c.args.fault.now (root_of c.args.page.now) answers.NoUnfolding
    c.requires.fault (returns-else-is_split-clause-explained c)
