use Rattle.std.proofs.Common.{ℕ, [], List, length, get_or, ap, sym, ◌∙◌, subst, arith}
use Rattle.std.specs.List.{Contains}
use Rattle.bw_lang.specs.Table.Names.{with_names}
use Rattle.bw_shape.specs.Nodes.Fits.{Fits, AreStrings}
use Rattle.bw_shape.proofs.Nodes.Wrapped.{rows_are}
use Rattle.bw_schema.specs.declared.rules.Rule.{Rule}
use Rattle.bw_strings.specs.Asking.{AreLiterals}
use Rattle.bw_sum.specs.Graph.{graph}
use Rattle.bw_types.specs.Fields.{field_names}
use Rattle.bw_shape.specs.Outlines.{IsOutlined, root_of}
use Rattle.bw_shape.proofs.Shapes.{has_root, root_is_low, is_shape}
use Rattle.bw_shape.proofs.Outcomes.{if_ok}
use Rattle.bw_shape.proofs.outline.shape_by.Goals as goal

pub nodes_of-requires-clause-edges : goal.nodes_of-requires-clause-edges
nodes_of-requires-clause-edges c = λ i d l.
    let s = c.args.basis.now.typed.now.service in
    let b = (c.requires.edges i d l).0 in
    let e = c.len.ensures ∙ ap length c.args.basis.now.templates_are ∙ rows_are s in
    omega (arith, b, e)

pub nodes_of-requires-clause-tracks : goal.nodes_of-requires-clause-tracks
nodes_of-requires-clause-tracks c = λ i d l.
    let s = c.args.basis.now.typed.now.service in
    let b = c.requires.tracks i d l in
    let e = c.len.ensures ∙ ap length c.args.basis.now.templates_are ∙ rows_are s in
    omega (arith, b, e)

pub nodes_of-requires-clause-labels : goal.nodes_of-requires-clause-labels
nodes_of-requires-clause-labels c = λ i d l.
    let s = c.args.basis.now.typed.now.service in
    let b = (c.requires.texts i d l).0 in
    let e = c.len.ensures ∙ ap length c.args.basis.now.templates_are ∙ rows_are s in
    omega (arith, b, e)

pub nodes_of-requires-clause-literals : goal.nodes_of-requires-clause-literals
nodes_of-requires-clause-literals c = λ i d l.
    subst (λ (ls : List (List ℕ)). AreLiterals ls (get_or c.args.page.now.texts i d).1) (sym c.args.basis.now.literals_are) (c.requires.texts i d l).1

pub root_of-requires : goal.root_of-requires
root_of-requires c = has_root c.args.basis.now.typed.now.service c.args.page.now c.requires

pub outlined-requires-clause-root : goal.outlined-requires-clause-root
outlined-requires-clause-root c =
    let s = c.args.basis.now.typed.now.service in
    let low = root_is_low s c.args.page.now c.requires in
    let e = c.len.ensures ∙ ap length c.args.basis.now.templates_are in
    omega (arith, low, e, c.in_ok-graphed.ensures.nodes, c.root_of.ensures)

pub outlined-requires-clause-rows : goal.outlined-requires-clause-rows
outlined-requires-clause-rows c = c.in_ok-graphed.ensures.nodes ∙ c.len.ensures

pub outlined-requires-clause-links : goal.outlined-requires-clause-links
outlined-requires-clause-links c = λ n.
    let s = c.args.basis.now.typed.now.service in
    let e = c.len.ensures ∙ ap length c.args.basis.now.templates_are ∙ rows_are s in
    let links = c.in_ok-graphed.ensures.links (λ i d l. let b = (c.requires.edges i d l).1 in omega (arith, b, e)) n in
    λ i d l. let b = links i d l in let k = c.in_ok-graphed.ensures.nodes in omega (arith, b, k)

pub returns : goal.returns
returns c =
    let s = c.args.basis.now.typed.now.service in
    let page = c.args.page.now in
    let schema = c.args.basis.now.schema.now in
    let graphed = c.in_ok-graphed.graphed in
    let named = c.in-Ok.named in
    let items = c.args.basis.now.templates_are in
    let rows = c.len.ensures ∙ ap length items in
    if_ok c.outlined.result (λ o made. is_shape s page schema graphed named o
    (subst (λ ts. IsOutlined ts (with_names [] (field_names s)) (root_of page) graphed named o) items
    (subst (λ (ns : List (List ℕ)). IsOutlined c.args.basis.now.templates.now ns (root_of page) graphed named o) c.fields.ensures
    (subst (λ r. IsOutlined c.args.basis.now.templates.now c.fields.result.now r graphed named o) c.root_of.ensures made)))
    (c.in_ok-graphed.ensures.nodes ∙ rows) (c.in_ok-graphed.ensures.said ∙ rows)
    (subst (λ (ls : List (List ℕ)). Fits graphed.nodes.items (graph ls page)) c.args.basis.now.literals_are c.in_ok-graphed.ensures.fits)
    (subst (λ (ls : List (List ℕ)). AreStrings graphed.said.items ls (graph ls page)) c.args.basis.now.literals_are c.in_ok-graphed.ensures.strings)
    (λ r k. c.in-Ok.ensures.named r (subst (λ (rs : List Rule). Contains rs r) (sym c.elements.ensures) k))) c.outlined.ensures
