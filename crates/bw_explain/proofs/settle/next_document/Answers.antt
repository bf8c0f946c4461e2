use Rattle.std.proofs.Common.{ap, ◌∙◌}
use Rattle.bw_shape.specs.Nodes.Templates.{template_at}
use Rattle.bw_explain.specs.declared.page.Page.{Page}
use Rattle.bw_explain.specs.Walks.{doc_of}
use Rattle.bw_explain.proofs.Given.{ready_by, next_made}
use Rattle.bw_explain.proofs.settle.next_document.Goals as goal

pub draft_items-requires-clause-ready : goal.draft_items-requires-clause-ready
draft_items-requires-clause-ready c =
    let e = c.beside-walk.ensures in
    ready_by c.args.walk.now c.beside-walk.result c.args.known.now e.page e.aim e.states.0 e.states.1 e.plain e.stay e.first e.second e.whole c.requires.given
    c.requires.docs

pub returns : goal.returns
returns c =
    let w = c.args.walk.now in
    let e = c.beside-walk.ensures in
    let d = c.in_ok-made.made in
    let n = c.args.next.at in
    λ l. next_made w c.beside-walk.result c.args.known.now e.page e.aim e.states.0 e.states.1 n c.items.result.now e.walk
    (c.items.ensures ∙ ap (λ (p : Page). template_at p.templates.now n) e.page) c.args.next.size (doc_of d.start d.middle d.last) c.into_doc.result
    c.requires.size c.in_ok-made.ensures c.into_doc.ensures l
