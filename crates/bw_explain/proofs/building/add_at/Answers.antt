use Rattle.std.proofs.Common.{◌≡◌, ◌==◌, ◌||◌, [], get_or, set, slice_index_or, ap, sym, ◌∙◌, subst}
use Rattle.std.specs.List.{All}
use Rattle.std.proofs.lemmas.List.{get_or_default}
use Rattle.bw_shape.specs.Nodes.Nodes.{node_at}
use Rattle.bw_explain.specs.Ways.{Way, ways_at}
use Rattle.bw_explain.specs.Building.{way_for, has_way}
use Rattle.bw_explain.proofs.Tying.{made_at, more_at}
use Rattle.bw_explain.proofs.building.add_at.Goals as goal

pub add_way-requires : goal.add_way-requires
add_way-requires c =
    let t = c.args.template in
    let L = c.args.literals.now in
    let list = c.args.list.now.items in
    let nodes = c.args.graphed.now.nodes.items in
    let w = c.index_mut.ensures.value ∙ ap (λ i. get_or list i c.index_mut.result.now) c.number-n.ensures
    ∙ get_or_default list t c.index_mut.result.now [] c.requires.n in
    let n = c.node_of-node.ensures ∙ ap (λ l. node_at l c.number-n.result) c.as_slice.ensures.value ∙ ap (node_at nodes) c.number-n.ensures in
    let s = c.said_of-said.ensures ∙ ap (λ l. slice_index_or l c.number-n.result []) c.as_slice-2.ensures.value
    ∙ ap (λ i. slice_index_or c.args.graphed.now.said.items i []) c.number-n.ensures in
    subst (λ l. All (λ (w : Way). w ≡ way_for L c.node_of-node.result.now c.said_of-said.result.now w.at) l) (sym w)
    (subst (λ x. All (λ (w : Way). w ≡ way_for L x c.said_of-said.result.now w.at) (ways_at list t)) (sym n)
    (subst (λ y. All (λ (w : Way). w ≡ way_for L (node_at nodes t) y w.at) (ways_at list t)) (sym s) (c.requires.made t)))

pub returns-clause-made : goal.returns-clause-made
returns-clause-made c =
    let t = c.args.template in
    let L = c.args.literals.now in
    let list = c.args.list.now.items in
    let nodes = c.args.graphed.now.nodes.items in
    let n = c.node_of-node.ensures ∙ ap (λ l. node_at l c.number-n.result) c.as_slice.ensures.value ∙ ap (node_at nodes) c.number-n.ensures in
    let s = c.said_of-said.ensures ∙ ap (λ l. slice_index_or l c.number-n.result []) c.as_slice-2.ensures.value
    ∙ ap (λ i. slice_index_or c.args.graphed.now.said.items i []) c.number-n.ensures in
    made_at L nodes c.args.graphed.now.said.items list (set list c.number-n.result c.add_way.new.ways) t c.add_way.new.ways
    (ap (λ i. set list i c.add_way.new.ways) c.number-n.ensures) c.requires.n c.requires.made
    (subst (λ y. All (λ (w : Way). w ≡ way_for L (node_at nodes t) y w.at) c.add_way.new.ways) s
    (subst (λ x. All (λ (w : Way). w ≡ way_for L x c.said_of-said.result.now w.at) c.add_way.new.ways) n c.in_ok-add_way.ensures.made))

pub returns-clause-more : goal.returns-clause-more
returns-clause-more c =
    let t = c.args.template in
    let list = c.args.list.now.items in
    let w = c.index_mut.ensures.value ∙ ap (λ i. get_or list i c.index_mut.result.now) c.number-n.ensures
    ∙ get_or_default list t c.index_mut.result.now [] c.requires.n in
    more_at list (set list c.number-n.result c.add_way.new.ways) t c.args.gap c.add_way.new.ways (ap (λ i. set list i c.add_way.new.ways) c.number-n.ensures)
    c.requires.n
    (λ h. c.in_ok-add_way.ensures.has h ∙ ap (λ l. has_way l h || (c.args.gap == h)) w)
