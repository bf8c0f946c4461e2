use Rattle.std.proofs.Common.{◌≡◌, ◌∙◌, ℕ, List, [], length, refl, ap, sym, subst}
use Rattle.std.specs.List.{All}
use Rattle.std.proofs.lemmas.List.{length-replicate}
use Rattle.std.proofs.lemmas.List.Elements.{All-replicate}
use Rattle.bw_solve.specs.Sets.{IsSet}
use Rattle.bw_strings.specs.Asking.{AreLiterals}
use Rattle.bw_strings.specs.declared.strings.StrSet.{StrSet}
use Rattle.bw_sum.specs.Edges.{edge_cmp}
use Rattle.bw_shape.specs.Nodes.Nodes.{no_node}
use Rattle.bw_shape.specs.Nodes.Parts.{GrowsNodes, GrowsSaid, link_part, open_part, said_part, sayings_of}
use Rattle.bw_shape.proofs.Filled.{stay_below}
use Rattle.bw_shape.proofs.Nodes.PastRows.{fits, small_links, strings}
use Rattle.bw_shape.proofs.building.nodes_of.Goals as goal

pub add_edges-requires-clause-rows : goal.add_edges-requires-clause-rows
add_edges-requires-clause-rows c =
    stay_below (λ e. e.0) (ap length c.in_ok-nodes.ensures ∙ length-replicate c.args.rows no_node) c.as_slice.ensures.value c.requires.edges

pub add_edges-requires-clause-set : goal.add_edges-requires-clause-set
add_edges-requires-clause-set c = subst (IsSet edge_cmp) (sym c.as_slice.ensures.value) c.as_slice.ensures.set

pub add_edges-requires-clause-fresh : goal.add_edges-requires-clause-fresh
add_edges-requires-clause-fresh c =
    subst (All (λ n. n.links ≡ [])) (sym c.in_ok-nodes.ensures) (All-replicate (λ n. n.links ≡ []) c.args.rows no_node refl)

pub add_tracks-requires : goal.add_tracks-requires
add_tracks-requires c =
    stay_below (λ t. t.1) (c.in_ok-add_edges.ensures.len ∙ ap length c.in_ok-nodes.ensures ∙ length-replicate c.args.rows no_node)
    c.as_slice-2.ensures.value c.requires.tracks

pub add_labels-requires-clause-nodes : goal.add_labels-requires-clause-nodes
add_labels-requires-clause-nodes c =
    stay_below (λ l. l.0.0)
    (c.in_ok-add_tracks.ensures.len ∙ c.in_ok-add_edges.ensures.len ∙ ap length c.in_ok-nodes.ensures ∙ length-replicate c.args.rows no_node)
    c.as_slice-3.ensures.value c.requires.labels

pub add_labels-requires-clause-said : goal.add_labels-requires-clause-said
add_labels-requires-clause-said c =
    ap length c.in_ok-said.ensures ∙ length-replicate {A = List (ℕ × StrSet)} c.args.rows []
    ∙ sym (c.in_ok-add_tracks.ensures.len ∙ c.in_ok-add_edges.ensures.len ∙ ap length c.in_ok-nodes.ensures ∙ length-replicate c.args.rows no_node)

pub add_labels-requires-clause-literals : goal.add_labels-requires-clause-literals
add_labels-requires-clause-literals c =
    subst (All (λ (l : (ℕ × ℕ) × StrSet). AreLiterals c.args.literals.now l.1)) (sym c.as_slice-3.ensures.value) c.requires.literals

pub returns-clause-nodes : goal.returns-clause-nodes
returns-clause-nodes c =
    c.in_ok-add_labels.ensures.nodes.len ∙ c.in_ok-add_tracks.ensures.len ∙ c.in_ok-add_edges.ensures.len ∙ ap length c.in_ok-nodes.ensures
    ∙ length-replicate c.args.rows no_node

pub returns-clause-said : goal.returns-clause-said
returns-clause-said c =
    c.in_ok-add_labels.ensures.said.len ∙ ap length c.in_ok-said.ensures ∙ length-replicate {A = List (ℕ × StrSet)} c.args.rows []

pub returns-clause-fits : goal.returns-clause-fits
returns-clause-fits c =
    fits c.args.rows c.args.literals.now c.args.summary.now c.in_ok-nodes.nodes.items c.add_edges.new.nodes.items c.add_tracks.new.nodes.items
    c.add_labels.new.nodes.items c.in_ok-nodes.ensures
    (subst (λ xs. GrowsNodes c.in_ok-nodes.nodes.items c.add_edges.new.nodes.items (link_part xs)) c.as_slice.ensures.value c.in_ok-add_edges.ensures)
    (subst (λ xs. GrowsNodes c.add_edges.new.nodes.items c.add_tracks.new.nodes.items (open_part xs)) c.as_slice-2.ensures.value c.in_ok-add_tracks.ensures)
    (subst (λ xs. GrowsNodes c.add_tracks.new.nodes.items c.add_labels.new.nodes.items
    (said_part c.args.literals.now xs)) c.as_slice-3.ensures.value c.in_ok-add_labels.ensures.nodes)
    c.requires.edges c.requires.tracks c.requires.labels c.as_slice-3.ensures.labels

pub returns-clause-links : goal.returns-clause-links
returns-clause-links c =
    small_links c.args.rows c.args.literals.now c.args.summary.now c.in_ok-nodes.nodes.items c.add_edges.new.nodes.items c.add_tracks.new.nodes.items
    c.add_labels.new.nodes.items c.in_ok-nodes.ensures
    (subst (λ xs. GrowsNodes c.in_ok-nodes.nodes.items c.add_edges.new.nodes.items (link_part xs)) c.as_slice.ensures.value c.in_ok-add_edges.ensures)
    (subst (λ xs. GrowsNodes c.add_edges.new.nodes.items c.add_tracks.new.nodes.items (open_part xs)) c.as_slice-2.ensures.value c.in_ok-add_tracks.ensures)
    (subst (λ xs. GrowsNodes c.add_tracks.new.nodes.items c.add_labels.new.nodes.items
    (said_part c.args.literals.now xs)) c.as_slice-3.ensures.value c.in_ok-add_labels.ensures.nodes)
    c.requires.edges c.requires.tracks c.requires.labels c.as_slice-3.ensures.labels

pub returns-clause-strings : goal.returns-clause-strings
returns-clause-strings c =
    strings c.args.rows c.args.literals.now c.args.summary.now c.in_ok-said.said.items c.add_labels.new.said.items c.in_ok-said.ensures
    (subst (λ xs. GrowsSaid c.in_ok-said.said.items c.add_labels.new.said.items
    (λ n. sayings_of n xs)) c.as_slice-3.ensures.value c.in_ok-add_labels.ensures.said)
    c.requires.labels c.as_slice-3.ensures.labels
