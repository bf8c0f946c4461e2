use Rattle.std.proofs.Common.{◌≡◌, ℕ, zero, suc, List, [], length, get_or, replicate, refl, ap, sym, ◌∙◌, subst}
use Rattle.std.specs.List.{list_any, All}
use Rattle.std.proofs.lemmas.List.{length-replicate}
use Rattle.std.proofs.lemmas.List.Elements.{All-nil}
use Rattle.bw_shape.specs.Nodes.Nodes.{Node}
use Rattle.bw_shape.proofs.Filled.{stay_below}
use Rattle.bw_strings.specs.declared.strings.StrSet.{StrSet}
use Rattle.bw_explain.specs.Ways.{Way, ways_at}
use Rattle.bw_explain.specs.Building.{AreMade, made, has_way, of_track, of_edge, of_label}
use Rattle.bw_explain.proofs.Tying.{ways_tie}
use Rattle.std.proofs.lemmas.Bool.{or_left, or_right}
use Rattle.bw_explain.proofs.building.ways_of.Goals as goal

-- as many templates as there are nodes
begun_len : {rows : ℕ} {list : List (List Way)} (k : ℕ) → list ≡ replicate k [] → k ≡ rows → length list ≡ rows
begun_len k e h = ap length e ∙ length-replicate {A = List Way} k [] ∙ h

-- none of them has a way
empty_at : (rows n : ℕ) → get_or {A = List Way} (replicate rows []) n [] ≡ []
empty_at zero n = refl
empty_at (suc rows) zero = refl
empty_at (suc rows) (suc n) = empty_at rows n

made_none : (literals : List (List ℕ)) (nodes : List Node) (said : List (List (ℕ × StrSet))) (list : List (List Way)) (rows : ℕ)
    → list ≡ replicate rows [] → AreMade literals nodes said list
made_none literals nodes said list rows e n =
    subst (All (λ w. w ≡ made literals nodes said n w.at)) (sym (ap (λ l. ways_at l n) e ∙ empty_at rows n))
    (All-nil (λ w. w ≡ made literals nodes said n w.at))

pub add_tracks-requires-clause-rows : goal.add_tracks-requires-clause-rows
add_tracks-requires-clause-rows c =
    stay_below (λ t. t.1) (begun_len c.len.result c.in_ok-list.ensures (c.len.ensures ∙ c.args.graphed.now.nodes.ok.0)) c.as_slice.ensures.value
    c.requires.tracks

pub add_tracks-requires-clause-nodes : goal.add_tracks-requires-clause-nodes
add_tracks-requires-clause-nodes c = sym (begun_len c.len.result c.in_ok-list.ensures (c.len.ensures ∙ c.args.graphed.now.nodes.ok.0))

pub add_tracks-requires-clause-said : goal.add_tracks-requires-clause-said
add_tracks-requires-clause-said c =
    c.requires.said ∙ sym (begun_len c.len.result c.in_ok-list.ensures (c.len.ensures ∙ c.args.graphed.now.nodes.ok.0))

pub add_tracks-requires-clause-made : goal.add_tracks-requires-clause-made
add_tracks-requires-clause-made c = made_none _ _ _ _ c.len.result c.in_ok-list.ensures

pub add_edges-requires-clause-rows : goal.add_edges-requires-clause-rows
add_edges-requires-clause-rows c =
    stay_below (λ t. t.0)
    (c.in_ok-add_tracks.ensures.more.len ∙ begun_len c.len.result c.in_ok-list.ensures (c.len.ensures ∙ c.args.graphed.now.nodes.ok.0))
    c.as_slice-2.ensures.value c.requires.edges

pub add_edges-requires-clause-nodes : goal.add_edges-requires-clause-nodes
add_edges-requires-clause-nodes c =
    sym (c.in_ok-add_tracks.ensures.more.len ∙ begun_len c.len.result c.in_ok-list.ensures (c.len.ensures ∙ c.args.graphed.now.nodes.ok.0))

pub add_edges-requires-clause-said : goal.add_edges-requires-clause-said
add_edges-requires-clause-said c =
    c.requires.said
    ∙ sym (c.in_ok-add_tracks.ensures.more.len ∙ begun_len c.len.result c.in_ok-list.ensures (c.len.ensures ∙ c.args.graphed.now.nodes.ok.0))

pub add_edges-requires-clause-made : goal.add_edges-requires-clause-made
add_edges-requires-clause-made c = c.in_ok-add_tracks.ensures.made

pub add_labels-requires-clause-rows : goal.add_labels-requires-clause-rows
add_labels-requires-clause-rows c =
    stay_below (λ t. t.0.0)
    (c.in_ok-add_edges.ensures.more.len ∙ c.in_ok-add_tracks.ensures.more.len
    ∙ begun_len c.len.result c.in_ok-list.ensures (c.len.ensures ∙ c.args.graphed.now.nodes.ok.0))
    c.as_slice-3.ensures.value c.requires.labels

pub add_labels-requires-clause-nodes : goal.add_labels-requires-clause-nodes
add_labels-requires-clause-nodes c =
    sym (c.in_ok-add_edges.ensures.more.len ∙ c.in_ok-add_tracks.ensures.more.len
    ∙ begun_len c.len.result c.in_ok-list.ensures (c.len.ensures ∙ c.args.graphed.now.nodes.ok.0))

pub add_labels-requires-clause-said : goal.add_labels-requires-clause-said
add_labels-requires-clause-said c =
    c.requires.said
    ∙ sym (c.in_ok-add_edges.ensures.more.len ∙ c.in_ok-add_tracks.ensures.more.len
    ∙ begun_len c.len.result c.in_ok-list.ensures (c.len.ensures ∙ c.args.graphed.now.nodes.ok.0))

pub add_labels-requires-clause-made : goal.add_labels-requires-clause-made
add_labels-requires-clause-made c = c.in_ok-add_edges.ensures.made

pub returns-clause-len : goal.returns-clause-len
returns-clause-len c =
    c.in_ok-add_labels.ensures.more.len ∙ c.in_ok-add_edges.ensures.more.len ∙ c.in_ok-add_tracks.ensures.more.len
    ∙ begun_len c.len.result c.in_ok-list.ensures (c.len.ensures ∙ c.args.graphed.now.nodes.ok.0)

pub returns-clause-ties : goal.returns-clause-ties
returns-clause-ties c =
    let a = c.in_ok-list.list.items in
    let b = c.add_tracks.new.list.items in
    let d = c.add_edges.new.list.items in
    let e = c.add_labels.new.list.items in
    let p = c.args.page.now in
    ways_tie c.args.literals.now c.args.graphed.now.nodes.items c.args.graphed.now.said.items p e c.requires.fits c.requires.strings
    c.in_ok-add_labels.ensures.made
    (λ n g h. c.in_ok-add_labels.ensures.more.each n g ∙ or_left (has_way (ways_at d n) g) _
    (c.in_ok-add_edges.ensures.more.each n g ∙ or_left (has_way (ways_at b n) g) _
    (c.in_ok-add_tracks.ensures.more.each n g ∙ or_right (has_way (ways_at a n) g) _ (ap (list_any (of_track n g)) c.as_slice.ensures.value ∙ h))))
    (λ n g h. c.in_ok-add_labels.ensures.more.each n g ∙ or_left (has_way (ways_at d n) g) _
    (c.in_ok-add_edges.ensures.more.each n g ∙ or_right (has_way (ways_at b n) g) _
    (ap (list_any (of_edge n g)) c.as_slice-2.ensures.value ∙ h)))
    (λ n g h. c.in_ok-add_labels.ensures.more.each n g ∙ or_right (has_way (ways_at d n) g) _ (ap (list_any (of_label n g)) c.as_slice-3.ensures.value ∙ h))
