use Rattle.std.proofs.Common.{◌≡◌, ◌+◌, ◌<◌, ◌≤◌, ◌==◌, if◌then◌else◌, length, take, refl, ap, sym, ◌∙◌, subst, arith}
use Rattle.std.proofs.lemmas.List.{take_all}
use Rattle.std.proofs.lemmas.Result.{IfOk-weaker, on_ok_weaker}
use Rattle.bw_lang.specs.declared.items.Item.{Item}
use Rattle.bw_lang.specs.Document.Forest.{Forest, none, element, forest_size}
use Rattle.bw_lang.specs.Document.Documents.{append}
use Rattle.bw_lang.specs.Document.View.{forest, before}
use Rattle.bw_lang.proofs.Forests.{forest-take, item_le-size}
use Rattle.bw_shape.specs.Nodes.Templates.{template_at}
use Rattle.bw_explain.specs.declared.sizes.TheConstants.{MAX_SIZE, NONE}
use Rattle.bw_explain.specs.declared.aim.Aim.{Aim}
use Rattle.bw_explain.specs.declared.aim.Made.{Made}
use Rattle.bw_explain.specs.declared.page.Page.{Page}
use Rattle.bw_explain.specs.declared.reach.Reach.{Reach}
use Rattle.bw_explain.specs.declared.reach.Moves.{Moves}
use Rattle.bw_explain.specs.Aims.{aim_of, cost_of, walk_of}
use Rattle.bw_explain.specs.Sizes.{plus}
use Rattle.bw_explain.specs.Tables.{size_at}
use Rattle.bw_explain.specs.Walks.{Runs, Adds, IsDraft, plain_walk, doc_of, from, at, walk, moves_of, move_at, next_reach, item_cost}
use Rattle.bw_explain.specs.Ways.{ways_at, graph}
use Rattle.bw_explain.proofs.Drafting.{draft_more, last_base, middle_base, move_of, origin_low, origin_small, item_place}
use Rattle.bw_explain.proofs.MakingElements.{attrs_fit, words_run, element_run, top_run, inside_run, spot_run, spot_small}
use Rattle.bw_explain.proofs.MakingDrafts.{draft_begun, flat_is, flat_ready, top_made, inside_made}
use Rattle.bw_explain.proofs.Walking.{walk_step, elements_step}
use Rattle.bw_explain.proofs.draft.+draft.Goals as goal

pub draft_items-loop-item-init : goal.draft_items-loop-item-init
draft_items-loop-item-init t c =
    let w = c.args.walk.now in
    record {
      draft = draft_begun (template_at w.page.templates.now) (graph w.page.nodes.now) (aim_of w.aim) c.args.n c.args.place c.args.state w.high
          c.begin-reach.result c.new-start.result c.new-middle.result c.new-last.result c.requires.ready.most c.begin-reach.ensures.is c.new-start.ensures
          c.new-middle.ensures c.new-last.ensures;
      is = c.begin-reach.ensures.is;
      place = omega arith;
      most = c.begin-reach.ensures.most;
    }

pub draft_items-loop-item-preserved : goal.draft_items-loop-item-preserved
draft_items-loop-item-preserved t c =
    let w = c.args.walk.now in
    let T = template_at w.page.templates.now in
    let G = graph w.page.nodes.now in
    let A = aim_of w.aim in
    let v = c.loop-item.invariant in
    let l = c.loop-item in
    let xs = c.as_slice-item-items.result.now in
    let i = l.item-index in
    let x = c.item-item.result in
    let f = item_cost (walk_of w) c.args.n l.at (before x none) in
    let e = c.item_step-step.ensures.moves in
    let m = c.then-next.ensures.is ∙ ap (next_reach l.reach) e in
    let one = c.origin-from-in-loop-item.result in
    let two = c.origin-from.result in
    record {
      draft = subst (λ (p : Forest). IsDraft T G A c.args.n c.args.place c.args.state w.high p c.then-next.result
          (doc_of c.grow-in-loop-item-2.new.own c.grow-in-loop-item.new.own c.grow.new.own)) (sym (forest-take xs i x c.item-item.is c.loop-item-test.true))
          (subst (λ (r : Reach). IsDraft T G A c.args.n c.args.place c.args.state w.high (append (forest (take i xs)) (before x none)) r
          (doc_of c.grow-in-loop-item-2.new.own c.grow-in-loop-item.new.own c.grow.new.own)) (sym m)
          (draft_more T G A c.args.n c.args.place l.at c.args.state w.high (forest (take i xs)) (before x none) l.reach f l.start l.middle l.last
          c.grow-in-loop-item-2.new.own c.grow-in-loop-item.new.own c.grow.new.own one two c.requires.ready.most v.place v.draft
          c.origin-from-in-loop-item.ensures.from c.origin-from.ensures.from
          (subst (λ (q : Moves). at (next_reach l.reach q) 1 ≡ plus (at l.reach one) (move_at q one 1)) e c.origin-from-in-loop-item.ensures.least
          ∙ ap (plus (at l.reach one)) (move_of f one 1 c.origin-from-in-loop-item.ensures.from (omega arith)))
          (subst (λ (q : Moves). at (next_reach l.reach q) 2 ≡ plus (at l.reach two) (move_at q two 2)) e c.origin-from.ensures.least
          ∙ ap (plus (at l.reach two)) (move_of f two 2 c.origin-from.ensures.from (omega arith)))
          (λ a s. c.in_ok-grow-3.ensures a (subst (λ (r : Reach). r.start ≤ MAX_SIZE) (sym m) s))
          (λ a s. subst (λ (o : Forest). Adds (λ z. Runs T G A c.args.n l.at one (before x none) 1 z) (f one 1) o c.grow-in-loop-item.new.own)
          (middle_base l.start l.middle l.last one c.origin-from-in-loop-item.ensures.from)
          (c.in_ok-grow-2.ensures a (subst (λ (r : Reach). r.middle ≤ MAX_SIZE) (sym m) s)))
          (λ a s. subst (λ (o : Forest). Adds (λ z. Runs T G A c.args.n l.at two (before x none) 2 z) (f two 2) o c.grow.new.own)
          (ap (λ (b : Forest). if two == 2 then l.last else b) c.either-base.ensures ∙ last_base l.start l.middle l.last two c.origin-from.ensures.from)
          (c.in_ok-grow.ensures a (subst (λ (r : Reach). r.last ≤ MAX_SIZE) (sym m) s)))));
      is = m ∙ ap (λ (r : Reach). next_reach r (moves_of f)) v.is
          ∙ sym (walk_step (walk_of w) c.args.n c.args.place l.at (from c.args.state) xs i x c.item-item.is c.loop-item-test.true v.place);
      place =
          let a = c.item_step-step.ensures.place in
          let b = elements_step xs i x c.item-item.is c.loop-item-test.true in
          let p = v.place in
          omega (arith, a, b, p);
      most = c.then-next.ensures.most;
    }

pub draft_items-returns : goal.draft_items-returns
draft_items-returns t c =
    let w = c.args.walk.now in
    let T = template_at w.page.templates.now in
    let G = graph w.page.nodes.now in
    let A = aim_of w.aim in
    let l = c.loop-item in
    let q = ap forest (take_all l.item-index c.as_slice-item-items.result.now c.loop-item-test.false) ∙ c.as_slice-item-items.ensures in
    subst (λ (p : Forest). IsDraft T G A c.args.n c.args.place c.args.state w.high p (walk (walk_of w) c.args.n c.args.place (from c.args.state) p)
    (doc_of l.start l.middle l.last)) q
    (subst (λ (r : Reach). IsDraft T G A c.args.n c.args.place c.args.state w.high (forest (take l.item-index c.as_slice-item-items.result.now)) r
    (doc_of l.start l.middle l.last)) l.invariant.is l.invariant.draft)

-- ---- an element at the top

pub make_top-fill_attrs-requires-clause-fills : goal.make_top-fill_attrs-requires-clause-fills
make_top-fill_attrs-requires-clause-fills t c =
    let w = c.args.walk.now in
    attrs_fit (ways_at w.page.nodes.now c.args.n) c.args.element.now.attrs
    (walk (plain_walk w.page.nodes.now (size_at w.plain.now)) c.args.n 0 (from 0) c.args.element.now.items).start c.requires.small

pub make_top-returns : goal.make_top-returns
make_top-returns t c =
    let w = c.args.walk.now in
    let e = c.flat.ensures in
    let d = c.in-Ok.items in
    top_made w c.flat.result c.args.n c.args.element.now.attrs c.args.element.now.items
    (record { attrs = c.in_ok-attrs.attrs; items = c.into_doc.result }) (doc_of d.start d.middle d.last) e.page e.aim
    (flat_is w c.flat.result e.page e.aim e.plain e.stay e.first e.second e.whole) c.requires.small c.in_ok-attrs.ensures c.in-Ok.ensures
    c.into_doc.ensures

-- ---- an element with what is looked for inside it

pub make_inside-fill_attrs-requires-clause-fills : goal.make_inside-fill_attrs-requires-clause-fills
make_inside-fill_attrs-requires-clause-fills t c =
    let w = c.args.walk.now in
    attrs_fit (ways_at w.page.nodes.now c.args.n) c.args.element.now.attrs
    (at (walk (walk_of w) c.args.n (c.args.place + 1) (from 0) c.args.element.now.items) c.args.state) c.requires.small

pub make_inside-returns : goal.make_inside-returns
make_inside-returns t c =
    let d = c.in-Ok.items in
    inside_made c.args.walk.now c.args.n c.args.place c.args.state c.args.element.now.attrs c.args.element.now.items
    (record { attrs = c.in_ok-attrs.attrs; items = c.into_doc.result }) (doc_of d.start d.middle d.last) c.requires.state c.requires.small
    c.in_ok-attrs.ensures c.in-Ok.ensures c.into_doc.ensures

-- ---- an element that takes one state to another

pub make-returns-then-not-is_deep : goal.make-returns-then-not-is_deep
make-returns-then-not-is_deep t c =
    let w = c.args.stand.now.walk.now in
    let e = c.args.element.now in
    IfOk-weaker c.make_top.result _ _ (λ (m : Made) h. top_run w.page w.aim c.args.stand.now.n c.args.stand.now.place c.args.from c.args.to e.tag e.attrs
    e.items
    (walk_of w) m refl
    (sym c.if-not-is_deep.ensures) c.requires.small h) c.make_top.ensures

pub make-copy_made-requires : goal.make-copy_made-requires
make-copy_made-requires t c =
    let w = c.args.stand.now.walk.now in
    let e = c.args.element.now in
    spot_small w.page w.aim c.args.stand.now.n c.args.stand.now.place c.args.from c.args.to e.tag e.attrs e.items (walk_of w)
    (sym c.if-not-is_deep.ensures) c.requires.small
    c.if-is_spotted.ensures

pub make-returns-then-is_spotted : goal.make-returns-then-is_spotted
make-returns-then-is_spotted t c =
    let w = c.args.stand.now.walk.now in
    let e = c.args.element.now in
    IfOk-weaker c.copy_made.result _ _ (λ (m : Made) h. spot_run w.page w.aim c.args.stand.now.n c.args.stand.now.place c.args.from c.args.to e.tag e.attrs
    e.items
    (walk_of w) m refl refl
    (sym c.if-not-is_deep.ensures) c.requires.small c.if-is_spotted.ensures c.requires.ready.made h) c.copy_made.ensures

pub make-returns : goal.make-returns
make-returns t c =
    let w = c.args.stand.now.walk.now in
    let e = c.args.element.now in
    IfOk-weaker c.make_inside.result _ _ (λ (m : Made) h. inside_run w.page w.aim c.args.stand.now.n c.args.stand.now.place c.args.from c.args.to e.tag e.attrs
    e.items (walk_of w) m refl
    (sym c.if-not-is_deep.ensures) c.requires.states.1 c.if-is_spotted.ensures h) c.make_inside.ensures

-- ---- an item that takes one state to another

pub put-returns-in_ok-put_text-in-Text : goal.put-returns-in_ok-put_text-in-Text
put-returns-in_ok-put_text-in-Text t c =
    let w = c.args.stand.now.walk.now in
    let T = template_at w.page.templates.now in
    let G = graph w.page.nodes.now in
    let A = aim_of w.aim in
    let s = c.in-Text.text in
    subst (λ (x : Item). Adds (Runs T G A c.args.stand.now.n c.args.stand.now.place c.args.from (before x none) c.args.to)
    (item_cost (walk_of w) c.args.stand.now.n c.args.stand.now.place (before x none) c.args.from c.args.to) c.args.out.now c.put_text.new.out)
    (sym c.in-Text.is)
    (words_run T G A c.args.stand.now.n c.args.stand.now.place c.args.from c.args.to s c.args.out.now c.put_text.new.out
    (subst (λ (x : Item). item_cost (walk_of w) c.args.stand.now.n c.args.stand.now.place
    (before x none) c.args.from c.args.to ≤ MAX_SIZE) c.in-Text.is c.requires.small)
    c.in_ok-put_text-in-Text.ensures)

pub put-returns-in_ok-put_gap-in-Gap : goal.put-returns-in_ok-put_gap-in-Gap
put-returns-in_ok-put_gap-in-Gap t c =
    let w = c.args.stand.now.walk.now in
    subst (λ (x : Item). Adds (Runs (template_at w.page.templates.now) (graph w.page.nodes.now)
    (aim_of w.aim) c.args.stand.now.n c.args.stand.now.place c.args.from
    (before x none) c.args.to) (item_cost (walk_of w) c.args.stand.now.n c.args.stand.now.place
    (before x none) c.args.from c.args.to) c.args.out.now c.put_gap.new.out)
    (sym c.in-Gap.is)
    (c.in_ok-put_gap-in-Gap.ensures c.args.stand.now.place)

pub put-returns-in_ok-put_element-in-Element : goal.put-returns-in_ok-put_element-in-Element
put-returns-in_ok-put_element-in-Element t c =
    let w = c.args.stand.now.walk.now in
    let T = template_at w.page.templates.now in
    let G = graph w.page.nodes.now in
    let A = aim_of w.aim in
    let e = c.in-Element.element in
    let m = c.in_ok-made-in-Element.made in
    subst (λ (x : Item). Adds (Runs T G A c.args.stand.now.n c.args.stand.now.place c.args.from (before x none) c.args.to)
    (item_cost (walk_of w) c.args.stand.now.n c.args.stand.now.place (before x none) c.args.from c.args.to) c.args.out.now c.put_element.new.out)
    (sym c.in-Element.is)
    (element_run T G A c.args.stand.now.n c.args.stand.now.place c.args.from c.args.to e.tag e.attrs e.items
    (item_cost (walk_of w) c.args.stand.now.n c.args.stand.now.place
    (element e.tag e.attrs e.items none) c.args.from c.args.to) m c.args.out.now c.put_element.new.out
    c.in_ok-made-in-Element.ensures c.in_ok-put_element-in-Element.ensures)

-- ---- the document of one state

pub grow-returns : goal.grow-returns
grow-returns t c =
    let w = c.args.stand.now.walk.now in
    on_ok_weaker c.put.result (λ a h s. subst (λ (o : Forest). Adds (Runs (template_at w.page.templates.now) (graph w.page.nodes.now)
    (aim_of w.aim) c.args.stand.now.n
    c.args.stand.now.place c.args.from (before c.args.item.now none) c.args.to)
    (item_cost (walk_of w) c.args.stand.now.n c.args.stand.now.place
    (before c.args.item.now none) c.args.from c.args.to) o c.put.new.out) c.in_ok-rebase.ensures a)
    c.put.ensures

-- ---- what the calls of the cycle ask for

pub make_top-draft_items-requires : goal.make_top-draft_items-requires
make_top-draft_items-requires t c =
    let w = c.args.walk.now in
    let e = c.flat.ensures in
    let s = e.states.0 in (
      omega arith,
      (
        subst (λ (p : Page). c.args.n < length p.templates.now) (sym e.page) c.requires.n,
        (
          subst (λ (a : Aim). cost_of a ≤ NONE) (sym e.aim) (omega arith),
          (
            flat_ready w c.flat.result e.page e.aim e.stay e.first e.second e.whole e.states c.requires.plain,
            (omega arith, (omega (arith, s), omega arith)),
          ),
        ),
      ),
    )

pub draft_items-grow-requires : goal.draft_items-grow-requires
draft_items-grow-requires t c =
    let w = c.args.walk.now in
    let l = c.loop-item in
    let xs = c.as_slice-item-items.result.now in
    let x = c.item-item.result in
    let is = c.as_slice-item-items.ensures in
    let o = c.origin-from.result in
    let from_is = c.origin-from.ensures.from in
    let below = item_le-size xs l.item-index x c.item-item.is c.loop-item-test.true in
    let least = ap (λ (r : Reach). r.last) c.then-next.ensures.is ∙ c.origin-from.ensures.least in
    let at_item = item_place xs c.args.items.now l.item-index x c.args.place l.at c.item-item.is c.loop-item-test.true is l.invariant.place c.requires.place in
    let low : 2 ≤ w.high → c.then-next.result.last ≤ MAX_SIZE → w.low ≤ o =
    λ h s. origin_low (template_at w.page.templates.now) (graph w.page.nodes.now) (aim_of w.aim) c.args.n c.args.place c.args.state w.low w.high o 2
    (move_at c.item_step-step.result.moves o 2) c.then-next.result.last (forest (take l.item-index xs)) l.reach
    (doc_of l.start l.middle l.last) c.requires.state.0 l.invariant.draft least s from_is h in
    let small : c.then-next.result.last ≤ MAX_SIZE → item_cost (walk_of w) c.args.n l.at (before x none) o 2 ≤ MAX_SIZE =
    λ s. origin_small (item_cost (walk_of w) c.args.n l.at (before x none)) o 2 c.then-next.result.last (at l.reach o) c.item_step-step.result.moves
    c.item_step-step.ensures.moves least s from_is (omega arith) in
    (omega (arith, below, ap forest_size is), (c.requires.n, (c.requires.cost, (c.requires.ready, (at_item, (from_is, (low, small)))))))

pub draft_items-grow-requires-in-loop-item : goal.draft_items-grow-requires-in-loop-item
draft_items-grow-requires-in-loop-item t c =
    let w = c.args.walk.now in
    let l = c.loop-item in
    let xs = c.as_slice-item-items.result.now in
    let x = c.item-item.result in
    let is = c.as_slice-item-items.ensures in
    let o = c.origin-from-in-loop-item.result in
    let from_is = c.origin-from-in-loop-item.ensures.from in
    let below = item_le-size xs l.item-index x c.item-item.is c.loop-item-test.true in
    let least = ap (λ (r : Reach). r.middle) c.then-next.ensures.is ∙ c.origin-from-in-loop-item.ensures.least in
    let at_item = item_place xs c.args.items.now l.item-index x c.args.place l.at c.item-item.is c.loop-item-test.true is l.invariant.place c.requires.place in
    let low : 1 ≤ w.high → c.then-next.result.middle ≤ MAX_SIZE → w.low ≤ o =
    λ h s. origin_low (template_at w.page.templates.now) (graph w.page.nodes.now) (aim_of w.aim) c.args.n c.args.place c.args.state w.low w.high o 1
    (move_at c.item_step-step.result.moves o 1) c.then-next.result.middle (forest (take l.item-index xs)) l.reach
    (doc_of l.start l.middle l.last) c.requires.state.0 l.invariant.draft least s from_is h in
    let small : c.then-next.result.middle ≤ MAX_SIZE → item_cost (walk_of w) c.args.n l.at (before x none) o 1 ≤ MAX_SIZE =
    λ s. origin_small (item_cost (walk_of w) c.args.n l.at (before x none)) o 1 c.then-next.result.middle (at l.reach o) c.item_step-step.result.moves
    c.item_step-step.ensures.moves least s from_is (omega arith) in
    (omega (arith, below, ap forest_size is), (c.requires.n, (c.requires.cost, (c.requires.ready, (at_item, (from_is, (low, small)))))))

pub draft_items-grow-requires-in-loop-item-2 : goal.draft_items-grow-requires-in-loop-item-2
draft_items-grow-requires-in-loop-item-2 t c =
    let w = c.args.walk.now in
    let l = c.loop-item in
    let xs = c.as_slice-item-items.result.now in
    let x = c.item-item.result in
    let is = c.as_slice-item-items.ensures in
    let below = item_le-size xs l.item-index x c.item-item.is c.loop-item-test.true in
    let least = ap (λ (r : Reach). r.start) c.then-next.ensures.is in
    let at_item = item_place xs c.args.items.now l.item-index x c.args.place l.at c.item-item.is c.loop-item-test.true is l.invariant.place c.requires.place in
    let low : 0 ≤ w.high → c.then-next.result.start ≤ MAX_SIZE → w.low ≤ 0 =
    λ h s. origin_low (template_at w.page.templates.now) (graph w.page.nodes.now) (aim_of w.aim) c.args.n c.args.place c.args.state w.low w.high 0 0
    c.item_step-step.result.moves.start c.then-next.result.start (forest (take l.item-index xs)) l.reach
    (doc_of l.start l.middle l.last) c.requires.state.0 l.invariant.draft least s (omega arith) h in
    let small : c.then-next.result.start ≤ MAX_SIZE → item_cost (walk_of w) c.args.n l.at (before x none) 0 0 ≤ MAX_SIZE =
    λ s. origin_small (item_cost (walk_of w) c.args.n l.at (before x none)) 0 0 c.then-next.result.start (at l.reach 0) c.item_step-step.result.moves
    c.item_step-step.ensures.moves least s (omega arith) (omega arith) in
    (omega (arith, below, ap forest_size is), (c.requires.n, (c.requires.cost, (c.requires.ready, (at_item, (omega arith, (low, small)))))))
