use Rattle.std.proofs.Common.{◌<◌, List, ℕ, [], ◌∷◌, length, take, sym, subst, arith}
use Rattle.bw_lang.specs.Table.Names.{name_number}
use Rattle.bw_lang.specs.Document.View.{forest, before}
use Rattle.bw_lang.specs.Document.Forest.{none, element}
use Rattle.bw_lang.proofs.Forests.{forest-take}
use Rattle.bw_lang.proofs.TableLaws.{extends_trans, added_are_there}
use Rattle.bw_shape.specs.Columns.{AreKnown}
use Rattle.bw_shape.proofs.PairsNamed.{tag_front}
use Rattle.bw_shape.proofs.KnownTags.{known_stay, known_append}
use Rattle.bw_shape.proofs.tables.+tags.Goals as goal

pub take_tags-loop-item-preserved : goal.take_tags-loop-item-preserved
take_tags-loop-item-preserved t c =
    let xs = c.as_slice-item-items.result.now in
    let i = c.loop-item.item-index in
    let e = c.in_ok-take_tag.ensures.front in (
      extends_trans c.args.tags.now c.loop-item.tags c.take_tag.new.tags c.loop-item.invariant.0 e,
      subst (AreKnown c.take_tag.new.tags) (sym (forest-take xs i c.item-item.result c.item-item.is c.loop-item-test.true))
          (known_append c.take_tag.new.tags (forest (take i xs)) (before c.item-item.result none)
          (known_stay c.loop-item.tags c.take_tag.new.tags (forest (take i xs)) e c.loop-item.invariant.1) c.in_ok-take_tag.ensures.known),
    )

pub take_tag-returns-in_ok-take_tags-clause-known : goal.take_tag-returns-in_ok-take_tags-clause-known
take_tag-returns-in_ok-take_tags-clause-known t c =
    let tag = c.in-Element.element.tag in
    let old = c.add.new.self in
    let new = c.take_tags.new.tags in
    let is_in : name_number old tag < length old =
    subst (λ (t : List (List ℕ)). name_number t tag < length t) (sym c.in_ok-add.ensures.ok) (added_are_there c.args.tags.now (tag ∷ []) 0 tag (omega arith)) in
    subst (λ i. AreKnown new (before i none)) (sym c.in-Element.is) (
      (known_stay old new (element tag c.in-Element.element.attrs none none) c.in_ok-take_tags.ensures.front (is_in, (tt, tt))).0,
      (c.in_ok-take_tags.ensures.known, tt),
    )

pub take_tag-returns-in_ok-take_tags-clause-front : goal.take_tag-returns-in_ok-take_tags-clause-front
take_tag-returns-in_ok-take_tags-clause-front t c =
    extends_trans c.args.tags.now c.add.new.self c.take_tags.new.tags
    (tag_front c.args.tags.now c.add.new.self c.in-Element.element.tag c.in_ok-add.ensures.ok) c.in_ok-take_tags.ensures.front
