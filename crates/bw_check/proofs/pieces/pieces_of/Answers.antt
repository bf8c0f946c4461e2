use Rattle.std.proofs.Common.{[], ◌∷◌, ◌++◌, sym, ap, ◌∙◌}
use Rattle.bw_check.specs.Pieces.{pages_from}
use Rattle.bw_check.proofs.PagePlaces.{pages_begin, pages_put, pages_passed, pages_end}
use Rattle.bw_check.proofs.pieces.pieces_of.Goals as goal
use Rattle.bw_check.proofs.pieces.pieces_of.Goals.{then-has_page+in_ok-push, else-has_page}

pub loop-place-init : goal.loop-place-init
loop-place-init c =
    pages_begin c.points-point-items.result.now c.args.flow.now.steps c.new-pieces.result.items
    c.points-point-items.ensures c.new-pieces.ensures.items

pub loop-place-preserved : goal.loop-place-preserved
loop-place-preserved c =
    let points = c.points-point-items.result.now in
    let i = c.loop-place.place in
    let x = c.point-item.result in
    elim c.if-has_page.branch [
      | then-has_page+in_ok-push w ↦
          pages_put points i x c.loop-place.pieces.items c.if-has_page.pieces.items _ c.loop-place-test.true c.point-item.is
          (sym c.has_page.ensures ∙ w.if-has_page.true)
          (ap (λ v. v.items) w.pieces-is ∙ w.in_ok-push.ensures.items ∙ ap (λ p. c.loop-place.pieces.items ++ p ∷ []) w.of.ensures)
          c.loop-place.invariant
      | else-has_page w ↦
          pages_passed points i x c.loop-place.pieces.items c.if-has_page.pieces.items _ c.loop-place-test.true c.point-item.is
          (sym c.has_page.ensures ∙ w.if-has_page.false) (ap (λ v. v.items) w.pieces-is) c.loop-place.invariant
    ]

pub returns : goal.returns
returns c =
    pages_end c.points-point-items.result.now c.loop-place.place c.loop-place.pieces.items (pages_from 0 c.args.flow.now.steps)
    c.loop-place-test.false c.loop-place.invariant
