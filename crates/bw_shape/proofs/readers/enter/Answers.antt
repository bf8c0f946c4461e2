use Rattle.std.proofs.Common.{◌≡◌, ◌⊎◌, ◌<◌, List, ℕ, [], ◌∷◌, length, get_or, set, sym, ap, ◌∙◌, subst, arith}
use Rattle.std.specs.List.{Contains}
use Rattle.std.proofs.lemmas.List.{get_or_default}
use Rattle.bw_shape.specs.Rows.Rounds.{Entered}
use Rattle.bw_shape.proofs.Rows.Waking.{enter_row}
use Rattle.bw_shape.proofs.readers.enter.Goals as goal

pub returns : goal.returns
returns c =
    let readers : List (List ℕ) = c.args.readers.now.items in
    let link = c.args.link.now in
    let row = c.number-row.result in
    let n = c.args.n in
    let small : row < length readers = omega (arith, c.if-row-len.false, c.len.ensures) in
    let old : c.index_mut.result.now ≡ get_or readers link.1 [] =
    c.index_mut.ensures.value ∙ get_or_default readers row c.index_mut.result.now [] small ∙ ap (λ j. get_or readers j []) c.number-row.ensures in
    subst (λ j. Entered n (link ∷ []) 1 readers (set readers j c.add.new.self)) (sym c.number-row.ensures)
    (enter_row n link readers c.add.new.self (omega (arith, small, c.number-row.ensures))
    (λ reader h. c.in_ok-add.ensures.keeps reader (subst (λ xs. Contains xs reader) (sym old) h)) c.in_ok-add.ensures.has
    (λ reader h. subst (λ xs. Contains xs reader ⊎ (reader ≡ n)) old (c.in_ok-add.ensures.only reader h)))
