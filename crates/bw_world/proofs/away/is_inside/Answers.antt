use Rattle.std.proofs.Common.{◌≡◌, ◌↔◌, ap, sym, ◌∙◌, subst, true, false, IsTrue, chars, ℕ, List}
use Rattle.bw_format.specs.Formats.{Accepts}
use Rattle.bw_model.specs.Guards.{IsInside}
use Rattle.bw_lang.specs.Table.Names.{same}
use Rattle.bw_world.proofs.Inside.{others, passed, outside, all_passed}
use Rattle.bw_world.proofs.away.is_inside.Goals as goal
use Rattle.bw_world.proofs.away.is_inside.Goals.{then-eq+else-not-accepts, else-eq}

pub returns-then-not-accepts : goal.returns-then-not-accepts
returns-then-not-accepts c =
    subst (λ (ps : List (List ℕ × List ℕ)). IsTrue false ↔ IsInside c.args.formats.now ps c.args.field.now) c.as_slice-name-items.ensures.pairs
    (outside c.args.formats.now c.args.field.now _ _ c.loop-name-item.result c.loop-name-test.true c.loop-name-item.is
    (ap (same c.args.field.now) (sym c.as_str.ensures.text) ∙ sym c.eq.ensures ∙ c.if-eq.true) c.loop-name.invariant
    (λ a. let t : IsTrue c.accepts.result =
    c.accepts.ensures.1 (subst (λ (v : List ℕ). Accepts c.args.formats.now c.args.field.now (chars v)) (sym c.as_str-then-eq.ensures.text) a) in
    let f : true ≡ false = sym t ∙ c.if-not-accepts.true in cc))

pub loop-name-preserved : goal.loop-name-preserved
loop-name-preserved c =
    elim c.if-eq.branch [
      | then-eq+else-not-accepts w ↦
          passed c.args.formats.now c.args.field.now _ _ c.loop-name-item.result c.loop-name-test.true c.loop-name-item.is
          (ap (same c.args.field.now) (sym c.as_str.ensures.text) ∙ sym c.eq.ensures ∙ w.if-eq.true) c.loop-name.invariant
          (subst (λ (v : List ℕ). Accepts c.args.formats.now c.args.field.now (chars v)) w.as_str-then-eq.ensures.text (w.accepts.ensures.0 w.if-not-accepts.false))
      | else-eq w ↦
          others c.args.formats.now c.args.field.now _ _ c.loop-name-item.result c.loop-name-test.true c.loop-name-item.is
          (ap (same c.args.field.now) (sym c.as_str.ensures.text) ∙ sym c.eq.ensures ∙ w.if-eq.false) c.loop-name.invariant
    ]

pub returns : goal.returns
returns c =
    subst (λ (ps : List (List ℕ × List ℕ)). IsTrue true ↔ IsInside c.args.formats.now ps c.args.field.now) c.as_slice-name-items.ensures.pairs
    (all_passed c.args.formats.now c.args.field.now _ _ c.loop-name-test.false c.loop-name.invariant)
