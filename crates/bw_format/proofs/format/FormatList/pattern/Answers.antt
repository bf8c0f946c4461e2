use Rattle.std.proofs.Common.{◌≡◌, sym, ap, ◌∙◌, true, false, bytes_eq}
use Rattle.bw_format.specs.Formats.{pattern_of}
use Rattle.bw_format.proofs.Usable.{first_here, not_here, none_left}
use Rattle.bw_format.proofs.format.FormatList.pattern.Goals as goal

pub returns-then-eq : goal.returns-then-eq
returns-then-eq c =
    let same : c.deref-format-items.result.now ≡ c.args.self.now = c.deref-format-items.ensures.value ∙ c.self.view_is in
    let named : bytes_eq c.format-item.result.field c.args.field.now ≡ true = ap (λ w. bytes_eq w c.args.field.now) (sym c.as_str.ensures.text)
    ∙ sym c.eq.ensures ∙ c.if-eq.true in
    let found = first_here _ _ _ c.args.field.now c.loop-format-test.true c.format-item.is named c.loop-format.invariant.1 in
    record {
      found = ap (λ l. pattern_of l c.args.field.now) (sym same) ∙ sym c.loop-format.invariant.0 ∙ found.0;
      usable = found.1;
    }

pub loop-format-preserved : goal.loop-format-preserved
loop-format-preserved c =
    let named : bytes_eq c.format-item.result.field c.args.field.now ≡ false = ap (λ w. bytes_eq w c.args.field.now) (sym c.as_str.ensures.text)
    ∙ sym c.eq.ensures ∙ c.if-eq.false in
    let passed = not_here _ _ _ c.args.field.now c.loop-format-test.true c.format-item.is named c.loop-format.invariant.1 in
    (sym passed.0 ∙ c.loop-format.invariant.0, passed.1)

pub returns : goal.returns
returns c =
    let same : c.deref-format-items.result.now ≡ c.args.self.now = c.deref-format-items.ensures.value ∙ c.self.view_is in
    let none = ap (λ l. pattern_of l c.args.field.now) (sym same) ∙ sym c.loop-format.invariant.0 ∙ none_left _ _ c.args.field.now c.loop-format-test.false in
    record { found = none; usable = none }
