use Rattle.std.proofs.Common.{◌≡◌, inr, arith, sym, ◌∙◌, ap, is_some, true, false}
use Rattle.bw_format.specs.Formats.{pattern_of}
use Rattle.bw_format.specs.FormatFile.{skipped, malformed, too_many, repeated}
use Rattle.bw_format.proofs.FileLaws.{line_is, is_new, is_known, adds}
use Rattle.bw_format.proofs.file.add.Goals as goal

pub returns-then-len-ge-MAX_FORMATS-clause-fault : goal.returns-then-len-ge-MAX_FORMATS-clause-fault
returns-then-len-ge-MAX_FORMATS-clause-fault c =
    inr (λ lines. too_many _ _ _ c.in-Format.format lines (line_is _ _ _ c.in-Format.is c.in_ok-line_of.ensures.line) (omega
    (arith, c.len.ensures, c.if-len-ge-MAX_FORMATS.true)))

pub returns-then-has-clause-fault : goal.returns-then-has-clause-fault
returns-then-has-clause-fault c =
    let known : is_some (pattern_of c.args.formats.now c.in-Format.format.field) ≡ true = ap (λ w. is_some (pattern_of c.args.formats.now w))
    (sym c.as_str.ensures.text) ∙ sym c.has.ensures ∙ c.if-has.true in
    inr (λ lines. repeated _ _ _ c.in-Format.format lines (line_is _ _ _ c.in-Format.is c.in_ok-line_of.ensures.line) (omega
    (arith, c.len.ensures, c.if-len-ge-MAX_FORMATS.false)) (is_known _ known))

pub returns-in-Skipped-clause-ok : goal.returns-in-Skipped-clause-ok
returns-in-Skipped-clause-ok c = λ lines r h. skipped _ _ _ lines r (line_is _ _ _ c.in-Skipped.is c.in_ok-line_of.ensures.line) h

pub returns-in-Malformed-clause-fault : goal.returns-in-Malformed-clause-fault
returns-in-Malformed-clause-fault c = inr (λ lines. malformed _ _ _ lines (line_is _ _ _ c.in-Malformed.is c.in_ok-line_of.ensures.line))

pub returns-in_ok-push-in-Format-clause-ok : goal.returns-in_ok-push-in-Format-clause-ok
returns-in_ok-push-in-Format-clause-ok c =
    let unknown : is_some (pattern_of c.args.formats.now c.in-Format.format.field) ≡ false = ap (λ w. is_some (pattern_of c.args.formats.now w))
    (sym c.as_str.ensures.text) ∙ sym c.has.ensures ∙ c.if-has.false in
    adds _ _ _ _ c.in-Format.format (line_is _ _ _ c.in-Format.is c.in_ok-line_of.ensures.line) (omega (arith, c.len.ensures, c.if-len-ge-MAX_FORMATS.false))
    (is_new _ unknown) c.in_ok-push-in-Format.ensures.ok
