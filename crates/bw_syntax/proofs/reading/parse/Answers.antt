use Rattle.std.proofs.Common.{◌∙◌, sym, ap}
use Rattle.bw_lang.specs.Text.Brackets.{too_deep}
use Rattle.bw_syntax.proofs.reading.parse.Goals as goal

pub returns-in-Err-Syntax-clause-unparsed : goal.returns-in-Err-Syntax-clause-unparsed
returns-in-Err-Syntax-clause-unparsed c = (
  ap too_deep (sym c.deref.ensures.value) ∙ sym c.too_deep.ensures ∙ c.in-None.is,
  λ name ds n v e. let only =
      rw c.in-Err-Syntax.field-0-is at c.in-Err-Syntax.ensures.only in let q = only name ds n v (c.deref-in-None.ensures.value ∙ e) in absurd cc,
  c.place-at.ensures,
)
