use Rattle.std.proofs.Common.{length, get_or, sym, ◌∙◌, ap, inl, inr, arith}
use Rattle.std.proofs.lemmas.List.{get_or_default}
use Rattle.bw_shape.proofs.Rows.Waking.{last, raise_keeps, raise_apart}
use Rattle.bw_shape.proofs.readers.wake.Goals as goal

pub loop-reader-preserved : goal.loop-reader-preserved
loop-reader-preserved c =
    let k = c.loop-reader.reader-index in
    let inv = c.loop-reader.invariant in
    let reader = get_or c.as_slice-reader-items.result.now k 0 in
    let falls = raise_keeps c.loop-reader.due c.put.new.self reader c.put.ensures.here c.put.ensures.others in
    record {
      len = c.put.ensures.len ∙ inv.len;
      before = λ n h. inv.before n (falls n h);
      apart = λ n j l h i. elim (last k j i) [
        | inl before ↦ inv.apart n j l (falls n h) before
        | inr here ↦ λ e. raise_apart c.loop-reader.due c.put.new.self reader c.put.ensures.here n (omega (arith, l, inv.len)) h
            (ap (λ i. get_or c.as_slice-reader-items.result.now i 0) (sym here) ∙ e)
      ];
    }

pub returns-clause-apart : goal.returns-clause-apart
returns-clause-apart c n l h has =
    let is = c.as_slice-reader-items.ensures.value ∙ c.readers.view_is in
    c.loop-reader.invariant.apart n has.0 l h (omega (arith, c.loop-reader-test.false, ap length is, has.1))
    (ap (λ xs. get_or xs has.0 0) is ∙ get_or_default c.args.readers.now has.0 0 n has.1 ∙ has.2)
