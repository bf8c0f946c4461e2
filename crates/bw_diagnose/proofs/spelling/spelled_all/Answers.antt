use Rattle.std.proofs.Common.{◌+◌, ap, arith}
use Rattle.bw_diagnose.proofs.Spellings.{spelled_more, ends_more}
use Rattle.bw_diagnose.proofs.spelling.spelled_all.Goals as goal

pub loop-one-preserved : goal.loop-one-preserved
loop-one-preserved c =
    let ls = c.args.lexemes.now in let at = c.loop-one.at in let xs = c.args.declared.now in let i = c.loop-one.one-index in let x = c.one-item.result in
    let s = c.spelled_at-declaration.result in
    let next = at + c.declaration_tokens-at.result in
    let begins = ap (λ n. at + n) c.declaration_tokens-at.ensures in
    record {
      ends = omega (arith, ends_more ls at next xs i x s c.one-item.is c.loop-one-test.true c.spelled_at-declaration.ensures begins);
      spells = spelled_more ls at next xs i x s c.loop-one.list.items c.push.new.self.items _ c.one-item.is c.loop-one-test.true
          c.spelled_at-declaration.ensures begins c.in_ok-push.ensures.items c.loop-one.invariant.spells;
    }
