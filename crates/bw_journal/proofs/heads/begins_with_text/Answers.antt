use Rattle.std.proofs.Common.{arith, refl}
use Rattle.bw_journal.proofs.HeadParts.{few_no_text, text_has, text_found}
use Rattle.bw_journal.proofs.heads.begins_with_text.Goals as goal

pub returns-then-bytes-lt4 : goal.returns-then-bytes-lt4
returns-then-bytes-lt4 c = (λ h. cc, λ t. absurd (few_no_text c.args.bytes.now c.if-bytes-lt4.true t))

pub returns-then-rest-len : goal.returns-then-rest-len
returns-then-rest-len c = (
  λ h. cc,
  λ t.
      let has = text_has c.args.bytes.now c.split_at.result.1.now c.four_from-len.result c.split_at.ensures.back c.four_from-len.ensures t in
      absurd (omega (arith, has.0)),
)

pub returns-then-rest-len-gt1 : goal.returns-then-rest-len-gt1
returns-then-rest-len-gt1 c = (
  λ h. cc,
  λ t.
      let has = text_has c.args.bytes.now c.split_at.result.1.now c.four_from-len.result c.split_at.ensures.back c.four_from-len.ensures t in
      absurd (omega (arith, has.1, c.if-rest-len-gt1.true)),
)

pub returns : goal.returns
returns c = (
  λ h. text_found c.args.bytes.now c.split_at.result.1.now c.four_from-len.result (λ i. omega (arith, c.type_inv.bytes i)) (omega arith) c.split_at.ensures.back
      c.four_from-len.ensures (omega arith) (omega (arith, c.if-rest-len-gt1.false)),
  λ t. refl,
)
