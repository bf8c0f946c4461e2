use Rattle.std.proofs.Common.{◌≡◌, ℕ, List, Option, Some, None, subst, arith}
use Rattle.std.specs.Option.{IfSome, IfNone}
use Rattle.httparse.specs.Grammar.{NeverHasRequest}
use Rattle.httparse.specs.Spans.{IsRequestWithin, IsRequestOf}
use Rattle.bw_http.specs.Heads.{HasNoHead, IsOverLimits}
use Rattle.bw_http.proofs.Heads.{HasNoHead-front, Never-front, IsHeadAt-front}
use Rattle.bw_http.proofs.head.look.Goals as goal

of_some : {X : Type 0} (P : X → Type 0) (found : Option X) (x : X) → found ≡ Some x → IfSome found P → P x
of_some P found x e p = subst (λ f. IfSome f P) e p

of_none : {X P : Type 0} (found : Option X) → found ≡ None → IfNone found P → P
of_none {P = P} found e p = subst (λ f. IfNone f P) e p

pub returns-in-Ok-Some-clause-whole : goal.returns-in-Ok-Some-clause-whole
returns-in-Ok-Some-clause-whole c =
    let found = c.in-Ok-Some.ensures in
    let r = c.in-Ok-Some.spans in
    let is = c.in-Ok-Some.field-0-is in
    IsHeadAt-front c.args.bytes.now c.parse.new.headers r (omega (arith, c.parse.auto.headers, c.requires))
    (subst (λ (t : List ℕ). IsRequestWithin t c.parse.new.headers r) c.front.ensures (of_some _ _ r is found.within))
    (subst (λ (t : List ℕ). IsRequestOf t c.parse.new.headers r) c.front.ensures (of_some _ _ r is found.whole))

pub returns-in-Err-clause-bad : goal.returns-in-Err-clause-bad
returns-in-Err-clause-bad c =
    Never-front 16384 c.args.bytes.now (subst (λ (t : List ℕ). NeverHasRequest t) c.front.ensures c.in-Err.ensures.bad)

pub returns-then-is_over_limits-clause-long : goal.returns-then-is_over_limits-clause-long
returns-then-is_over_limits-clause-long c =
    let over : IsOverLimits c.args.bytes.now = c.is_over_limits.ensures.over c.if-is_over_limits.true in (
      HasNoHead-front c.args.bytes.now (subst (λ (t : List ℕ). HasNoHead t) c.front.ensures (of_none _ c.in-Ok-None.field-0-is c.in-Ok-None.ensures.none)),
      over,
    )

pub returns-else-is_over_limits-clause-more : goal.returns-else-is_over_limits-clause-more
returns-else-is_over_limits-clause-more c =
    let within = c.is_over_limits.ensures.within c.if-is_over_limits.false in
    record {
      none = HasNoHead-front c.args.bytes.now
          (subst (λ (t : List ℕ). HasNoHead t) c.front.ensures (of_none _ c.in-Ok-None.field-0-is c.in-Ok-None.ensures.none));
      short = within.0;
      few = within.1;
    }
