use Rattle.std.proofs.Common.{◌≡◌, ◌∙◌, ◌++◌, length, length-append, ap, sym, arith, false}
use Rattle.bw_format.specs.Marks as spec
use Rattle.bw_format.specs.Pattern.{nodes, places, repeats, sequence, either, plus}
use Rattle.bw_format.specs.View.{pattern}
use Rattle.bw_format.proofs.Ended.{first_ended, second_ended, few_first, sequence_ends, plus_before}
use Rattle.bw_format.proofs.pattern.Pattern.+shift.Goals as goal

pub split_at_mut-first-requires : goal.split_at_mut-first-requires
split_at_mut-first-requires t c =
    let s : sequence c.in-Sequence.left c.in-Sequence.right ≡ c.args.self.now = sym (ap pattern c.in-Sequence.is) ∙ c.node.ensures in
    let few = few_first c.args.self.now c.in-Sequence.left (repeats c.in-Sequence.right) c.args.marks.now c.args.ended.now (ap repeats s) c.requires.ended in
    omega (arith, few, c.repeats.ensures)

pub shift-one-requires : goal.shift-one-requires
shift-one-requires t c =
    let s : sequence c.in-Sequence.left c.in-Sequence.right ≡ c.args.self.now = sym (ap pattern c.in-Sequence.is) ∙ c.node.ensures in
    let front = c.split_at_mut-front in
    let first = c.split_at_mut-first in
    let n : length front.result.0.now ≡ places c.in-Sequence.left = front.ensures.front_len ∙ c.places.ensures in (
      omega (arith, ap nodes s),
      (
        n,
        first_ended c.in-Sequence.left c.in-Sequence.right c.args.marks.now front.result.0.now front.result.1.now first.result.0.now first.result.1.now front.ensures.value n
            (first.ensures.front_len ∙ c.repeats.ensures) (sym first.ensures.value ∙ c.requires.ended ∙ ap (λ k. spec.ended k c.args.marks.now) (sym s)),
      ),
    )

pub shift-other-requires : goal.shift-other-requires
shift-other-requires t c =
    let s : sequence c.in-Sequence.left c.in-Sequence.right ≡ c.args.self.now = sym (ap pattern c.in-Sequence.is) ∙ c.node.ensures in
    let front = c.split_at_mut-front in
    let first = c.split_at_mut-first in
    let n : length front.result.0.now ≡ places c.in-Sequence.left = front.ensures.front_len ∙ c.places.ensures in (
      omega (arith, ap nodes s),
      (
        omega (arith, ap length front.ensures.value, length-append front.result.0.now front.result.1.now, n, c.requires.marks, ap places s),
        second_ended c.in-Sequence.left c.in-Sequence.right c.args.marks.now front.result.0.now front.result.1.now first.result.0.now first.result.1.now front.ensures.value n
            (first.ensures.front_len ∙ c.repeats.ensures) (sym first.ensures.value ∙ c.requires.ended ∙ ap (λ k. spec.ended k c.args.marks.now) (sym s)),
      ),
    )

pub split_at_mut-first-requires-in-Either : goal.split_at_mut-first-requires-in-Either
split_at_mut-first-requires-in-Either t c =
    let s : either c.in-Either.left c.in-Either.right ≡ c.args.self.now = sym (ap pattern c.in-Either.is) ∙ c.node.ensures in
    let few = few_first c.args.self.now c.in-Either.left (repeats c.in-Either.right) c.args.marks.now c.args.ended.now (ap repeats s) c.requires.ended in
    omega (arith, few, c.repeats-in-Either.ensures)

pub shift-one-requires-in-Either : goal.shift-one-requires-in-Either
shift-one-requires-in-Either t c =
    let s : either c.in-Either.left c.in-Either.right ≡ c.args.self.now = sym (ap pattern c.in-Either.is) ∙ c.node.ensures in
    let front = c.split_at_mut-front-in-Either in
    let first = c.split_at_mut-first-in-Either in
    let n : length front.result.0.now ≡ places c.in-Either.left = front.ensures.front_len ∙ c.places-in-Either.ensures in (
      omega (arith, ap nodes s),
      (
        n,
        first_ended c.in-Either.left c.in-Either.right c.args.marks.now front.result.0.now front.result.1.now first.result.0.now first.result.1.now front.ensures.value n
            (first.ensures.front_len ∙ c.repeats-in-Either.ensures) (sym first.ensures.value ∙ c.requires.ended ∙ ap (λ k. spec.ended k c.args.marks.now) (sym s)),
      ),
    )

pub shift-other-requires-in-Either : goal.shift-other-requires-in-Either
shift-other-requires-in-Either t c =
    let s : either c.in-Either.left c.in-Either.right ≡ c.args.self.now = sym (ap pattern c.in-Either.is) ∙ c.node.ensures in
    let front = c.split_at_mut-front-in-Either in
    let first = c.split_at_mut-first-in-Either in
    let n : length front.result.0.now ≡ places c.in-Either.left = front.ensures.front_len ∙ c.places-in-Either.ensures in (
      omega (arith, ap nodes s),
      (
        omega (arith, ap length front.ensures.value, length-append front.result.0.now front.result.1.now, n, c.requires.marks, ap places s),
        second_ended c.in-Either.left c.in-Either.right c.args.marks.now front.result.0.now front.result.1.now first.result.0.now first.result.1.now front.ensures.value n
            (first.ensures.front_len ∙ c.repeats-in-Either.ensures) (sym first.ensures.value ∙ c.requires.ended ∙ ap (λ k. spec.ended k c.args.marks.now) (sym s)),
      ),
    )

pub returns-in-Sequence-clause-behind : goal.returns-in-Sequence-clause-behind
returns-in-Sequence-clause-behind t c =
    let s : sequence c.in-Sequence.left c.in-Sequence.right ≡ c.args.self.now = sym (ap pattern c.in-Sequence.is) ∙ c.node.ensures in
    let one = c.shift-one in
    let other = c.shift-other in
    ap (λ m. m.behind) c.then.ensures
    ∙ sequence_ends c.in-Sequence.left c.in-Sequence.right _ _ one.new.marks other.new.marks _ _ _ _ one.ensures.marks other.ensures.marks
    one.result.behind other.result.behind other.result.skips one.ensures.behind other.ensures.behind other.ensures.skips
    ∙ ap (λ k. spec.ends k false (one.new.marks ++ other.new.marks)) s

pub returns-in-Plus-clause-before : goal.returns-in-Plus-clause-before
returns-in-Plus-clause-before t c =
    let s : plus c.in-Plus.inner ≡ c.args.self.now = sym (ap pattern c.in-Plus.is) ∙ c.node.ensures in
    let own = c.split_at_mut-own-in-Plus in
    plus_before c.args.self.now c.in-Plus.inner c.args.enter c.may_begin-again-in-Plus.result c.shift-inside-in-Plus.result.before c.args.marks.now
    own.result.0.now own.result.1.now s (sym own.ensures.value ∙ c.requires.ended) own.ensures.front_len c.may_begin-again-in-Plus.ensures
    c.shift-inside-in-Plus.ensures.before
