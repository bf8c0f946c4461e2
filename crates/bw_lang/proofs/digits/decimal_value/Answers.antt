use Rattle.std.proofs.Common.{◌≡◌, ℕ, ◌+◌, ◌*◌, ◌^◌, ◌<◌, ◌≤◌, get_or, arith, pow-add}
use Rattle.std.proofs.Math.Nat.{pow-le-pow_right}
use Rattle.std.proofs.lemmas.List.Sums.{AllPass-from_list_all}
use Rattle.std.proofs.lemmas.Bool.Decides.{nat_tests}
use Rattle.std.proofs.lemmas.Int.Digits.{digits_value_more}
use Rattle.std.specs.Char.{is_ascii_digit, digit_value}
use Rattle.bw_lang.proofs.digits.decimal_value.Goals as goal

digit_more : (n d at : ℕ) → n < 10 ^ at → d < 10 → n * 10 + d < 10 ^ (at + 1)
digit_more n d at below small = omega (arith, pow-add 10 at 1)

below_top : (at : ℕ) → at < 18 → 10 ^ (at + 1) ≤ 1000000000000000000
below_top at h = pow-le-pow_right {n = 10} (omega arith) {j = 18} (omega arith)

pub overflow_mul-n : goal.overflow_mul-n
overflow_mul-n c =
    omega (arith, digit_more c.loop-b.n 0 c.loop-b.b-index c.loop-b.invariant.1 (omega arith), below_top c.loop-b.b-index (omega (arith, c.requires.short)))

pub overflow_add-n : goal.overflow_add-n
overflow_add-n c =
    let is = AllPass-from_list_all is_ascii_digit c.args.digits.now c.requires.digits c.loop-b.b-index 0 c.loop-b-test.true in
    let small : c.from.result < 10 = grind (arith, nat_tests) in
    omega (arith, digit_more c.loop-b.n c.from.result c.loop-b.b-index c.loop-b.invariant.1 small, below_top c.loop-b.b-index (omega (arith, c.requires.short)))

pub loop-b-preserved : goal.loop-b-preserved
loop-b-preserved c =
    let is = AllPass-from_list_all is_ascii_digit c.args.digits.now c.requires.digits c.loop-b.b-index 0 c.loop-b-test.true in
    let digit : digit_value (get_or c.args.digits.now c.loop-b.b-index 0) ≡ c.from.result = grind (arith, nat_tests) in
    let small : c.from.result < 10 = grind (arith, nat_tests) in (
      omega (arith, digits_value_more 10 c.args.digits.now _ c.loop-b-test.true, digit, c.loop-b.invariant.0),
      digit_more c.loop-b.n c.from.result c.loop-b.b-index c.loop-b.invariant.1 small,
    )
