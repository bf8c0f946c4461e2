use Rattle.std.proofs.Common.{◌≡◌, Bool, IsUtf8, ◌∙◌, ap, sym, subst, true, false, chars, map, take, replicate, arith}
use Rattle.std.proofs.lemmas.Grind.{common_steps}
use Rattle.std.specs.Str.Iter.{chars_rest}
use Rattle.std.proofs.lemmas.Str.{IsUtf8-past_char, chars_past_char}
use Rattle.bw_format.specs.Marks.{light_from}
use Rattle.bw_format.specs.Pattern.{places}
use Rattle.bw_format.specs.Steps.{op}
use Rattle.bw_format.proofs.Texts.{chars_nothing}
use Rattle.bw_format.proofs.Walks.{IsOver, over_first, over_next, over_last}
use Rattle.bw_format.proofs.pattern.Pattern.light_by_steps.Goals as goal

pub loop-c-init : goal.loop-c-init
loop-c-init c =
    let self = c.args.self.now in
    let walk = c.new-walk in
    let whole : chars_rest c.into_iter-c-iterator.result ≡ c.args.text.now = grind (arith, common_steps) in
    let first = over_first self c.args.skips 256 walk.result c.requires.places c.requires.repeats c.requires.skips walk.ensures.marks walk.ensures.ended
    walk.ensures.kept in (
      subst IsUtf8 (sym whole) c.utf8.text,
      ap (λ l. light_from self true l (chars (chars_rest c.into_iter-c-iterator.result))) first.0
          ∙ ap (λ t. light_from self true (replicate (places self) false) (chars t)) whole,
      first.1,
    )

pub loop-c-preserved : goal.loop-c-preserved
loop-c-preserved c =
    let self = c.args.self.now in
    let held = c.loop-c.invariant in
    let parts = c.in-Some.ensures.steps.0 in
    let on = over_next self c.loop-c.enter c.loop-c.ends c.in-Some.c 256 (map op c.args.steps.now) c.loop-c.walk c.read-ends.new.self c.requires.fits
    c.requires.steps c.read-ends.ensures.walk held.2 in
    let F : Bool → Type 0 = λ b. IsOver self false b 256 c.read-ends.new.self in (
      IsUtf8-past_char _ _ c.in-Some.c held.0 parts,
      rw on.0 (rw (chars_past_char _ _ c.in-Some.c held.0 parts) at held.1),
      subst F (sym c.read-ends.ensures.ends) on.1,
    )

pub returns : goal.returns
returns c =
    c.light_at.ensures
    ∙ over_last c.args.self.now c.loop-c.enter c.loop-c.ends 256 c.loop-c.walk _ _ _ c.loop-c.invariant.2
    (c.marks.ensures ∙ ap (λ n. take n c.loop-c.walk.marks) c.places.ensures) (chars_nothing _ c.in-None.ensures.steps.0.0) c.loop-c.invariant.1
