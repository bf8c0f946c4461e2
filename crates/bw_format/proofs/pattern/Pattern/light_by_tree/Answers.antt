use Rattle.std.proofs.Common.{◌≤◌, ap, refl, sym, ◌∙◌, true, false, replicate, chars, arith}
use Rattle.std.proofs.lemmas.List.{take-replicate}
use Rattle.bw_format.specs.Marks.{ended, light_from}
use Rattle.bw_format.proofs.Ended.{ended_first}
use Rattle.bw_format.proofs.pattern.Pattern.light_by_tree.Goals as goal

pub light_from-requires-clause-ended : goal.light_from-requires-clause-ended
light_from-requires-clause-ended c =
    let self = c.args.self.now in
    let few : c.places.result ≤ 256 = omega (arith, c.places.ensures, c.requires.places) in
    let rare : c.repeats.result ≤ 256 = omega (arith, c.repeats.ensures, c.requires.repeats) in
    take-replicate c.repeats.result 256 false rare ∙ ap (λ n. replicate n false) c.repeats.ensures ∙ ended_first self
    ∙ sym (ap (ended self) (take-replicate c.places.result 256 false few ∙ ap (λ n. replicate n false) c.places.ensures))

pub returns : goal.returns
returns c =
    let few : c.places.result ≤ 256 = omega (arith, c.places.ensures, c.requires.places) in
    c.light_from.ensures
    ∙ ap (λ m. light_from c.args.self.now true m (chars c.args.text.now)) (take-replicate c.places.result 256 false few) ∙ rw c.places.ensures refl
