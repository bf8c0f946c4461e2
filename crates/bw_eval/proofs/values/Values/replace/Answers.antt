use Rattle.std.proofs.Common.{ap, sym, ◌∙◌, subst}
use Rattle.std.specs.Prelude.{position}
use Rattle.bw_lang.specs.Table.Names.{same}
use Rattle.bw_eval.specs.Sound.{AreSound}
use Rattle.bw_eval.specs.View.{values}
use Rattle.bw_eval.proofs.Puts.{put, put_there, put_nowhere, put_values, put_sound}
use Rattle.bw_eval.proofs.values.Values.replace.Goals as goal

pub returns-in-Some-clause-value : goal.returns-in-Some-clause-value
returns-in-Some-clause-value c =
    let w = c.args.name.now in let v = c.args.new in let xs = c.self.inside.list.items in
    ap values (put_there w v xs c.in-Some.place c.set.new.self c.index_mut.result.now
    (ap (position (λ x. same w x.name)) (sym c.as_slice.ensures.value) ∙ sym c.place_of.ensures
    ∙ c.in-Some.is) c.index_mut.ensures.value c.set.ensures.name c.set.ensures.value
    ∙ ap (put w v) c.self.view_is) ∙ put_values w v c.args.self.now

pub returns-in-Some-clause-sound : goal.returns-in-Some-clause-sound
returns-in-Some-clause-sound c ts h s =
    let w = c.args.name.now in let v = c.args.new in let xs = c.self.inside.list.items in
    subst (AreSound ts) (sym (put_there w v xs c.in-Some.place c.set.new.self c.index_mut.result.now
    (ap (position (λ x. same w x.name)) (sym c.as_slice.ensures.value) ∙ sym c.place_of.ensures
    ∙ c.in-Some.is) c.index_mut.ensures.value c.set.ensures.name c.set.ensures.value
    ∙ ap (put w v) c.self.view_is)) (put_sound ts w v c.args.self.now h s)

pub returns-in_default-clause-value : goal.returns-in_default-clause-value
returns-in_default-clause-value c =
    let w = c.args.name.now in let v = c.args.new in let xs = c.self.inside.list.items in
    ap values (sym c.self.view_is
    ∙ put_nowhere w v xs (ap (position (λ x. same w x.name)) (sym c.as_slice.ensures.value) ∙ sym c.place_of.ensures ∙ c.in_default.is)
    ∙ ap (put w v) c.self.view_is) ∙ put_values w v c.args.self.now

pub returns-in_default-clause-sound : goal.returns-in_default-clause-sound
returns-in_default-clause-sound c ts h s = h
