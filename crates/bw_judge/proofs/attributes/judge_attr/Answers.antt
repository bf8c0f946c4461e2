use Rattle.std.proofs.Common.{ℕ, ◌&&◌, not, List, subst}
use Rattle.bw_faults.specs.Lists.{Adds, When}
use Rattle.bw_faults.proofs.Adding.{adds_then}
use Rattle.bw_schema.specs.Rules.{allows}
use Rattle.bw_judge.specs.Content.{fault_at}
use Rattle.bw_judge.specs.Found.{OfAttr}
use Rattle.bw_judge.specs.Scene.{is_told}
use Rattle.bw_shape.proofs.Outcomes.{on_ok}
use Rattle.bw_judge.proofs.attributes.judge_attr.Goals as goal

pub returns : goal.returns
returns c =
    let s = c.args.scene.now in
    let r = c.args.rule.now in
    let a = c.args.attr.now in
    let p : Adds (When (is_told s a.value && not (allows r a.name)) (fault_at c.args.spot 1 a.name)) c.args.faults.now c.add_if.new.faults =
    subst (λ b. Adds (When b (fault_at c.args.spot 1 a.name)) c.args.faults.now c.add_if.new.faults) c.is_wrong.ensures
    (subst (λ (n : List ℕ). Adds (When c.is_wrong.result (fault_at c.args.spot 1 n)) c.args.faults.now c.add_if.new.faults)
    c.as_str-name.ensures.text c.in_ok-add_if.ensures) in
    on_ok c.add_if-2.result (λ q. adds_then (OfAttr s r c.args.spot a) p
    (subst (λ b. Adds (When (not b) (fault_at c.args.spot 3 a.name)) c.add_if.new.faults c.add_if-2.new.faults) c.is_permitted-is_outside.ensures
    (subst (λ (n : List ℕ). Adds (When (not c.is_permitted-is_outside.result) (fault_at c.args.spot 3 n)) c.add_if.new.faults c.add_if-2.new.faults)
    c.as_str-name.ensures.text q))
    (λ x h. h) (λ x h. h)) c.add_if-2.ensures
