use Rattle.std.proofs.Common.{◌⊎◌, ℕ, not, true, List, length, subst}
use Rattle.bw_faults.specs.declared.fault.Fault.{Fault}
use Rattle.bw_faults.specs.Lists.{Adds, When, OfSome}
use Rattle.bw_faults.proofs.Adding.{adds_then}
use Rattle.bw_shape.specs.Rows.Rows.{at}
use Rattle.bw_shape.specs.Tests.{gives}
use Rattle.bw_judge.specs.Content.{fault_at, OfContent}
use Rattle.bw_judge.specs.Found.{OfMust, OfParts}
use Rattle.bw_judge.specs.Sure.{sure}
use Rattle.bw_shape.proofs.Outcomes.{on_ok}
use Rattle.bw_judge.proofs.elements.judge_rule.Goals as goal

pub returns : goal.returns
returns c =
    let s = c.args.scene.now in
    let r = c.args.rule.now in
    let e = c.args.element.now in
    let spot = c.args.spot in
    let M : Fault → Type 0 = λ f. OfSome (OfMust s spot e.attrs) r.must f in
    let C : Fault → Type 0 = λ f. OfContent spot r.has r.text s.tags (λ k. gives s.tags s.node (λ m. at s.tops m k) k e.items) (length s.tags) f in
    let W : Fault → Type 0 = λ f. When (not (sure s true r.needs e.attrs e.items)) (fault_at spot 7 e.tag) f in
    on_ok c.add_if.result (λ q.
    let w : Adds W c.judge_content.new.faults c.add_if.new.faults =
    subst (λ b. Adds (When (not b) (fault_at spot 7 e.tag)) c.judge_content.new.faults c.add_if.new.faults) c.are_sure-is_sure.ensures
    (subst (λ (n : List ℕ). Adds (When (not c.are_sure-is_sure.result) (fault_at spot 7 n)) c.judge_content.new.faults c.add_if.new.faults)
    c.as_str.ensures.text q) in
    adds_then (OfParts s r spot e.tag e.attrs e.items) c.in_ok-judge_attrs.ensures
    (adds_then (λ f. M f ⊎ (C f ⊎ W f)) c.in_ok-judge_must.ensures
    (adds_then (λ f. C f ⊎ W f) c.in_ok-judge_content.ensures w (λ x h. h) (λ x h. h)) (λ x h. h) (λ x h. h)) (λ x h. h) (λ x h. h)) c.add_if.ensures
