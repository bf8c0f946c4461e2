use Rattle.std.proofs.Common.{◌≡◌, ◌⊎◌, ◌&&◌, Option, ap, ◌∙◌, subst}
use Rattle.bw_faults.specs.declared.fault.Fault.{Fault}
use Rattle.bw_faults.specs.Lists.{Adds, When}
use Rattle.bw_faults.proofs.Adding.{adds_then}
use Rattle.bw_lang.specs.declared.controls.FieldKind.{FieldKind}
use Rattle.bw_types.specs.Fields.{kind_of_field}
use Rattle.bw_shape.specs.Outlines.{may_have_twice}
use Rattle.bw_fields.specs.Found.{is_single, is_misfit, fault_of, OfField}
use Rattle.bw_shape.proofs.Outcomes.{on_ok}
use Rattle.bw_fields.proofs.judging.judge_field.Goals as goal

pub returns : goal.returns
returns c =
    let s = c.args.typed.now.service in
    let o = c.args.outline.now in
    let r = c.args.received.now in
    let root = c.args.root in
    let point = c.args.point in
    let k = kind_of_field s r.field in
    let T : Fault → Type 0 = λ f. When (may_have_twice o root r.id && is_single k) (fault_of 9 point r.field) f in
    let W : Fault → Type 0 = λ f. When (is_misfit k r.kind) (fault_of 10 point r.field) f in
    let kind : c.field_kind-kind.result ≡ k = c.field_kind-kind.ensures ∙ ap (kind_of_field s) c.as_str.ensures.text in
    let p1 = subst (λ b. Adds (When b (fault_of 8 point r.field)) c.args.faults.now c.add_if.new.faults) c.may_lack-is_lacking.ensures c.in_ok-add_if.ensures in
    let p2 : Adds T c.add_if.new.faults c.add_if-2.new.faults =
    subst (λ (x : Option FieldKind). Adds (When (may_have_twice o root r.id && is_single x) (fault_of 9 point r.field))
    c.add_if.new.faults c.add_if-2.new.faults) kind
    (subst (λ b. Adds (When b (fault_of 9 point r.field)) c.add_if.new.faults c.add_if-2.new.faults) c.is_twice.ensures c.in_ok-add_if-2.ensures) in
    on_ok c.add_if-3.result (λ q.
    let w : Adds W c.add_if-2.new.faults c.add_if-3.new.faults =
    subst (λ (x : Option FieldKind). Adds (When (is_misfit x r.kind) (fault_of 10 point r.field)) c.add_if-2.new.faults c.add_if-3.new.faults) kind
    (subst (λ b. Adds (When b (fault_of 10 point r.field)) c.add_if-2.new.faults c.add_if-3.new.faults) c.is_misfit-is_wrong.ensures q) in
    adds_then (OfField s o root point r) p1 (adds_then (λ f. T f ⊎ W f) p2 w (λ x h. h) (λ x h. h)) (λ x h. h) (λ x h. h)) c.add_if-3.ensures
