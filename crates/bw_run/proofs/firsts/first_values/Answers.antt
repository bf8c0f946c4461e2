use Rattle.std.proofs.Common.{ap, ◌∙◌}
use Rattle.bw_typed.specs.Named.{IsLiteral}
use Rattle.bw_typed.specs.ShortStrings.{IsShortLiteral}
use Rattle.bw_typed.proofs.Named.{shared_begin}
use Rattle.bw_typed.proofs.ShortServices.{shared_begin_short}
use Rattle.bw_run.proofs.Beginnings.{first_next, kind_next, sound_next, holds_at}
use Rattle.bw_run.proofs.firsts.first_values.Goals as goal

pub literal_value-requires-clause-literal : goal.literal_value-requires-clause-literal
literal_value-requires-clause-literal c =
    let typed = c.args.typed.now in
    let service = typed.service in
    let x = c.shared-item.result in (
      x.kind,
      holds_at (λ v. IsLiteral service v.init v.kind) service.shared c.as_slice-shared-items.result.now c.loop-shared.shared-index x
          (c.as_slice-shared-items.ensures ∙ ap (λ s. s.shared) c.service.ensures) (shared_begin service typed.readable typed.well_typed) c.shared-item.is
          c.loop-shared-test.true,
    )

pub literal_value-requires-clause-short : goal.literal_value-requires-clause-short
literal_value-requires-clause-short c =
    let typed = c.args.typed.now in
    let service = typed.service in
    holds_at (λ v. IsShortLiteral v.init) service.shared c.as_slice-shared-items.result.now c.loop-shared.shared-index c.shared-item.result
    (c.as_slice-shared-items.ensures ∙ ap (λ s. s.shared) c.service.ensures) (shared_begin_short service typed.readable) c.shared-item.is
    c.loop-shared-test.true

pub loop-shared-preserved : goal.loop-shared-preserved
loop-shared-preserved c =
    let typed = c.args.typed.now in
    let service = typed.service in
    let items = c.as_slice-shared-items.result.now in
    let i = c.loop-shared.shared-index in
    let x = c.shared-item.result in
    let old = c.loop-shared.firsts in
    let new = c.push.new.self in
    let w = c.in_ok-copy.field-0 in
    let v = c.in_ok-value.value in
    let literal = holds_at (λ v. IsLiteral service v.init v.kind) service.shared items i x
    (c.as_slice-shared-items.ensures ∙ ap (λ s. s.shared) c.service.ensures) (shared_begin service typed.readable typed.well_typed)
    c.shared-item.is c.loop-shared-test.true in
    record {
      values_are = first_next service items i x old new w v c.shared-item.is c.loop-shared-test.true c.in_ok-copy.ensures c.in_ok-value.ensures.value
          c.in_ok-push.ensures.ok c.loop-shared.invariant.values_are;
      kinds_are = kind_next items i x old new w v c.shared-item.is c.loop-shared-test.true c.in_ok-copy.ensures
          (c.in_ok-value.ensures.kind x.kind literal) c.in_ok-push.ensures.ok c.loop-shared.invariant.kinds_are;
      sound = sound_next service.templates old new w v c.loop-shared.invariant.sound c.in_ok-value.ensures.sound c.in_ok-push.ensures.ok;
    }
