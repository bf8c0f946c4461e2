use Rattle.std.proofs.Common.{◌≡◌, ◌++◌, ◌∷◌, [], ap, sym, ◌∙◌}
use Rattle.std.proofs.lemmas.Result.{err_from_is_err_and}
use Rattle.bw_saved.proofs.Loop.{items_go_on, items_end, items_are_done}
use Rattle.bw_flow.specs.declared.point.Local.{Local}
use Rattle.bw_lang.specs.declared.service.Shared.{Shared}
use Rattle.bw_run.specs.Follow.Kinds.{kinds_in}
use Rattle.bw_types.specs.Scopes.{shared_kinds}
use Rattle.bw_saved.specs.Values.Reading.{variable_at, variables_at}
use Rattle.bw_saved.proofs.ValueLaws.{variable_read, variable_fails}
use Rattle.bw_saved.proofs.values.locals_at.Goals as goal

pub returns-in_err-value : goal.returns-in_err-value
returns-in_err-value c =
    let p = err_from_is_err_and c.from_residual.result c.from_residual.ensures.1 in
    let x = c.local-item.result in
    rw (p.1, p.2) (items_end (λ (l : Local). (l.name, l.kind)) (variable_at c.args.typed.now.service) c.in_err-value.field-0.0 c.loop-local.values
    c.args.scope.now
    c.loop-local.local-index _ x c.loop-local.rest.now (variables_at c.args.typed.now.service (kinds_in c.args.scope.now) c.args.bytes.now)
    c.loop-local-test.true c.local-item.is
    (variable_fails c.args.typed.now.service x.name x.kind c.loop-local.rest.now c.in_err-value.field-0.0 c.in_err-value.ensures) c.loop-local.invariant)

pub loop-local-preserved : goal.loop-local-preserved
loop-local-preserved c =
    let x = c.local-item.result in
    rw c.in_ok-push.ensures.ok
    (rw c.in_ok-copy.ensures (items_go_on (λ (l : Local). (l.name, l.kind)) (variable_at c.args.typed.now.service) c.loop-local.values c.args.scope.now
    c.loop-local.local-index _ x c.loop-local.rest.now (x.name, c.in_ok-value.value) c.in_ok-value.after.now
    (variables_at c.args.typed.now.service (kinds_in c.args.scope.now) c.args.bytes.now)
    c.loop-local-test.true c.local-item.is
    (variable_read c.args.typed.now.service x.name x.kind c.loop-local.rest.now c.in_ok-value.value c.in_ok-value.after.now c.in_ok-value.ensures)
    c.loop-local.invariant))

pub returns : goal.returns
returns c =
    items_are_done (λ (l : Local). (l.name, l.kind)) (variable_at c.args.typed.now.service) c.loop-local.values c.args.scope.now c.loop-local.local-index
    c.loop-local.rest.now (variables_at c.args.typed.now.service (kinds_in c.args.scope.now) c.args.bytes.now)
    c.loop-local-test.false c.loop-local.invariant
