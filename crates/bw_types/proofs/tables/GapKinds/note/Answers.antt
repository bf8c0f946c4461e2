use Rattle.std.proofs.Common.{◌≡◌, ap, sym, cond, nat_eq, [], ◌∷◌, ◌++◌, Some, None, ◌∙◌}
use Rattle.std.specs.Prelude.{not}
use Rattle.bw_types.specs.Gaps.{gap_kind}
use Rattle.bw_types.proofs.TableLaws.{kinds_more, absent}
use Rattle.bw_types.proofs.tables.GapKinds.note.Goals as goal

pub invariant_of-self-in-Ok : goal.invariant_of-self-in-Ok
invariant_of-self-in-Ok c = λ g.
    let list = c.self.inside.list.items in
    let missing : gap_kind list c.args.gap ≡ None =
    ap (λ t. gap_kind t c.args.gap) c.self.view_is ∙ sym c.get.ensures ∙ absent c.get.result (c.is_none.ensures ∙ ap not c.if-is_none.true) in
    c.in-Ok.ensures.updates.0 g
    ∙ (λ i. cond (nat_eq (c.number-then-is_none.ensures i) g) (Some c.args.kind) (c.self.invariant g i))
    ∙ sym (kinds_more list c.args.gap g c.args.kind missing)
    ∙ sym (ap (λ t. gap_kind t g) (c.in_ok-push.ensures.items ∙ ap (λ n. list ++ (n, c.args.kind) ∷ []) c.number.ensures))
