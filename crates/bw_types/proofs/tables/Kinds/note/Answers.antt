use Rattle.std.proofs.Common.{ap, sym, length, ◌∙◌}
use Rattle.std.specs.Prelude.{not}
use Rattle.std.specs.List.{zip}
use Rattle.bw_lang.specs.Table.Names.{beside}
use Rattle.bw_types.specs.Tables.{with_kind}
use Rattle.bw_types.proofs.TableLaws.{kind_last, both_longer}
use Rattle.bw_types.proofs.tables.Kinds.note.Goals as goal

pub invariant_of-self-in-Ok : goal.invariant_of-self-in-Ok
invariant_of-self-in-Ok g c =
    ap length c.in-Ok.ensures.ok
    ∙ both_longer c.self.inside.names c.self.inside.kinds.items c.args.name.now c.args.kind c.get.result c.self.invariant
    (c.get.ensures ∙ sym (ap (beside c.args.name.now) c.self.view_is)) (c.is_none.ensures ∙ ap not c.if-is_none.true)
    ∙ sym (ap length c.in_ok-push.ensures.items)

pub returns-in-Ok : goal.returns-in-Ok
returns-in-Ok g c =
    (λ i. zip (c.in-Ok.ensures.ok i) (c.in_ok-push.ensures.items i))
    ∙ kind_last c.self.inside.names c.self.inside.kinds.items c.args.name.now c.args.kind c.get.result c.self.invariant
    (c.get.ensures ∙ sym (ap (beside c.args.name.now) c.self.view_is)) (c.is_none.ensures ∙ ap not c.if-is_none.true)
    ∙ ap (λ t. with_kind t (c.args.name.now, c.args.kind)) c.self.view_is
