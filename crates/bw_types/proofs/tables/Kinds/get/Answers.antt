use Rattle.std.proofs.Common.{ap, sym, length, refl, ◌∙◌}
use Rattle.std.specs.Prelude.{slice_get}
use Rattle.std.proofs.lemmas.Option.{slice_get_read, slice_get_past}
use Rattle.bw_lang.specs.Table.Names.{beside}
use Rattle.bw_types.proofs.TableLaws.{kind_at}
use Rattle.bw_types.proofs.tables.Kinds.get.Goals as goal

pub returns-in-Some : goal.returns-in-Some
returns-in-Some g c =
    sym (slice_get_read c.deref.result.now (length c.deref.result.now) c.number.result c.in-Some.kind.now refl c.in-Some.ensures.lookup.3.0
    c.in-Some.ensures.lookup.1)
    ∙ (λ i. slice_get (c.deref.ensures.value i) (c.number.ensures.number i))
    ∙ kind_at c.args.name.now c.self.inside.names c.self.inside.kinds.items c.self.invariant ∙ ap (beside c.args.name.now) c.self.view_is

pub returns-in-None : goal.returns-in-None
returns-in-None g c =
    sym (slice_get_past c.deref.result.now c.number.result c.in-None.ensures.lookup.3)
    ∙ (λ i. slice_get (c.deref.ensures.value i) (c.number.ensures.number i))
    ∙ kind_at c.args.name.now c.self.inside.names c.self.inside.kinds.items c.self.invariant ∙ ap (beside c.args.name.now) c.self.view_is
