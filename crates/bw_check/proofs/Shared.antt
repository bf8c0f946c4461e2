-- What is judged may be read by several threads at once.
use mir.Syntax.{static}
use base.Fml.{Lft}
use denote.RattleType.{RattleType}
use denote.Param.{param}
use denote.Param.Send.{IsSync, param_sync, recorded_sync, struct_sync, shr_sync, sendable}
use denote.Ref.{NamedLft}
use denote.Struct.Field.{shr_ref_field}
use denote.Struct.Declared.{shape}
use denote.Struct.Tuple.{TupleAt, type_at, field_at}
use Rattle.std.proofs.Common.{List, [], ◌∷◌}
use Rattle.std.proofs.alloc.Global.TheSendSync as heap
use Rattle.std.specs.contracts.alloc.Global as Global
use Rattle.std.proofs.Crossing.{crosses}
use Rattle.bw_analyse.proofs.facts.Facts.TheSendSync as facts
use Rattle.bw_flow.proofs.point.PointId.TheSendSync as place
use Rattle.bw_flow.proofs.point.PointIds.TheSendSync as places
use Rattle.bw_flow.proofs.point.Receiveds.TheSendSync as received
use Rattle.bw_flow.proofs.point.Scope.TheSendSync as scope
use Rattle.bw_flow.specs.contracts.flow.Flow as Flow
use Rattle.bw_lang.proofs.expr.Fun.TheSendSync as functions
use Rattle.bw_lang.proofs.expr.Op.TheSendSync as operators
use Rattle.bw_lang.proofs.expr.Pairs.TheLaws.TheKnot as expressions
use Rattle.bw_lang.proofs.items.Attrs.TheSendSync as attributes
use Rattle.bw_lang.proofs.items.GapId.TheSendSync as gaps
use Rattle.bw_lang.proofs.items.Items.TheLaws.TheKnot as trees
use Rattle.bw_lang.proofs.names.FieldNames.TheSendSync as field_names
use Rattle.bw_lang.proofs.names.GapNames.TheSendSync as gap_names
use Rattle.bw_lang.proofs.service.Shareds.TheSendSync as variables
use Rattle.bw_lang.proofs.service.Sorts.TheSendSync as sorts
use Rattle.bw_lang.proofs.stmt.Block.TheLaws.TheKnot as statements
use Rattle.bw_lang.proofs.stmt.Kind.TheSendSync as kinds
use Rattle.bw_lang.proofs.stmt.Receives.TheSendSync as receives
use Rattle.bw_lang.proofs.text.Name.TheSendSync as names
use Rattle.bw_lang.proofs.text.Text.TheSendSync as texts
use Rattle.bw_lang.proofs.text.Words.TheSendSync as words
use Rattle.bw_lang.specs.contracts.expr.Expr as Expr
use Rattle.bw_lang.specs.contracts.items.Items as Items
use Rattle.bw_lang.specs.contracts.service.Sessions as Sessions
use Rattle.bw_lang.specs.contracts.service.Templates as Templates
use Rattle.bw_lang.specs.contracts.stmt.Block as Block
use Rattle.bw_schema.proofs.needs.Formulas.TheLaws.TheKnot as needs
use Rattle.bw_schema.proofs.rules.ValueLists.TheSendSync as values
use Rattle.bw_schema.specs.contracts.needs.Formulas as Formulas
use Rattle.bw_schema.specs.contracts.schema.Schema as Schema
use Rattle.bw_shape.specs.contracts.basis.Basis as Basis
use Rattle.bw_shape.specs.contracts.items.TemplateItems as TemplateItems
use Rattle.bw_strings.proofs.literals.Literals.TheSendSync as literals
use Rattle.bw_types.proofs.tables.Tables.TheSendSync as tables
use Rattle.bw_types.specs.contracts.typed.Typed as Typed
use Rattle.bw_check.specs.contracts.bench.Bench as Bench

-- ---- services

items_sync : IsSync Items.the_row
items_sync = search (trees.crosses, texts.the_sync, names.the_sync, attributes.the_sync, gaps.the_sync, crosses, sendable) depth 60 fits 20000

templates_sync : IsSync Templates.the_row
templates_sync = search (items_sync, names.the_sync, crosses, sendable) depth 40 fits 20000

expr_field : IsSync (Expr.the_field).row
expr_field = search (
  expressions.crosses,
  texts.the_sync,
  names.the_sync,
  operators.the_field_sync,
  functions.the_field_sync,
  crosses,
  sendable,
) depth 60 fits 20000

block_sync : IsSync Block.the_row
block_sync = search (
  statements.crosses,
  expr_field,
  names.the_sync,
  kinds.the_sync,
  receives.the_sync,
  crosses,
  sendable,
) depth 60 fits 20000

sessions_sync : IsSync Sessions.the_row
sessions_sync = search (block_sync, names.the_sync, crosses, sendable) depth 40 fits 20000

typed_sync : IsSync Typed.the_row
typed_sync = search (
  names.the_sync,
  gap_names.the_sync,
  sorts.the_sync,
  templates_sync,
  variables.the_sync,
  sessions_sync,
  field_names.the_sync,
  tables.the_field_sync,
  sendable,
) depth 40 fits 20000

-- ---- flows

flow_sync : IsSync Flow.the_row
flow_sync = search (
  expr_field,
  names.the_sync,
  received.the_sync,
  scope.the_sync,
  places.the_sync,
  place.the_sync,
  crosses,
  sendable,
) depth 40 fits 20000

-- ---- schemas

formulas_sync : IsSync Formulas.the_row
formulas_sync = search (needs.crosses, names.the_sync, words.the_sync, crosses, sendable) depth 60 fits 20000

schema_sync : IsSync Schema.the_row
schema_sync = search (names.the_sync, words.the_sync, values.the_sync, formulas_sync, crosses, sendable) depth 40 fits 20000

-- ---- what every piece is judged by

template_items_sync : (ℓ : NamedLft) → IsSync (TemplateItems.the_row ℓ)
template_items_sync ℓ = search (items_sync, names.the_sync, crosses, sendable) depth 40 fits 20000

basis_sync : (ℓ : NamedLft) → IsSync (Basis.the_row ℓ)
basis_sync ℓ = search (typed_sync, literals.the_sync, template_items_sync, schema_sync, sendable) depth 40 fits 20000

bench_sync : (ℓ : NamedLft) → IsSync (Bench.the_row ℓ)
bench_sync ℓ = search (basis_sync, flow_sync, facts.the_sync, sendable) depth 40 fits 20000

-- a borrow for this lifetime, under any name
abbrev during : Lft → NamedLft
during κ = record { mir = static; lft = κ }

-- what a closure captures that borrows the heap, a bench and a pulse: what is shared of it rests on the lifetimes of what these two lend
abbrev captures : Lft → Lft → RattleType → List RattleType
captures κ ν P =
    (shr_ref_field (during []) Global.the_row tt).row ∷ (shr_ref_field (during []) (Bench.the_row (during κ)) tt).row
    ∷ (shr_ref_field (during ν) (param 1 P) tt).row ∷ []

-- so may such a closure
pub closure_sync : (κ ν : Lft) (P : RattleType) → IsSync P → IsSync (TupleAt [] (captures κ ν P))
closure_sync κ ν P pulse =
    let T = type_at [] (captures κ ν P) in
    recorded_sync (field_at [] (captures κ ν P)).row _ _ T.to_one (struct_sync (shape T) (
      shr_sync _ _ Global.the_row heap.the_sync,
      (shr_sync _ _ (Bench.the_row (during κ)) (bench_sync (during κ)), (shr_sync _ _ (param 1 P) (param_sync 1 P pulse), tt)),
    ))
