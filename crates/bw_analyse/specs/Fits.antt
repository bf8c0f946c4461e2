-- Which values may stand in a cell: those of the kinds of its variables, well formed, with numbers of 32 bits.
use Rattle.std.specs.Prelude.{ℕ, ◌*◌, List, [], ◌∷◌, map, length, Option, Some, None, slice_get}
use Rattle.bw_lang.specs.declared.service.Service.{Service}
use Rattle.bw_lang.specs.declared.stmt.Kind.{Kind}
use Rattle.bw_lang.specs.declared.stmt.Kind.TheVariants as kinds
use Rattle.bw_flow.specs.Steps.{Step}
use Rattle.bw_strings.specs.Strings as strings
use Rattle.bw_sum.specs.Small.{highest_rank}
use Rattle.bw_sum.specs.Small as summaries
use Rattle.bw_analyse.specs.declared.abstracts.Abstract.{Abstract}
use Rattle.bw_analyse.specs.declared.abstracts.Abstract.TheVariants.{Nothing, Str, Html}
use Rattle.bw_flow.specs.Layout.{flow_of}

-- a value of this kind
abbrev pub Fits : Kind → Abstract → Type 0
Fits kinds.Int Nothing = Unit {0}
Fits kinds.Bool Nothing = Unit {0}
Fits kinds.Strs Nothing = Unit {0}
Fits kinds.Str (Str s) = strings.IsWellFormed s
Fits kinds.Html (Html s) = summaries.IsWellFormed s
Fits k v = ⊥

-- there are as many as kinds, and each is of its kind
abbrev pub AllFit : List Kind → List Abstract → Type 0
AllFit [] [] = Unit {0}
AllFit (k ∷ ks) (v ∷ vs) = Fits k v × AllFit ks vs
AllFit [] (v ∷ vs) = ⊥
AllFit (k ∷ ks) [] = ⊥

-- the kinds of the locals in scope at a point, or, behind the flow, of the shared variables
abbrev pub kinds_of : Service → Option Step → List Kind
kinds_of service None = map (λ v. v.kind) service.shared
kinds_of service (Some x) = map (λ l. l.kind) x.scope

-- a row of these kinds
abbrev pub FitsCell : Service → ℕ → List Abstract → Type 0
FitsCell service cell row = AllFit (kinds_of service (slice_get (flow_of service) cell)) row

-- no such row has a higher rank
abbrev pub rank_bound : Service → ℕ → ℕ
rank_bound service cell = length (kinds_of service (slice_get (flow_of service) cell)) * highest_rank
