-- The rounds of a service's system: all cells at once from the cells before. The cells are kept in rows, one for each
-- point of the flow, with what is known of each local in scope there, and behind them one for the shared variables.
use Rattle.std.specs.Prelude.{ℕ, ◌+◌, Bool, true, false, ◌&&◌, ◌==◌, not, List, [], ◌∷◌, ◌++◌, map, length, option_map, Option, Some, None, slice_get}
use Rattle.std.specs.Prelude.{if◌then◌else◌}
use Rattle.std.specs.List.{list_any}
use Rattle.bw_lang.specs.declared.service.Service.{Service}
use Rattle.bw_lang.specs.declared.service.Shared.{Shared}
use Rattle.bw_lang.specs.Table.Names.{same}
use Rattle.bw_flow.specs.declared.point.Local.{Local}
use Rattle.bw_flow.specs.declared.point.Received.{Received}
use Rattle.bw_flow.specs.Steps.{Act, sets, tests, goes_over, shows, exits, joins, Step}
use Rattle.bw_analyse.specs.declared.abstracts.Abstract.{Abstract}
use Rattle.bw_analyse.specs.declared.abstracts.Abstract.TheVariants.{Nothing, Str, Html}
use Rattle.bw_analyse.specs.declared.arrows.Arrow.{Arrow}
use Rattle.bw_analyse.specs.Abstracts.{both, least_of}
use Rattle.bw_analyse.specs.Known.{any, of_local, of_shared, of_literal, look, known}

-- ---- where points lead

-- the arrows to q from the point at p, which leads to these places; the first of them is told from the others
abbrev pub arrows_from : ℕ → ℕ → Bool → List ℕ → List Arrow
arrows_from q p first [] = []
arrows_from q p first (n ∷ ns) =
    if n == q then record { from = p; is_first = first } ∷ arrows_from q p false ns else arrows_from q p false ns

-- the arrows to q from the points from place p on
abbrev pub arrows_to : ℕ → ℕ → List Step → List Arrow
arrows_to q p [] = []
arrows_to q p (x ∷ xs) = arrows_from q p true x.next ++ arrows_to q (p + 1) xs

-- ---- what points leave and add

-- what a variable is known to hold when it has received a field, by what was known of it: of a list nothing, else any string
abbrev pub received_by : Abstract → Abstract
received_by Nothing = Nothing
received_by (Str s) = any
received_by (Html s) = any

-- the two names are one
abbrev pub is_same : List ℕ → List ℕ → Bool
is_same v w = same v w

-- one of these goes into the variable of that name
abbrev pub receives : List ℕ → List Received → Bool
receives w rs = list_any (λ r. same w r.target) rs

-- What a point leaves in a local, where it leaves something: an assignment or a declaration of it the value of its
-- expression, a foreach of it any string where it leads into its body, a show what is received; else what was known.
abbrev pub left_by : Service → List Local → List Abstract → List Abstract → Bool → List ℕ → Act → Option Abstract
left_by service scope row shared is_first w (sets v e) =
    if same w v then Some (known service (look service scope row shared) e) else of_local scope row w
left_by service scope row shared is_first w (goes_over v e) = if is_first && same w v then Some any else of_local scope row w
left_by service scope row shared is_first w (shows e rs) =
    if receives w rs then option_map received_by (of_local scope row w) else of_local scope row w
left_by service scope row shared is_first w (tests e) = of_local scope row w
left_by service scope row shared is_first w (exits e) = of_local scope row w
left_by service scope row shared is_first w joins = of_local scope row w

-- the name is that of a local in scope
abbrev pub is_local : List Local → List ℕ → Bool
is_local scope w = list_any (λ l. same w l.name) scope

-- What a point adds to a shared variable, where it adds something: an assignment to it the value of its expression, a show
-- what is received.
abbrev pub added_by : Service → List Local → List Abstract → List Abstract → List ℕ → Act → Option Abstract
added_by service scope row shared w (sets v e) =
    if same w v && not (is_local scope w) then Some (known service (look service scope row shared) e) else None
added_by service scope row shared w (goes_over v e) = None
added_by service scope row shared w (shows e rs) =
    if receives w rs && not (is_local scope w) then option_map received_by (of_shared service.shared shared w) else None
added_by service scope row shared w (tests e) = None
added_by service scope row shared w (exits e) = None
added_by service scope row shared w joins = None

-- ---- the next rows

-- the join with what there is
abbrev pub join_some : Option Abstract → Abstract → Abstract
join_some None b = b
join_some (Some a) b = both a b

-- the join of what there is of each of these, upon the last value
abbrev pub joined : {X : Type 0} → (X → Option Abstract) → List X → Abstract → Abstract
joined of [] last = last
joined of (x ∷ xs) last = join_some (of x) (joined of xs last)

-- what the point from which an arrow comes leaves in a local; f tells the row of each place, and that of the shared variables
-- behind them
abbrev pub left_at : Service → List Step → (ℕ → List Abstract) → List ℕ → Arrow → Option Step → Option Abstract
left_at service flow f w a None = None
left_at service flow f w a (Some x) = left_by service x.scope (f a.from) (f (length flow)) a.is_first w x.act

-- a local at the point of place q in the next round: the join of what all points that lead to q leave in it
abbrev pub next_local : Service → List Step → (ℕ → List Abstract) → List Arrow → Local → Abstract
next_local service flow f arrows l = joined (λ a. left_at service flow f l.name a (slice_get flow a.from)) arrows (least_of l.kind)

-- a point with its place
pub record Placed : Type 0 where
  pub place : ℕ
  pub step : Step

-- the points from place p on
abbrev pub placed : ℕ → List Step → List Placed
placed p [] = []
placed p (x ∷ xs) = record { place = p; step = x } ∷ placed (p + 1) xs

-- a shared variable in the next round: the join of what all points add to it, and of its literal
abbrev pub next_shared : Service → List Step → (ℕ → List Abstract) → Shared → Abstract
next_shared service flow f v =
    joined (λ (x : Placed). added_by service x.step.scope (f x.place) (f (length flow)) v.name x.step.act) (placed 0 flow)
    (both (of_literal service v.init) (least_of v.kind))

-- the empty row at a place
abbrev pub empty_row : Service → Option Step → List Abstract
empty_row service None = map (λ v. least_of v.kind) service.shared
empty_row service (Some x) = map (λ l. least_of l.kind) x.scope

-- the row at a place in the next round
abbrev pub next_row : Service → List Step → (ℕ → List Abstract) → ℕ → Option Step → List Abstract
next_row service flow f q None = map (next_shared service flow f) service.shared
next_row service flow f q (Some x) = map (next_local service flow f (arrows_to q 0 flow)) x.scope

-- the empty rows, and one round, where behind the flow comes the row of the shared variables
abbrev pub empty : Service → List Step → ℕ → List Abstract
empty service flow q = empty_row service (slice_get flow q)

abbrev pub round : Service → List Step → ℕ → (ℕ → List Abstract) → List Abstract
round service flow q f = next_row service flow f q (slice_get flow q)
