-- The kinds of expressions, and the tests of expressions that fail, in source order.
use Rattle.std.specs.Prelude.{ℕ, List, [], ◌∷◌, ◌++◌, Option, Some, None}
use Rattle.bw_lang.specs.declared.expr.Op.{Op}
use Rattle.bw_lang.specs.declared.expr.Op.TheVariants.{Or, And, Eq, Ne, Lt, Le, Gt, Ge, Add, Sub, Mul, Div, Rem}
use Rattle.bw_lang.specs.declared.expr.Fun.{Fun}
use Rattle.bw_lang.specs.declared.expr.Fun.TheVariants as funs
use Rattle.bw_lang.specs.declared.service.Service.{Service}
use Rattle.bw_lang.specs.declared.stmt.Kind.{Kind}
use Rattle.bw_lang.specs.declared.stmt.Kind.TheVariants.{Int, Bool as Truth, Str, Html, Strs}
use Rattle.bw_lang.specs.Service.Term.{Term, int, truth, string, name, paren, not, neg, binary, call, plug, nothing, Fillings, no_more, filling}
use Rattle.bw_types.specs.declared.fault.GapKind.{GapKind}
use Rattle.bw_types.specs.declared.fault.GapKind.TheVariants.{Content, Attribute}
use Rattle.bw_types.specs.declared.fault.TypeFault.{TypeFault}
use Rattle.bw_types.specs.declared.fault.TypeFault.TheVariants as faults
use Rattle.bw_types.specs.Gaps.{kind_of_gap}
use Rattle.bw_types.specs.Scopes.{Scope, name_kind}

-- which sort of operator it is, by the kinds that it takes
pub data OpSort : Type 0 where
  joins_truths : OpSort
  tests_equality : OpSort
  compares : OpSort
  adds : OpSort
  computes : OpSort

abbrev pub op_sort : Op → OpSort
op_sort Or = joins_truths
op_sort And = joins_truths
op_sort Eq = tests_equality
op_sort Ne = tests_equality
op_sort Lt = compares
op_sort Le = compares
op_sort Gt = compares
op_sort Ge = compares
op_sort Add = adds
op_sort Sub = computes
op_sort Mul = computes
op_sort Div = computes
op_sort Rem = computes

-- the kind of what an operator gives, whose left side has this kind
abbrev pub op_kind : OpSort → Option Kind → Option Kind
op_kind joins_truths left = Some Truth
op_kind tests_equality left = Some Truth
op_kind compares left = Some Truth
op_kind adds left = left
op_kind computes left = Some Int

-- the kind that a function takes, and the kind that it gives
abbrev pub fun_takes : Fun → Kind
fun_takes funs.Text = Int
fun_takes funs.Number = Str
fun_takes funs.IsNumber = Str
fun_takes funs.Count = Strs

abbrev pub fun_gives : Fun → Kind
fun_gives funs.Text = Str
fun_gives funs.Number = Int
fun_gives funs.IsNumber = Truth
fun_gives funs.Count = Int

-- the kind of an expression; none, where a name in it stands for nothing
abbrev pub kind_of : Service → Scope → Term → Option Kind
kind_of service scope (int n) = Some Int
kind_of service scope (truth b) = Some Truth
kind_of service scope (string s) = Some Str
kind_of service scope (name w) = name_kind service scope w
kind_of service scope (paren e) = kind_of service scope e
kind_of service scope (not e) = Some Truth
kind_of service scope (neg e) = Some Int
kind_of service scope (binary op l r) = op_kind (op_sort op) (kind_of service scope l)
kind_of service scope (call f e) = Some (fun_gives f)
kind_of service scope (plug b ps) = Some Html
kind_of service scope nothing = Some Strs

-- this kind is demanded, and another one was found
abbrev pub demand : Kind → Option Kind → List TypeFault
demand kind None = []
demand Int (Some Int) = []
demand Truth (Some Truth) = []
demand Str (Some Str) = []
demand Html (Some Html) = []
demand Strs (Some Strs) = []
demand kind (Some other) = faults.Kind kind other ∷ []

-- the kind of the left side is demanded
abbrev pub demand_same : Option Kind → Option Kind → List TypeFault
demand_same None found = []
demand_same (Some kind) found = demand kind found

-- what is no document and no list is demanded
abbrev pub demand_plain : Option Kind → List TypeFault
demand_plain (Some Html) = faults.Kind Str Html ∷ []
demand_plain (Some Strs) = faults.Kind Str Strs ∷ []
demand_plain found = []

-- a number or a string is demanded
abbrev pub demand_sum : Option Kind → List TypeFault
demand_sum (Some Truth) = faults.Kind Int Truth ∷ []
demand_sum (Some Html) = faults.Kind Int Html ∷ []
demand_sum (Some Strs) = faults.Kind Int Strs ∷ []
demand_sum found = []

-- a string or a document is demanded
abbrev pub demand_content : Option Kind → List TypeFault
demand_content (Some Str) = []
demand_content found = demand Html found

-- what is demanded of the left side of an operator, and then of its right side
abbrev pub left_demand : OpSort → Option Kind → List TypeFault
left_demand joins_truths left = demand Truth left
left_demand tests_equality left = demand_plain left
left_demand compares left = demand Int left
left_demand adds left = demand_sum left
left_demand computes left = demand Int left

abbrev pub right_demand : OpSort → Option Kind → Option Kind → List TypeFault
right_demand joins_truths left right = demand Truth right
right_demand tests_equality left right = demand_same left right
right_demand compares left right = demand Int right
right_demand adds left right = demand_same left right
right_demand computes left right = demand Int right

-- what a gap of this kind demands
abbrev pub gap_demand : Option GapKind → Option Kind → List TypeFault
gap_demand None found = []
gap_demand (Some Content) found = demand_content found
gap_demand (Some Attribute) found = demand Str found

-- no template has the gap
abbrev pub gap_unknown : List ℕ → Option GapKind → List TypeFault
gap_unknown w None = faults.Unknown w ∷ []
gap_unknown w (Some kind) = []

-- the name stands for nothing
abbrev pub name_unknown : List ℕ → Option Kind → List TypeFault
name_unknown w None = faults.Unknown w ∷ []
name_unknown w (Some kind) = []

-- the tests of an expression that fail: those of its parts from left to right, each followed by what is demanded of it
abbrev mutual
  pub faults_in : Service → Scope → Term → List TypeFault
  faults_in service scope (int n) = []
  faults_in service scope (truth b) = []
  faults_in service scope (string s) = []
  faults_in service scope nothing = []
  faults_in service scope (name w) = name_unknown w (name_kind service scope w)
  faults_in service scope (paren e) = faults_in service scope e
  faults_in service scope (not e) = faults_in service scope e ++ demand Truth (kind_of service scope e)
  faults_in service scope (neg e) = faults_in service scope e ++ demand Int (kind_of service scope e)
  faults_in service scope (binary op l r) =
      faults_in service scope l ++ (left_demand (op_sort op) (kind_of service scope l) ++
      (faults_in service scope r ++ right_demand (op_sort op) (kind_of service scope l) (kind_of service scope r)))
  faults_in service scope (call f e) = faults_in service scope e ++ demand (fun_takes f) (kind_of service scope e)
  faults_in service scope (plug b ps) =
      faults_in service scope b ++ (demand Html (kind_of service scope b) ++ faults_in_pairs service scope ps)

  pub faults_in_pairs : Service → Scope → Fillings → List TypeFault
  faults_in_pairs service scope no_more = []
  faults_in_pairs service scope (filling w e ps) =
      gap_unknown w (kind_of_gap service w) ++ (faults_in service scope e ++
      (gap_demand (kind_of_gap service w) (kind_of service scope e) ++ faults_in_pairs service scope ps))

-- an expression of this kind is demanded
abbrev pub wanted : Service → Scope → Kind → Term → List TypeFault
wanted service scope kind e = faults_in service scope e ++ demand kind (kind_of service scope e)
