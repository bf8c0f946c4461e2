-- Laws of names with values: expressions, weights and updates treat them as maps, and what a block declares is gone behind it.
-- That statements and turns treat them so as well is stated in Orders.
use Rattle.std.specs.Prelude.{◌≡◌, ℕ, true, List, [], ◌∷◌, ◌++◌, if◌then◌else◌, IsPermutation, Some, None}
use Rattle.std.specs.List.{list_any, IsDistinct}
use Rattle.std.specs.Option.{option_map, option_or}
use Rattle.bw_lang.specs.declared.service.Service.{Service}
use Rattle.bw_lang.specs.Service.Code.{Code, done, block}
use Rattle.bw_lang.specs.Table.Names.{same, beside}
use Rattle.bw_lang.specs.Service.Term.{Term}
use Rattle.bw_meaning.specs.Expressions.{eval}
use Rattle.bw_meaning.specs.GoOn.{go_on_behind}
use Rattle.bw_meaning.specs.States.{State, Went, Answered}
use Rattle.bw_meaning.specs.Statements.{declared, exec}
use Rattle.bw_meaning.specs.Values.{Value, Values, names_of, weights, replaced, without}

-- each name has the same value in both, or none in both
abbrev pub Agree : Values → Values → Type 0
Agree a b = (w : List ℕ) → beside w a ≡ beside w b

-- ---- the order of names

-- where no name stands twice, names have the same values in each order
abbrev pub OrdersAgree : Type 0
OrdersAgree = (a b : Values) → IsDistinct same (names_of a) → IsPermutation a b → Agree a b

-- and they weigh the same
abbrev pub OrdersWeighTheSame : Type 0
OrdersWeighTheSame = (a b : Values) → IsPermutation a b → weights b ≡ weights a

-- an expression sees nothing of locals and shared variables but the values that their names have
abbrev pub ExpressionsSeeNames : Type 0
ExpressionsSeeNames =
    (service : Service) (locals locals1 shared shared1 : Values) (e : Term) (units : ℕ) →
    Agree locals locals1 → Agree shared shared1 → eval service locals shared e units ≡ eval service locals1 shared1 e units

-- ---- what is done to names with values

-- storing a value gives it to that name, where there is the name, and leaves each other name alone
abbrev pub StoringIsOfOneName : Type 0
StoringIsOfOneName =
    (w x : List ℕ) (v : Value) (values : Values) →
    beside x (replaced w v values) ≡ (if same x w then option_map (λ old. v) (beside w values) else beside x values)

-- a declaration gives its value to a name that had none
abbrev pub DeclaringAddsOneName : Type 0
DeclaringAddsOneName =
    (w x : List ℕ) (v : Value) (values : Values) →
    beside x (values ++ (w, v) ∷ []) ≡ option_or (beside x values) (if same x w then Some v else None)

-- leaving takes these names away, and leaves each other name alone
abbrev pub LeavingTakesNames : Type 0
LeavingTakesNames =
    (names : List (List ℕ)) (x : List ℕ) (values : Values) →
    beside x (without names values) ≡ (if list_any (same x) names then None else beside x values)

-- ---- blocks

-- behind a block no local is left that it declares
abbrev pub BlocksLeave : Type 0
BlocksLeave =
    (service : Service) (c : Code) (n around : ℕ) (st st1 : State) (w : List ℕ) →
    exec service (block c done) n around st ≡ Went st1 → list_any (same w) (declared c) ≡ true → beside w st1.locals ≡ None

-- nor where a session goes on from a show in the block
abbrev pub AnsweredBlocksLeave : Type 0
AnsweredBlocksLeave =
    (service : Service) (c : Code) (n around : ℕ) (a : Answered) (st : State) (w : List ℕ) →
    go_on_behind service (block c done) n around a ≡ Went st → list_any (same w) (declared c) ≡ true → beside w st.locals ≡ None
