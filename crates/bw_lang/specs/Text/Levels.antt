-- How tightly expressions bind, from 1, the loosest, to 9.
use Rattle.std.specs.Prelude.{ℕ, ℤ, pos, negsuc, ◌<◌, ◌≤◌, ◌^◌, ◌==◌, if◌then◌else◌}
use Rattle.bw_lang.specs.declared.expr.Op.{Op}
use Rattle.bw_lang.specs.declared.expr.Op.TheVariants.{Or, And, Eq, Ne, Lt, Le, Gt, Ge, Add, Sub, Mul, Div, Rem}
use Rattle.bw_lang.specs.Service.Term.{Term, int, truth, string, name, paren, not, neg, binary, call, plug, nothing, Fillings, no_more, filling}
use Rattle.bw_lang.specs.Text.Words.{IsName}

abbrev pub op_level : Op → ℕ
op_level Or = 1
op_level And = 2
op_level Eq = 3
op_level Ne = 3
op_level Lt = 4
op_level Le = 4
op_level Gt = 4
op_level Ge = 4
op_level Add = 5
op_level Sub = 5
op_level Mul = 6
op_level Div = 6
op_level Rem = 6

-- The level that a left operand needs: operators of one level group to the left, but those that compare take no
-- operand of their own level.
abbrev pub left_level : ℕ → ℕ
left_level n = if n == 3 then 4 else if n == 4 then 5 else n

abbrev pub level : Term → ℕ
level (int n) = 9
level (truth b) = 9
level (string s) = 9
level (name w) = 9
level (paren e) = 9
level (not e) = 7
level (neg e) = 7
level (binary op l r) = op_level op
level (call f e) = 9
level (plug b ps) = 8
level nothing = 9

-- a number that can be written: `-` is an operator
abbrev pub IsWritable : ℤ → Type 0
IsWritable (pos n) = n < 2 ^ 63
IsWritable (negsuc n) = ⊥

-- there is a pair
abbrev pub IsSome : Fillings → Type 0
IsSome no_more = ⊥
IsSome (filling g e ps) = Unit {0}

-- each operand binds as tightly as its place demands, names are no keywords, numbers can be written, and a plug has a
-- pair
abbrev mutual
  pub Levelled : Term → Type 0
  Levelled (int n) = IsWritable n
  Levelled (truth b) = Unit {0}
  Levelled (string s) = Unit {0}
  Levelled (name w) = IsName w
  Levelled (paren e) = Levelled e
  Levelled (not e) = (7 ≤ level e) × Levelled e
  Levelled (neg e) = (7 ≤ level e) × Levelled e
  Levelled (binary op l r) = (left_level (op_level op) ≤ level l) × (op_level op < level r) × Levelled l × Levelled r
  Levelled (call f e) = Levelled e
  Levelled (plug b ps) = (8 ≤ level b) × IsSome ps × Levelled b × AreLevelled ps
  Levelled nothing = Unit {0}

  pub AreLevelled : Fillings → Type 0
  AreLevelled no_more = Unit {0}
  AreLevelled (filling g e ps) = Levelled e × AreLevelled ps
