-- What comes of enough steps, and what operators and prefixes stand at the front.
use Rattle.std.proofs.Common.{◌≡◌, ℕ, zero, suc, ◌<◌, ◌≤◌, Bool, true, false, cond, List, [], ◌∷◌, Option, Some, None, refl}
use Rattle.std.proofs.Common.{subst, arith}
use Rattle.std.specs.Prelude.{if◌then◌else◌, codes}
use Rattle.std.proofs.lemmas.Bool.Decides.{nat_tests}
use Rattle.bw_lang.specs.declared.expr.Op.{Op}
use Rattle.bw_lang.specs.declared.expr.Op.TheVariants.{Or, And, Eq, Ne, Lt, Le, Gt, Ge, Add, Sub, Mul, Div, Rem}
use Rattle.bw_lang.specs.Text.Keywords.{is}
use Rattle.bw_lang.specs.declared.token.Lexeme.{Lexeme}
use Rattle.bw_lang.specs.declared.token.Lexeme.TheVariants as lex
use Rattle.bw_lang.specs.Text.Levels.{op_level, level, Levelled}
use Rattle.bw_lang.specs.Text.Spelling.{spell, spell_pairs}
use Rattle.bw_lang.specs.Service.Term.{Term, int, truth, string, name, paren, not, neg, binary, call, plug, nothing}
use Rattle.bw_lang.specs.Text.Words.{op_sign}
use Rattle.bw_lang.specs.Table.Options.{◌>>=◌}
use Rattle.bw_parse.specs.Steps.Fronts.{Read, behind, op_of, if_level, operator}
use Rattle.bw_parse.specs.Steps.Expressions.{pairs}
use Rattle.bw_parse.specs.Steps.Follow.{binds, op_binds}
use Rattle.bw_parse.proofs.FrontLaws.{is_same}

-- from some number of steps on it gives x
pub record Comes (A : Type 0) (p : ℕ → Option A) (x : A) : Type 0 where
  pub from : ℕ
  pub gives : (f : ℕ) → from ≤ f → p f ≡ Some x

abbrev pub Got : Type 0
Got = Term × List Lexeme

abbrev pub Gives : (ℕ → Read Term) → Got → Type 0
Gives p x = Comes Got p x

-- one step more
pub later : {A : Type 0} (p : ℕ → Option A) (x : A) (m : ℕ) → ((f : ℕ) → m ≤ f → p (suc f) ≡ Some x) → Comes A p x
later {A = A} p x m h = record { from = suc m; gives = go }
  where
    go : (f : ℕ) → suc m ≤ f → p f ≡ Some x
    go zero le = absurd (omega arith)
    go (suc f) le = h f (omega arith)

-- nothing of the level follows
pub no_operator : (n : ℕ) (k : List Lexeme) → binds k < n → operator n k ≡ None
unfolding operator
no_operator n [] h = refl
no_operator n (lex.Sign s ∷ ts) h = go (op_of s) h
  where
    go : (o : Option Op) → op_binds o (if is s (codes "<[") then 8 else 0) < n → (o >>= if_level n ts) ≡ None
    go None lt = refl
    go (Some op) lt = grind (arith, nat_tests)
no_operator n (t ∷ ts) h = refl

pub no_plug : (k : List Lexeme) → binds k < 8 → behind (codes "<[") k ≡ None
unfolding behind
no_plug [] h = refl
no_plug (lex.Sign s ∷ ts) h = go (is s (codes "<[")) (is_same s (codes "<[")) h
  where
    go : (b : Bool) → (b ≡ true → s ≡ codes "<[") → op_binds (op_of s) (if b then 8 else 0) < 8 → cond b (Some ts) None ≡ None
    go true p lt = let q = subst (λ r. op_binds (op_of r) 8 < 8) (p refl) lt in absurd (omega arith)
    go false p lt = refl
no_plug (t ∷ ts) h = refl

-- an operator at the front
pub the_operator : (op : Op) (ts : List Lexeme) → operator (op_level op) (lex.Sign (op_sign op) ∷ ts) ≡ Some (op, ts)
unfolding operator
the_operator Or ts = refl
the_operator And ts = refl
the_operator Eq ts = refl
the_operator Ne ts = refl
the_operator Lt ts = refl
the_operator Le ts = refl
the_operator Gt ts = refl
the_operator Ge ts = refl
the_operator Add ts = refl
the_operator Sub ts = refl
the_operator Mul ts = refl
the_operator Div ts = refl
the_operator Rem ts = refl

pub op_binds_is : (op : Op) (ts : List Lexeme) → binds (lex.Sign (op_sign op) ∷ ts) ≡ op_level op
op_binds_is Or ts = refl
op_binds_is And ts = refl
op_binds_is Eq ts = refl
op_binds_is Ne ts = refl
op_binds_is Lt ts = refl
op_binds_is Le ts = refl
op_binds_is Gt ts = refl
op_binds_is Ge ts = refl
op_binds_is Add ts = refl
op_binds_is Sub ts = refl
op_binds_is Mul ts = refl
op_binds_is Div ts = refl
op_binds_is Rem ts = refl

pub op_small : (op : Op) → op_level op < 7
op_small Or = omega arith
op_small And = omega arith
op_small Eq = omega arith
op_small Ne = omega arith
op_small Lt = omega arith
op_small Le = omega arith
op_small Gt = omega arith
op_small Ge = omega arith
op_small Add = omega arith
op_small Sub = omega arith
op_small Mul = omega arith
op_small Div = omega arith
op_small Rem = omega arith

-- no sign of a prefix begins an expression of the levels 8 and 9
pub record NoPrefix (ts : List Lexeme) : Type 0 where
  pub bang : behind (codes "!") ts ≡ None
  pub minus : behind (codes "-") ts ≡ None

pub no_prefix : (e : Term) (k : List Lexeme) → 8 ≤ level e → Levelled e → NoPrefix (spell e k)
unfolding behind
no_prefix (int n) k l v = record { bang = refl; minus = refl }
no_prefix (truth n) k l v = record { bang = refl; minus = refl }
no_prefix (string n) k l v = record { bang = refl; minus = refl }
no_prefix (name n) k l v = record { bang = refl; minus = refl }
no_prefix nothing k l v = record { bang = refl; minus = refl }
no_prefix (paren e) k l v = record { bang = refl; minus = refl }
no_prefix (call f e) k l v = record { bang = refl; minus = refl }
no_prefix (not e) k l v = absurd (omega arith)
no_prefix (neg e) k l v = absurd (omega arith)
no_prefix (binary op a b) k l v = absurd (omega (arith, op_small op))
no_prefix (plug base pairs) k l v = no_prefix base (spell_pairs (codes "<[") pairs (lex.Sign (codes "]") ∷ k)) v.0 v.2
