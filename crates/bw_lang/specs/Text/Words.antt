-- The words and signs that a service is written with.
use Rattle.std.specs.Prelude.{◌≡◌, ℕ, Bool, true, false, List, codes}
use Rattle.bw_lang.specs.declared.expr.Op.{Op}
use Rattle.bw_lang.specs.declared.expr.Op.TheVariants as ops
use Rattle.bw_lang.specs.declared.expr.Fun.{Fun}
use Rattle.bw_lang.specs.declared.expr.Fun.TheVariants as funs
use Rattle.bw_lang.specs.declared.stmt.Kind.{Kind}
use Rattle.bw_lang.specs.declared.stmt.Kind.TheVariants as kinds
use Rattle.bw_lang.specs.Text.Keywords.{is_keyword}

abbrev pub truth_word : Bool → List ℕ
truth_word true = codes "true"
truth_word false = codes "false"

abbrev pub fun_word : Fun → List ℕ
fun_word funs.Text = codes "text"
fun_word funs.Number = codes "number"
fun_word funs.IsNumber = codes "isnumber"
fun_word funs.Count = codes "count"

abbrev pub kind_word : Kind → List ℕ
kind_word kinds.Int = codes "int"
kind_word kinds.Bool = codes "bool"
kind_word kinds.Str = codes "string"
kind_word kinds.Html = codes "html"
kind_word kinds.Strs = codes "strings"

abbrev pub op_sign : Op → List ℕ
op_sign ops.Or = codes "||"
op_sign ops.And = codes "&&"
op_sign ops.Eq = codes "=="
op_sign ops.Ne = codes "!="
op_sign ops.Lt = codes "<"
op_sign ops.Le = codes "<="
op_sign ops.Gt = codes ">"
op_sign ops.Ge = codes ">="
op_sign ops.Add = codes "+"
op_sign ops.Sub = codes "-"
op_sign ops.Mul = codes "*"
op_sign ops.Div = codes "/"
op_sign ops.Rem = codes "%"

-- a word that may name a template, a session or a variable
abbrev pub IsName : List ℕ → Type 0
IsName w = is_keyword w ≡ false
