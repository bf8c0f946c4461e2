-- What the code's expressions stand for.
use Rattle.std.specs.Prelude.{List, [], ◌∷◌}
use Rattle.bw_lang.specs.declared.expr.Expr.{Expr}
use Rattle.bw_lang.specs.declared.expr.Expr.TheVariants.{Int, Bool, Str, Name, Paren, Not, Neg, Binary, Call, Plug, Nothing}
use Rattle.bw_lang.specs.declared.expr.Pair.{Pair}
use Rattle.bw_lang.specs.Service.Term.{Term, int, truth, string, name, paren, not, neg, binary, call, plug, nothing, Fillings, no_more, filling}

abbrev pub term : Expr → Term
term (Int n) = int n
term (Bool b) = truth b
term (Str s) = string s
term (Name w) = name w
term (Paren e) = paren e
term (Not e) = not e
term (Neg e) = neg e
term (Binary op l r) = binary op l r
term (Call f e) = call f e
term (Plug b ps) = plug b ps
term Nothing = nothing

abbrev pub fillings : List Pair → Fillings
fillings [] = no_more
fillings (p ∷ ps) = filling p.gap (term p.value) (fillings ps)
