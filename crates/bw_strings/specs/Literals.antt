-- The string literals of a service.
use Rattle.std.specs.Prelude.{ℕ, List, [], ◌∷◌, ◌++◌, flat_map}
use Rattle.bw_lang.specs.declared.declaration.Declaration.{Declaration}
use Rattle.bw_lang.specs.declared.declaration.Declaration.TheVariants as declarations
use Rattle.bw_lang.specs.declared.service.Literal.{Literal}
use Rattle.bw_lang.specs.declared.service.Literal.TheVariants as literals
use Rattle.bw_lang.specs.declared.service.Service.{Service}
use Rattle.bw_lang.specs.Service.Code.{Code, done, declare, assign, if_then, if_else, while_loop, block, for_each, show, exit}
use Rattle.bw_lang.specs.Table.Names.{with_names}
use Rattle.bw_lang.specs.Service.Order.{declarations_of}
use Rattle.bw_lang.specs.Service.Term.{Term, int, truth, string, name, paren, not, neg, binary, call, plug, nothing, Fillings, no_more, filling}

-- what the string literals of an expression stand for, and those of the pairs of a plug, in source order
abbrev mutual
  pub term_strings : Term → List (List ℕ)
  term_strings (int n) = []
  term_strings (truth b) = []
  term_strings (string s) = s ∷ []
  term_strings (name w) = []
  term_strings (paren e) = term_strings e
  term_strings (not e) = term_strings e
  term_strings (neg e) = term_strings e
  term_strings (binary op l r) = term_strings l ++ term_strings r
  term_strings (call f e) = term_strings e
  term_strings (plug b ps) = term_strings b ++ filling_strings ps
  term_strings nothing = []

  pub filling_strings : Fillings → List (List ℕ)
  filling_strings no_more = []
  filling_strings (filling w e ps) = term_strings e ++ filling_strings ps

-- of statements
abbrev pub code_strings : Code → List (List ℕ)
code_strings done = []
code_strings (declare t w e rest) = term_strings e ++ code_strings rest
code_strings (assign w e rest) = term_strings e ++ code_strings rest
code_strings (if_then t y rest) = term_strings t ++ (code_strings y ++ code_strings rest)
code_strings (if_else t y n rest) = term_strings t ++ (code_strings y ++ (code_strings n ++ code_strings rest))
code_strings (while_loop t b rest) = term_strings t ++ (code_strings b ++ code_strings rest)
code_strings (block b rest) = code_strings b ++ code_strings rest
code_strings (for_each w e b rest) = term_strings e ++ (code_strings b ++ code_strings rest)
code_strings (show p rs rest) = term_strings p ++ code_strings rest
code_strings (exit p rest) = term_strings p ++ code_strings rest

-- of the first value of a shared variable
abbrev pub literal_strings : Literal → List (List ℕ)
literal_strings (literals.Str s) = s ∷ []
literal_strings l = []

-- of a declaration
abbrev pub declaration_strings : Declaration → List (List ℕ)
declaration_strings (declarations.Template t) = []
declaration_strings (declarations.Shared v) = literal_strings v.init
declaration_strings (declarations.Session s) = code_strings s.body

-- the different strings that the literals of a service stand for, by their first places, and then the service's name, where it isn't one of them
abbrev pub literals_of : Service → List (List ℕ)
literals_of service = with_names [] (flat_map declaration_strings (declarations_of service) ++ service.name ∷ [])
