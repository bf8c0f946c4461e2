-- What is known of an expression's value, where rows tell what is known of the variables.
use Rattle.std.specs.Prelude.{ℕ, List, [], ◌∷◌, map, length, if◌then◌else◌, unwrap_or, Option, Some, None}
use Rattle.std.specs.Option.{option_or}
use Rattle.bw_lang.specs.declared.expr.Fun.{Fun}
use Rattle.bw_lang.specs.declared.expr.Fun.TheVariants as funs
use Rattle.bw_lang.specs.declared.expr.Op.{Op}
use Rattle.bw_lang.specs.declared.expr.Op.TheVariants as ops
use Rattle.bw_lang.specs.declared.service.Literal.{Literal}
use Rattle.bw_lang.specs.declared.service.Literal.TheVariants as literals
use Rattle.bw_lang.specs.declared.service.Service.{Service}
use Rattle.bw_lang.specs.declared.service.Shared.{Shared}
use Rattle.bw_lang.specs.Table.Names.{same, name_number}
use Rattle.bw_lang.specs.Service.Term.{Term, int, truth, string, name, paren, not, neg, binary, call, plug, nothing, Fillings, no_more, filling}
use Rattle.bw_flow.specs.declared.point.Local.{Local}
use Rattle.bw_strings.specs.declared.strings.StrSet.TheVariants.{Any, Of}
use Rattle.bw_strings.specs.Literals.{literals_of}
use Rattle.bw_sum.specs.Constants.{constant_of}
use Rattle.bw_sum.specs.Templates.{template_items}
use Rattle.bw_types.specs.Scopes.{template_of}
use Rattle.bw_analyse.specs.declared.abstracts.Abstract.{Abstract}
use Rattle.bw_analyse.specs.declared.abstracts.Abstract.TheVariants.{Nothing, Str, Html}
use Rattle.bw_analyse.specs.Abstracts.{plugged_by}

-- any string
abbrev pub any : Abstract
any = Str Any

-- the string of a literal of the service
abbrev pub one_string : Service → List ℕ → Abstract
one_string service s = Str (Of (name_number (literals_of service) s ∷ []))

-- ---- names

-- what a row tells of the variable of that name, where it tells of variables of these names
abbrev pub of_name : List (List ℕ) → List Abstract → List ℕ → Option Abstract
of_name [] row w = None
of_name (n ∷ ns) [] w = None
of_name (n ∷ ns) (a ∷ row) w = if same w n then Some a else of_name ns row w

-- the names of locals, and of shared variables
abbrev pub local_names : List Local → List (List ℕ)
local_names scope = map (λ l. l.name) scope

abbrev pub shared_names : List Shared → List (List ℕ)
shared_names variables = map (λ v. v.name) variables

-- of a local in scope, and of a shared variable
abbrev pub of_local : List Local → List Abstract → List ℕ → Option Abstract
of_local scope row w = of_name (local_names scope) row w

abbrev pub of_shared : List Shared → List Abstract → List ℕ → Option Abstract
of_shared variables row w = of_name (shared_names variables) row w

-- of a template its constant; nothing of a name that stands for nothing
abbrev pub constant_at : Service → Option ℕ → Abstract
constant_at service None = Nothing
constant_at service (Some n) = Html (constant_of n (template_items service n) (length service.gaps))

-- of what a name stands for: a local in scope, else a shared variable, else a template
abbrev pub look : Service → List Local → List Abstract → List Abstract → List ℕ → Abstract
look service scope row shared w =
    unwrap_or (option_or (of_local scope row w) (of_shared service.shared shared w)) (constant_at service (template_of service w))

-- of a shared variable's literal
abbrev pub of_literal : Service → Literal → Abstract
of_literal service (literals.Int n) = Nothing
of_literal service (literals.Bool b) = Nothing
of_literal service (literals.Str s) = one_string service s
of_literal service (literals.Tmpl w) = constant_at service (template_of service w)

-- ---- expressions

-- of a sum, by its left side: any string, or nothing of a number
abbrev pub summed_by : Abstract → Abstract
summed_by Nothing = Nothing
summed_by (Str s) = any
summed_by (Html s) = Nothing

-- of what an operator gives, by its left side
abbrev pub combined_by : Op → Abstract → Abstract
combined_by ops.Add a = summed_by a
combined_by _ a = Nothing

-- of what a function gives
abbrev pub called_by : Fun → Abstract
called_by funs.Text = any
called_by _ = Nothing

-- A literal is itself; a name is what `names` tells; a parenthesis is its inside; a plug goes pair by pair; `+` on
-- strings and `text` are any string.
abbrev mutual
  pub known : Service → (List ℕ → Abstract) → Term → Abstract
  known service names (int n) = Nothing
  known service names (truth b) = Nothing
  known service names (string s) = one_string service s
  known service names nothing = Nothing
  known service names (name w) = names w
  known service names (paren e) = known service names e
  known service names (not e) = Nothing
  known service names (neg e) = Nothing
  known service names (call f e) = called_by f
  known service names (binary op l r) = combined_by op (known service names l)
  known service names (plug b ps) = known_filled service names ps (known service names b)

  -- of a base with these pairs, one after the other
  pub known_filled : Service → (List ℕ → Abstract) → Fillings → Abstract → Abstract
  known_filled service names no_more a = a
  known_filled service names (filling g e ps) a = known_filled service names ps (plugged_by a (name_number service.gaps g) (known service names e))
