-- The tests of a service that fail, in one walk over its declarations.
use Rattle.std.specs.Prelude.{◌≡◌, ℕ, Bool, true, false, ◌||◌, not, List, [], ◌∷◌, ◌++◌, flat_map, Option, Some, None}
use Rattle.bw_lang.specs.declared.declaration.Declaration.{Declaration}
use Rattle.bw_lang.specs.declared.declaration.Declaration.TheVariants as declarations
use Rattle.bw_lang.specs.declared.service.Literal.{Literal}
use Rattle.bw_lang.specs.declared.service.Literal.TheVariants as literals
use Rattle.bw_lang.specs.declared.service.Service.{Service}
use Rattle.bw_lang.specs.declared.stmt.Kind.{Kind}
use Rattle.bw_lang.specs.declared.stmt.Kind.TheVariants.{Int, Bool as Truth, Str, Html, Strs}
use Rattle.bw_lang.specs.declared.stmt.Receive.{Receive}
use Rattle.bw_lang.specs.Service.Code.{Code, done, declare, assign, if_then, if_else, while_loop, block, for_each, show, exit}
use Rattle.bw_lang.specs.Service.Order.{declarations_of}
use Rattle.bw_lang.specs.Service.Term.{Term}
use Rattle.bw_types.specs.declared.fault.TypeFault.{TypeFault}
use Rattle.bw_types.specs.declared.fault.TypeFault.TheVariants as faults
use Rattle.bw_types.specs.ExpressionFaults.{faults_in, kind_of, wanted, demand, demand_same, name_unknown}
use Rattle.bw_types.specs.Scopes.{Scope, no_locals, is_among, name_of, declared_names, template_kind, variable_kind, with_local, scope_behind, behind_each}
use Rattle.bw_types.specs.TemplateFaults.{fault_if, items_faults}

-- at a local's declaration: its name is taken by the service or by a local in front
abbrev pub local_repeated : Service → Scope → List ℕ → List TypeFault
local_repeated service scope w = fault_if (is_among w (declared_names service) || is_among w scope.taken) (faults.Repeated w)

-- at a local and what it is declared with, of which this kind is demanded
abbrev pub local_faults : Service → Scope → List ℕ → Kind → Term → List TypeFault
local_faults service scope w kind e = local_repeated service scope w ++ wanted service scope kind e

-- a string or a list is demanded
abbrev pub demand_received : Option Kind → List TypeFault
demand_received (Some Strs) = []
demand_received found = demand Str found

-- at a receive: the target is no variable, or one of another kind
abbrev pub receive_fault : Service → Scope → Receive → List TypeFault
receive_fault service scope r = name_unknown r.target (variable_kind service scope r.target) ++ demand_received (variable_kind service scope r.target)

-- the tests of statements that fail
abbrev pub code_faults : Service → Scope → Code → List TypeFault
code_faults service scope done = []
code_faults service scope (declare kind w e rest) =
    local_faults service scope w kind e ++ code_faults service (with_local scope w kind) rest
code_faults service scope (assign w e rest) =
    name_unknown w (variable_kind service scope w) ++ (faults_in service scope e ++
    (demand_same (variable_kind service scope w) (kind_of service scope e) ++ code_faults service scope rest))
code_faults service scope (if_then t y rest) =
    wanted service scope Truth t ++ (code_faults service scope y ++ code_faults service (scope_behind scope y) rest)
code_faults service scope (if_else t y n rest) =
    wanted service scope Truth t ++ (code_faults service scope y ++ (code_faults service (scope_behind scope y) n ++
    code_faults service (scope_behind (scope_behind scope y) n) rest))
code_faults service scope (while_loop t b rest) =
    wanted service scope Truth t ++ (code_faults service scope b ++ code_faults service (scope_behind scope b) rest)
code_faults service scope (block b rest) = code_faults service scope b ++ code_faults service (scope_behind scope b) rest
code_faults service scope (for_each w e b rest) =
    local_faults service scope w Strs e ++ (code_faults service (with_local scope w Str) b ++
    code_faults service (behind_each scope w b) rest)
code_faults service scope (show p rs rest) =
    wanted service scope Html p ++ (flat_map (receive_fault service scope) rs ++ code_faults service scope rest)
code_faults service scope (exit p rest) = wanted service scope Html p ++ code_faults service scope rest

-- the last statement is `exit`
abbrev pub ends_in_exit : Code → Bool
ends_in_exit done = false
ends_in_exit (exit p done) = true
ends_in_exit (exit p rest) = ends_in_exit rest
ends_in_exit (declare kind w e rest) = ends_in_exit rest
ends_in_exit (assign w e rest) = ends_in_exit rest
ends_in_exit (if_then t y rest) = ends_in_exit rest
ends_in_exit (if_else t y n rest) = ends_in_exit rest
ends_in_exit (while_loop t b rest) = ends_in_exit rest
ends_in_exit (block b rest) = ends_in_exit rest
ends_in_exit (for_each w e b rest) = ends_in_exit rest
ends_in_exit (show p rs rest) = ends_in_exit rest

-- the kind of a literal; of a name, that of the template that it names
abbrev pub literal_kind : Service → Literal → Option Kind
literal_kind service (literals.Int n) = Some Int
literal_kind service (literals.Bool b) = Some Truth
literal_kind service (literals.Str s) = Some Str
literal_kind service (literals.Tmpl w) = template_kind service w

-- the literal is the name of no template
abbrev pub literal_unknown : Service → Literal → List TypeFault
literal_unknown service (literals.Tmpl w) = name_unknown w (template_kind service w)
literal_unknown service literal = []

-- a declaration's own tests that fail
abbrev pub own_faults : Service → Declaration → List TypeFault
own_faults service (declarations.Template t) = items_faults service t.name t.items
own_faults service (declarations.Shared v) = literal_unknown service v.init ++ demand v.kind (literal_kind service v.init)
own_faults service (declarations.Session s) =
    code_faults service no_locals s.body ++ fault_if (not (ends_in_exit s.body)) (faults.NoExit s.name)

-- the tests of declarations that fail, where the names of those in front are these: an earlier one has the name, and
-- then its own tests
abbrev pub faults_behind : Service → List (List ℕ) → List Declaration → List TypeFault
faults_behind service earlier [] = []
faults_behind service earlier (d ∷ ds) =
    fault_if (is_among (name_of d) earlier) (faults.Repeated (name_of d)) ++ (own_faults service d ++
    faults_behind service (earlier ++ name_of d ∷ []) ds)

-- all tests that fail, in source order
abbrev pub faults_of : Service → List TypeFault
faults_of service = faults_behind service [] (declarations_of service)

-- the first of them
abbrev pub first_member : List TypeFault → Option TypeFault
first_member [] = None
first_member (fault ∷ more) = Some fault

abbrev pub first_fault : Service → Option TypeFault
first_fault service = first_member (faults_of service)

-- no test fails
abbrev pub IsWellTyped : Service → Type 0
IsWellTyped service = faults_of service ≡ []
