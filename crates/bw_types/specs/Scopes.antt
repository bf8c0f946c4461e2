-- What names stand for.
use Rattle.std.specs.Prelude.{ℕ, Bool, if◌then◌else◌, List, [], ◌∷◌, ◌++◌, map, position, Option, Some, None}
use Rattle.std.specs.List.{list_any}
use Rattle.std.specs.Option.{option_or}
use Rattle.bw_lang.specs.declared.declaration.Declaration.{Declaration}
use Rattle.bw_lang.specs.declared.declaration.Declaration.TheVariants as declarations
use Rattle.bw_lang.specs.declared.service.Service.{Service}
use Rattle.bw_lang.specs.declared.stmt.Kind.{Kind}
use Rattle.bw_lang.specs.declared.stmt.Kind.TheVariants as kinds
use Rattle.bw_lang.specs.Service.Code.{Code}
use Rattle.bw_lang.specs.Service.CodeNames.{local_names}
use Rattle.bw_lang.specs.Table.Names.{same, beside}
use Rattle.bw_lang.specs.Service.Order.{declarations_of}

-- the name is one of these
abbrev pub is_among : List ℕ → List (List ℕ) → Bool
is_among w names = list_any (same w) names

-- what a declaration brings in
abbrev pub name_of : Declaration → List ℕ
name_of (declarations.Template t) = t.name
name_of (declarations.Shared v) = v.name
name_of (declarations.Session s) = s.name

-- the names of all declarations, which share one name space
abbrev pub declared_names : Service → List (List ℕ)
declared_names service = map name_of (declarations_of service)

abbrev pub template_names : Service → List (List ℕ)
template_names service = map (λ t. t.name) service.templates

abbrev pub session_names : Service → List (List ℕ)
session_names service = map (λ s. s.name) service.sessions

-- the shared variables with their kinds
abbrev pub shared_kinds : Service → List (List ℕ × Kind)
shared_kinds service = map (λ v. (v.name, v.kind)) service.shared

-- What a place in a session's body sees: the locals in scope with their kinds, the newest first, and the names of all
-- locals that the session declares in front of the place, in scope or not.
pub record Scope : Type 0 where
  pub locals : List (List ℕ × Kind)
  pub taken : List (List ℕ)

-- where a session begins
abbrev pub no_locals : Scope
no_locals = record { locals = []; taken = [] }

-- the kind of the shared variable of that name
abbrev pub shared_kind : Service → List ℕ → Option Kind
shared_kind service w = beside w (shared_kinds service)

-- the kind of the local in scope, or else of the shared variable, of that name
abbrev pub variable_kind : Service → Scope → List ℕ → Option Kind
variable_kind service scope w = option_or (beside w scope.locals) (shared_kind service w)

-- a template is a document
abbrev pub template_kind : Service → List ℕ → Option Kind
template_kind service w = if is_among w (template_names service) then Some kinds.Html else None

-- the kind of what the name stands for in an expression: a variable or a template
abbrev pub name_kind : Service → Scope → List ℕ → Option Kind
name_kind service scope w = option_or (variable_kind service scope w) (template_kind service w)

-- the scope behind the declaration of a local
abbrev pub with_local : Scope → List ℕ → Kind → Scope
with_local scope w kind = record { locals = (w, kind) ∷ scope.locals; taken = scope.taken ++ w ∷ [] }

-- the scope behind a block, whose locals are out of scope again
abbrev pub scope_behind : Scope → Code → Scope
scope_behind scope inner = record { locals = scope.locals; taken = scope.taken ++ local_names inner }

-- the scope behind a foreach with its local and its body
abbrev pub behind_each : Scope → List ℕ → Code → Scope
behind_each scope w body = record { locals = scope.locals; taken = scope.taken ++ w ∷ local_names body }

-- the number of the template of that name: its place among the templates
abbrev pub template_of : Service → List ℕ → Option ℕ
template_of service w = position (λ t. same w t.name) service.templates

-- the number of the session of that name
abbrev pub session_of : Service → List ℕ → Option ℕ
session_of service w = position (λ s. same w s.name) service.sessions
