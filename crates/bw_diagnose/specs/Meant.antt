-- Which name may be meant by one that is unknown: the nearest of those that may stand there.
use Rattle.std.specs.Prelude.{ℕ, ◌+◌, ◌-◌, Bool, ◌&&◌, ◌||◌, if◌then◌else◌, List, [], ◌∷◌, ◌++◌, codes, Option, Some, None, slice_get}
use Rattle.bw_blame.specs.declared.site.Blamed.{Blamed}
use Rattle.bw_blame.specs.declared.site.Site.{Site}
use Rattle.bw_blame.specs.declared.site.Site.TheVariants as sites
use Rattle.bw_hints.specs.declared.hints.Role.{Role}
use Rattle.bw_hints.specs.declared.hints.Role.TheVariants as roles
use Rattle.bw_lang.specs.declared.declaration.Draft.{Draft}
use Rattle.bw_lang.specs.declared.declaration.Draft.TheVariants as drafts
use Rattle.bw_lang.specs.declared.token.Lexeme.{Lexeme}
use Rattle.bw_near.specs.Near.{nearest}
use Rattle.bw_places.specs.Scopes.{locals_at}
use Rattle.bw_places.specs.Seeking.{declared_at}
use Rattle.bw_places.specs.declared.span.Span.{Span}
use Rattle.bw_types.specs.declared.fault.TypeFault.{TypeFault}
use Rattle.bw_types.specs.declared.fault.TypeFault.TheVariants as typing
use Rattle.bw_diagnose.specs.Finding.{sign_at}
use Rattle.bw_diagnose.specs.Gaps.{gaps_in}
use Rattle.bw_diagnose.specs.Known.{lexemes_in}
use Rattle.bw_diagnose.specs.declared.gaps.Part.TheVariants as parts
use Rattle.bw_diagnose.specs.declared.names.Sort.{Sort}
use Rattle.bw_diagnose.specs.declared.names.Sort.TheVariants as sorts

-- the names that a declaration brings in: a template's, a shared variable's, or those of the gaps in a template
abbrev pub own_names : Sort → Draft → List (List ℕ)
own_names sorts.Template (drafts.Template w inside) = w ∷ []
own_names sorts.Shared (drafts.Shared kind w init) = w ∷ []
own_names sorts.Gap (drafts.Template w inside) = gaps_in parts.Outside inside
own_names sort d = []

-- those of all declarations
abbrev pub declared_names : Sort → List Draft → List (List ℕ)
declared_names sort [] = []
declared_names sort (d ∷ ds) = own_names sort d ++ declared_names sort ds

-- the locals that are in scope at a token of a declaration
abbrev pub locals_there : Option Draft → ℕ → List (List ℕ)
locals_there (Some (drafts.Session s)) at = locals_at s.body 5 at []
locals_there other at = []

-- the variables that are in scope there, and with them the templates
abbrev pub variables_there : List Draft → ℕ → ℕ → List (List ℕ)
variables_there ds d at = locals_there (slice_get ds d) at ++ declared_names sorts.Shared ds

abbrev pub values_there : List Draft → ℕ → ℕ → List (List ℕ)
values_there ds d at = variables_there ds d at ++ declared_names sorts.Template ds

-- a token is the name of a gap that is plugged: `=` stands behind it, and `<[` or `,` in front
abbrev pub is_plugged : List Lexeme → ℕ → Bool
is_plugged ls at = sign_at ls (at + 1) (codes "=") && (sign_at ls (at - 1) (codes "<[") || sign_at ls (at - 1) (codes ","))

-- The names that may stand at a token, the one of number `at` of declaration d: those of gaps; of variables, where it is set;
-- and else of templates too.
abbrev pub names_at : List Lexeme → List Draft → ℕ → ℕ → ℕ → List (List ℕ)
names_at ls ds d token at =
    if is_plugged ls token then declared_names sorts.Gap ds
    else (if sign_at ls (token + 1) (codes "=") then variables_there ds d at else values_there ds d at)

-- which names may stand at a site of a declaration whose first token is `own`
abbrev pub may_stand : List Lexeme → List Draft → ℕ → ℕ → Site → List (List ℕ)
may_stand ls ds d own (sites.Tokens from to) = names_at ls ds d (own + from) from
may_stand ls ds d own (sites.Target at) = variables_there ds d at
may_stand ls ds d own sites.Literal = declared_names sorts.Template ds
may_stand ls ds d own site = []

-- the same, where the declaration has these tokens
abbrev pub stand_in : List Lexeme → List Draft → Blamed → Option Span → List (List ℕ)
stand_in ls ds b None = []
stand_in ls ds b (Some own) = may_stand ls ds b.declaration own.from b.site

-- what a test is about, at a site of a declaration whose first token is `own`
abbrev pub role_at : List Lexeme → ℕ → Site → Role
role_at ls own (sites.Tokens from to) = if is_plugged ls (own + from) then roles.Gap else roles.Value
role_at ls own (sites.Target at) = roles.Target
role_at ls own sites.Literal = roles.Literal
role_at ls own site = roles.Value

abbrev pub role_in : List Lexeme → Site → Option Span → Role
role_in ls site None = roles.Value
role_in ls site (Some own) = role_at ls own.from site

abbrev pub role_of : List ℕ → List Draft → Option Blamed → Role
role_of text ds None = roles.Value
role_of text ds (Some b) = role_in (lexemes_in text) b.site (declared_at ds b.declaration 3)

-- the name that may be meant by an unknown one
abbrev pub meant : List ℕ → List Draft → Option Blamed → TypeFault → Option (List ℕ)
meant text ds (Some b) (typing.Unknown w) = nearest w (stand_in (lexemes_in text) ds b (declared_at ds b.declaration 3))
meant text ds blamed fault = None
