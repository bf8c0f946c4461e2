-- What the names of templates and gaps in a typed service stand for.
use Rattle.std.specs.Prelude.{◌≡◌, ◌<◌, ℕ, List, length, is_some, true, Some}
use Rattle.std.specs.List.{All}
use Rattle.bw_lang.specs.declared.service.Literal.{Literal}
use Rattle.bw_lang.specs.declared.service.Literal.TheVariants as literals
use Rattle.bw_lang.specs.declared.service.Service.{Service}
use Rattle.bw_lang.specs.declared.stmt.Kind.{Kind}
use Rattle.bw_lang.specs.declared.stmt.Kind.TheVariants.{Int, Bool as Truth, Str, Html}
use Rattle.bw_lang.specs.Table.Names.{name_number}
use Rattle.bw_lang.specs.Service.Reads.{IsReadable}
use Rattle.bw_lang.specs.Service.Term.{Fillings, no_more, filling}
use Rattle.bw_types.specs.declared.fault.GapKind.{GapKind}
use Rattle.bw_types.specs.Faults.{IsWellTyped}
use Rattle.bw_types.specs.Gaps.{gap_number, kind_of_gap, kind_of_number}
use Rattle.bw_types.specs.Scopes.{Scope, template_of}
use Rattle.bw_types.specs.Typing.{AreTyped}

-- a template of the service has the name
abbrev pub NamesTemplate : Service → List ℕ → Type 0
NamesTemplate service w = (n : ℕ) × (template_of service w ≡ Some n) × (n < length service.templates)

-- the literal is one of this kind: a document is the name of a template
abbrev pub IsLiteral : Service → Literal → Kind → Type 0
IsLiteral service (literals.Int n) kind = kind ≡ Int
IsLiteral service (literals.Bool b) kind = kind ≡ Truth
IsLiteral service (literals.Str s) kind = kind ≡ Str
IsLiteral service (literals.Tmpl w) kind = (kind ≡ Html) × NamesTemplate service w

-- each shared variable begins with a literal of its kind
abbrev pub SharedBegin : Type 0
SharedBegin = (service : Service) → ∥ IsReadable service ∥₁ → IsWellTyped service → All (λ v. IsLiteral service v.init v.kind) service.shared

-- the name is that of a gap of this kind: it has a number, of the table of gaps, and the kind is that of its number
pub record IsGapOf (service : Service) (w : List ℕ) (kind : GapKind) : Type 0 where
  pub numbered : gap_number service w ≡ Some (name_number service.gaps w)
  pub inside : name_number service.gaps w < length service.gaps
  pub has_kind : kind_of_number service (name_number service.gaps w) ≡ Some kind

-- a name that has the kind of a gap is that of one
abbrev pub GapsHaveNumbers : Type 0
GapsHaveNumbers = (service : Service) → ∥ IsReadable service ∥₁ → (w : List ℕ) (kind : GapKind) → kind_of_gap service w ≡ Some kind → IsGapOf service w kind

-- each name is that of a gap
abbrev pub ArePlugged : Service → Fillings → Type 0
ArePlugged service no_more = Unit {0}
ArePlugged service (filling w e ps) = ((kind : GapKind) × IsGapOf service w kind) × ArePlugged service ps

-- so it is with the pairs of a plug that is typed
abbrev pub PlugsAreKnown : Type 0
PlugsAreKnown = (service : Service) → ∥ IsReadable service ∥₁ → (scope : Scope) (ps : Fillings) → AreTyped service scope ps → ArePlugged service ps

-- each gap of the table has a kind
abbrev pub GapsHaveKinds : Type 0
GapsHaveKinds = (service : Service) → ∥ IsReadable service ∥₁ → (g : ℕ) → g < length service.gaps → is_some (kind_of_number service g) ≡ true
