-- What it means that a service is typed, said without tests and without faults.
use Rattle.std.specs.Prelude.{◌≡◌, ◌≢◌, ◌⊎◌, ℕ, true, false, List, Some}
use Rattle.std.specs.List.{All, AllPairs, Contains}
use Rattle.bw_lang.specs.declared.items.Attr.{Attr}
use Rattle.bw_lang.specs.declared.service.Service.{Service}
use Rattle.bw_lang.specs.declared.service.Session.{Session}
use Rattle.bw_lang.specs.declared.stmt.Kind.{Kind}
use Rattle.bw_lang.specs.declared.stmt.Kind.TheVariants.{Int, Bool as Truth, Str, Html, Strs}
use Rattle.bw_lang.specs.declared.stmt.Receive.{Receive}
use Rattle.bw_lang.specs.Service.Code.{Code, done, declare, assign, if_then, if_else, while_loop, block, for_each, show, exit}
use Rattle.bw_lang.specs.Document.Forest.{Forest, none, text, gap, element}
use Rattle.bw_lang.specs.Service.Term.{Term, int, truth, string, name, paren, not, neg, binary, call, plug, nothing, Fillings, no_more, filling}
use Rattle.bw_types.specs.declared.fault.GapKind.{GapKind}
use Rattle.bw_types.specs.declared.fault.GapKind.TheVariants.{Content, Attribute}
use Rattle.bw_types.specs.ExpressionFaults.{OpSort, joins_truths, tests_equality, compares, adds, computes, op_sort, fun_takes, fun_gives}
use Rattle.bw_types.specs.Faults.{literal_kind, ends_in_exit}
use Rattle.bw_types.specs.Fields.{template_fields}
use Rattle.bw_types.specs.Gaps.{kind_of_gap, template_uses}
use Rattle.bw_types.specs.Scopes.{Scope, no_locals, declared_names, name_kind, variable_kind, with_local, scope_behind, behind_each}
use Rattle.bw_types.specs.TemplateFaults.{is_reserved, is_file_input, is_bad_control}

-- An operator of this sort takes two sides of the first kind and gives the second: equality is of all but documents and
-- lists, and + is of numbers or of strings.
abbrev pub Takes : OpSort → Kind → Kind → Type 0
Takes joins_truths side kind = (side ≡ Truth) × (kind ≡ Truth)
Takes tests_equality side kind = (side ≢ Html) × (side ≢ Strs) × (kind ≡ Truth)
Takes compares side kind = (side ≡ Int) × (kind ≡ Truth)
Takes adds side kind = ((side ≡ Int) ⊎ (side ≡ Str)) × (kind ≡ side)
Takes computes side kind = (side ≡ Int) × (kind ≡ Int)

-- a gap of this kind takes values of that kind
abbrev pub Fits : GapKind → Kind → Type 0
Fits Content kind = (kind ≡ Str) ⊎ (kind ≡ Html)
Fits Attribute kind = kind ≡ Str

abbrev mutual
  -- the expression has the kind
  pub HasKind : Service → Scope → Term → Kind → Type 0
  HasKind service scope (int n) kind = kind ≡ Int
  HasKind service scope (truth b) kind = kind ≡ Truth
  HasKind service scope (string s) kind = kind ≡ Str
  HasKind service scope (name w) kind = name_kind service scope w ≡ Some kind
  HasKind service scope (paren e) kind = HasKind service scope e kind
  HasKind service scope (not e) kind = HasKind service scope e Truth × (kind ≡ Truth)
  HasKind service scope (neg e) kind = HasKind service scope e Int × (kind ≡ Int)
  HasKind service scope (binary op l r) kind = (side : Kind) × HasKind service scope l side × HasKind service scope r side × Takes (op_sort op) side kind
  HasKind service scope (call f e) kind = HasKind service scope e (fun_takes f) × (kind ≡ fun_gives f)
  HasKind service scope (plug b ps) kind = HasKind service scope b Html × AreTyped service scope ps × (kind ≡ Html)
  HasKind service scope nothing kind = kind ≡ Strs

  -- each pair's gap stands in a template, and takes the kind of the value
  pub AreTyped : Service → Scope → Fillings → Type 0
  AreTyped service scope no_more = Unit {0}
  AreTyped service scope (filling w e ps) =
      ((g : GapKind) × (kind : Kind) × (kind_of_gap service w ≡ Some g) × HasKind service scope e kind × Fits g kind) × AreTyped service scope ps

-- no declaration of the service and no local in front has the name
abbrev pub IsNew : Service → Scope → List ℕ → Type 0
IsNew service scope w = (¬ (Contains (declared_names service) w)) × (¬ (Contains scope.taken w))

-- the receive's target is a variable for a string or for a list
abbrev pub IsReceived : Service → Scope → Receive → Type 0
IsReceived service scope r = (variable_kind service scope r.target ≡ Some Str) ⊎ (variable_kind service scope r.target ≡ Some Strs)

-- the statements are typed
abbrev pub IsTypedCode : Service → Scope → Code → Type 0
IsTypedCode service scope done = Unit {0}
IsTypedCode service scope (declare kind w e rest) = IsNew service scope w × HasKind service scope e kind × IsTypedCode service (with_local scope w kind) rest
IsTypedCode service scope (assign w e rest) =
    ((kind : Kind) × (variable_kind service scope w ≡ Some kind) × HasKind service scope e kind) × IsTypedCode service scope rest
IsTypedCode service scope (if_then t y rest) = HasKind service scope t Truth × IsTypedCode service scope y × IsTypedCode service (scope_behind scope y) rest
IsTypedCode service scope (if_else t y n rest) =
    HasKind service scope t Truth × IsTypedCode service scope y × IsTypedCode service (scope_behind scope y) n
    × IsTypedCode service (scope_behind (scope_behind scope y) n) rest
IsTypedCode service scope (while_loop t b rest) = HasKind service scope t Truth × IsTypedCode service scope b × IsTypedCode service (scope_behind scope b) rest
IsTypedCode service scope (block b rest) = IsTypedCode service scope b × IsTypedCode service (scope_behind scope b) rest
IsTypedCode service scope (for_each w e b rest) =
    IsNew service scope w × HasKind service scope e Strs × IsTypedCode service (with_local scope w Str) b × IsTypedCode service (behind_each scope w b) rest
IsTypedCode service scope (show p rs rest) = HasKind service scope p Html × All (IsReceived service scope) rs × IsTypedCode service scope rest
IsTypedCode service scope (exit p rest) = HasKind service scope p Html × IsTypedCode service scope rest

-- each element at all levels is so
abbrev pub EachElement : (List ℕ → List Attr → Type 0) → Forest → Type 0
EachElement P none = Unit {0}
EachElement P (text s rest) = EachElement P rest
EachElement P (gap g rest) = EachElement P rest
EachElement P (element tag attrs inner rest) = P tag attrs × EachElement P inner × EachElement P rest

-- the session's body is typed, and ends in `exit`
abbrev pub IsTypedSession : Service → Session → Type 0
IsTypedSession service s = IsTypedCode service no_locals s.body × (ends_in_exit s.body ≡ true)

-- The service is typed: no two declarations have one name; a gap has one kind in all templates, and so has a field; no
-- element is one of the page's, no control is bad and none is a file; each shared variable begins with a value of its
-- kind; and the sessions are typed.
pub record IsTypedService (service : Service) : Type 0 where
  pub names : AllPairs (λ v w. v ≢ w) (declared_names service)
  pub gaps : AllPairs (λ x y. x.0 ≡ y.0 → x.1 ≡ y.1) (template_uses service.templates)
  pub fields : AllPairs (λ x y. x.0 ≡ y.0 → x.1 ≡ y.1) (template_fields service.templates)
  pub tags : All (λ t. EachElement (λ tag attrs. is_reserved tag ≡ false) t.items) service.templates
  pub files : All (λ t. EachElement (λ tag attrs. is_file_input tag attrs ≡ false) t.items) service.templates
  pub controls : All (λ t. EachElement (λ tag attrs. is_bad_control tag attrs ≡ false) t.items) service.templates
  pub shared : All (λ v. literal_kind service v.init ≡ Some v.kind) service.shared
  pub sessions : All (IsTypedSession service) service.sessions
