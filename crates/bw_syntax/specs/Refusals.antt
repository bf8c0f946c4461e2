-- Why bytes read as no service.
use Rattle.std.specs.Prelude.{◌≡◌, ◌≢◌, ◌≤◌, ◌<◌, ◌⊎◌, ℕ, List, [], ◌∷◌, length, Some, None, Result, Ok, Err, ⊤}
use Rattle.bw_lang.specs.declared.declaration.Declaration.{Declaration}
use Rattle.bw_lang.specs.declared.declaration.Draft.{Draft}
use Rattle.bw_lang.specs.declared.declaration.Draft.TheVariants as drafts
use Rattle.bw_lang.specs.declared.limits.Limit.{Limit}
use Rattle.bw_lang.specs.declared.token.Lexeme.{Lexeme}
use Rattle.bw_lang.specs.Text.Brackets.{too_deep}
use Rattle.bw_lang.specs.Service.Drafts.{AreFormed, spell_service}
use Rattle.bw_lang.specs.Service.Limits.{too_many}
use Rattle.bw_lang.specs.Service.Reads.{IsText, IsDraft, IsRead, AreRead}
use Rattle.bw_lang.specs.Text.Words.{IsName}
use Rattle.bw_lex.specs.Refusals.{IsTextRefused as IsUntokened}
use Rattle.bw_tmpl.specs.Refusals.{IsTemplateRefused}
use Rattle.bw_tmpl.specs.declared.fault.TmplFault.TheVariants as templates
use Rattle.bw_syntax.specs.declared.fault.SyntaxFault.{SyntaxFault}
use Rattle.bw_syntax.specs.declared.fault.SyntaxFault.TheVariants as faults
use Rattle.bw_lang.specs.declared.limits.TheConstants.{MAX_FILE_BYTES, MAX_TEMPLATE_NEST}

-- the declaration is a template that is refused so; or there was no memory
abbrev pub IsUnread : Draft → SyntaxFault → Type 0
IsUnread (drafts.Template name inside) (faults.Template n fault) = (n ≡ name) × IsTemplateRefused MAX_TEMPLATE_NEST inside fault × (fault ≢ templates.Memory)
IsUnread draft faults.Memory = ⊤
IsUnread draft fault = ⊥

-- the first of the declarations whose template is refused is refused so; in front of them gaps have these names
abbrev pub IsFirstUnread : List (List ℕ) → List Draft → SyntaxFault → Type 0
IsFirstUnread before [] fault = fault ≡ faults.Memory
IsFirstUnread before (d ∷ ds) fault =
    IsUnread d fault ⊎ ((r : Declaration) × (next : List (List ℕ)) × IsRead before d r next × IsFirstUnread next ds fault)

-- the lexemes are those of no service
abbrev pub SpellNothing : List Lexeme → Type 0
SpellNothing ls = (name : List ℕ) (ds : List Draft) → IsName name → AreFormed ds → ls ≡ spell_service name ds → ⊥

-- the text passes a limit of its brackets or stretches
pub record IsDeep (bytes : List ℕ) (limit : Limit) (n : ℕ) : Type 0 where
  pub lexemes : List Lexeme
  pub text : IsText bytes lexemes
  pub passed : too_deep lexemes ≡ Some (limit, n)

-- the text passes none of these, and its lexemes are those of no service
pub record IsNoService (bytes : List ℕ) (at : ℕ) : Type 0 where
  pub lexemes : List Lexeme
  pub text : IsText bytes lexemes
  pub shallow : too_deep lexemes ≡ None
  pub nothing : SpellNothing lexemes
  pub place : at ≤ length bytes

-- the text is written for a service, one of whose templates is refused
pub record IsUnreadDraft (bytes : List ℕ) (fault : SyntaxFault) : Type 0 where
  pub name : List ℕ
  pub drafts : List Draft
  pub drafted : IsDraft bytes name drafts
  pub unread : IsFirstUnread [] drafts fault

-- the text is written for a service whose templates read as they are written, and which passes a limit
pub record IsGreat (bytes : List ℕ) (limit : Limit) (n : ℕ) : Type 0 where
  pub name : List ℕ
  pub drafts : List Draft
  pub drafted : IsDraft bytes name drafts
  pub declarations : List Declaration
  pub gaps : List (List ℕ)
  pub read : AreRead [] drafts declarations gaps
  pub passed : too_many name gaps declarations ≡ Some (limit, n)

-- The bytes read as no service, for this reason. Each reason rules out those in front of it, and want of memory may come
-- anywhere.
abbrev pub IsServiceRefused : List ℕ → SyntaxFault → Type 0
IsServiceRefused bytes faults.TooLong = MAX_FILE_BYTES < length bytes
IsServiceRefused bytes (faults.Lex fault) = (length bytes ≤ MAX_FILE_BYTES) × IsUntokened bytes fault
IsServiceRefused bytes (faults.TooMany limit n) = IsDeep bytes limit n ⊎ IsGreat bytes limit n
IsServiceRefused bytes (faults.Syntax at) = IsNoService bytes at
IsServiceRefused bytes (faults.Template name fault) = IsUnreadDraft bytes (faults.Template name fault)
IsServiceRefused bytes faults.Memory = ⊤

-- the same reason; the place of a fault of syntax is left open
abbrev pub IsSameFault : SyntaxFault → SyntaxFault → Type 0
IsSameFault (faults.Syntax at) (faults.Syntax other) = ⊤
IsSameFault fault other = fault ≡ other

-- the answer is this reason; or there was no memory
abbrev pub IsSameAnswer : {A : Type 0} → Result A SyntaxFault → SyntaxFault → Type 0
IsSameAnswer (Err faults.Memory) fault = ⊤
IsSameAnswer (Err answer) fault = (fault ≡ faults.Memory) ⊎ IsSameFault answer fault
IsSameAnswer (Ok x) fault = fault ≡ faults.Memory
