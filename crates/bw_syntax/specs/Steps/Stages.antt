-- What each step of reading gives, and why it gives nothing.
-- It only follows the steps of the code: nothing is promised by it.
use Rattle.std.specs.Prelude.{◌≡◌, ◌≤◌, ◌<◌, ◌^◌, ℕ, List, [], ◌∷◌, length, Some, None, ⊤}
use Rattle.bw_lang.specs.declared.declaration.Declaration.{Declaration}
use Rattle.bw_lang.specs.declared.declaration.Draft.{Draft}
use Rattle.bw_lang.specs.declared.declaration.Draft.TheVariants as drafts
use Rattle.bw_lang.specs.declared.service.Service.{Service}
use Rattle.bw_lang.specs.declared.token.Lexeme.{Lexeme}
use Rattle.bw_lang.specs.Text.Brackets.{too_deep}
use Rattle.bw_lang.specs.Service.CodeNames.{local_names}
use Rattle.bw_lang.specs.Service.Drafts.{AreFormed, spell_service}
use Rattle.bw_lang.specs.Service.Limits.{too_many}
use Rattle.bw_lang.specs.Service.Reads.{AreRead, service_of}
use Rattle.bw_lang.specs.Text.Words.{IsName}
use Rattle.bw_syntax.specs.declared.fault.SyntaxFault.{SyntaxFault}
use Rattle.bw_syntax.specs.declared.fault.SyntaxFault.TheVariants as faults
use Rattle.bw_syntax.specs.Refusals.{SpellNothing, IsFirstUnread}
use Rattle.bw_lang.specs.declared.limits.TheConstants.{MAX_FILE_BYTES}

-- the lexemes pass no limit, and are those of this service
pub record IsParsed (ls : List Lexeme) (name : List ℕ) (ds : List Draft) : Type 0 where
  pub shallow : too_deep ls ≡ None
  pub named : IsName name
  pub formed : AreFormed ds
  pub spelled : ls ≡ spell_service name ds

-- the lexemes, of a text of so many bytes, pass a limit or are those of no service
abbrev pub IsUnparsed : List Lexeme → ℕ → SyntaxFault → Type 0
IsUnparsed ls len (faults.TooMany limit n) = too_deep ls ≡ Some (limit, n)
IsUnparsed ls len (faults.Syntax at) = (too_deep ls ≡ None) × SpellNothing ls × (at ≤ len)
IsUnparsed ls len faults.Memory = ⊤
IsUnparsed ls len fault = ⊥

-- the service has this name and these declarations, whose templates read as they are written, and passes no limit
pub record IsServiceOf (name : List ℕ) (ds : List Draft) (service : Service) : Type 0 where
  pub declarations : List Declaration
  pub gaps : List (List ℕ)
  pub read : AreRead [] ds declarations gaps
  pub within : too_many name gaps declarations ≡ None
  pub whole : service ≡ service_of name gaps declarations

-- a template is refused, or a limit is passed
abbrev pub IsRefusedDraft : List ℕ → List Draft → SyntaxFault → Type 0
IsRefusedDraft name ds (faults.Template n fault) = IsFirstUnread [] ds (faults.Template n fault)
IsRefusedDraft name ds (faults.TooMany limit n) =
    (rs : List Declaration) × (gaps : List (List ℕ)) × AreRead [] ds rs gaps × (too_many name gaps rs ≡ Some (limit, n))
IsRefusedDraft name ds faults.Memory = ⊤
IsRefusedDraft name ds fault = ⊥

-- what is written in a text that isn't too long has so few bytes in each template, and declares so few locals
abbrev pub IsBounded : Draft → Type 0
IsBounded (drafts.Template name inside) = length inside ≤ MAX_FILE_BYTES
IsBounded (drafts.Shared kind name init) = ⊤
IsBounded (drafts.Session s) = length (local_names s.body) < 2 ^ 64

abbrev pub AreBounded : List Draft → Type 0
AreBounded [] = ⊤
AreBounded (d ∷ ds) = IsBounded d × AreBounded ds
