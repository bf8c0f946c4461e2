-- Which bytes read as which service.
use Rattle.std.specs.Prelude.{◌≡◌, ◌≤◌, ℕ, List, [], ◌∷◌, length, map, None}
use Rattle.bw_lang.specs.declared.declaration.Declaration.{Declaration}
use Rattle.bw_lang.specs.declared.declaration.Declaration.TheVariants as declarations
use Rattle.bw_lang.specs.declared.declaration.Draft.{Draft}
use Rattle.bw_lang.specs.declared.declaration.Draft.TheVariants as drafts
use Rattle.bw_lang.specs.declared.service.Service.{Service}
use Rattle.bw_lang.specs.declared.token.Lexeme.{Lexeme}
use Rattle.bw_lang.specs.declared.token.Token.{Token}
use Rattle.bw_lang.specs.Text.Brackets.{too_deep}
use Rattle.bw_lang.specs.Text.Cuts.{AreTokens}
use Rattle.bw_lang.specs.Service.Drafts.{literal_of, AreFormed, spell_service}
use Rattle.bw_lang.specs.Document.Forest.{Forest}
use Rattle.bw_lang.specs.Text.Lexemes.{lexeme}
use Rattle.bw_lang.specs.Service.Limits.{too_many}
use Rattle.bw_lang.specs.Table.Names.{with_names}
use Rattle.bw_lang.specs.Template.PieceGaps.{gap_names}
use Rattle.bw_lang.specs.Service.Sorted.{sort_of, templates_of, shared_of, sessions_of}
use Rattle.bw_lang.specs.Template.Templates.{IsTemplate}
use Rattle.bw_lang.specs.Text.Words.{IsName}
use Rattle.bw_lang.specs.declared.limits.TheConstants.{MAX_FILE_BYTES, MAX_TEMPLATE_NEST}

-- what the tokens of the bytes say
abbrev pub lexemes : List ℕ → List Token → List Lexeme
lexemes bytes tokens = map (lexeme bytes) tokens

-- the bytes are a text within the limit of files whose tokens say this
pub record IsText (bytes : List ℕ) (ls : List Lexeme) : Type 0 where
  pub short : length bytes ≤ MAX_FILE_BYTES
  pub tokens : List Token
  pub cut : AreTokens bytes tokens
  pub says : ls ≡ lexemes bytes tokens

-- the bytes are a text that passes no limit of its brackets and stretches, and it is written for this service
pub record IsDraft (bytes : List ℕ) (name : List ℕ) (drafts : List Draft) : Type 0 where
  pub lexemes : List Lexeme
  pub text : IsText bytes lexemes
  pub shallow : too_deep lexemes ≡ None
  pub named : IsName name
  pub formed : AreFormed drafts
  pub spelled : lexemes ≡ spell_service name drafts

-- A template's inside reads as these items, at most 64 elements inside one another. Its gaps have their numbers by the
-- table `after`: the names of `before`, and then those that it has besides, in the order in which they stand.
pub record IsInside (before : List (List ℕ)) (inside : List ℕ) (items : Forest) (after : List (List ℕ)) : Type 0 where
  pub read : IsTemplate after MAX_TEMPLATE_NEST inside items
  pub names : after ≡ with_names before (gap_names read.pieces)

-- The declaration is the drafted one, with its template read. In front of it gaps had the names of `before`, and behind
-- it those of `after`.
abbrev pub IsRead : List (List ℕ) → Draft → Declaration → List (List ℕ) → Type 0
IsRead before (drafts.Template name inside) (declarations.Template t) after = (t.name ≡ name) × IsInside before inside t.items after
IsRead before (drafts.Shared kind name init) (declarations.Shared v) after = (v ≡ record { kind = kind; name = name; init = literal_of init })
    × (after ≡ before)
IsRead before (drafts.Session s) (declarations.Session t) after = (t ≡ s) × (after ≡ before)
IsRead before draft declaration after = ⊥

-- so for each of them, one after the other
abbrev pub AreRead : List (List ℕ) → List Draft → List Declaration → List (List ℕ) → Type 0
AreRead before [] [] after = after ≡ before
AreRead before (d ∷ ds) (r ∷ rs) after = (next : List (List ℕ)) × IsRead before d r next × AreRead next ds rs after
AreRead before ds rs after = ⊥

-- the service of this name with these declarations, whose gaps have these names
abbrev pub service_of : List ℕ → List (List ℕ) → List Declaration → Service
service_of name gaps ds = record {
  name = name;
  gaps = gaps;
  order = map sort_of ds;
  templates = templates_of ds;
  shared = shared_of ds;
  sessions = sessions_of ds;
}

-- The bytes are written for a service of this name. Its templates read as they are written, and it passes no limit.
pub record Reads (bytes : List ℕ) (service : Service) : Type 0 where
  pub drafts : List Draft
  pub drafted : IsDraft bytes service.name drafts
  pub declarations : List Declaration
  pub read : AreRead [] drafts declarations service.gaps
  pub within : too_many service.name service.gaps declarations ≡ None
  pub whole : service ≡ service_of service.name service.gaps declarations

-- some bytes read as the service
abbrev pub IsReadable : Service → Type 0
IsReadable service = (bytes : List ℕ) × Reads bytes service
