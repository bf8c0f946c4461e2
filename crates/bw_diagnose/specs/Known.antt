-- What is known of a text whose refusal is shown.
use Rattle.std.specs.Prelude.{◌≡◌, ℕ, List, [], Ok, Err, ⊤}
use Rattle.bw_lang.specs.Service.Drafts.{AreFormed, spell_service}
use Rattle.bw_lang.specs.Service.Reads.{lexemes}
use Rattle.bw_lang.specs.Text.Words.{IsName}
use Rattle.bw_lang.specs.declared.declaration.Draft.{Draft}
use Rattle.bw_lang.specs.declared.token.Lexeme.{Lexeme}
use Rattle.bw_lang.specs.declared.token.Token.{Token}
use Rattle.bw_lex.specs.Tokens.{Reading, tokens_of}
use Rattle.bw_syntax.specs.Told.{IsTold}
use Rattle.bw_syntax.specs.declared.fault.SyntaxFault.{SyntaxFault}
use Rattle.bw_syntax.specs.declared.fault.SyntaxFault.TheVariants as reading
use Rattle.bw_syntax.specs.declared.told.Told.{Told}

-- the tokens of a text; there are none where it has a lexical fault
abbrev pub found_tokens : Reading → List Token
found_tokens (Ok tokens) = tokens
found_tokens (Err fault) = []

abbrev pub tokens_in : List ℕ → List Token
tokens_in text = found_tokens (tokens_of text)

-- what they say
abbrev pub lexemes_in : List ℕ → List Lexeme
lexemes_in text = lexemes text (tokens_in text)

-- the text is written for a service with these declarations
pub record AreDrafts (text : List ℕ) (drafts : List Draft) : Type 0 where
  pub name : List ℕ
  pub named : IsName name
  pub formed : AreFormed drafts
  pub spelled : lexemes_in text ≡ spell_service name drafts

-- where the fault is about tokens, these are those of the text
abbrev pub IsLent : List ℕ → Told → SyntaxFault → Type 0
IsLent text told (reading.TooMany limit n) = IsTold text told
IsLent text told (reading.Template name fault) = IsTold text told
IsLent text told fault = ⊤
