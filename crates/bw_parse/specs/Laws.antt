-- Laws of parsing.
use Rattle.std.specs.Prelude.{◌≡◌, ◌⊎◌, ℕ, List}
use Rattle.bw_lang.specs.declared.declaration.Draft.{Draft}
use Rattle.bw_lang.specs.declared.token.Lexeme.{Lexeme}
use Rattle.bw_lang.specs.Service.Drafts.{AreFormed, spell_service}
use Rattle.bw_lang.specs.Text.Words.{IsName}

-- no two services that are formed are written with the same lexemes
abbrev pub OneSpelling : Type 0
OneSpelling =
    (name other : List ℕ) (drafts more : List Draft) → IsName name → IsName other → AreFormed drafts → AreFormed more →
    spell_service name drafts ≡ spell_service other more → (name ≡ other) × (drafts ≡ more)

-- the lexemes are those of the service of this name with these declarations
abbrev pub IsSpelled : List Lexeme → List ℕ → List Draft → Type 0
IsSpelled lexemes name drafts = IsName name × AreFormed drafts × (lexemes ≡ spell_service name drafts)

-- lexemes are those of a service, or of none
abbrev pub SpelledOrNot : Type 0
SpelledOrNot =
    (lexemes : List Lexeme) →
    ((name : List ℕ) × (drafts : List Draft) × IsSpelled lexemes name drafts)
    ⊎ ((name : List ℕ) (drafts : List Draft) → IsSpelled lexemes name drafts → ⊥)
