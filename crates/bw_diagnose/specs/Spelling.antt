-- Declarations of a service as the tokens of its text spell them. Tokens are counted from 0.
use Rattle.std.specs.Prelude.{ℕ, ◌+◌, List, [], ◌∷◌, codes, slice_get}
use Rattle.bw_lang.specs.declared.declaration.Declaration.{Declaration}
use Rattle.bw_lang.specs.declared.declaration.Declaration.TheVariants as declarations
use Rattle.bw_lang.specs.declared.declaration.Draft.{Draft}
use Rattle.bw_lang.specs.declared.declaration.Draft.TheVariants as drafts
use Rattle.bw_lang.specs.declared.token.Lexeme.{Lexeme}
use Rattle.bw_places.specs.Counts.{draft_tokens}
use Rattle.bw_places.specs.Drafted.{written_as}
use Rattle.bw_diagnose.specs.Finding.{sign_at}
use Rattle.bw_diagnose.specs.Places.{inside_of}

-- the declaration whose first token is this one: a template's inside is its token 3, and a variable's literal begins at its
-- token 4
abbrev pub drafted : List Lexeme → ℕ → Declaration → Draft
drafted ls at (declarations.Template t) = drafts.Template t.name (inside_of (slice_get ls (at + 3)))
drafted ls at (declarations.Shared v) = drafts.Shared v.kind v.name (written_as (sign_at ls (at + 4) (codes "-")) v.init)
drafted ls at (declarations.Session s) = drafts.Session s

-- declarations one after the other, the first of which begins at this token
abbrev pub drafted_all : List Lexeme → ℕ → List Declaration → List Draft
drafted_all ls at [] = []
drafted_all ls at (d ∷ ds) = drafted ls at d ∷ drafted_all ls (at + draft_tokens (drafted ls at d)) ds
