-- How much a service that was read declares: no more than a file has bytes.
use Rattle.std.specs.Prelude.{◌≤◌, ℕ, ◌+◌, List, length, sum_by}
use Rattle.bw_lang.specs.declared.declaration.Declaration.{Declaration}
use Rattle.bw_lang.specs.declared.declaration.Draft.{Draft}
use Rattle.bw_lang.specs.declared.limits.TheConstants.{MAX_FILE_BYTES}
use Rattle.bw_lang.specs.declared.service.Service.{Service}
use Rattle.bw_lang.specs.declared.token.Lexeme.{Lexeme}
use Rattle.bw_lang.specs.Service.Drafts.{spell_draft}
use Rattle.bw_lang.specs.Service.Order.{declarations_of}
use Rattle.bw_lang.specs.Service.Reads.{IsReadable, IsRead}

-- this number of a declaration is at most that of the tokens that it is written with
abbrev pub IsWithinTokens : (Declaration → ℕ) → Type 0
IsWithinTokens size = (before : List (List ℕ)) (draft : Draft) (d : Declaration) (after : List (List ℕ)) (rest : List Lexeme)
    → IsRead before draft d after → size d + length rest ≤ length (spell_draft draft rest)

-- all declarations of a service together have no more of it than a file may have bytes
abbrev pub DeclaresFew : Type 0
DeclaresFew = (size : Declaration → ℕ) → IsWithinTokens size → (service : Service) → ∥ IsReadable service ∥₁
    → sum_by size (declarations_of service) ≤ MAX_FILE_BYTES
