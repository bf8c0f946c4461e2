-- The script of a scripted user.
use Rattle.std.specs.Prelude.{◌≡◌, ◌≤◌, ◌⊎◌, ℕ, List, [], ◌∷◌, ◌++◌, length, IsUtf8}
use Rattle.bw_http.specs.Paths.{IsCutAt, IsForm}
use Rattle.bw_http.specs.declared.request.Path.TheVariants.{Start}
use Rattle.bw_visit.specs.declared.limits.TheConstants.{MAX_SCRIPT_BYTES}

-- lines, each of which is ended by a line feed, the last one too
abbrev pub AreLines : List ℕ → Type 0
AreLines lines = (lines ≡ []) ⊎ ((front : List ℕ) × (lines ≡ front ++ 10 ∷ []))

-- a text of lines: the name of a session is the first, and these follow it
pub record HasLines (text name lines : List ℕ) : Type 0 where
  pub first : IsCutAt 10 text name lines
  pub name_fits : IsForm (Start name)
  pub ended : AreLines lines

-- there is no such name with such lines
abbrev pub HasNoLines : List ℕ → Type 0
HasNoLines text = (name lines : List ℕ) → HasLines text name lines → ⊥

-- A script: short, in UTF-8, with the name of a session in the first line and the answers to a page in each further one.
pub record IsScript (bytes name lines : List ℕ) : Type 0 where
  pub short : length bytes ≤ MAX_SCRIPT_BYTES
  pub utf8 : IsUtf8 bytes
  pub lines_are : HasLines bytes name lines

-- the bytes are none
abbrev pub IsNoScript : List ℕ → Type 0
IsNoScript bytes = (name lines : List ℕ) → IsScript bytes name lines → ⊥

-- bytes are one script at most
abbrev pub ScriptsAreOne : Type 0
ScriptsAreOne = (bytes name lines other others : List ℕ) → IsScript bytes name lines → IsScript bytes other others → (name ≡ other) × (lines ≡ others)
