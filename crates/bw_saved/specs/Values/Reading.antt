-- Reading of values from left to right.
use Rattle.std.specs.Prelude.{ℕ, zero, suc, ◌==◌, Bool, true, false, List, [], ◌∷◌, Option, Some, None, if◌then◌else◌}
use Rattle.bw_eval.specs.declared.value.Value.{Value}
use Rattle.bw_eval.specs.declared.value.Value.TheVariants.{Int, Bool as Truth, Str, Html, Strs}
use Rattle.bw_lang.specs.declared.service.Service.{Service}
use Rattle.bw_lang.specs.declared.stmt.Kind.{Kind}
use Rattle.bw_lang.specs.declared.stmt.Kind.TheVariants as kinds
use Rattle.bw_saved.specs.Documents.Reading.{document_at}
use Rattle.bw_saved.specs.Fields.Reading.{◌>>=◌, integer_at, text_at, strings_at, each_at}

-- the bytes behind this one
abbrev pub tag_at : ℕ → List ℕ → Option (List ℕ)
tag_at t [] = None
tag_at t (b ∷ bytes) = if b == t then Some bytes else None

-- a truth value
unfoldable pub bit_at : List ℕ → Option (Bool × List ℕ)
bit_at [] = None
bit_at (zero ∷ bytes) = Some (false, bytes)
bit_at (suc zero ∷ bytes) = Some (true, bytes)
bit_at (suc (suc b) ∷ bytes) = None

-- the byte in front of a value of a kind
abbrev pub tag_of : Kind → ℕ
tag_of kinds.Int = 0
tag_of kinds.Bool = 1
tag_of kinds.Str = 2
tag_of kinds.Html = 3
tag_of kinds.Strs = 4

-- a value of a kind
unfoldable pub value_at : Service → Kind → List ℕ → Option (Value × List ℕ)
value_at service kinds.Int bytes = do
  rest ← tag_at 0 bytes
  n ← integer_at rest
  Some (Int n.0, n.1)
value_at service kinds.Bool bytes = do
  rest ← tag_at 1 bytes
  b ← bit_at rest
  Some (Truth b.0, b.1)
value_at service kinds.Str bytes = do
  rest ← tag_at 2 bytes
  s ← text_at rest
  Some (Str s.0, s.1)
value_at service kinds.Html bytes = do
  rest ← tag_at 3 bytes
  d ← document_at service rest
  Some (Html d.0, d.1)
value_at service kinds.Strs bytes = do
  rest ← tag_at 4 bytes
  ss ← strings_at rest
  Some (Strs ss.0, ss.1)

-- the value of a variable of this name and kind
unfoldable pub variable_at : Service → List ℕ × Kind → List ℕ → Option ((List ℕ × Value) × List ℕ)
variable_at service k bytes = do
  v ← value_at service k.1 bytes
  Some ((k.0, v.0), v.1)

-- those of all variables, in order of declaration
abbrev pub variables_at : Service → List (List ℕ × Kind) → List ℕ → Option (List (List ℕ × Value) × List ℕ)
variables_at service kinds bytes = each_at (variable_at service) kinds bytes
