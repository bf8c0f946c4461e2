-- Values as bytes.
use Rattle.std.specs.Prelude.{ℕ, Bool, true, false, List, [], ◌∷◌}
use Rattle.std.specs.List.{flat_map}
use Rattle.bw_eval.specs.declared.value.Value.{Value}
use Rattle.bw_eval.specs.declared.value.Value.TheVariants.{Int, Bool as Truth, Str, Html, Strs}
use Rattle.bw_saved.specs.Documents.Layout.{document}
use Rattle.bw_saved.specs.Fields.Spelling.{integer, text, strings}

-- a truth value
abbrev pub bit : Bool → ℕ
bit true = 1
bit false = 0

-- a value: a byte that says its kind, and what it is
abbrev pub value : Value → List ℕ
value (Int n) = 0 ∷ integer n
value (Truth b) = 1 ∷ (bit b ∷ [])
value (Str s) = 2 ∷ text s
value (Html d) = 3 ∷ document d
value (Strs ss) = 4 ∷ strings ss

-- values in order of declaration, without their names
abbrev pub variables : List (List ℕ × Value) → List ℕ
variables = flat_map (λ x. value x.1)
