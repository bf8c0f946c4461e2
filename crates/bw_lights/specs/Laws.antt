-- Laws of lights.
use Rattle.std.specs.Prelude.{◌≡◌, ℕ, List, Ok}
use Rattle.bw_format.specs.declared.format.Format.{Format}
use Rattle.bw_format.specs.FormatFile.{Gives}
use Rattle.bw_lights.specs.Lights.{AreLights}

-- lines have lights, by the formats of a file
abbrev pub SomeLights : Type 0
SomeLights =
    (bytes : List ℕ) (formats : List Format) → Gives bytes (Ok formats) → (lines : List (List ℕ)) → (printed : List ℕ) × AreLights formats lines printed

-- and one list of them
abbrev pub OneLights : Type 0
OneLights = (formats : List Format) (lines : List (List ℕ)) (a b : List ℕ) → AreLights formats lines a → AreLights formats lines b → a ≡ b
