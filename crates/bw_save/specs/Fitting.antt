-- What can be written: its numbers fit their bytes.
use Rattle.std.specs.Prelude.{◌<◌, ◌^◌, ℕ, List, length}
use Rattle.std.specs.List.{All, AllByRecursion}
use Rattle.bw_doc.specs.Made.{Made}
use Rattle.bw_doc.specs.Operations.{Operation, constant, plug, plug_text, operations}
use Rattle.bw_eval.specs.declared.value.Value.{Value}
use Rattle.bw_eval.specs.declared.value.Value.TheVariants.{Int, Bool as Truth, Str, Html, Strs}
use Rattle.bw_saved.specs.declared.saved.Record.{Record}

-- the template, or the gap, fits two bytes, and the length of the text four
abbrev pub FitsOperation : Operation → Type 0
FitsOperation (constant n) = n < 2 ^ 16
FitsOperation (plug g) = g < 2 ^ 16
FitsOperation (plug_text g s) = (g < 2 ^ 16) × (length s < 2 ^ 32)

-- so it is with each operation of a document, and their number fits four bytes
pub record FitsDocument (d : Made) : Type 0 where
  pub each : AllByRecursion FitsOperation (operations d)
  pub few : length (operations d) < 2 ^ 32

-- the length of each text fits four bytes, and so does their number
pub record FitsList (ss : List (List ℕ)) : Type 0 where
  pub each : All (λ s. length s < 2 ^ 32) ss
  pub few : length ss < 2 ^ 32

abbrev pub FitsValue : Value → Type 0
FitsValue (Int n) = Unit {0}
FitsValue (Truth b) = Unit {0}
FitsValue (Str s) = length s < 2 ^ 32
FitsValue (Html d) = FitsDocument d
FitsValue (Strs ss) = FitsList ss

-- the value of each variable
abbrev pub FitValues : List (List ℕ × Value) → Type 0
FitValues xs = All (λ x. FitsValue x.1) xs

-- the number of the session, and all that it carries and shows
pub record FitsRecord (r : Record) : Type 0 where
  pub session : r.session < 2 ^ 16
  pub locals : FitValues r.frame.locals
  pub rests : All FitsList r.frame.rests
  pub page : FitsDocument r.page
