-- Whether what is known of saved values is below their cells.
use Rattle.std.specs.Prelude.{◌≡◌, ℕ, Bool, true, false, List, Option, Some, None}
use Rattle.bw_analyse.specs.declared.abstracts.Abstract.{Abstract}
use Rattle.bw_analyse.specs.declared.abstracts.Abstract.TheVariants.{Nothing, Str, Html}
use Rattle.bw_doc.specs.Made.{Made}
use Rattle.bw_eval.specs.declared.value.Value.{Value}
use Rattle.bw_eval.specs.declared.value.Value.TheVariants as values
use Rattle.bw_lang.specs.declared.service.Service.{Service}
use Rattle.bw_lang.specs.Table.Names.{beside}
use Rattle.bw_load.specs.Sums.{string_of, sum_of}
use Rattle.bw_saved.specs.Documents.Demands.{IsBuilt}
use Rattle.bw_strings.specs.Literals.{literals_of}
use Rattle.bw_strings.specs.Strings as strings
use Rattle.bw_sum.specs.Summaries as summaries

-- a document is built of the service's templates
abbrev pub IsBuiltValue : Service → Value → Type 0
IsBuiltValue service (values.Int n) = Unit {0}
IsBuiltValue service (values.Bool b) = Unit {0}
IsBuiltValue service (values.Str s) = Unit {0}
IsBuiltValue service (values.Html d) = IsBuilt service d
IsBuiltValue service (values.Strs ss) = Unit {0}

-- so is the value of each name
abbrev pub AreBuilt : Service → List (List ℕ × Value) → Type 0
AreBuilt service locals = (w : List ℕ) (v : Value) → beside w locals ≡ Some v → IsBuiltValue service v

-- the cell of a variable of which nothing is known
abbrev pub is_nothing : Abstract → Bool
is_nothing Nothing = true
is_nothing (Str s) = false
is_nothing (Html s) = false

-- a text is one that the cell allows
abbrev pub is_text_below : List (List ℕ) → List ℕ → Abstract → Bool
is_text_below literals s Nothing = false
is_text_below literals s (Str t) = strings.is_below (string_of literals s) t
is_text_below literals s (Html t) = false

-- the summary of a document is below the cell's
abbrev pub is_document_below : Service → Made → Abstract → Bool
is_document_below service d Nothing = false
is_document_below service d (Str t) = false
is_document_below service d (Html t) = summaries.is_below (sum_of service d) t

-- what is known of a value is below the cell
abbrev pub is_value_below : Service → Value → Abstract → Bool
is_value_below service (values.Int n) cell = is_nothing cell
is_value_below service (values.Bool b) cell = is_nothing cell
is_value_below service (values.Str s) cell = is_text_below (literals_of service) s cell
is_value_below service (values.Html d) cell = is_document_below service d cell
is_value_below service (values.Strs ss) cell = is_nothing cell

-- there is a value and a cell, and the one is below the other
abbrev pub is_cell_below : Service → Option Value → Option Abstract → Bool
is_cell_below service None cell = false
is_cell_below service (Some v) None = false
is_cell_below service (Some v) (Some cell) = is_value_below service v cell
