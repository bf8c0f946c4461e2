-- Which values may stand in a file.
use Rattle.std.specs.Prelude.{◌≡◌, ℕ, List, FitsSigned}
use Rattle.std.specs.Int.{w64}
use Rattle.bw_eval.specs.declared.value.Value.{Value}
use Rattle.bw_eval.specs.declared.value.Value.TheVariants.{Int, Bool as Truth, Str, Html, Strs}
use Rattle.bw_lang.specs.declared.service.Service.{Service}
use Rattle.bw_lang.specs.declared.stmt.Kind.{Kind}
use Rattle.bw_lang.specs.declared.stmt.Kind.TheVariants as kinds
use Rattle.bw_saved.specs.Codec.{EachFits}
use Rattle.bw_saved.specs.Documents.Demands.{IsDocument}
use Rattle.bw_saved.specs.Fields.Spelling.{IsText, AreTexts}

-- a value of this kind
abbrev pub IsValue : Service → Kind → Value → Type 0
IsValue service kinds.Int (Int n) = FitsSigned w64 n
IsValue service kinds.Bool (Truth b) = Unit {0}
IsValue service kinds.Str (Str s) = IsText s
IsValue service kinds.Html (Html d) = IsDocument service d
IsValue service kinds.Strs (Strs ss) = AreTexts ss
IsValue service kind v = ⊥

-- a variable of this name and kind
abbrev pub IsVariable : Service → List ℕ × Kind → List ℕ × Value → Type 0
IsVariable service k x = (x.0 ≡ k.0) × IsValue service k.1 x.1

-- there is a variable for each of these names and kinds, in order of declaration
abbrev pub AreVariables : Service → List (List ℕ × Kind) → List (List ℕ × Value) → Type 0
AreVariables service kinds xs = EachFits (IsVariable service) kinds xs
