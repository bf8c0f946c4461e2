-- Values that a session of a service may have.
use Rattle.std.specs.Prelude.{ℕ, List}
use Rattle.std.specs.List.{All}
use Rattle.bw_lang.specs.declared.service.Template.{Template}
use Rattle.bw_doc.specs.Operations.{IsOf}
use Rattle.bw_eval.specs.declared.value.Value.{Value}
use Rattle.bw_eval.specs.declared.value.Value.TheVariants.{Int, Bool, Str, Html, Strs}
use Rattle.bw_typed.specs.ShortStrings.{IsShort}

-- a string, and each one of a list, is short, and a document is of the service with these templates
abbrev pub IsSound : List Template → Value → Type 0
IsSound templates (Int n) = Unit {0}
IsSound templates (Bool b) = Unit {0}
IsSound templates (Str s) = IsShort s
IsSound templates (Html d) = IsOf templates d
IsSound templates (Strs strings) = All IsShort strings

-- so is the value of each name
abbrev pub AreSound : List Template → List (List ℕ × Value) → Type 0
AreSound templates values = All (λ x. IsSound templates x.1) values
