-- The lines that tell why a service isn't accepted.
use Rattle.std.specs.Prelude.{◌==◌, ℕ, List, [], ◌∷◌, ◌++◌, map, flat_map, codes, decimal, slice_get, unwrap_or, if◌then◌else◌, Option, Some, None}
use Rattle.bw_check.specs.declared.fault.CheckFault.{CheckFault}
use Rattle.bw_check.specs.declared.fault.CheckFault.TheVariants.{Refused, TooLarge, TooMany, Memory}
use Rattle.bw_faults.specs.declared.fault.Fault.{Fault}
use Rattle.bw_lang.specs.declared.declaration.Draft.{Draft}
use Rattle.bw_lang.specs.declared.service.Service.{Service}
use Rattle.bw_types.specs.Scopes.{template_names}
use Rattle.bw_questions.specs.Behind.{Shown, behind_fault, behind_points, behind_facts}
use Rattle.bw_questions.specs.Lines.{points_line, shown}
use Rattle.bw_questions.specs.Questions.{line}

-- the names of the templates by their numbers, and behind them those of the wrappers of shown and of last pages
abbrev pub page_names : Service → List (List ℕ)
page_names service = template_names service ++ codes "(show)" ∷ codes "(exit)" ∷ []

-- where an element stands
abbrev pub element_place : List (List ℕ) → ℕ → ℕ → List ℕ
element_place names template place =
    codes " template " ++ (unwrap_or (slice_get names template) [] ++ (codes " place " ++ (decimal place ++ codes " ")))

-- what a fault is about: an element (1 to 7), or else a field (8 to 10) or a gap (11)
abbrev pub fault_place : List (List ℕ) → Fault → Option ℕ → List ℕ
fault_place names f (Some template) = element_place names template f.place
fault_place names f None = if f.number == 11 then codes " gap " else codes " field "

-- a fault of a service whose templates have these names
abbrev pub fault_line : List (List ℕ) → Fault → List ℕ
fault_line names f =
    codes "fault " ++ (decimal f.number ++ (codes " point " ++ (decimal f.point ++ (fault_place names f f.template ++ map shown f.detail))))

-- a line for each fault, and what is shown behind it
abbrev pub fault_text : (Fault → List ℕ) → List (List ℕ) → Fault → List ℕ
fault_text behind names f = line (fault_line names f) ++ behind f

abbrev pub fault_lines : (Fault → List ℕ) → List (List ℕ) → List Fault → List ℕ
fault_lines behind names faults = flat_map (fault_text behind names) faults

-- the analysis gives too many facts
abbrev pub facts_line : List ℕ
facts_line = codes "too many facts"

-- what is printed where the check refuses a service: a line for each fault, behind which this is shown, or one for the limit
-- that is passed
abbrev pub check_text : Option Shown → (Fault → List ℕ) → List (List ℕ) → CheckFault → List ℕ
check_text how behind names (Refused faults) = fault_lines behind names faults
check_text how behind names (TooLarge members) = line facts_line ++ behind_facts how
check_text how behind names (TooMany points) = line (points_line points) ++ behind_points how
check_text how behind names Memory = []
