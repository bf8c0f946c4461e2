-- What the code stops with, and what comes of it.
use Rattle.std.specs.Io.KnownBytes.{Appends}
use Rattle.std.specs.Prelude.{◌≡◌, ◌≢◌, ◌⊎◌, ℕ, List, Option, ⊤}
use Rattle.bw_check.specs.declared.fault.CheckFault.{CheckFault}
use Rattle.bw_check.specs.declared.fault.CheckFault.TheVariants as checks
use Rattle.bw_faults.specs.declared.fault.Fault.{Fault}
use Rattle.bw_out.specs.Writes.{AppendsPart}
use Rattle.bw_questions.specs.Behind.{Shown}
use Rattle.bw_command.specs.Codes.{status_for}
use Rattle.bw_questions.specs.FaultLines.{check_text}
use Rattle.bw_questions.specs.Questions.{Said, line}
use Rattle.bw_command.specs.declared.status.Refusal.{Refusal}
use Rattle.bw_command.specs.declared.status.Refusal.TheVariants as refusals
use Rattle.bw_command.specs.declared.status.Status.{Status}
use Rattle.bw_command.specs.declared.status.Status.TheVariants as status
use Rattle.bw_command.specs.declared.status.Status.TheVariants.{WriteFault}
use Rattle.bw_questions.specs.declared.stop.Stop.{Stop}
use Rattle.bw_questions.specs.declared.stop.Stop.TheVariants.{Says, ReadFault, Memory}

-- the text was printed, and the status is this one; or a first part of it was, and it is a write fault
abbrev pub Prints : Said → Option (List ℕ) → Option (List ℕ) → Status → Type 0
Prints what held now status = ((status ≡ what.status) × Appends held now what.text) ⊎ ((status ≡ WriteFault) × AppendsPart held now what.text)

-- the lines of a refusal are printed; a read fault and want of memory are not
abbrev pub IsReported : Stop → Option (List ℕ) → Option (List ℕ) → Status → Type 0
IsReported (Says refusal text) held now result = Prints (record { status = status_for refusal; text = text.items }) held now result
IsReported ReadFault held now result = (result ≡ status.ReadFault) × (now ≡ held)
IsReported Memory held now result = (result ≡ status.Memory) × (now ≡ held)

-- this is refused by this text, if there was memory for it
abbrev pub SaysText : Refusal → List ℕ → Stop → Type 0
SaysText refusal text (Says other said) = (other ≡ refusal) × (said.items ≡ text)
SaysText refusal text ReadFault = ⊥
SaysText refusal text Memory = ⊤

-- and by one line
abbrev pub SaysLine : Refusal → List ℕ → Stop → Type 0
SaysLine refusal text = SaysText refusal (line text)

-- why a service isn't accepted, whose templates have these names, and what is shown of it and of each fault; want of memory has
-- no text
abbrev pub SaysWhy : Option Shown → (Fault → List ℕ) → List (List ℕ) → CheckFault → Stop → Type 0
SaysWhy how behind names fault (Says refusal text) = (refusal ≡ refusals.Service) × (fault ≢ checks.Memory)
    × (text.items ≡ check_text how behind names fault)
SaysWhy how behind names fault ReadFault = ⊥
SaysWhy how behind names fault Memory = ⊤
