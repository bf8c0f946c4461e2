-- Laws of fields.
use Rattle.std.specs.Prelude.{◌≡◌, ◌≤◌, ℕ, true, List}
use Rattle.std.specs.List.{list_all}
use Rattle.bw_faults.specs.declared.fault.Fault.{Fault}
use Rattle.bw_flow.specs.declared.point.Received.{Received}
use Rattle.bw_lang.specs.declared.service.Service.{Service}
use Rattle.bw_lang.specs.Template.Controls.{fields}
use Rattle.bw_lang.specs.Document.Documents.{close}
use Rattle.bw_lang.specs.Document.Forest.{Forest}
use Rattle.bw_sum.specs.Graph.{Graph}
use Rattle.bw_sum.specs.Unfolding.{Unfolds}
use Rattle.bw_types.specs.Fields.{kind_of_field}
use Rattle.bw_shape.specs.Shape.{Lacks, Doubles}
use Rattle.bw_shape.specs.Tests.{stands}
use Rattle.bw_fields.specs.Plain.{ArePlain, controls}
use Rattle.bw_fields.specs.Received.{IsReceived, IsFaultOf, HasField, is_of_kind}

-- where the root may not lack a field, each unfolding has a control of it
abbrev pub NoLackIsThere : Type 0
NoLackIsThere = (templates : ℕ → Forest) (G : Graph) (names : List (List ℕ)) (root f : ℕ) → ((n : ℕ) → ArePlain (templates n))
    → (Lacks templates G names f root (templates root) → ⊥) → (d : Forest) → Unfolds templates G root d → stands names f d ≡ true

-- where the root may not have a field twice, no unfolding has
abbrev pub NotTwice : Type 0
NotTwice = (templates : ℕ → Forest) (G : Graph) (names : List (List ℕ)) (root f : ℕ) → ((n : ℕ) → ArePlain (templates n))
    → (Doubles templates G names f root → ⊥) → (d : Forest) → Unfolds templates G root d → controls names f d ≤ 1

-- a received field without faults is on each page, where controls aren't made by gaps and a field has one kind in all templates
abbrev pub FieldIsThere : Type 0
FieldIsThere = (templates : ℕ → Forest) (G : Graph) (root : ℕ) (service : Service) (point : ℕ) (r : Received) → ((n : ℕ) → ArePlain (templates n))
    → ((n : ℕ) → list_all (is_of_kind r.field (kind_of_field service r.field)) (fields (templates n)) ≡ true) → IsReceived service r
    → ((f : Fault) → IsFaultOf templates G root service point r f → ⊥) → (d : Forest) → Unfolds templates G root d → HasField service (close d) r
