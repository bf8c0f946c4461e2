-- What explains why a service isn't accepted: a page that shows its first fault of an element, or why there is none.
use Rattle.std.specs.Prelude.{◌≡◌, ℕ, Bool, ◌&&◌, nat_le, nat_lt, List, [], ◌++◌, find, slice_get, Option, None, Some, codes}
use Rattle.bw_analyse.specs.declared.facts.Facts.{Facts}
use Rattle.bw_analyse.specs.Facts.{AreFacts, page_of}
use Rattle.bw_flow.specs.Layout.{flow_of}
use Rattle.bw_analyse.specs.Pages.{page_graph}
use Rattle.bw_check.specs.Faults.{IsElementFault, page_at}
use Rattle.bw_check.specs.declared.fault.CheckFault.{CheckFault}
use Rattle.bw_check.specs.declared.fault.CheckFault.TheVariants.{Refused, TooLarge, TooMany, Memory}
use Rattle.bw_explain.specs.Explained.{IsExplained, IsSplit, NotValid}
use Rattle.bw_explain.specs.Shows.{Shows}
use Rattle.bw_explain.specs.declared.explained.Explained.{Explained}
use Rattle.bw_explain.specs.declared.explained.Explained.TheVariants.{Page, NoUnfolding, TooBig, Disjunction}
use Rattle.bw_faults.specs.declared.fault.Fault.{Fault}
use Rattle.bw_flow.specs.Steps.{Step}
use Rattle.bw_lang.specs.Document.Print.{print}
use Rattle.bw_lang.specs.declared.service.Service.{Service}
use Rattle.bw_schema.specs.declared.schema.Schema.{Schema}
use Rattle.bw_shape.specs.Outlines.{root_of}
use Rattle.bw_sum.specs.Templates.{template_items}
use Rattle.bw_questions.specs.Questions.{line}

-- the fault is one of an element, 1 to 7
abbrev pub is_of_element : Fault → Bool
is_of_element f = nat_le 1 f.number && nat_lt f.number 8

-- a show or an exit of the fault's number stands at that place, and the fault is one of an element of its page
pub record StandsAt (service : Service) (schema : Schema) (facts : Facts) (f : Fault) (p : ℕ) : Type 0 where
  pub step : Step
  pub at : slice_get (flow_of service) p ≡ Some step
  pub page : page_of step.act ≡ None → ⊥
  pub number : step.number ≡ f.point
  pub fault : IsElementFault service schema facts p f.point f

-- This explains the fault, by the graph of that page: a least page in which it shows, or why there is none. Such a page isn't
-- valid by the schema.
pub record Explains (service : Service) (schema : Schema) (f : Fault) (e : Explained) : Type 0 where
  pub facts : Facts
  pub facts_are : AreFacts service facts
  pub place : ℕ
  pub stands : StandsAt service schema facts f place
  pub explained : IsExplained
      (Shows (template_items service) (page_at service facts place) schema.elements f (root_of (page_graph service facts place)))
      (IsSplit (template_items service) (page_at service facts place) schema.elements f) e
  pub refused : NotValid schema e

-- the lines that say so: the page behind a line of its own, or why there is none
abbrev pub explanation_text : Explained → List ℕ
explanation_text (Page t) = line (codes "page") ++ line (print t.items)
explanation_text NoUnfolding = line (codes "no unfolding")
explanation_text TooBig = line (codes "too big")
explanation_text Disjunction = line (codes "disjunction")

-- these lines explain the fault, if there is one
abbrev pub IsExplanationOf : Service → Schema → Option Fault → List ℕ → Type 0
IsExplanationOf tree by None more = more ≡ []
IsExplanationOf tree by (Some f) more = (e : Explained) × Explains tree by f e × (more ≡ explanation_text e)

-- they explain why the service isn't accepted: the first of its faults of an element. Nothing else is explained.
abbrev pub IsExplanation : Service → Schema → CheckFault → List ℕ → Type 0
IsExplanation tree by (Refused faults) more = IsExplanationOf tree by (find is_of_element faults) more
IsExplanation tree by (TooLarge members) more = more ≡ []
IsExplanation tree by (TooMany points) more = more ≡ []
IsExplanation tree by Memory more = more ≡ []
