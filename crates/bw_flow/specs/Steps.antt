-- The points of a flow, as contracts see them.
use Rattle.std.specs.Prelude.{ℕ, List}
use Rattle.bw_lang.specs.Service.Term.{Term}
use Rattle.bw_flow.specs.declared.point.Local.{Local}
use Rattle.bw_flow.specs.declared.point.Received.{Received}

-- what a point does
pub data Act : Type 0 where
  sets : List ℕ → Term → Act
  tests : Term → Act
  goes_over : List ℕ → Term → Act
  shows : Term → List Received → Act
  exits : Term → Act
  joins : Act

-- a point: the number of its statement, the locals in scope in front of it, the number of foreachs around it, what it
-- does, and the places of the points that come next
pub record Step : Type 0 where
  pub number : ℕ
  pub scope : List Local
  pub inside : ℕ
  pub act : Act
  pub next : List ℕ

-- the points of all sessions, and the place of each session's first point
pub record Plan : Type 0 where
  pub steps : List Step
  pub firsts : List ℕ
