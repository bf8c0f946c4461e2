-- What the code's points stand for.
use Rattle.bw_lang.specs.Service.TermView.{term}
use Rattle.bw_flow.specs.declared.point.What.{What}
use Rattle.bw_flow.specs.declared.point.What.TheVariants.{Assign, Test, Each, Show, Exit, Join}
use Rattle.bw_flow.specs.declared.point.Point.{Point}
use Rattle.bw_flow.specs.Steps.{Act, sets, tests, goes_over, shows, exits, joins, Step}

-- what a point does
abbrev pub act : What → Act
act (Assign w e) = sets w (term e)
act (Test e) = tests (term e)
act (Each w e) = goes_over w (term e)
act (Show e rs) = shows (term e) rs
act (Exit e) = exits (term e)
act Join = joins

-- a point
abbrev pub seen : Point → Step
seen p = record { number = p.number; scope = p.scope; inside = p.inside; act = act p.what; next = p.next }
