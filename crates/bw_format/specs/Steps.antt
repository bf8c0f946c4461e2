-- A pattern laid out as steps, which are taken one after another for each character.
use Rattle.std.specs.Prelude.{◌<◌, ℕ, ◌+◌, Bool, false, ◌&&◌, ◌||◌, List, [], ◌∷◌, ◌++◌, get_or, set}
use Rattle.bw_format.specs.declared.pattern.Class.{Class}
use Rattle.bw_format.specs.declared.steps.At.{At}
use Rattle.bw_format.specs.declared.walking.Ends.{Ends}
use Rattle.bw_format.specs.declared.walking.Walk.{Walk}
use Rattle.bw_format.specs.declared.steps.Step.{Step}
use Rattle.bw_format.specs.declared.steps.Step.TheVariants as step
use Rattle.bw_format.specs.Classes.{holds}
use Rattle.bw_format.specs.Pattern.{Pattern, nothing, one, sequence, either, star, plus, optional, group, places, repeats}
use Rattle.bw_format.specs.Marks.{skips}

-- a step, with the numbers of the place, the repetition or the kept ends that it is about
pub data Op : Type 0 where
  take_one : Class → ℕ → Op
  keep : ℕ → Op
  turn : ℕ → Op
  join : ℕ → Op
  begin : ℕ → ℕ → Op
  after_star : ℕ → ℕ → Op
  after_plus : ℕ → ℕ → Bool → Op

-- what the code's steps stand for
abbrev pub op : Step → Op
op (step.Take class place) = take_one class.now place
op (step.Keep depth) = keep depth
op (step.Turn depth) = turn depth
op (step.Join depth) = join depth
op (step.Begin depth own) = begin depth own
op (step.Star depth own) = after_star depth own
op (step.Plus depth own may) = after_plus depth own may

-- in front of the first place
abbrev pub at_start : At
at_start = record { place = 0; own = 0; depth = 0 }

-- past a pattern
abbrev pub past : Pattern → At → At
past p at = record { place = at.place + places p; own = at.own + repeats p; depth = at.depth }

-- inside of a part, whose ends in front are kept
abbrev pub inside : At → At
inside at = record { place = at.place; own = at.own; depth = at.depth + 1 }

-- inside of a repetition
abbrev pub again : At → At
again at = record { place = at.place; own = at.own + 1; depth = at.depth + 1 }

-- the steps of a pattern
abbrev pub code : Pattern → At → List Op
code nothing at = []
code (one class) at = take_one class at.place ∷ []
code (sequence p q) at = code p at ++ code q (past p at)
code (either p q) at =
    keep at.depth ∷ [] ++ code p (inside at) ++ turn at.depth ∷ [] ++ code q (inside (past p at)) ++ join at.depth ∷ []
code (star p) at = begin at.depth at.own ∷ [] ++ code p (again at) ++ after_star at.depth at.own ∷ []
code (plus p) at = begin at.depth at.own ∷ [] ++ code p (again at) ++ after_plus at.depth at.own (skips p) ∷ []
code (optional p) at = keep at.depth ∷ [] ++ code p (inside at) ++ join at.depth ∷ []
code (group p) at = code p at

-- nothing inside it keeps ends at a depth of `most` or beyond
abbrev pub Fits : Pattern → ℕ → ℕ → Type 0
Fits nothing depth most = Unit {0}
Fits (one class) depth most = Unit {0}
Fits (sequence p q) depth most = Fits p depth most × Fits q depth most
Fits (either p q) depth most = (depth < most) × Fits p (depth + 1) most × Fits q (depth + 1) most
Fits (star p) depth most = (depth < most) × Fits p (depth + 1) most
Fits (plus p) depth most = (depth < most) × Fits p (depth + 1) most
Fits (optional p) depth most = (depth < most) × Fits p (depth + 1) most
Fits (group p) depth most = Fits p depth most

-- no text may end
abbrev pub no_ends : Ends
no_ends = record { before = false; behind = false }

-- either of them
abbrev pub or_ends : Ends → Ends → Ends
or_ends a b = record { before = a.before || b.before; behind = a.behind || b.behind }

-- all that a walk remembers
abbrev pub walk : Ends → List Bool → List Bool → List Ends → Walk
walk e marks repeated kept = record { ends = e; marks = marks; ended = repeated; kept = kept }

-- what a step makes of it
abbrev pub stepped : ℕ → Op → Walk → Walk
stepped c (take_one class place) w =
    walk (record { before = get_or w.marks place false; behind = w.ends.before && holds class c })
    (set w.marks place (w.ends.before && holds class c)) w.ended w.kept
stepped c (keep depth) w = walk w.ends w.marks w.ended (set w.kept depth w.ends)
stepped c (turn depth) w = walk (get_or w.kept depth no_ends) w.marks w.ended (set w.kept depth w.ends)
stepped c (join depth) w = walk (or_ends (get_or w.kept depth no_ends) w.ends) w.marks w.ended w.kept
stepped c (begin depth own) w =
    walk (record { before = w.ends.before || get_or w.ended own false; behind = false }) w.marks w.ended (set w.kept depth w.ends)
stepped c (after_star depth own) w =
    walk (or_ends (get_or w.kept depth no_ends) w.ends) w.marks (set w.ended own w.ends.behind) w.kept
stepped c (after_plus depth own may) w =
    walk (record { before = w.ends.before; behind = w.ends.behind || ((get_or w.kept depth no_ends).behind && may) })
    w.marks (set w.ended own w.ends.behind) w.kept

-- what steps make of it
abbrev pub run : ℕ → List Op → Walk → Walk
run c [] w = w
run c (o ∷ os) w = run c os (stepped c o w)

-- what they make of it from the front on, where the pattern may begin or not
abbrev pub read : ℕ → List Op → Bool → Walk → Walk
read c os enter w = run c os (walk (record { before = enter; behind = false }) w.marks w.ended w.kept)
