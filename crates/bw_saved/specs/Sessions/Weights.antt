-- What sessions that wait carry, and their numbers.
use Rattle.std.specs.Prelude.{◌+◌, ℕ, Bool, true, not, nat_eq, ◌&&◌, List, [], ◌∷◌, sum_by}
use Rattle.std.specs.List.{list_any}
use Rattle.bw_doc.specs.Made.{measure}
use Rattle.bw_eval.specs.View.{values}
use Rattle.bw_meaning.specs.Values.{weights}
use Rattle.bw_run.specs.Follow.Runs.{rests_weight}
use Rattle.bw_saved.specs.declared.saved.Record.{Record}
use Rattle.bw_saved.specs.declared.saved.Saved.{Saved}

-- what its locals, its rests and its document weigh
abbrev pub session_weight : Record → ℕ
session_weight r = weights (values r.frame.locals) + rests_weight r.frame.rests + (measure r.page).weight

-- what the shared variables and all sessions weigh
abbrev pub total_weight : Saved → ℕ
total_weight s = weights (values s.shared) + sum_by session_weight s.records

-- no two have one number
abbrev pub are_apart : List Record → Bool
are_apart [] = true
are_apart (r ∷ rs) = not (list_any (λ (s : Record). nat_eq s.number r.number) rs) && are_apart rs
