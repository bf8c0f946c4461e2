-- The summary of a template.
use Rattle.std.specs.Prelude.{ℕ, zero, suc, ◌+◌, cond, List, [], ◌∷◌}
use Rattle.std.specs.Ordering.{nat_cmp}
use Rattle.bw_lang.specs.Document.Forest.{Forest}
use Rattle.bw_solve.specs.Sets.{merge}
use Rattle.bw_sum.specs.Labels.{pair_cmp}
use Rattle.bw_sum.specs.Opening.{opens}
use Rattle.bw_sum.specs.declared.summary.Summary.{Summary}

-- a track from template n for each of the first gaps that is open in its items
abbrev pub tracked : ℕ → Forest → ℕ → List (ℕ × ℕ)
tracked n items zero = []
tracked n items (suc g) = cond (opens g items) (merge pair_cmp (tracked n items g) ((g, n) ∷ [])) (tracked n items g)

-- the first gaps that aren't open in the items
abbrev pub lacked : Forest → ℕ → List ℕ
lacked items zero = []
lacked items (suc g) = cond (opens g items) (lacked items g) (merge nat_cmp (lacked items g) (g ∷ []))

-- of the template n with these items: its one root, a track for each gap that it has, and the other gaps of the service lacking. The three gaps of
-- the page wrappers have the numbers behind those of the service
abbrev pub constant_of : ℕ → Forest → ℕ → Summary
constant_of n items gaps = record { roots = n ∷ []; edges = []; texts = []; tracks = tracked n items (gaps + 3); lacks = lacked items gaps }
