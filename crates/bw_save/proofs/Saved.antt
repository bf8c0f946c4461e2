-- What was saved is the file, which is loaded again.
use Rattle.std.proofs.Common.{◌≡◌, ◌≤◌, ℕ, List, [], ◌++◌, length, ap, ◌∙◌}
use Rattle.bw_analyse.specs.declared.facts.Facts.{Facts}
use Rattle.bw_flow.specs.Layout.{plan_of, flow_of}
use Rattle.bw_flow.specs.Steps.{Plan}
use Rattle.bw_lang.specs.declared.limits.TheConstants.{MAX_FILE_BYTES}
use Rattle.bw_load.specs.Loaded.{SavedIsLoaded}
use Rattle.bw_load.specs.Loads.{loaded, by_cells, uncovered}
use Rattle.bw_saved.specs.declared.limits.TheConstants.{MAX_SAVED_WEIGHT}
use Rattle.bw_saved.specs.declared.saved.Saved.{Saved}
use Rattle.bw_saved.specs.Sessions.Demands.{IsSaved}
use Rattle.bw_saved.specs.Sessions.Layout.{file}
use Rattle.bw_saved.specs.Sessions.Weights.{total_weight}
use Rattle.bw_types.specs.declared.typed.Typed.{Typed}

-- what was written over the service's flow behind nothing is its file
pub written : (t : Typed) (flow plan : Plan) (text before out : List ℕ) (s : Saved) → flow ≡ plan → plan ≡ plan_of t.service → before ≡ [] →
    out ≡ before ++ file flow.steps text s → out ≡ file (flow_of t.service) text s
written t flow plan text before out s same lowered none e =
    e ∙ ap (λ (b : List ℕ). b ++ file flow.steps text s) none ∙ ap (λ (p : Plan). file p.steps text s) (same ∙ lowered)

pub loads_again : SavedIsLoaded → (t : Typed) (facts : Facts) (text out : List ℕ) (s : Saved) → out ≡ file (flow_of t.service) text s →
    length text ≤ MAX_FILE_BYTES → total_weight s ≤ MAX_SAVED_WEIGHT → IsSaved t.service s →
    loaded t.service facts text out ≡ by_cells s (uncovered t.service facts s)
loads_again law t facts text out s e short light saved =
    ap (loaded t.service facts text) e ∙ law t facts text s saved short light
