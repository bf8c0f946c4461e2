-- The templates of a service, and the page wrappers behind them.
use Rattle.std.specs.Prelude.{◌≡◌, ℕ, ◌+◌, ◌<◌, true, List, [], ◌∷◌, ◌++◌, length, map, slice_get, unwrap_or}
use Rattle.bw_lang.specs.declared.service.Service.{Service}
use Rattle.bw_lang.specs.Document.Forest.{Forest, none}
use Rattle.bw_lang.specs.Document.Wrappers.{show_wrapper, exit_wrapper}
use Rattle.bw_sum.specs.Opening.{opens}

-- the items of all templates by their numbers: those of the service, in source order, and the wrappers of a shown and of a last page
abbrev pub all_items : Service → List Forest
all_items service = map (λ t. t.items) service.templates ++ show_wrapper (length service.gaps) ∷ exit_wrapper (length service.gaps) ∷ []

-- the items of the template of that number
abbrev pub template_items : Service → ℕ → Forest
template_items service n = unwrap_or (slice_get (all_items service) n) none

-- the open gaps of a template are those of a service with so many, and those of the page wrappers, which have the numbers behind
abbrev pub HasKnownGaps : ℕ → Forest → Type 0
HasKnownGaps gaps items = (g : ℕ) → opens g items ≡ true → g < gaps + 3
