-- The summaries of the templates of a service, as they stand.
use Rattle.std.specs.Prelude.{ℕ, zero, suc, List, [], ◌∷◌, ◌++◌, length}
use Rattle.bw_lang.specs.declared.service.Service.{Service}
use Rattle.bw_sum.specs.declared.summary.Summary.{Summary}
use Rattle.bw_sum.specs.Constants.{constant_of}
use Rattle.bw_sum.specs.Templates.{template_items}

-- those of the first so many templates
abbrev pub first_constants : Service → ℕ → List Summary
first_constants service zero = []
first_constants service (suc n) = first_constants service n ++ constant_of n (template_items service n) (length service.gaps) ∷ []
