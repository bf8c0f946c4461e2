-- The limits of declarations in two parts, with the fields between them.
-- It only follows the steps of the code: nothing is promised by it.
use Rattle.std.specs.Prelude.{ℕ, List, [], ◌∷◌, length, map, Option}
use Rattle.std.specs.Option.{option_or}
use Rattle.bw_lang.specs.declared.declaration.Declaration.{Declaration}
use Rattle.bw_lang.specs.declared.limits.Leaf.TheVariants as leaves
use Rattle.bw_lang.specs.declared.limits.Limit.{Limit}
use Rattle.bw_lang.specs.declared.limits.Limit.TheVariants as limits
use Rattle.bw_lang.specs.Text.Brackets.{passed}
use Rattle.bw_lang.specs.Service.CodeNames.{local_names}
use Rattle.bw_lang.specs.Service.Limits.{all_lengths}
use Rattle.bw_lang.specs.Document.Measures.{constant_weight}
use Rattle.bw_lang.specs.Service.Sorted.{templates_of, shared_of, sessions_of}
use Rattle.bw_lang.specs.declared.limits.TheConstants.{MAX_GAPS, MAX_LOCALS, MAX_NAME_BYTES, MAX_SESSIONS, MAX_SHARED, MAX_STRING_BYTES, MAX_TEMPLATES}
use Rattle.bw_lang.specs.declared.limits.TheConstants.{MAX_TEMPLATE_WEIGHT}

-- the first limit on the numbers of declarations and of gap names
abbrev pub declared_limit : List (List ℕ) → List Declaration → Option (Limit × ℕ)
declared_limit gaps ds =
    option_or (passed limits.Templates MAX_TEMPLATES (length (templates_of ds) ∷ []))
    (option_or (passed limits.Sessions MAX_SESSIONS (length (sessions_of ds) ∷ []))
    (option_or (passed limits.Shared MAX_SHARED (length (shared_of ds) ∷ [])) (passed limits.Gaps MAX_GAPS (length gaps ∷ []))))

-- the first limit on locals, lengths and weights
abbrev pub size_limit : List ℕ → List (List ℕ) → List Declaration → Option (Limit × ℕ)
size_limit service gaps ds =
    option_or (passed limits.Locals MAX_LOCALS (map (λ s. length (local_names s.body)) (sessions_of ds)))
    (option_or (passed limits.NameBytes MAX_NAME_BYTES (all_lengths leaves.Name service gaps ds))
    (option_or (passed limits.StringBytes MAX_STRING_BYTES (all_lengths leaves.Text service gaps ds))
    (passed limits.Weight MAX_TEMPLATE_WEIGHT (map (λ t. constant_weight t.items) (templates_of ds)))))
