-- The faults of the pairs of a plug.
use Rattle.std.proofs.Common.{◌≡◌, ℕ, ◌<◌, List, [], ◌∷◌, ◌++◌, length, get_or, zero, suc, refl, arith, append_assoc, append-nil}
use Rattle.bw_lang.specs.declared.expr.Pair.{Pair}
use Rattle.bw_lang.specs.declared.service.Service.{Service}
use Rattle.bw_lang.specs.Service.Term.{nodes, nodes_in, filling, no_more}
use Rattle.bw_lang.specs.Service.TermView.{term, fillings}
use Rattle.bw_types.specs.declared.fault.TypeFault.{TypeFault}
use Rattle.bw_types.specs.ExpressionFaults.{faults_in_pairs}
use Rattle.bw_types.specs.Scopes.{Scope}

-- the faults of one pair
abbrev pub pair_faults : Service → Scope → Pair → List TypeFault
pair_faults service scope p = faults_in_pairs service scope (filling p.gap (term p.value) no_more)

pub pairs_step : (service : Service) (scope : Scope) (p : Pair) (ps : List Pair)
    → faults_in_pairs service scope (fillings (p ∷ ps)) ≡ pair_faults service scope p ++ faults_in_pairs service scope (fillings ps)
pairs_step service scope p ps = simp (append_assoc, append-nil)

smaller : (xs : List Pair) (i : ℕ) (d : Pair) → i < length xs → nodes (term (get_or xs i d).value) < nodes_in (fillings xs)
smaller [] i d h = absurd (omega arith)
smaller (p ∷ xs) zero d h = omega arith
smaller (p ∷ xs) (suc i) d h = omega (arith, smaller xs i d (omega arith))

-- a pair that was read is smaller than the pairs
pub pair_size_at_read : (xs : List Pair) (i : ℕ) (d : Pair) → i < length xs → (get_or xs i d ≡ get_or xs i d)
    × (nodes (term (get_or xs i d).value) < nodes_in (fillings xs))
pair_size_at_read xs i d h = (refl, smaller xs i d h)
