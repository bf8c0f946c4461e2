-- The documents of saved values are built of the service's templates.
use Rattle.std.proofs.Common.{◌≡◌, ℕ, Bool, true, false, cond, List, [], ◌∷◌, Some, None, refl, sym, ap, subst, ◌∙◌}
use Rattle.std.specs.Prelude.{find, option_map, if◌then◌else◌}
use Rattle.bw_saved.specs.Codec.{EachFits}
use Rattle.bw_saved.proofs.Codecs.{some_is}
use Rattle.bw_eval.specs.declared.value.Value.{Value}
use Rattle.bw_eval.specs.declared.value.Value.TheVariants as values
use Rattle.bw_lang.specs.declared.service.Service.{Service}
use Rattle.bw_lang.specs.declared.stmt.Kind.{Kind}
use Rattle.bw_lang.specs.declared.stmt.Kind.TheVariants as kinds
use Rattle.bw_lang.specs.Table.Names.{beside, same}
use Rattle.bw_load.specs.Cells.{IsBuiltValue, AreBuilt}
use Rattle.bw_saved.specs.Values.Demands.{IsValue, AreVariables}

value_built : (service : Service) (kind : Kind) (v : Value) → IsValue service kind v → IsBuiltValue service v
value_built service kind (values.Int n) h = tt
value_built service kind (values.Bool b) h = tt
value_built service kind (values.Str s) h = tt
value_built service kinds.Html (values.Html d) h = h.built
value_built service kinds.Int (values.Html d) h = absurd h
value_built service kinds.Bool (values.Html d) h = absurd h
value_built service kinds.Str (values.Html d) h = absurd h
value_built service kinds.Strs (values.Html d) h = absurd h
value_built service kind (values.Strs ss) h = tt

pub variables_built : (service : Service) (ks : List (List ℕ × Kind)) (xs : List (List ℕ × Value)) → AreVariables service ks xs → AreBuilt service xs
variables_built service [] [] h w v e = absurd cc
variables_built service [] (x ∷ xs) h w v e = absurd h
variables_built service (k ∷ ks) [] h w v e = absurd h
variables_built service (k ∷ ks) (x ∷ xs) h w v e = by (same w x.0) e (variables_built service ks xs h.1 w v)
  where
    by : (b : Bool) → option_map (λ (y : List ℕ × Value). y.1) (cond b (Some x) (find (λ y. same w y.0) xs)) ≡ Some v →
        (beside w xs ≡ Some v → IsBuiltValue service v) → IsBuiltValue service v
    by true e ih = subst (IsBuiltValue service) (some_is x.1 v e) (value_built service k.1 x.1 h.0.1)
    by false e ih = ih e
