use Rattle.std.proofs.Common.{◌≡◌, ℕ, Bool, List, IfOk, subst, ap, sym, ◌∙◌}
use Rattle.std.specs.List.{list_all}
use Rattle.std.proofs.lemmas.List.Folds.{list_all-map}
use Rattle.bw_eval.specs.declared.value.Value.{Value}
use Rattle.bw_eval.specs.declared.values.Variable.{Variable}
use Rattle.bw_save.specs.Filled.{is_filled_value}
use Rattle.bw_save.proofs.filled.are_filled.Goals as goal

pub returns : goal.returns
returns c =
    let service = c.args.typed.now.service in
    subst (λ (b : Bool). IfOk c.all_filled.result (λ r. r ≡ b))
    (sym (list_all-map (λ (x : List ℕ × Value). is_filled_value service x.1) (λ (v : Variable). (v.name, v.value)) c.as_slice.result.now)
    ∙ ap (list_all (λ (x : List ℕ × Value). is_filled_value service x.1)) c.as_slice.ensures) c.all_filled.ensures
