use Rattle.std.proofs.Common.{◌≡◌, List, ℕ, Ok, Err, refl, subst, inr, arith}
use Rattle.bw_load.specs.declared.loading.LoadFault.TheVariants.{Memory}
use Rattle.bw_save.specs.Thawed.{Gives}
use Rattle.bw_save.proofs.OneFacts.{gives}
use Rattle.bw_save.proofs.onward.again.Goals as goal

pub returns-in-Ok-clause-some : goal.returns-in-Ok-clause-some
returns-in-Ok-clause-some c =
    let checked = c.args.checked.now in
    let given = gives checked.typed checked.schema checked.facts c.args.text.now c.deref.result.now (Ok c.in-Ok.saved) checked.accepted c.in-Ok.ensures.loaded in (
      refl,
      record {
        short = omega (arith, c.if-len-gt-MAX_SAVED_BYTES.false, c.len.ensures);
        again = c.in-Ok.saved;
        gives = subst (λ (b : List ℕ). Gives checked.typed.service c.args.text.now b (Ok c.in-Ok.saved)) c.deref.ensures.value given;
      },
    )

pub returns-in_default : goal.returns-in_default
returns-in_default c =
    let checked = c.args.checked.now in
    let given = gives checked.typed checked.schema checked.facts c.args.text.now c.deref.result.now (Err c.in-Err.fault) checked.accepted c.in-Err.ensures.loaded in
    record {
      some = tt;
      none = inr (
        c.in-Err.fault,
        (λ (e : c.in-Err.fault ≡ Memory). c.in_default.not-Memory e),
        subst (λ (b : List ℕ). Gives checked.typed.service c.args.text.now b (Err c.in-Err.fault)) c.deref.ensures.value given,
      );
    }
