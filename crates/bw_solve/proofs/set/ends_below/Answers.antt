use Rattle.std.proofs.Common.{◌≡◌, ◌-◌, ◌==◌, true, length, sym, ◌∙◌, ap, arith, refl}
use Rattle.std.specs.declared.cmp.Ordering.{Ordering}
use Rattle.std.specs.declared.cmp.Ordering.TheVariants.{Less, Equal, Greater}
use Rattle.std.specs.Ordering.{ordering_index}
use Rattle.std.proofs.lemmas.Bool.{false≢true}
use Rattle.bw_solve.proofs.Walk.{last_below}
use Rattle.bw_solve.proofs.set.ends_below.Goals as goal

is_Less : (o : Ordering) → (ordering_index o == 0) ≡ true → o ≡ Less
is_Less Less e = refl
is_Less Equal e = absurd (false≢true e)
is_Less Greater e = absurd (false≢true e)

pub returns-else-len-eq0 : goal.returns-else-len-eq0
returns-else-len-eq0 g c on =
    last_below g.met.T.Ord.total c.args.items.now (length c.args.items.now - 1) c.index-items-len.result c.args.value.now c.requires
    (omega (arith, c.if-len-eq0.false))
    (ap (λ v. g.T.Ord.cmp v c.args.value.now) (sym c.index-items-len.is) ∙ sym c.cmp.ensures ∙ is_Less c.cmp.result (sym c.eq.ensures ∙ on))
