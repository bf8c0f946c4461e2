use Rattle.std.proofs.Common.{◌≤◌, sym, subst, arith}
use Rattle.std.proofs.lemmas.Bool.{false≢true}
use Rattle.bw_explain.proofs.Breaking.{tops_are}
use Rattle.bw_explain.proofs.element.broken_element.Goals as goal

pub solve-requires-clause-deep : goal.solve-requires-clause-deep
solve-requires-clause-deep c = λ o. absurd (false≢true o)

pub solve-requires-clause-plain : goal.solve-requires-clause-plain
solve-requires-clause-plain c = λ o. c.requires.plain

pub solve-requires-clause-fair : goal.solve-requires-clause-fair
solve-requires-clause-fair c = record {
  cost = record { low = λ b j q f h. absurd (false≢true h); high = λ l. absurd (omega (arith, l)) };
  made = tt;
}

pub element_with-whole-requires-clause-tables : goal.element_with-whole-requires-clause-tables
element_with-whole-requires-clause-tables c =
    let g = c.goals.ensures.is in
    let t = c.in_ok-tables.ensures in
    tops_are c.args.ground.now.page.now c.args.breach.now.rule.now c.args.breach.now.atom.now c.in_ok-tables.tables t.stay (λ h. t.first (subst (λ v. 1 ≤ v)
    (sym g) h))
    (λ h. t.second (subst (λ v. 2 ≤ v) (sym g) h)) (λ h. t.whole (subst (λ v. 2 ≤ v) (sym g) h))
