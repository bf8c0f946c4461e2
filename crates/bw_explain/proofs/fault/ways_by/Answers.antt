use Rattle.std.proofs.Common.{ℕ, List, get_or, length, ap, sym, ◌∙◌, subst, arith}
use Rattle.std.proofs.lemmas.Result.{IfOk-weaker}
use Rattle.bw_shape.proofs.Nodes.Wrapped.{rows_are}
use Rattle.bw_strings.specs.Asking.{AreLiterals}
use Rattle.bw_explain.proofs.fault.ways_by.Goals as goal

pub nodes_of-requires-clause-edges : goal.nodes_of-requires-clause-edges
nodes_of-requires-clause-edges c = λ i d l. let b = (c.requires.edges i d l).0 in let e = c.len.ensures ∙ ap length c.args.basis.now.templates_are
    ∙ rows_are c.args.basis.now.typed.now.service in omega (arith, b, e)

pub nodes_of-requires-clause-tracks : goal.nodes_of-requires-clause-tracks
nodes_of-requires-clause-tracks c = λ i d l. let b = c.requires.tracks i d l in let e = c.len.ensures ∙ ap length c.args.basis.now.templates_are
    ∙ rows_are c.args.basis.now.typed.now.service in omega (arith, b, e)

pub nodes_of-requires-clause-labels : goal.nodes_of-requires-clause-labels
nodes_of-requires-clause-labels c = λ i d l. let b = (c.requires.texts i d l).0 in let e = c.len.ensures ∙ ap length c.args.basis.now.templates_are
    ∙ rows_are c.args.basis.now.typed.now.service in omega (arith, b, e)

pub nodes_of-requires-clause-literals : goal.nodes_of-requires-clause-literals
nodes_of-requires-clause-literals c = λ i d l. subst (λ (ls : List (List ℕ)). AreLiterals ls (get_or c.args.page.now.texts i d).1)
    (sym c.args.basis.now.literals_are)
    (c.requires.texts i d l).1

pub ways_of-ways-requires-clause-tracks : goal.ways_of-ways-requires-clause-tracks
ways_of-ways-requires-clause-tracks c = λ i d l. let b = c.requires.tracks i d l in let e = c.in_ok-graphed.ensures.nodes ∙ c.len.ensures
    ∙ ap length c.args.basis.now.templates_are ∙ rows_are c.args.basis.now.typed.now.service in omega (arith, b, e)

pub ways_of-ways-requires-clause-edges : goal.ways_of-ways-requires-clause-edges
ways_of-ways-requires-clause-edges c = λ i d l. let b = (c.requires.edges i d l).0 in let e = c.in_ok-graphed.ensures.nodes ∙ c.len.ensures
    ∙ ap length c.args.basis.now.templates_are ∙ rows_are c.args.basis.now.typed.now.service in omega (arith, b, e)

pub ways_of-ways-requires-clause-labels : goal.ways_of-ways-requires-clause-labels
ways_of-ways-requires-clause-labels c = λ i d l. let b = (c.requires.texts i d l).0 in let e = c.in_ok-graphed.ensures.nodes ∙ c.len.ensures
    ∙ ap length c.args.basis.now.templates_are ∙ rows_are c.args.basis.now.typed.now.service in omega (arith, b, e)

pub returns-clause-len : goal.returns-clause-len
returns-clause-len c = IfOk-weaker c.ways_of-ways.result _ _ (λ v h. h ∙ c.in_ok-graphed.ensures.nodes ∙ c.len.ensures) c.ways_of-ways.ensures.len
