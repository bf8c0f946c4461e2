use Rattle.std.proofs.Common.{[], ◌++◌, sym, ap, ◌∙◌}
use Rattle.std.proofs.lemmas.List.{append-nil}
use Rattle.bw_questions.specs.Behind.{shown_of}
use Rattle.bw_questions.specs.Explaining.{explanation_text, is_of_element}
use Rattle.bw_questions.proofs.Explanations.{element_number, faults_said, first_explained, found_listed, none_explained}
use Rattle.bw_questions.proofs.explaining.explained_text.Goals as goal

pub explain_fault-requires-clause-fault : goal.explain_fault-requires-clause-fault
explain_fault-requires-clause-fault c =
    c.requires.found.faults_are.sound c.in-Some.fault.now (found_listed is_of_element c.args.found.now.faults c.in-Some.fault.now (sym c.in-Some.ensures)).1

pub explain_fault-requires-clause-element : goal.explain_fault-requires-clause-element
explain_fault-requires-clause-element c =
    element_number c.in-Some.fault.now (found_listed is_of_element c.args.found.now.faults c.in-Some.fault.now (sym c.in-Some.ensures)).0

pub returns-in-Some : goal.returns-in-Some
returns-in-Some c =
    let tree = c.args.typed.now.service in
    let faults = c.args.found.now.faults in
    let e = c.in_ok-explained-in-Some.explained in
    faults_said (shown_of c.args.how) tree c.args.schema.now c.args.found.now c.in_ok-sight.sight c.as_slice.result.now (explanation_text e) _
    c.requires.found c.requires.some (c.as_slice.ensures ∙ c.in_ok-names.ensures) c.in_ok-sight.ensures.marked
    (first_explained tree c.args.schema.now faults c.in-Some.fault.now e c.in-Some.ensures c.in_ok-explained-in-Some.ensures)
    (c.in_ok-push_explained-in-Some.ensures ∙ ap (λ t. t ++ explanation_text e) c.in_ok-text.ensures)

pub returns : goal.returns
returns c =
    let tree = c.args.typed.now.service in
    let faults = c.args.found.now.faults in
    faults_said (shown_of c.args.how) tree c.args.schema.now c.args.found.now c.in_ok-sight.sight c.as_slice.result.now [] _
    c.requires.found c.requires.some (c.as_slice.ensures ∙ c.in_ok-names.ensures) c.in_ok-sight.ensures.marked
    (none_explained tree c.args.schema.now faults c.in-None.ensures) (c.in_ok-text.ensures ∙ sym (append-nil _))
