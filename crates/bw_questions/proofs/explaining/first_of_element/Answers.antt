use Rattle.std.proofs.Common.{ap, ◌∙◌, rules, tests}
use Rattle.std.specs.Prelude.{find}
use Rattle.std.proofs.lemmas.Iterator.{YieldsList-from_slice}
use Rattle.std.proofs.lemmas.Iterator.Search.{find_from_yields_List}
use Rattle.bw_questions.specs.Explaining.{is_of_element}
use Rattle.bw_questions.proofs.explaining.first_of_element.Goals as goal

pub returns : goal.returns
returns c =
    let xs = c.as_slice.result.now in
    find_from_yields_List is_of_element _ _ c.find.result c.find.ensures.ran (YieldsList-from_slice xs cc) (λ x b q k. search (rules, tests))
    ∙ ap (find is_of_element) c.as_slice.ensures.value
