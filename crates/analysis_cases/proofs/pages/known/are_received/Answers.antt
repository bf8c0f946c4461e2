use Rattle.std.proofs.Common.{rules}
use Rattle.std.specs.Bool.{⊤}
use Rattle.std.proofs.lemmas.Bool.{MatchBool-at_true}
use Rattle.std.proofs.lemmas.Iterator.{cases_from_all, YieldsList-from_slice}
use Rattle.std.proofs.lemmas.List.Elements.{All-from_all_within}
use Rattle.bw_fields.specs.Received.{IsReceived}
use Rattle.analysis_cases.proofs.pages.known.are_received.Goals as goal

pub returns : goal.returns
returns c is =
    let IsMet = IsReceived c.args.typed.now.service in
    let each = YieldsList-from_slice c.args.receiveds.now cc in
    let cases = cases_from_all _ _ _ IsMet (λ _. ⊤) c.all.ensures.ran each (λ x q k. search rules) (λ x q k. tt) in
    All-from_all_within IsMet c.args.receiveds.now (MatchBool-at_true _ _ is cases)
