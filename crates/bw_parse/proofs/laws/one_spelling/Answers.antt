use Rattle.std.proofs.Common.{◌∙◌, sym, ap}
use Rattle.bw_parse.specs.Steps.Services.{parse_service}
use Rattle.bw_parse.proofs.Drafts.{service_gives}
use Rattle.bw_lang.proofs.Options.{some_is}
use Rattle.bw_parse.proofs.laws.one_spelling.Goals as goal

pub returns : goal.returns
returns c name other ds es n m v w e =
    let same = some_is (name, ds) (other, es) (sym (service_gives name ds n v) ∙ ap parse_service e ∙ service_gives other es m w) in
    (ap (λ x. x.0) same, ap (λ x. x.1) same)
