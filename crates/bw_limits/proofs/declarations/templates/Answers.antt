use Rattle.std.proofs.Common.{rules, ◌≡◌, ◌∙◌, count_by}
use Rattle.std.specs.Option.{is_some}
use Rattle.bw_lang.specs.Service.Sorted.{as_template}
use Rattle.bw_limits.proofs.Sorts.{sort_counted}
use Rattle.bw_limits.proofs.declarations.templates.Goals as goal

pub returns : goal.returns
returns c =
    let counted : c.count.result ≡ count_by (λ d. is_some (as_template d)) c.args.declarations.now = search rules in
    counted ∙ sort_counted as_template c.args.declarations.now
