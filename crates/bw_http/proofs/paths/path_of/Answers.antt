use Rattle.std.proofs.Common.{ℕ, List, subst, sym, ap, ◌∙◌}
use Rattle.std.specs.Prelude.{IsUtf8}
use Rattle.bw_http.specs.Paths.{after_authority, path_part}
use Rattle.bw_http.proofs.SpeltAscii.{no_text}
use Rattle.bw_http.proofs.paths.path_of.Goals as goal

pub returns-in-Err : goal.returns-in-Err
returns-in-Err c =
    let part = c.after_authority.ensures ∙ ap after_authority c.before_query.ensures in
    no_text (path_part c.args.target.now) (λ text. c.in-Err.ensures.cases.0 (subst (λ (t : List ℕ). IsUtf8 t) (sym part) text))
