use Rattle.std.proofs.Common.{◌≡◌, ◌∙◌, ◌++◌, OnOk, ap, subst, append_assoc, codes}
use Rattle.bw_hints.proofs.hints.push_meant_words.Goals as goal

pub returns : goal.returns
returns c =
    let name = c.args.name.now in
    subst (λ o. OnOk c.push_words-2.result (c.push_words-2.new.out.items ≡ o))
    (ap (λ l. l ++ name) c.in_ok-push_words.ensures ∙ append_assoc c.args.out.now.items (codes "perhaps you mean ") name) c.push_words-2.ensures
