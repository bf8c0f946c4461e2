use Rattle.std.proofs.Common.{ap, sym, ◌∙◌}
use Rattle.std.proofs.lemmas.Option.{none-some}
use Rattle.bw_schema.specs.Rules.{rule_of}
use Rattle.bw_explain.proofs.places.rule_at.Goals as goal

pub returns : goal.returns
returns c = ap (rule_of c.args.rules.now) (sym c.as_str.ensures.text) ∙ c.in-Some.ensures

pub unreachable-requires : goal.unreachable-requires
unreachable-requires c =
    none-some c.requires.0 (sym c.in_default.ensures ∙ ap (rule_of c.args.rules.now) c.as_str.ensures.text ∙ c.requires.1)
