use Rattle.std.proofs.Common.{◌∙◌, codes}
use Rattle.clap.specs.Words.{found_of, rows_of}
use Rattle.clap.proofs.WalkLemmas.{first_value-rows}
use Rattle.bw_command.proofs.CommandLine.{same_line}
use Rattle.bw_command.proofs.words.line_of.Goals as goal

pub returns : goal.returns
returns c =
    let f = found_of c.args.matches.now in
    same_line _ (rows_of f) (c.get_str.ensures ∙ first_value-rows f (codes "command")) (c.get_str-2.ensures ∙ first_value-rows f (codes "first"))
    (c.get_str-3.ensures ∙ first_value-rows f (codes "second")) (c.get_str-4.ensures ∙ first_value-rows f (codes "schema"))
    (c.get_str-5.ensures ∙ first_value-rows f (codes "workers")) (c.get_str-6.ensures ∙ first_value-rows f (codes "limit"))
    (c.get_str-7.ensures ∙ first_value-rows f (codes "port")) (c.get_str-8.ensures ∙ first_value-rows f (codes "formats"))
    (c.get_str-9.ensures ∙ first_value-rows f (codes "journal")) (c.get_str-10.ensures ∙ first_value-rows f (codes "load"))
    (c.get_str-11.ensures ∙ first_value-rows f (codes "rotate")) (c.get_str-12.ensures ∙ first_value-rows f (codes "show-source"))
    (c.get_str-13.ensures ∙ first_value-rows f (codes "explain"))
