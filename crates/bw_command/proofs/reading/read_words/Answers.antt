use Rattle.std.proofs.Common.{◌≡◌, ap, ◌∙◌, map, subst}
use Rattle.std.proofs.lemmas.Result.{IfOk-weaker}
use Rattle.bw_command.specs.Commands.{command_of, command_by}
use Rattle.bw_command.specs.Words.{IsTaken, line_of, written_by}
use Rattle.bw_command.proofs.CommandLine.{command_taken, command_refused, any_value}
use Rattle.bw_command.proofs.reading.read_words.Goals as goal

pub returns-in-Ok-read_line-clause-ok : goal.returns-in-Ok-read_line-clause-ok
returns-in-Ok-read_line-clause-ok c =
    let read = c.in-Ok-read_line.ensures in
    let same : map (λ s. s.now) c.deref.result.now ≡ c.args.words.now = ap (map (λ s. s.now)) c.deref.ensures.value ∙ c.in-Ok.ensures in
    let given : command_of c.args.words.now ≡ command_by (line_of c.in-Ok-read_line.line) =
    command_taken c.args.words.now c.in-Ok-read_line.line (subst IsTaken same read.ok.0) (read.ok.1 ∙ ap written_by same) in
    IfOk-weaker c.command_by.result _ _ (λ x h. (given ∙ h.0, h.1)) c.command_by.ensures.ok

pub returns-in-Ok-read_line-clause-refused : goal.returns-in-Ok-read_line-clause-refused
returns-in-Ok-read_line-clause-refused c =
    let read = c.in-Ok-read_line.ensures in
    let same : map (λ s. s.now) c.deref.result.now ≡ c.args.words.now = ap (map (λ s. s.now)) c.deref.ensures.value ∙ c.in-Ok.ensures in
    let given : command_of c.args.words.now ≡ command_by (line_of c.in-Ok-read_line.line) =
    command_taken c.args.words.now c.in-Ok-read_line.line (subst IsTaken same read.ok.0) (read.ok.1 ∙ ap written_by same) in
    λ r. given ∙ c.command_by.ensures.refused r

pub returns-in-Ok-clause-refused : goal.returns-in-Ok-clause-refused
returns-in-Ok-clause-refused c =
    let same : map (λ s. s.now) c.deref.result.now ≡ c.args.words.now = ap (map (λ s. s.now)) c.deref.ensures.value ∙ c.in-Ok.ensures in
    λ r. command_refused c.args.words.now (subst (λ w. IsTaken w → ⊥) same (c.in-Err-read_line.ensures.refused (any_value _ _ r)))
