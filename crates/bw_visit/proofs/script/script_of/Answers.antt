use Rattle.std.proofs.lemmas.Bool.{false≢true}
use Rattle.bw_visit.proofs.Scripts.{no_name, no_lines}
use Rattle.bw_visit.proofs.script.script_of.Goals as goal
use Rattle.bw_visit.proofs.script.script_of.Goals.{else-is_name-via-then-is_name+else-are_lines, else-is_name-via-else-is_name}

pub returns-else-is_name : goal.returns-else-is_name
returns-else-is_name c = elim c.else-is_name.branch [
  | else-is_name-via-then-is_name+else-are_lines w ↦
      no_lines c.args.text.now c.in_ok-name.name.now c.in_ok-name.lines.now c.in_ok-name.ensures (λ l. false≢true (w.if-are_lines.ensures.none l))
  | else-is_name-via-else-is_name w ↦
      no_name c.args.text.now c.in_ok-name.name.now c.in_ok-name.lines.now c.in_ok-name.ensures (λ f. false≢true (w.if-is_name.ensures.none f))
]
