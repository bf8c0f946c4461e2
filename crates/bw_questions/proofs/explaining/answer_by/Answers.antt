use Rattle.std.proofs.Common.{refl, ap, ◌∙◌, length, arith}
use Rattle.bw_check.proofs.Accepting.{accepted_by}
use Rattle.bw_questions.specs.Asked.{examined}
use Rattle.bw_questions.specs.Behind.{shown_of}
use Rattle.bw_command.specs.declared.status.Refusal.TheVariants as refusals
use Rattle.bw_questions.proofs.Loads.{said_stops}
use Rattle.bw_questions.proofs.explaining.answer_by.Goals as goal

pub returns-then-len-eq0-clause-answers : goal.returns-then-len-eq0-clause-answers
returns-then-len-eq0-clause-answers c =
    let found = c.args.found.now in
    let a = c.requires.found in (
      (
        found.facts,
        accepted_by c.args.typed.now.service c.args.schema.now found.facts found.faults c.len.result a.limits a.facts_are a.faults_are
            c.len.ensures (omega (arith, c.if-len-eq0.true)),
      ),
      refl,
    )

pub explained_text-text-requires-clause-some : goal.explained_text-text-requires-clause-some
explained_text-text-requires-clause-some c = λ e. c.if-len-eq0.false (c.len.ensures ∙ ap length e)

pub returns-clause-answers : goal.returns-clause-answers
returns-clause-answers c =
    said_stops (examined (shown_of c.args.how) c.args.typed.now.service c.args.schema.now) refusals.Service c.explained_text-text.result
    c.refused_text.result c.refused_text.ensures.text c.refused_text.ensures.memory c.explained_text-text.ensures
