use Rattle.std.proofs.Common.{◌≡◌, ◌++◌, ◌∷◌, [], List, map, sym, ap, ◌∙◌}
use Rattle.std.proofs.lemmas.List.{map-append}
use Rattle.bw_doc.specs.Made.{Made}
use Rattle.bw_save.specs.declared.filled.Task.{Task}
use Rattle.bw_save.proofs.Filling.{goes_on, ends, falls, and_true}
use Rattle.bw_save.specs.Filled.{is_filled}
use Rattle.bw_save.proofs.filled.is_filled.Goals as goal

-- the documents of tasks
docs : List Task → List Made
docs ts = map (λ (t : Task). t.doc.now) ts

taken : (old mid : List Task) (t : Task) → old ≡ mid ++ t ∷ [] → docs old ≡ docs mid ++ t.doc.now ∷ []
unfolding docs
taken old mid t e = ap (map (λ (t : Task). t.doc.now)) e ∙ map-append (λ (t : Task). t.doc.now) mid (t ∷ [])

pub returns-then-not-fills : goal.returns-then-not-fills
unfolding docs
returns-then-not-fills c =
    sym (ends c.args.typed.now.service (docs c.loop-task.tasks.items) (docs c.pop.new.self.items) c.in-Some.task.doc.now
    (taken c.loop-task.tasks.items c.pop.new.self.items c.in-Some.task c.in-Some.ensures.items) (sym c.fills.ensures ∙ c.if-not-fills.true))
    ∙ c.loop-task.invariant

pub loop-task-init : goal.loop-task-init
loop-task-init c = rw (c.in_ok-push.ensures.items, c.new-tasks.ensures.items) (and_true (is_filled c.args.typed.now.service c.args.doc.now))

pub loop-task-preserved : goal.loop-task-preserved
unfolding docs
loop-task-preserved c =
    goes_on c.args.typed.now.service (docs c.loop-task.tasks.items) (docs c.pop.new.self.items) (docs c.put_parts.new.tasks.items) c.in-Some.task.doc.now
    (taken c.loop-task.tasks.items c.pop.new.self.items c.in-Some.task c.in-Some.ensures.items) c.in_ok-put_parts.ensures
    (sym c.fills.ensures ∙ c.if-not-fills.false) ∙ c.loop-task.invariant

pub loop-task-smaller : goal.loop-task-smaller
unfolding docs
loop-task-smaller c =
    falls (docs c.loop-task.tasks.items) (docs c.pop.new.self.items) (docs c.put_parts.new.tasks.items) c.in-Some.task.doc.now
    (taken c.loop-task.tasks.items c.pop.new.self.items c.in-Some.task c.in-Some.ensures.items) c.in_ok-put_parts.ensures
