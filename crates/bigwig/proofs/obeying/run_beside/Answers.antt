use Rattle.std.proofs.Common.{◌≡◌, refl}
use Rattle.bigwig.specs.Finding.{IsTask}
use Rattle.bigwig.specs.Lent.{seen_of}
use Rattle.bigwig.specs.declared.keeping.Task.TheVariants.{Links}
use Rattle.bw_questions.specs.Asked.Task.{to_save, to_serve}
use Rattle.bigwig.proofs.Preserved.{to_be_saved}
use Rattle.bigwig.proofs.Running.{same_command, task_runs}
use Rattle.bigwig.proofs.obeying.run_beside.Goals as goal

pub returns-in-Resume-clause-comes : goal.returns-in-Resume-clause-comes
returns-in-Resume-clause-comes g c = same_command _ _ _ _ _ _ _ _ _ c.in-Resume.is c.resume_service.ensures.comes

pub returns-in-Keep-clause-comes : goal.returns-in-Keep-clause-comes
returns-in-Keep-clause-comes g c =
    let before = seen_of g.F.Files g.J.Journals g.D.Door g.K.Keys g.W.Channel c.args.lent.now in
    let after = seen_of g.F.Files g.J.Journals g.D.Door g.K.Keys g.W.Channel c.keep_service.new.lent in
    same_command _ _ _ _ _ _ before after _ c.in-Keep.is
    (task_runs _ _ _ _ _ c.in-Keep.journal (to_serve c.in-Keep.port c.in-Keep.most c.in-Keep.rotate)
    (IsTask g.F.File.Channel.left (Links (record { port = c.in-Keep.port; most = c.in-Keep.most; rotate = c.in-Keep.rotate }))) before after _
    c.as_str.ensures.text refl c.keep_service.ensures.keeps)

pub returns-in-Preserve-clause-comes : goal.returns-in-Preserve-clause-comes
returns-in-Preserve-clause-comes g c =
    let before = seen_of g.F.Files g.J.Journals g.D.Door g.K.Keys g.W.Channel c.args.lent.now in
    let after = seen_of g.F.Files g.J.Journals g.D.Door g.K.Keys g.W.Channel c.preserve_service.new.lent in
    same_command _ _ _ _ _ _ before after _ c.in-Preserve.is
    (task_runs _ _ _ _ _ c.in-Preserve.journal to_save (λ x. x ≡ to_save) before after _ c.as_str-in-Preserve.ensures.text refl
    (to_be_saved _ _ _ _ _ before after _ c.preserve_service.ensures.keeps))
