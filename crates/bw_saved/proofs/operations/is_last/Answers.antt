use Rattle.std.proofs.Common.{◌≡◌, ◌∙◌, true, false}
use Rattle.bw_saved.proofs.LeftLaws.{plug_left, text_left, plug_splits, text_splits}
use Rattle.bw_saved.proofs.operations.is_last.Goals as goal

pub returns-in_ok-push-in-Plug-3 : goal.returns-in_ok-push-in-Plug-3
returns-in_ok-push-in-Plug-3 c =
    let p = plug_left c.args.tasks.now.items c.push.new.self.items c.push-in-Plug.new.self.items c.push-in-Plug-2.new.self.items
    (record { doc = c.args.task.doc; entered = true }) (record { doc = c.in-Plug.base; entered = false }) (record { doc = c.in-Plug.arg; entered = false })
    c.in_ok-push-in-Plug.ensures.items c.in_ok-push-in-Plug-2.ensures.items c.in_ok-push-in-Plug-3.ensures.items in
    plug_splits c.args.tasks.now.items c.push-in-Plug-2.new.self.items c.args.task.doc.now c.in-Plug.base.now c.in-Plug.arg.now c.in-Plug.gap
    c.args.task.entered
    c.in-Plug.ensures c.if-task.false p.0 p.1

pub returns-in_ok-push-in-PlugText-2 : goal.returns-in_ok-push-in-PlugText-2
returns-in_ok-push-in-PlugText-2 c =
    let p = text_left c.args.tasks.now.items c.push-in-PlugText.new.self.items c.push-in-PlugText-2.new.self.items
    (record { doc = c.args.task.doc; entered = true }) (record { doc = c.in-PlugText.base; entered = false })
    c.in_ok-push-in-PlugText.ensures.items c.in_ok-push-in-PlugText-2.ensures.items in
    text_splits c.args.tasks.now.items c.push-in-PlugText-2.new.self.items c.args.task.doc.now c.in-PlugText.base.now c.in-PlugText.gap c.in-PlugText.text.now
    c.args.task.entered c.in-PlugText.ensures c.if-task.false p.0 p.1
